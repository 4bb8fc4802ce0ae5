use Rattle.std.proofs.Common.{refl}
use Rattle.pn_facts.proofs.Results.{if_ok}
use Rattle.pn_net.specs.Flattening.{net_of_flat}
use Rattle.pn_pages.specs.Wiring.{AreOfNet}
use Rattle.pn_pages.proofs.JudgingLemmas.{all_are_wired, flattened, has_title}
use Rattle.pn_pages.proofs.WritableLemmas.{flat_is_writable}
use Rattle.pn_pages.proofs.flattening.flatten.Goals as goal

pub flat_of-requires : goal.flat_of-requires
flat_of-requires c =
    let n = c.args.net in
    has_title n n.id n.at c.in-Ok.objects (record { id = refl; at = refl; holds = c.in-Ok.ensures }) c.requires.has_page

pub returns-in-Ok-clause-flat : goal.returns-in-Ok-clause-flat
returns-in-Ok-clause-flat c =
    let n = c.args.net in
    let of : AreOfNet n n.id n.at c.in-Ok.objects = record { id = refl; at = refl; holds = c.in-Ok.ensures } in
    if_ok _ _ c.flat_of.result (λ f is. flattened n c.in-Ok.objects of c.requires.has_page f (is n of)) c.flat_of.ensures.linked

pub returns-in-Ok-clause-wired : goal.returns-in-Ok-clause-wired
returns-in-Ok-clause-wired c =
    let n = c.args.net in
    let of : AreOfNet n n.id n.at c.in-Ok.objects = record { id = refl; at = refl; holds = c.in-Ok.ensures } in
    if_ok _ _ c.flat_of.result (λ f is. all_are_wired n c.in-Ok.objects of c.requires.has_page f (is n of)) c.flat_of.ensures.linked

pub returns-in-Ok-clause-least : goal.returns-in-Ok-clause-least
returns-in-Ok-clause-least c f is apart =
    let n = c.args.net in
    let of : AreOfNet n n.id n.at c.in-Ok.objects = record { id = refl; at = refl; holds = c.in-Ok.ensures } in
    (c.flat_of.ensures.fault f is n of).least apart

pub returns-in-Ok-clause-writable : goal.returns-in-Ok-clause-writable
returns-in-Ok-clause-writable c writable =
    let n = c.args.net in
    let of : AreOfNet n n.id n.at c.in-Ok.objects = record { id = refl; at = refl; holds = c.in-Ok.ensures } in
    if_ok _ _ c.flat_of.result (λ f is. flat_is_writable n (net_of_flat f) (flattened n c.in-Ok.objects of c.requires.has_page f (is n of)) writable) c.flat_of.ensures.linked
