use Rattle.std.proofs.Common.{◌≡◌, ◌∙◌, Some, refl, sym, subst}
use Rattle.pn_faults.specs.Standing.{IsLeastOf}
use Rattle.pn_faults.specs.declared.fault.Fault.{Fault}
use Rattle.pn_faults.specs.declared.fault.Refusal.TheVariants as Refusal
use Rattle.pn_net.specs.Documents.{HasSoundNetSorts, sorts, told_in}
use Rattle.pn_net.specs.Typing.{StandsInSorts}
use Rattle.pn_spelling.specs.ReadNets.{net_of}
use Rattle.pn_checks.specs.Linked.{IsLeastInTree}
use Rattle.pn_checks.specs.Verdicts.{IsFaultOf, in_tree}
use Rattle.pn_checks.proofs.ToldLemmas.{none_stands, sort_told, typing_stands, typing_told}
use Rattle.pn_checks.proofs.judging.mark.Goals as goal

-- no fault of sorts was found
sound : (c : goal.After-typing) → HasSoundNetSorts c.args.tree.now
sound c = record { linked = c.requires.linked.sound; sorts = subst (IsLeastOf (StandsInSorts (net_of c.args.tree.now))) c.in-Ok-None.field-0-is (c.in-Ok-None.ensures (net_of c.args.tree.now) c.requires.linked.is_flat) }

-- the least was found
least : (c : goal.After-told) → IsLeastOf (StandsInSorts (net_of c.args.tree.now)) (Some c.in-Ok-Some.fault)
least c = subst (IsLeastOf (StandsInSorts (net_of c.args.tree.now))) c.in-Ok-Some.field-0-is (c.in-Ok-Some.ensures (net_of c.args.tree.now) c.requires.linked.is_flat)

told_is : (c : goal.After-told) (f : Fault) → Refusal.Fault c.told.result ≡ Refusal.Fault f → told_in c.args.tree.now c.in-Ok-Some.fault ≡ f
told_is c f is = let same : c.told.result ≡ f = cc in sym c.told.ensures ∙ same

pub typing-requires-clause-sound : goal.typing-requires-clause-sound
typing-requires-clause-sound c n is = subst (IsLeastOf (StandsInSorts n)) c.in-Ok-None.field-0-is (c.in-Ok-None.ensures n is)

pub returns-in-Ok-Some-clause-stands : goal.returns-in-Ok-Some-clause-stands
returns-in-Ok-Some-clause-stands c f is =
    let tree = c.args.tree.now in
    let g = c.in-Ok-Some.fault in
    let same : Refusal.Fault c.told.result ≡ Refusal.Fault f = cc in
    subst (IsFaultOf tree) (told_is c f same) (in_tree (told_in tree g) (sorts (told_in tree g) g c.requires.linked.sound (least c).0 refl))

pub returns-in-Ok-Some-clause-least : goal.returns-in-Ok-Some-clause-least
returns-in-Ok-Some-clause-least c f is rises =
    let same : Refusal.Fault c.told.result ≡ Refusal.Fault f = cc in
    subst (IsLeastInTree c.args.tree.now) (told_is c f same) (sort_told c.args.tree.now c.in-Ok-Some.fault rises c.requires.linked.sound (least c))

pub returns-in-Ok-None-clause-accepted : goal.returns-in-Ok-None-clause-accepted
returns-in-Ok-None-clause-accepted c ok =
    let linked = c.requires.linked in
    none_stands c.args.tree.now (sound c) (c.typing.ensures.clean ok (net_of c.args.tree.now) linked.is_flat linked.sound.links)

pub returns-in-Ok-None-clause-stands : goal.returns-in-Ok-None-clause-stands
returns-in-Ok-None-clause-stands c f is =
    let linked = c.requires.linked in
    typing_stands c.args.tree.now f (sound c) (c.typing.ensures.fault f is (net_of c.args.tree.now) linked.is_flat linked.sound.links).0

pub returns-in-Ok-None-clause-least : goal.returns-in-Ok-None-clause-least
returns-in-Ok-None-clause-least c f is rises =
    let linked = c.requires.linked in
    typing_told c.args.tree.now f (sound c) (c.typing.ensures.fault f is (net_of c.args.tree.now) linked.is_flat linked.sound.links)
