use Rattle.std.proofs.Common.{map, ap, sym, ◌∙◌}
use Rattle.pn_names.specs.Names.{constants_of}
use Rattle.pn_net.specs.Ids.{constant_holder}
use Rattle.pn_net.proofs.RowLemmas.{on_ok_then}
use Rattle.pn_pages.proofs.NotingLemmas.{adds_alike}
use Rattle.pn_pages.proofs.noting.note_body.Goals as goal

pub returns-in-Finite : goal.returns-in-Finite
returns-in-Finite c = on_ok_then c.note_others.result _ _ (λ adds o.
    adds_alike o (map constant_holder c.as_slice.result.now) (map constant_holder (constants_of c.args.body.now)) (ap (map constant_holder) (c.as_slice.ensures ∙ sym (ap constants_of c.in-Finite.is))) (adds o))
    c.note_others.ensures

pub returns-in-Cyclic : goal.returns-in-Cyclic
returns-in-Cyclic c = on_ok_then c.note_others-in-Cyclic.result _ _ (λ adds o.
    adds_alike o (map constant_holder c.as_slice-in-Cyclic.result.now) (map constant_holder (constants_of c.args.body.now)) (ap (map constant_holder) (c.as_slice-in-Cyclic.ensures ∙ sym (ap constants_of c.in-Cyclic.is))) (adds o))
    c.note_others-in-Cyclic.ensures
