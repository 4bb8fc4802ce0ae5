use Rattle.std.proofs.lemmas.Option.{slice_get-get_or}
use Rattle.pn_tree.specs.Views.{element_of}
use Rattle.pn_shape.specs.Attributes.{lack_fault}
use Rattle.pn_shape.specs.Faults.{told, lacks_faults}
use Rattle.pn_shape.specs.Rules.{said_by, attr_name}
use Rattle.pn_shape_faults.proofs.KeepLemmas.{flat_next, keeps_told}
use Rattle.pn_shape_faults.proofs.attrs.ask_lacks.Goals as goal

pub loop-attr-preserved : goal.loop-attr-preserved
loop-attr-preserved c =
    let e = element_of c.args.view in
    let says = said_by c.args.rule in
    flat_next (λ r. told e.at (attr_name r.name) (lack_fault e.attrs r)) says.attrs c.loop-attr.attr-index _ c.args.least.now c.loop-attr.least c.keep.new.least (lacks_faults says e)
    (slice_get-get_or says.attrs c.loop-attr.attr-index _ c.loop-attr-test.true) c.loop-attr.invariant
    (keeps_told c.loop-attr.least c.keep.new.least _ e.at _ _ _ _ c.at.ensures c.attr_word.ensures c.lack_fault-reason.ensures c.in_ok-keep.ensures)
