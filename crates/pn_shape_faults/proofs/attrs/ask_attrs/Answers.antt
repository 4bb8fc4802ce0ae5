use Rattle.pn_tree.specs.Views.{element_of}
use Rattle.pn_shape.specs.Rules.{said_by}
use Rattle.pn_shape.specs.Attributes.{attr_fault}
use Rattle.pn_shape.specs.Faults.{told, attrs_faults}
use Rattle.pn_shape_faults.proofs.KeepLemmas.{flat_next, keeps_told}
use Rattle.pn_shape_faults.proofs.attrs.ask_attrs.Goals as goal
use Rattle.std.proofs.Common.{refl}

pub loop-i-preserved : goal.loop-i-preserved
loop-i-preserved c =
    let e = element_of c.args.view in
    let says = said_by c.args.rule in
    flat_next (λ a. told e.at a.name (attr_fault says.attrs a)) e.attrs c.loop-i.i _ c.args.least.now c.loop-i.least c.keep.new.least (attrs_faults says e) c.attr.ensures c.loop-i.invariant
    (keeps_told c.loop-i.least c.keep.new.least _ e.at _ _ _ _ c.at.ensures refl c.attr_fault-reason.ensures c.in_ok-keep.ensures)
