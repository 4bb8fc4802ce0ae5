use Rattle.std.proofs.Common.{◌∙◌, ap, subst, sym}
use Rattle.pn_faults.proofs.LeastLemmas.{least_fault-is_none}
use Rattle.pn_shape.specs.Faults.{shape_faults}
use Rattle.pn_spelling.specs.Writable.{IsWritable}
use Rattle.pn_tree.specs.Views.{element_of}
use Rattle.pn_round_trip.proofs.WritableNets.{writable}
use Rattle.pn_core_grammar.proofs.read.shape.Goals as goal

pub returns-in-Ok-clause-clean : goal.returns-in-Ok-clause-clean
returns-in-Ok-clause-clean c = least_fault-is_none (shape_faults c.args.tree.now) (sym c.in-Ok-None.ensures ∙ c.in-Ok-None.field-0-is)

pub returns-in-Ok-clause-writable : goal.returns-in-Ok-clause-writable
returns-in-Ok-clause-writable c =
    let clean = least_fault-is_none (shape_faults c.args.tree.now) (sym c.in-Ok-None.ensures ∙ c.in-Ok-None.field-0-is) in
    subst IsWritable (sym c.in-Ok.ensures) (writable (element_of c.root.result) c.root.ensures.is_tree (ap shape_faults c.root.ensures.root ∙ clean))
