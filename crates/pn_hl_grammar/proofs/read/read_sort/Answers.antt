use Rattle.std.proofs.Common.{sym, ◌∙◌}
use Rattle.pn_shape.specs.Faults.{fill_faults}
use Rattle.pn_shape.specs.declared.rule.Fill.TheVariants as fill
use Rattle.pn_tree.specs.Views.{element_of}
use Rattle.pn_faults.proofs.LeastLemmas.{least_fault-is_none}
use Rattle.pn_hl_grammar.proofs.read.read_sort.Goals as goal

pub returns-in-Ok-clause-shaped : goal.returns-in-Ok-clause-shaped
returns-in-Ok-clause-shaped c = least_fault-is_none (fill_faults c.args.kind fill.Sort (element_of c.args.element)) (sym c.in-Ok-None.ensures ∙ c.in-Ok-None.field-0-is)
