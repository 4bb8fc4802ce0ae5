use Rattle.std.proofs.Common.{sym, ◌∙◌}
use Rattle.pn_tree.specs.Views.{element_of}
use Rattle.pn_tree.proofs.ViewLemmas.{value_at, value_past}
use Rattle.pn_tree.proofs.view.View.find_attr.Goals as goal

pub returns-then-eq : goal.returns-then-eq
returns-then-eq c = sym (value_at c.args.name.now (element_of c.args.self).attrs c.loop-i.i _ c.attr.ensures (sym c.if-eq.ensures)) ∙ c.loop-i.invariant

pub loop-i-preserved : goal.loop-i-preserved
loop-i-preserved c = value_past c.args.name.now (element_of c.args.self).attrs c.loop-i.i _ c.attr.ensures (sym c.if-eq.ensures) ∙ c.loop-i.invariant
