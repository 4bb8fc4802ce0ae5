use Rattle.std.proofs.Common.{length, sym, ap, ◌∙◌, subst}
use Rattle.pn_cycles.specs.Rows.{rows_of, AreStarts}
use Rattle.pn_cycles.proofs.Rows.{length-rows_of, starts_with_edge, rows_with_edge}
use Rattle.pn_cycles.proofs.graph.Graph.edge.Goals as goal

pub invariant_of-self-2 : goal.invariant_of-self-2
invariant_of-self-2 c = subst (AreStarts c.self.inside.starts.items) (sym c.in_ok-push.ensures.items) (starts_with_edge _ _ c.args.end c.self.invariant)

pub returns-clause-ok : goal.returns-clause-ok
returns-clause-ok c nodes last is = ap (rows_of c.self.inside.starts.items) c.in_ok-push.ensures.items ∙ rows_with_edge c.self.inside.starts.items c.self.inside.ends.items c.args.end nodes last c.self.invariant (c.self.view_is ∙ is)

pub returns-clause-size : goal.returns-clause-size
returns-clause-size c = length-rows_of c.self.inside.starts.items c.push.new.self.items ∙ sym (length-rows_of c.self.inside.starts.items c.self.inside.ends.items) ∙ ap length c.self.view_is
