use Rattle.std.proofs.Common.{◌≡◌, length, ◌++◌, ◌∷◌, [], sym, ap, ◌∙◌, subst, rules}
use Rattle.pn_cycles.specs.Rows.{rows_of, AreStarts}
use Rattle.pn_cycles.proofs.Rows.{starts_more, rows_more}
use Rattle.pn_cycles.proofs.graph.Graph.node.Goals as goal
use Rattle.pn_cycles.proofs.graph.Graph.node.Goals.{In_ok-push}

pushed : (c : In_ok-push) → c.push.new.self.items ≡ c.self.inside.starts.items ++ length c.self.inside.ends.items ∷ []
pushed c = search rules

pub invariant_of-self-2 : goal.invariant_of-self-2
invariant_of-self-2 c = subst (λ starts. AreStarts starts c.self.inside.ends.items) (sym (pushed c)) (starts_more _ _ c.self.invariant)

pub returns-clause-ok : goal.returns-clause-ok
returns-clause-ok c = ap (λ starts. rows_of starts c.self.inside.ends.items) (pushed c) ∙ rows_more c.self.inside.starts.items c.self.inside.ends.items ∙ ap (λ rows. rows ++ [] ∷ []) c.self.view_is
