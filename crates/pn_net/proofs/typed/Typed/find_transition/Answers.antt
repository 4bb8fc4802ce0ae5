use Rattle.std.proofs.Common.{◌<◌, length, IfSome, sym, subst, ◌∙◌}
use Rattle.pn_net.proofs.TableLemmas.{found_within}
use Rattle.pn_net.proofs.typed.Typed.find_transition.Goals as goal

pub returns-clause-within : goal.returns-clause-within
returns-clause-within c = subst (λ f. IfSome c.find.result (λ t. t < length f.transitions)) c.self.view_is
    (subst (λ o. IfSome o (λ t. t < length c.self.inside.flat.transitions)) (sym (c.find.ensures ∙ c.self.invariant.tables.names c.args.id.now)) (found_within c.self.inside.flat c.args.id.now))
