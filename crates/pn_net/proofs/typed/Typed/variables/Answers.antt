use Rattle.std.proofs.Common.{◌<◌, length, sym, subst}
use Rattle.pn_net.proofs.TableLemmas.{row_there, variables_are}
use Rattle.pn_net.specs.Typed.{AreVariablesAt}
use Rattle.pn_net.proofs.typed.Typed.variables.Goals as goal

pub variables_in-requires : goal.variables_in-requires
variables_in-requires c = row_there c.self.inside.flat _ _ _ c.self.invariant.tables c.args.transition (subst (λ f. c.args.transition < length f.transitions) (sym c.self.view_is) c.requires)

pub returns : goal.returns
returns c = subst (λ f. AreVariablesAt f c.args.transition c.variables_in.result.now) c.self.view_is
    (variables_are c.self.inside.flat _ _ _ c.self.invariant.tables c.args.transition c.variables_in.result.now (subst (λ f. c.args.transition < length f.transitions) (sym c.self.view_is) c.requires) c.variables_in.ensures)
