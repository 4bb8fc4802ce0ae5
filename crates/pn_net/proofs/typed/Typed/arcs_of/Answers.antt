use Rattle.std.proofs.Common.{◌≡◌, ◌<◌, length, sym, subst}
use Rattle.pn_net.proofs.TableLemmas.{arcs_are, row_there}
use Rattle.pn_net.specs.Typed.{arc_numbers_at}
use Rattle.pn_net.proofs.typed.Typed.arcs_of.Goals as goal

pub arcs_in-requires : goal.arcs_in-requires
arcs_in-requires c = row_there c.self.inside.flat _ _ _ c.self.invariant.tables c.args.transition (subst (λ f. c.args.transition < length f.transitions) (sym c.self.view_is) c.requires)

pub returns : goal.returns
returns c = subst (λ f. c.arcs_in.result.now ≡ arc_numbers_at f c.args.transition) c.self.view_is
    (arcs_are c.self.inside.flat _ _ _ c.self.invariant.tables c.args.transition c.arcs_in.result.now (subst (λ f. c.args.transition < length f.transitions) (sym c.self.view_is) c.requires) c.arcs_in.ensures)
