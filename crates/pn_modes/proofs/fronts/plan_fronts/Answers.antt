use Rattle.std.proofs.Common.{subst, sym, ◌∙◌}
use Rattle.std.specs.List.{AllZip}
use Rattle.pn_marking.proofs.KnownLemmas.{arcs_known}
use Rattle.pn_marking.proofs.OnceLemmas.{variables_once}
use Rattle.pn_marking.specs.Known.{AreKnown}
use Rattle.pn_sorts.specs.Lookups.{IsVariableSort}
use Rattle.pn_modes.proofs.fronts.plan_fronts.Goals as goal

pub arc_parts-requires-clause-known : goal.arc_parts-requires-clause-known
arc_parts-requires-clause-known c =
    subst (AreKnown c.args.net.now c.variables-variables.result.now) (sym c.arcs_of.ensures) (arcs_known c.args.net.now c.args.transition c.variables-variables.result.now c.variables-variables.ensures)

pub returns-clause-plan : goal.returns-clause-plan
returns-clause-plan c =
    let f = c.args.net.now in
    let have = c.requires.sorts.1 in
    record {
      within = c.requires.within;
      have = record {
        variables = c.variables-variables.ensures;
        are_sorts = subst (λ vs. AllZip (IsVariableSort f.declarations) vs c.args.sorts) (variables_once f c.args.transition c.requires.sorts.0 c.variables-variables.result.now have.variables c.variables-variables.ensures) have.are_sorts;
      };
      are_parts = c.in_ok-parts.ensures;
      numbers = c.in_ok-arcs.ensures.numbers ∙ c.arcs_of.ensures;
      are_arcs = c.in_ok-arcs.ensures.known;
    }
