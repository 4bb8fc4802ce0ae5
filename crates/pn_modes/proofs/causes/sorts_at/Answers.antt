use Rattle.std.proofs.Common.{subst, sym, length, ◌<◌, ◌≡◌}
use Rattle.std.specs.List.{AllZip}
use Rattle.pn_marking.proofs.OnceLemmas.{variables_once}
use Rattle.pn_facts.proofs.Results.{if_ok}
use Rattle.pn_names.specs.Names.{variables_of}
use Rattle.pn_sorts.specs.Lookups.{IsVariableSort}
use Rattle.pn_net.proofs.DeclaredLemmas.{are_declared}
use Rattle.pn_modes.proofs.causes.sorts_at.Goals as goal

pub sorts_of-requires-clause-declared : goal.sorts_of-requires-clause-declared
sorts_of-requires-clause-declared c v has =
    subst (λ items. v < length (variables_of items)) (sym c.decls.ensures.declared) (are_declared c.args.net.now c.args.transition c.variables.result.now c.variables.ensures v has)

pub returns : goal.returns
returns c =
    let f = c.args.net.now in
    if_ok _ _ c.sorts_of.result (λ sorts all vars are. record {
      variables = are;
      are_sorts = subst (λ items. AllZip (IsVariableSort items) vars sorts) c.decls.ensures.declared
          (subst (λ vs. AllZip (IsVariableSort c.decls.result.now) vs sorts) (variables_once f c.args.transition c.variables.result.now vars c.variables.ensures are) all);
    }) c.sorts_of.ensures
