use Rattle.std.proofs.Common.{◌≡◌, None, sym, ap, ◌∙◌, length, subst}
use Rattle.pn_names.specs.Names.{widths_of}
use Rattle.pn_modes.specs.Causes.{first_with}
use Rattle.pn_modes.specs.Sizes.{is_large}
use Rattle.pn_modes.proofs.CauseLemmas.{as_many_sorts, searchable}
use Rattle.pn_modes.proofs.causes.searched_sorts.Goals as goal

pub few_values-requires : goal.few_values-requires
few_values-requires c =
    as_many_sorts c.args.net.now c.args.transition c.variables.result.now c.in-Ok.sorts (c.in-Ok.ensures c.variables.result.now c.variables.ensures) ∙ ap length (sym c.as_slice.ensures)

pub returns-in_ok-few_values-in-Ok-clause-searchable : goal.returns-in_ok-few_values-in-Ok-clause-searchable
returns-in_ok-few_values-in-Ok-clause-searchable c =
    searchable c.args.net.now c.args.transition c.variables.result.now c.in-Ok.sorts (c.in-Ok.ensures c.variables.result.now c.variables.ensures)
    (subst (λ items. first_with (is_large (widths_of items)) c.variables.result.now c.in-Ok.sorts ≡ None) c.decls.ensures.declared
    (ap (first_with (is_large (widths_of c.decls.result.now)) c.variables.result.now) (sym c.as_slice.ensures) ∙ c.in_ok-few_values-in-Ok.ensures.small))
