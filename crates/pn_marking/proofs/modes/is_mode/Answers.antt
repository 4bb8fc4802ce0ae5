use Rattle.std.proofs.Common.{◌≡◌, true, false, rules}
use Rattle.pn_facts.proofs.Results.{if_ok}
use Rattle.pn_marking.proofs.KnownLemmas.{condition_covered}
use Rattle.pn_marking.proofs.ModeLemmas.{assigned_here, mode_told, no_condition}
use Rattle.pn_marking.proofs.modes.is_mode.Goals as goal

pub condition_holds-requires-clause-assignment : goal.condition_holds-requires-clause-assignment
condition_holds-requires-clause-assignment c =
    assigned_here c.args.net.now c.args.mode.now c.variables-vars.result.now c.variables-vars.ensures c.as_slice-values.result.now c.as_slice-values.ensures c.requires

pub condition_holds-requires-clause-covers : goal.condition_holds-requires-clause-covers
condition_holds-requires-clause-covers c = condition_covered c.args.net.now c.args.mode.now.transition c.variables-vars.result.now c.variables-vars.ensures

pub returns-then-not-branch : goal.returns-then-not-branch
returns-then-not-branch c =
    let fails : c.in_ok-condition_holds.field-0 ≡ false = search rules in
    no_condition c.args.net.now c.args.mode.now c.variables-vars.result.now c.variables-vars.ensures c.as_slice-values.result.now c.as_slice-values.ensures c.in_ok-condition_holds.field-0 fails c.in_ok-condition_holds.ensures

pub returns : goal.returns
returns c =
    let holds : c.in_ok-condition_holds.field-0 ≡ true = search rules in
    let takes : c.in_ok-has_totals.field-0 ≡ true = search rules in
    if_ok _ _ c.has_totals-2.result
    (λ r puts. mode_told c.args.net.now c.args.mode.now c.variables-vars.result.now c.variables-vars.ensures c.as_slice-values.result.now c.as_slice-values.ensures c.requires.0 c.requires.1 c.in_ok-condition_holds.field-0
    c.in_ok-has_totals.field-0 r holds c.in_ok-condition_holds.ensures takes (c.in_ok-has_totals.ensures c.requires.0 c.requires.1) puts)
    (c.has_totals-2.ensures c.requires.0 c.requires.1)
