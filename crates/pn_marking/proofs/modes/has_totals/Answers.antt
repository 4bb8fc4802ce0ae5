use Rattle.pn_marking.proofs.ModeLemmas.{assigned_here, totals_told}
use Rattle.pn_marking.proofs.modes.has_totals.Goals as goal

pub moved-requires-clause-assignment : goal.moved-requires-clause-assignment
moved-requires-clause-assignment c = assigned_here c.args.net.now c.args.mode.now c.variables-vars.result.now c.variables-vars.ensures c.as_slice.result.now c.as_slice.ensures c.requires

pub returns : goal.returns
returns c vars assigned =
    totals_told c.args.net.now c.args.mode.now c.variables-vars.result.now c.variables-vars.ensures c.as_slice.result.now c.as_slice.ensures c.args.into c.is_some.result c.in_ok-marking.marking c.is_some.ensures
    c.in_ok-marking.ensures.some c.in_ok-marking.ensures.none vars assigned
