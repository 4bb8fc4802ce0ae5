use Rattle.pn_marking.proofs.ModeLemmas.{assigned_here, mode_has_totals}
use Rattle.pn_marking.proofs.modes.tokens_moved.Goals as goal

pub moved-requires-clause-assignment : goal.moved-requires-clause-assignment
moved-requires-clause-assignment c =
    assigned_here c.args.net.now c.args.mode.now c.variables-vars.result.now c.variables-vars.ensures c.as_slice.result.now c.as_slice.ensures (c.requires.0, c.requires.1.assigned)

pub unreachable-requires : goal.unreachable-requires
unreachable-requires c =
    c.in_ok-marking.ensures.none c.in-None.is
    (mode_has_totals c.args.net.now c.args.mode.now c.variables-vars.result.now c.variables-vars.ensures c.as_slice.result.now c.as_slice.ensures c.args.into c.requires)
