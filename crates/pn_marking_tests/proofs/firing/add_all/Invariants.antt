use Rattle.pn_marking.specs.Steps.{AreModes}
use Rattle.pn_marking_tests.proofs.firing.add_all.Given as goal

abbrev pub invariant-loop-id : goal.invariant-loop-id
invariant-loop-id l = AreModes l.net l.modes
