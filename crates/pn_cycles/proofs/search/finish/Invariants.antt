use Rattle.pn_cycles.specs.Searches.{IsFinish}
use Rattle.pn_cycles.proofs.search.finish.Given as goal

abbrev pub invariant-loop-at : goal.invariant-loop-at
invariant-loop-at l = IsFinish l.stack l.group l.at l.initial.marks l.initial.nodes.items l.initial.cyclic l.marks l.nodes.items l.cyclic
