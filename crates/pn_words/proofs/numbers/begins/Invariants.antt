use Rattle.pn_words.proofs.NumberLemmas.{Zeros}
use Rattle.std.proofs.Common.{◌-◌, ◌+◌, ◌<◌, ◌≤◌}
use Rattle.pn_words.proofs.numbers.begins.Given as goal

abbrev pub invariant-loop-least : goal.invariant-loop-least
invariant-loop-least l = Zeros l.low l.number l.least l.above × (0 < l.number) × (l.number ≤ l.least)

abbrev pub decreases-loop-least : goal.decreases-loop-least
decreases-loop-least l = (l.high + 1) - l.least
