use Rattle.std.proofs.Common.{◌≤◌, length, drop}
use Rattle.pn_carriers.proofs.NthLemmas.{BehindParts}
use Rattle.pn_carriers.proofs.values.+nth.Given as goal

abbrev pub invariant-nth_choice-loop-left : goal.invariant-nth_choice-loop-left
invariant-nth_choice-loop-left l = record {
  within : l.left ≤ length l.parts;
  behind : BehindParts l.widths (drop l.left l.parts) l.k l.rest l.values.items;
}

abbrev pub decreases-nth_choice-loop-left : goal.decreases-nth_choice-loop-left
decreases-nth_choice-loop-left l = l.left
