use Rattle.std.proofs.Common.{◌≡◌, ℕ, ◌-◌, ◌≤◌, List, ◌++◌, length, take, Some}
use Rattle.pn_scan.specs.Reading.{HasRead, fault_of}
use Rattle.pn_scan.specs.declared.scanner.ScanFault.{ScanFault}
use Rattle.pn_scan.proofs.scanner.Scanner.feed.Given as goal

abbrev pub invariant-loop-at : goal.invariant-loop-at
invariant-loop-at l = record {
  within : l.at ≤ length l.piece;
  read : (b : List ℕ) → HasRead l.initial.self b → HasRead l.self (b ++ take l.at l.piece);
  again : (f : ScanFault) → fault_of l.initial.self ≡ Some f → fault_of l.self ≡ Some f;
}

abbrev pub decreases-loop-at : goal.decreases-loop-at
decreases-loop-at l = length l.piece - l.at
