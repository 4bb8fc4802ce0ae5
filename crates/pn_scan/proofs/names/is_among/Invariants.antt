use Rattle.std.proofs.Common.{◌≡◌, ◌≤◌, ◌-◌, ℕ, List, length, drop}
use Rattle.std.specs.List.{list_any}
use Rattle.std.specs.Str.{bytes_eq}
use Rattle.pn_scan.specs.Names.{AreNames}
use Rattle.pn_scan.proofs.names.is_among.Given as goal

abbrev pub invariant-loop-span : goal.invariant-loop-span
invariant-loop-span l = record {
  within : l.index ≤ length l.spans;
  left : (names : List (List ℕ)) → AreNames names l.bytes l.spans → list_any (λ n. bytes_eq n l.name) names ≡ list_any (λ n. bytes_eq n l.name) (drop l.index names);
}

abbrev pub decreases-loop-span : goal.decreases-loop-span
decreases-loop-span l = length l.spans - l.index
