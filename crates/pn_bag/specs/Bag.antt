-- What each bag keeps.
use Rattle.std.specs.Prelude.{ℕ, ◌<◌, ◌≤◌, List}
use Rattle.std.specs.declared.cmp.Ordering.{Ordering}
use Rattle.pn_bag.specs.Counts.{Every, IsRising}
use Rattle.pn_bag.specs.declared.TheConstants.{MAX_COUNT}

-- the keys rise, and each count is from 1 to MAX_COUNT
pub record IsBag {K : Type 0} (cmp : K → K → Ordering) (entries : List (K × ℕ)) : Type 0 where
  pub rising : IsRising cmp entries
  pub counted : Every (λ entry. (0 < entry.1) × (entry.1 ≤ MAX_COUNT)) entries
