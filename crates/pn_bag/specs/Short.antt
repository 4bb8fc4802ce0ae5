-- The first entry of which a multiset has too few.
use Rattle.std.specs.Prelude.{◌≡◌, ℕ, ◌<◌, ◌≤◌, List, Some, slice_get, take}
use Rattle.std.specs.declared.cmp.Ordering.{Ordering}
use Rattle.pn_bag.specs.Counts.{count_of, Every}
use Rattle.pn_bag.specs.declared.faults.Short.{Short}

-- `short` names the first entry of `needs`, in order, whose key `has` has fewer times:
-- its place in `needs`, its count, and how often `has` has its key
pub record IsFirstShort {K : Type 0} (cmp : K → K → Ordering) (has needs : List (K × ℕ)) (short : Short) : Type 0 where
  pub entry : (key : K) × (slice_get needs short.position ≡ Some (key, short.need)) × (short.has ≡ count_of cmp has key)
  pub fewer : short.has < short.need
  pub first : Every (λ need. need.1 ≤ count_of cmp has need.0) (take short.position needs)
