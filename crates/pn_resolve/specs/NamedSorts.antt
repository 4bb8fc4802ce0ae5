-- Sorts that are kept once, and where that of each declaration is kept.
use Rattle.std.specs.Prelude.{◌≡◌, ◌<◌, ◌++◌, ℕ, List, length, map, Option, None, Some}
use Rattle.std.specs.List.{slice_get, All}
use Rattle.std.specs.Option.{option_and_then}
use Rattle.pn_values.specs.declared.sort.Sort.{Sort}

-- the sort that is kept at a place, where there is a place
abbrev pub sort_found : List Sort → Option ℕ → Option Sort
sort_found kept place = option_and_then (slice_get kept) place

-- the sorts of the declarations
abbrev pub sorts_found : List Sort → List (Option ℕ) → List (Option Sort)
sorts_found kept places = map (sort_found kept) places

-- a place, where there is one, has a sort
abbrev pub IsFound : List Sort → Option ℕ → Type 0
IsFound kept None = Unit {0}
IsFound kept (Some place) = place < length kept

abbrev pub AreFound : List Sort → List (Option ℕ) → Type 0
AreFound kept places = All (IsFound kept) places

-- a sort was kept at this place, and those before it stay
pub record IsKept (old new : List Sort) (sort : Option Sort) (place : Option ℕ) : Type 0 where
  pub more : List Sort
  pub longer : new ≡ old ++ more
  pub found : sort_found new place ≡ sort
  pub there : IsFound new place
