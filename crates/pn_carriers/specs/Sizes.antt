-- How many values a sort has.
use Rattle.std.specs.Prelude.{ℕ, ◌^◌, min, List, map, length, Option, Some, None, if◌then◌else◌}
use Rattle.std.specs.List.{list_all}
use Rattle.pn_values.specs.declared.sort.Sort.{Sort}
use Rattle.pn_values.specs.declared.sort.Size.{Size}
use Rattle.pn_values.specs.declared.sort.Size.TheVariants as sizes
use Rattle.pn_carriers.specs.Carriers.{is_finite, choices, carrier}

-- how many values a finite sort has
abbrev pub size_of : List ℕ → Sort → Option ℕ
size_of widths sort = if is_finite sort then Some (length (carrier widths sort)) else None

-- the same, as a `Size` keeps it: capped at 2^64
abbrev pub capped_size : Option ℕ → Size
capped_size (Some n) = sizes.Finite (min n (2 ^ 64))
capped_size None = sizes.Infinite

-- how many tuples there are of values of these sorts, where all of them are finite
abbrev pub size_of_product : List ℕ → List Sort → Option ℕ
size_of_product widths parts = if list_all is_finite parts then Some (length (choices (map (carrier widths) parts))) else None
