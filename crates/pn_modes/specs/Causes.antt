-- Why the modes of a transition are not listed: a variable has too many values, or there are too many assignments (ISO/IEC 15909-1, modes).
use Rattle.std.specs.Prelude.{◌≡◌, ℕ, ◌<◌, ◌≤◌, ◌^◌, min, Bool, not, List, [], ◌∷◌, Option, None, Some, if◌then◌else◌}
use Rattle.pn_carriers.specs.Carriers.{is_finite}
use Rattle.pn_carriers.specs.Sizes.{size_of_product}
use Rattle.pn_names.specs.Names.{widths_of}
use Rattle.pn_net.specs.declared.flat.Flat.{Flat}
use Rattle.pn_values.specs.declared.sort.Sort.{Sort}
use Rattle.pn_modes.specs.Sizes.{HaveSortsAt, is_large, most_assignments}

-- the first of these variables whose sort passes the test
abbrev pub first_with : (Sort → Bool) → List ℕ → List Sort → Option ℕ
first_with test [] sorts = None
first_with test (v ∷ vars) [] = None
first_with test (v ∷ vars) (sort ∷ sorts) = if test sort then Some v else first_with test vars sorts

-- a sort of infinitely many values
abbrev pub is_infinite : Sort → Bool
is_infinite sort = not (is_finite sort)

-- the first variable of the transition that has an infinite sort; none where all sorts are finite
abbrev pub IsFirstInfinite : Flat → ℕ → Option ℕ → Type 0
IsFirstInfinite f t v = (vars : List ℕ) × (sorts : List Sort) × HaveSortsAt f t vars sorts × (first_with is_infinite vars sorts ≡ v)

-- the first variable of the transition whose sort has more values than are searched; none where there is none
abbrev pub IsFirstLarge : Flat → ℕ → Option ℕ → Type 0
IsFirstLarge f t v = (vars : List ℕ) × (sorts : List Sort) × HaveSortsAt f t vars sorts × (first_with (is_large (widths_of f.declarations)) vars sorts ≡ v)

-- all variables of the transition have finite sorts, and this is the product of their numbers of values
abbrev pub HasAssignments : Flat → ℕ → ℕ → Type 0
HasAssignments f t n = (vars : List ℕ) × (sorts : List Sort) × HaveSortsAt f t vars sorts × (size_of_product (widths_of f.declarations) sorts ≡ Some n)

-- no more assignments than are listed
abbrev pub HasFewAssignments : Flat → ℕ → Type 0
HasFewAssignments f t = (n : ℕ) × HasAssignments f t n × (n ≤ most_assignments)

-- more assignments than are listed: so many, told as 2^64 where there are more
abbrev pub HasManyAssignments : Flat → ℕ → ℕ → Type 0
HasManyAssignments f t told = (n : ℕ) × HasAssignments f t n × (most_assignments < n) × (told ≡ min n (2 ^ 64))
