-- Ids with what they name, in order.
use Rattle.std.specs.Prelude.{◌≡◌, ℕ, Bool, true, false, List, [], ◌∷◌, ◌++◌, Option, None, Some, if◌then◌else◌}
use Rattle.std.specs.Str.{bytes_eq}

-- what an id names, if it names something: what the first that is given this id is
abbrev pub named_in : {A : Type 0} → List (List ℕ × A) → List ℕ → Option A
named_in [] id = None
named_in (n ∷ ns) id = if bytes_eq id n.0 then Some n.1 else named_in ns id

-- no id is given twice
abbrev pub AreDistinct : {A : Type 0} → List (List ℕ × A) → Type 0
AreDistinct [] = Unit {0}
AreDistinct (n ∷ ns) = (named_in ns n.0 ≡ None) × AreDistinct ns

-- these ids were noted after the old ones, and none of them was there; or one was, so they are not distinct, whatever comes after them
abbrev pub NotesAll : {A : Type 0} → List (List ℕ × A) → List (List ℕ × A) → List (List ℕ × A) → Bool → Type 0
NotesAll old new names true = (new ≡ old ++ names) × (AreDistinct old → AreDistinct (old ++ names))
NotesAll {A} old new names false = (more : List (List ℕ × A)) → AreDistinct (old ++ (names ++ more)) → ⊥
