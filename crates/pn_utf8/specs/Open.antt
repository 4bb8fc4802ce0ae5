-- How the bytes of a character that is not whole yet are kept.
use Rattle.std.specs.Prelude.{ℕ, List, [], ◌∷◌}
use Rattle.pn_utf8.specs.declared.characters.Open.{Open}
use Rattle.pn_utf8.specs.declared.characters.Open.TheVariants.{Nothing, One, Two, Three}

abbrev pub open_bytes : Open → List ℕ
open_bytes Nothing = []
open_bytes (One a) = a ∷ []
open_bytes (Two a b) = a ∷ b ∷ []
open_bytes (Three a b c) = a ∷ b ∷ c ∷ []
