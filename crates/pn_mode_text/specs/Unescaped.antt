-- Ids that stand escaped before a mark.
use Rattle.std.specs.Prelude.{◌≡◌, ℕ, List, ◌∷◌, ◌++◌}
use Rattle.std.specs.List.{Contains}
use Rattle.pn_lines.specs.Escapes.{escaped}

-- the bytes are an id, escaped, and behind it one of the marks and the rest
pub record Unescapes (marks id : List ℕ) (mark : ℕ) (rest b : List ℕ) : Type 0 where
  pub is_mark : Contains marks mark
  pub cut : b ≡ escaped id ++ mark ∷ rest
