-- How one byte stands in a line.
use Rattle.std.proofs.Common.{◌≡◌, ℕ, true, false, [], ◌∷◌, if◌then◌else◌, ap}
use Rattle.pn_lines.specs.Escapes.{escape, is_plain, percent_escape}

pub plain_stays : (b : ℕ) → is_plain b ≡ true → escape b ≡ b ∷ []
plain_stays b is = ap (λ p. if p then b ∷ [] else percent_escape b) is

pub other_escapes : (b : ℕ) → is_plain b ≡ false → escape b ≡ percent_escape b
other_escapes b is = ap (λ p. if p then b ∷ [] else percent_escape b) is
