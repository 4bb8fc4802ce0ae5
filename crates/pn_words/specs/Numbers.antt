-- Numbers in decimal, between bounds.
use Rattle.std.specs.Prelude.{◌≡◌, ℕ, suc, ℤ, pos, negsuc, int_le, ◌≤◌, Bool, true, false, not, List, ◌++◌, decimal}
use Rattle.std.specs.Fmt.{signed_decimal}
use Rattle.std.specs.Char.{is_ascii_digit}

-- the number is within the bounds, and this is its decimal
abbrev pub Decimal : ℕ → ℕ → ℕ → List ℕ → Type 0
Decimal low high n t = (low ≤ n) × (n ≤ high) × (t ≡ decimal n)

-- the decimal of a number within the bounds begins with that of this number
abbrev pub Begins : ℕ → ℕ → ℕ → Type 0
Begins low high m = (n : ℕ) × (rest : List ℕ) × (low ≤ n) × (n ≤ high) × (decimal n ≡ decimal m ++ rest)

-- a byte that is no decimal digit
abbrev pub is_no_digit : ℕ → Bool
is_no_digit b = not (is_ascii_digit b)

-- nothing was read so far, or the digits of a number with which one within the bounds begins
abbrev pub HasBegun : ℕ → ℕ → Bool → ℕ → Type 0
HasBegun low high true m = m ≡ 0
HasBegun low high false m = Begins low high m

-- the whole number is within the bounds, and this is its decimal, with `-` before a negative one
abbrev pub SignedDecimal : ℤ → ℤ → ℤ → List ℕ → Type 0
SignedDecimal low high z t = (int_le low z ≡ true) × (int_le z high ≡ true) × (t ≡ signed_decimal z)

-- the same, of no negative number
abbrev pub PlainDecimal : ℤ → ℤ → ℤ → List ℕ → Type 0
PlainDecimal low high z t = (n : ℕ) × (z ≡ pos n) × (int_le low z ≡ true) × (int_le z high ≡ true) × (t ≡ decimal n)

-- the number is negative, and this stands behind its `-`
abbrev pub BehindSign : ℤ → ℤ → ℤ → List ℕ → Type 0
BehindSign low high z t = (n : ℕ) × (z ≡ negsuc n) × (int_le low z ≡ true) × (int_le z high ≡ true) × (t ≡ decimal (suc n))

-- the least number that may stand behind `-`, where numbers are at most this
abbrev pub least_behind : ℤ → ℕ
least_behind (pos n) = 1
least_behind (negsuc n) = suc n

-- the least number that may stand without `-`, where numbers are at least this
abbrev pub least_plain : ℤ → ℕ
least_plain (pos n) = n
least_plain (negsuc n) = 0
