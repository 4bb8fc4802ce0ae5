-- References: XML 1.0, sections 4.1 and 4.6. Of entities only the five that each document has.
use Rattle.std.specs.Prelude.{◌≡◌, ℕ, ◌+◌, ◌*◌, nat_lt, Bool, true, List, [], ◌∷◌, ◌++◌, codes}
use Rattle.std.specs.List.{list_all}
use Rattle.std.specs.Char.{digit_value}
use Rattle.pn_text.specs.Characters.{is_character, utf8_of}

-- the entities of 4.6
pub data Entity : Type 0 where
  lt gt amp apos quot : Entity

abbrev pub entity_name : Entity → List ℕ
entity_name lt = codes "lt"
entity_name gt = codes "gt"
entity_name amp = codes "amp"
entity_name apos = codes "apos"
entity_name quot = codes "quot"

abbrev pub entity_text : Entity → List ℕ
entity_text lt = codes "<"
entity_text gt = codes ">"
entity_text amp = codes "&"
entity_text apos = codes "'"
entity_text quot = codes "\""

-- a digit to a base, where letters of either case stand for 10 and more
abbrev pub is_digit : ℕ → ℕ → Bool
is_digit base b = nat_lt (digit_value b) base

-- the number that digits spell behind those that spell n
abbrev pub number_behind : ℕ → ℕ → List ℕ → ℕ
number_behind base n [] = n
number_behind base n (d ∷ ds) = number_behind base (n * base + digit_value d) ds

-- one or more digits that spell the number of a character
pub record Number (base : ℕ) (c : ℕ) (digits : List ℕ) : Type 0 where
  pub first : digits ≡ [] → ⊥
  pub are_digits : list_all (is_digit base) digits ≡ true
  pub value : number_behind base 0 digits ≡ c
  pub character : is_character c ≡ true

-- a reference (4.1, Reference: EntityRef and CharRef), by the text that it stands for
pub data Reference : List ℕ → List ℕ → Type 0 where
  entity : (text b : List ℕ) (e : Entity) → text ≡ entity_text e → b ≡ codes "&" ++ (entity_name e ++ codes ";") → Reference text b
  decimal : (text b : List ℕ) (c : ℕ) (digits : List ℕ) → Number 10 c digits → text ≡ utf8_of c → b ≡ codes "&#" ++ (digits ++ codes ";") → Reference text b
  hexadecimal : (text b : List ℕ) (c : ℕ) (digits : List ℕ) → Number 16 c digits → text ≡ utf8_of c → b ≡ codes "&#x" ++ (digits ++ codes ";") → Reference text b
