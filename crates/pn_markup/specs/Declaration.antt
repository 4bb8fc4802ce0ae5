-- The XML declaration: XML 1.0, sections 2.8, 2.9 and 4.3.3.
use Rattle.std.specs.Prelude.{◌≡◌, ℕ, Bool, true, false, ◌||◌, ◌&&◌, List, [], ◌∷◌, ◌++◌, codes, map}
use Rattle.std.specs.List.{list_all}
use Rattle.std.specs.Char.{to_ascii_lowercase}
use Rattle.std.specs.Str.{bytes_eq}
use Rattle.pn_text.specs.Characters.{is_within}
use Rattle.pn_markup.specs.Bytes.{is_quote, MaybeSpace, Space}
use Rattle.pn_markup.specs.Tags.{Eq}

-- white space, a word, `=` and a value in quotes
pub record Declared (word : List ℕ) (is_value : List ℕ → Bool) (b : List ℕ) : Type 0 where
  pub space : List ℕ
  pub equals : List ℕ
  pub value : List ℕ
  pub quote : ℕ
  pub space_is : Space space
  pub equals_is : Eq equals
  pub quoted : is_quote quote ≡ true
  pub good : is_value value ≡ true
  pub whole : b ≡ space ++ (word ++ (equals ++ (quote ∷ (value ++ (quote ∷ [])))))

abbrev pub are_digits : List ℕ → Bool
are_digits [] = false
are_digits (d ∷ ds) = list_all (is_within 48 57) (d ∷ ds)

-- `1.` and one or more digits (2.8, VersionNum)
abbrev pub is_version : List ℕ → Bool
is_version [] = false
is_version (a ∷ []) = false
is_version (a ∷ b ∷ ds) = bytes_eq (a ∷ b ∷ []) (codes "1.") && are_digits ds

-- `UTF-8` or `US-ASCII` in any case (4.3.3, EncName; XML 1.0 leaves more)
abbrev pub is_encoding : List ℕ → Bool
is_encoding b = bytes_eq (map to_ascii_lowercase b) (codes "utf-8") || bytes_eq (map to_ascii_lowercase b) (codes "us-ascii")

-- `yes` or `no` (2.9)
abbrev pub is_standalone : List ℕ → Bool
is_standalone b = bytes_eq b (codes "yes") || bytes_eq b (codes "no")

-- something that may be absent
abbrev pub Maybe : (List ℕ → Type 0) → List ℕ → Type 0
Maybe P [] = Unit {0}
Maybe P (b ∷ bs) = P (b ∷ bs)

-- the XML declaration (2.8, XMLDecl: VersionInfo, EncodingDecl, SDDecl)
pub record XMLDecl (b : List ℕ) : Type 0 where
  pub version : List ℕ
  pub encoding : List ℕ
  pub standalone : List ℕ
  pub space : List ℕ
  pub version_is : Declared (codes "version") is_version version
  pub encoding_is : Maybe (Declared (codes "encoding") is_encoding) encoding
  pub standalone_is : Maybe (Declared (codes "standalone") is_standalone) standalone
  pub space_is : MaybeSpace space
  pub whole : b ≡ codes "<?xml" ++ (version ++ (encoding ++ (standalone ++ (space ++ codes "?>"))))
