-- Comments, processing instructions and what stands outside the root: XML 1.0, sections 2.5, 2.6 and 2.8.
use Rattle.std.specs.Prelude.{◌≡◌, ℕ, Bool, true, false, ◌&&◌, List, [], ◌∷◌, ◌++◌, codes, map}
use Rattle.std.specs.Char.{to_ascii_lowercase}
use Rattle.std.specs.Str.{bytes_eq}
use Rattle.pn_markup.specs.Bytes.{is_space, Name, lacks}

-- a comment (2.5, Comment): `<!--`, a text that has no `--` and does not end in `-`, `-->`
abbrev pub Comment : List ℕ → Type 0
Comment b = (text : List ℕ) × (lacks (codes "--") (text ++ codes "-") ≡ true) × (b ≡ codes "<!--" ++ (text ++ codes "-->"))

-- `xml` in any case
abbrev pub is_xml : List ℕ → Bool
is_xml name = bytes_eq (map to_ascii_lowercase name) (codes "xml")

-- what stands between a target and `?>`: nothing, or white space and a text that has no `?>`
abbrev pub is_instruction : List ℕ → Bool
is_instruction [] = true
is_instruction (b ∷ bs) = is_space b && lacks (codes "?>") bs

-- a processing instruction (2.6, PI): `<?`, a name that is not `xml` in any case (PITarget), perhaps white space and a text, `?>`
pub record PI (b : List ℕ) : Type 0 where
  pub target : List ℕ
  pub text : List ℕ
  pub is_name : Name target
  pub not_xml : is_xml target ≡ false
  pub may_follow : is_instruction text ≡ true
  pub whole : b ≡ codes "<?" ++ (target ++ (text ++ codes "?>"))

-- any number of comments, processing instructions and white space (2.8, Misc*)
pub data Misc : List ℕ → Type 0 where
  nothing : (b : List ℕ) → b ≡ [] → Misc b
  space : (b : List ℕ) (one : ℕ) (rest : List ℕ) → is_space one ≡ true → Misc rest → b ≡ one ∷ rest → Misc b
  comment : (b bytes rest : List ℕ) → Comment bytes → Misc rest → b ≡ bytes ++ rest → Misc b
  instruction : (b bytes rest : List ℕ) → PI bytes → Misc rest → b ≡ bytes ++ rest → Misc b
