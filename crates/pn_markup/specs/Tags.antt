-- Tags with their attributes: XML 1.0, sections 2.3 and 3.1.
use Rattle.std.specs.Prelude.{◌≡◌, ℕ, Bool, true, ◌==◌, ◌&&◌, not, List, [], ◌∷◌, ◌++◌, codes, None}
use Rattle.std.specs.List.{list_all}
use Rattle.pn_tree.specs.Building.{with_attr}
use Rattle.pn_tree.specs.Elements.{attr_value}
use Rattle.pn_tree.specs.declared.element.Element.{Element}
use Rattle.pn_markup.specs.Bytes.{is_quote, MaybeSpace, Space, Name, spaced}
use Rattle.pn_markup.specs.References.{Reference}

-- a byte of a value in these quotes that stands for itself or for a space: neither the quote nor `<` nor `&`
abbrev pub is_value_byte : ℕ → ℕ → Bool
is_value_byte quote b = not (b == quote) && (not (b == 60) && not (b == 38))

-- what stands between the quotes (2.3, AttValue): bytes and references. The value goes from what was read so far to the whole
pub data ValueText (quote : ℕ) : List ℕ → List ℕ → List ℕ → Type 0 where
  run : (so_far whole b : List ℕ) → list_all (is_value_byte quote) b ≡ true → whole ≡ so_far ++ spaced b → ValueText quote so_far whole b
  reference : (so_far whole b run text bytes rest : List ℕ) → list_all (is_value_byte quote) run ≡ true → Reference text bytes
      → ValueText quote ((so_far ++ spaced run) ++ text) whole rest → b ≡ run ++ (bytes ++ rest) → ValueText quote so_far whole b

-- a value in quotes (2.3, AttValue)
pub record AttValue (value b : List ℕ) : Type 0 where
  pub quote : ℕ
  pub text : List ℕ
  pub quoted : is_quote quote ≡ true
  pub spells : ValueText quote [] value text
  pub whole : b ≡ quote ∷ (text ++ (quote ∷ []))

-- `=` with white space around it that may be absent (2.8, Eq)
abbrev pub Eq : List ℕ → Type 0
Eq b = (before after : List ℕ) × MaybeSpace before × MaybeSpace after × (b ≡ before ++ (61 ∷ after))

-- an attribute (3.1, Attribute)
pub record Attribute (name value b : List ℕ) : Type 0 where
  pub equals : List ℕ
  pub quoted : List ℕ
  pub is_name : Name name
  pub is_equals : Eq equals
  pub is_value : AttValue value quoted
  pub whole : b ≡ name ++ (equals ++ quoted)

-- the attributes of a tag and the white space at its end (3.1, (S Attribute)* S?), each of a name that none before has.
-- They lead from the element with the attributes so far to the element with all of them
pub data Attributes : Element → Element → List ℕ → Type 0 where
  none : (so_far whole : Element) (b : List ℕ) → whole ≡ so_far → MaybeSpace b → Attributes so_far whole b
  more : (so_far whole : Element) (b space name value bytes rest : List ℕ) → Space space → Attribute name value bytes → attr_value name so_far.attrs ≡ None
      → Attributes (with_attr name value so_far) whole rest → b ≡ space ++ (bytes ++ rest) → Attributes so_far whole b

-- an element of which nothing but the name is known
abbrev pub named : List ℕ → ℕ → Element
named name at = record { name = name; at = at; attrs = []; kids = [] }

-- the front that a start tag (3.1, STag) and the tag of an empty element (EmptyElemTag) share: `<`, the name and the attributes, at this offset
pub record Tag (at : ℕ) (e : Element) (b : List ℕ) : Type 0 where
  pub name : List ℕ
  pub attributes : List ℕ
  pub is_name : Name name
  pub are_attributes : Attributes (named name at) e attributes
  pub whole : b ≡ 60 ∷ (name ++ attributes)

-- an end tag (3.1, ETag)
abbrev pub ETag : List ℕ → List ℕ → Type 0
ETag name b = (space : List ℕ) × MaybeSpace space × (b ≡ codes "</" ++ (name ++ (space ++ codes ">")))
