-- The offsets of elements: trees that are equal but for them, and their order in a document.
use Rattle.std.specs.Prelude.{◌≡◌, ℕ, ◌<◌, ⊤, List, [], ◌∷◌}
use Rattle.std.specs.List.{flat_map}
use Rattle.pn_tree.specs.declared.element.Element.{Element}
use Rattle.pn_tree.specs.declared.element.Child.{Child}
use Rattle.pn_tree.specs.declared.element.Child.TheOpen as layer
use Rattle.pn_tree.specs.declared.element.Child.TheViews.{roll-Child}
use Rattle.pn_tree.specs.declared.element.Child.TheFolds.{fold-Element, fold-Child}
use Rattle.pn_markup.specs.Document.{IsDocument}

-- one element at the offset 0, with its kids as they are given
abbrev pub at_zero : layer.Element-F Child Element → Element
at_zero e = record { name = e.name; at = 0; attrs = e.attrs; kids = e.kids }

-- an element with each offset in it set to 0: two elements are equal but for the offsets where these are equal
abbrev pub without_offsets : Element → Element
without_offsets = fold-Element Child Element roll-Child at_zero

-- likewise a kid
abbrev pub kid_without_offsets : Child → Child
kid_without_offsets = fold-Child Child Element roll-Child at_zero

-- bytes that spell a tree which is this one but for the offsets
pub record SpellsAlike (e : Element) (b : List ℕ) : Type 0 where
  pub tree : Element
  pub is_document : IsDocument tree b
  pub alike : without_offsets tree ≡ without_offsets e

-- one kid, with the offsets of an element in its place: a text has none
abbrev pub offsets_of_kid : layer.Child-F (List ℕ) (List ℕ) → List ℕ
offsets_of_kid (layer.Element offsets) = offsets
offsets_of_kid (layer.Text t) = []

-- one element, with the offsets of its kids in their places
abbrev pub own_first : layer.Element-F (List ℕ) (List ℕ) → List ℕ
own_first e = e.at ∷ flat_map (λ offsets. offsets) e.kids

-- the offsets of an element and all in it, in document order
abbrev pub offsets_of : Element → List ℕ
offsets_of = fold-Element (List ℕ) (List ℕ) offsets_of_kid own_first

-- the offsets in a kid, in document order
abbrev pub kid_offsets : Child → List ℕ
kid_offsets = fold-Child (List ℕ) (List ℕ) offsets_of_kid own_first

-- each number is less than the next
abbrev pub AreRising : List ℕ → Type 0
AreRising [] = ⊤
AreRising (n ∷ []) = ⊤
AreRising (n ∷ m ∷ ns) = (n < m) × AreRising (m ∷ ns)

-- the offsets rise in document order
abbrev pub HasRisingOffsets : Element → Type 0
HasRisingOffsets e = AreRising (offsets_of e)
