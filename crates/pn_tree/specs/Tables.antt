-- What the tables of a tree say: which elements its nodes are.
use Rattle.std.specs.Prelude.{◌≡◌, ℕ, zero, suc, ◌-◌, ◌<◌, ◌≤◌, List, [], ◌++◌, length, take, drop, map, slice_index_or}
use Rattle.std.specs.List.{All}
use Rattle.std.specs.Str.{IsUtf8}
use Rattle.pn_tree.specs.declared.element.Attr.{Attr}
use Rattle.pn_tree.specs.declared.element.Element.{Element}
use Rattle.pn_tree.specs.declared.element.Child.{Child}
use Rattle.pn_tree.specs.declared.element.Child.TheVariants as children
use Rattle.pn_tree.specs.declared.tables.Span.{Span}
use Rattle.pn_tree.specs.declared.tables.Pair.{Pair}
use Rattle.pn_tree.specs.declared.tables.Slot.{Slot}
use Rattle.pn_tree.specs.declared.tables.Slot.TheVariants as slots
use Rattle.pn_tree.specs.declared.tables.Node.{Node}
use Rattle.pn_tree.specs.declared.tables.Tables.{Tables}

-- the part of a table
abbrev pub cut : {X : Type 0} → Span → List X → List X
cut s xs = take (s.end - s.start) (drop s.start xs)

-- the tables as lists
pub record TableLists : Type 0 where
  pub bytes : List ℕ
  pub attrs : List Pair
  pub kids : List Slot
  pub nodes : List Node

abbrev pub content : Tables → TableLists
content t = record { bytes = t.bytes.items; attrs = t.attrs.items; kids = t.kids.items; nodes = t.nodes.items }

abbrev pub attr_in : List ℕ → Pair → Attr
attr_in bytes a = record { name = cut a.name bytes; value = cut a.value bytes }

-- a kid, where it is known which element each node is
abbrev pub kid_in : (ℕ → Element) → List ℕ → Slot → Child
kid_in element bytes (slots.Element i) = children.Element (element i)
kid_in element bytes (slots.Text s) = children.Text (cut s bytes)

-- a node as an element, whose kids stand in a list
abbrev pub made_of : (ℕ → Element) → TableLists → List Slot → Node → Element
made_of element t places n = record {
  name = cut n.name t.bytes;
  at = n.at;
  attrs = map (attr_in t.bytes) (cut n.attrs t.attrs);
  kids = map (kid_in element t.bytes) (cut n.kids places);
}

abbrev pub no_element : Element
no_element = record { name = []; at = 0; attrs = []; kids = [] }

abbrev pub empty_span : Span
empty_span = record { start = 0; end = 0 }

abbrev pub no_node : Node
no_node = record { name = empty_span; at = 0; attrs = empty_span; kids = empty_span }

-- the element that a node is, down to so many levels
unfoldable pub element_in : ℕ → TableLists → ℕ → Element
element_in zero t i = no_element
element_in (suc levels) t i = made_of (element_in levels t) t t.kids (slice_index_or t.nodes i no_node)

-- the part lies within a table of this length
pub record IsSpan (len : ℕ) (s : Span) : Type 0 where
  pub ordered : s.start ≤ s.end
  pub within : s.end ≤ len

-- a text stands there
pub record IsTextIn (bytes : List ℕ) (s : Span) : Type 0 where
  pub span : IsSpan (length bytes) s
  pub utf8 : IsUtf8 (cut s bytes)

pub record IsPairIn (bytes : List ℕ) (a : Pair) : Type 0 where
  pub name : IsTextIn bytes a.name
  pub value : IsTextIn bytes a.value

abbrev pub IsSlotIn : List ℕ → ℕ → Slot → Type 0
IsSlotIn bytes nodes (slots.Element i) = i < nodes
IsSlotIn bytes nodes (slots.Text s) = IsTextIn bytes s

-- the node's name and attributes stand there
pub record IsHeadIn (t : TableLists) (n : Node) : Type 0 where
  pub name : IsTextIn t.bytes n.name
  pub attrs : IsSpan (length t.attrs) n.attrs

pub record IsNodeIn (t : TableLists) (n : Node) : Type 0 where
  pub head : IsHeadIn t n
  pub kids : IsSpan (length t.kids) n.kids

-- all that stands in the tables points into them
pub record AreWithin (t : TableLists) : Type 0 where
  pub attrs : All (IsPairIn t.bytes) t.attrs
  pub kids : All (IsSlotIn t.bytes (length t.nodes)) t.kids
  pub nodes : All (IsNodeIn t) t.nodes

-- the list has grown at its end
abbrev pub HasGrown : {X : Type 0} → List X → List X → Type 0
HasGrown {X} xs ys = (more : List X) × (ys ≡ xs ++ more)

-- the tables have grown
pub record HaveGrown (old new : TableLists) : Type 0 where
  pub bytes : HasGrown old.bytes new.bytes
  pub attrs : HasGrown old.attrs new.attrs
  pub kids : HasGrown old.kids new.kids
  pub nodes : HasGrown old.nodes new.nodes

-- the text was put behind the bytes
pub record IsPut (old new text : List ℕ) (s : Span) : Type 0 where
  pub bytes : new ≡ old ++ text
  pub first : s.start ≡ length old
  pub last : s.end ≡ length new
  pub utf8 : IsUtf8 text
