-- How the kids and the nodes of a tree are kept in few bytes.
use Rattle.std.specs.Prelude.{◌≡◌, ℕ, ◌==◌, ◌+◌, ◌-◌, ◌<◌, ◌≤◌, min, if◌then◌else◌, List, [], ◌∷◌, ◌++◌, map, length, slice_index_or, vec_len, vec_capacity}
use Rattle.std.specs.List.{All}
use Rattle.std.specs.declared.vec.Vec.{Vec}
use Rattle.pn_tree.specs.declared.tables.Span.{Span}
use Rattle.pn_tree.specs.declared.tables.Slot.{Slot}
use Rattle.pn_tree.specs.declared.tables.Slot.TheVariants as slots
use Rattle.pn_tree.specs.declared.tables.Node.{Node}
use Rattle.pn_tree.specs.declared.slots.Packed.{Packed}
use Rattle.pn_tree.specs.declared.nodes.Shape.{Shape}
use Rattle.pn_tree.specs.declared.nodes.Entry.{Entry}

-- kids, and how many there is room for
pub record SlotList : Type 0 where
  pub items : List Slot
  pub capacity : ℕ

-- nodes, and how many there is room for
pub record NodeList : Type 0 where
  pub items : List Node
  pub capacity : ℕ

-- the kid that is kept so: no text ends at the place 0
abbrev pub slot_of : Packed → Slot
slot_of p = if p.end == 0 then slots.Element p.start else slots.Text (record { start = p.start; end = p.end })

-- how a kid is kept
abbrev pub packed_of : Slot → Packed
packed_of (slots.Element i) = record { start = i; end = 0 }
packed_of (slots.Text s) = record { start = s.start; end = s.end }

-- the text stands last
abbrev pub IsLastText : List Packed → Span → Type 0
IsLastText kept s = (front : List Packed) × (p : Packed) × (kept ≡ front ++ (p ∷ [])) × (slot_of p ≡ slots.Text s)

-- no text stands last
abbrev pub HasNoLastText : List Packed → Type 0
HasNoLastText kept = (front : List Slot) (s : Span) → map slot_of kept ≡ front ++ (slots.Text s ∷ []) → ⊥

-- a text does not end at the place 0
abbrev pub IsFilled : Slot → Type 0
IsFilled (slots.Element i) = Unit {0}
IsFilled (slots.Text s) = 0 < s.end

abbrev pub no_part : Span
no_part = record { start = 0; end = 0 }

abbrev pub no_shape : Shape
no_shape = record { name = no_part; attrs = no_part; kids = no_part }

-- what a node shares with others
abbrev pub shape_of : Node → Shape
shape_of n = record { name = n.name; attrs = n.attrs; kids = n.kids }

abbrev pub shaped : Shape → ℕ → Node
shaped s at = record { name = s.name; at = at; attrs = s.attrs; kids = s.kids }

-- the node of an entry
abbrev pub node_in : List Shape → Entry → Node
node_in shapes e = shaped (slice_index_or shapes e.shape no_shape) e.at

-- the entry's shape is there
abbrev pub HasStoredShape : ℕ → Entry → Type 0
HasStoredShape shapes e = e.shape < shapes

-- each entry has a shape, and there are no more shapes than entries
pub record ArePacked (shapes : List Shape) (entries : List Entry) : Type 0 where
  pub each : All (HasStoredShape (length shapes)) entries
  pub few : length shapes ≤ length entries

-- as many nodes as there is room for, where each may bring a shape
abbrev pub room_for : {Y Z : Type 0} → Vec Shape Y → Vec Entry Z → ℕ
room_for shapes entries = vec_len entries + min (vec_capacity entries - vec_len entries) (vec_capacity shapes - vec_len shapes)
