-- How a builder keeps the elements that are begun and not ended.
use Rattle.std.specs.Prelude.{◌≡◌, ℕ, suc, ◌+◌, ◌-◌, ◌^◌, ◌<◌, ◌≤◌, Bool, true, ◌&&◌, List, [], ◌∷◌, ◌++◌, length, Option, Some, None, IfSome, vec_len}
use Rattle.std.specs.List.{All}
use Rattle.std.specs.Option.{option_map}
use Rattle.pn_tree.specs.Packed.{SlotList}
use Rattle.pn_tree.specs.Elements.{is_element, IsTree}
use Rattle.pn_tree.specs.Building.{Building}
use Rattle.pn_tree.specs.Tables.{TableLists, content, made_of, element_in, IsSlotIn, IsHeadIn, AreWithin}
use Rattle.pn_tree.specs.declared.element.Element.{Element}
use Rattle.pn_tree.specs.declared.tables.Span.{Span}
use Rattle.pn_tree.specs.declared.tables.Slot.{Slot}
use Rattle.pn_tree.specs.declared.tables.Slot.TheVariants as slots
use Rattle.pn_tree.specs.declared.tables.Node.{Node}
use Rattle.pn_tree.specs.declared.tables.Tables.{Tables}
use Rattle.pn_tree.specs.declared.site.Site.{Site}

-- an open element with what it was given so far: its kids are among those that are still to be placed
abbrev pub so_far : TableLists → List Slot → Node → Element
so_far t pending f = made_of (element_in 256 t) t pending f

-- the open elements, the last one first, before others
abbrev pub stacked : TableLists → List Slot → List Node → List Element → List Element
stacked t pending [] es = es
stacked t pending (f ∷ fs) es = stacked t pending fs (so_far t pending f ∷ es)

-- the elements that are open, the innermost first: none where there is no innermost one
abbrev pub all_open : TableLists → List Slot → Option Node → List Node → List Element
all_open t pending None outer = []
all_open t pending (Some f) outer = so_far t pending f ∷ stacked t pending outer []

-- each open element may stand as deep as it does
abbrev pub are_open : List Element → Bool
are_open [] = true
are_open (e ∷ es) = is_element (256 - length es) e && are_open es

-- the kids of these elements stand side by side, from one place up to another
abbrev pub AreSideBySide : ℕ → List Node → ℕ → Type 0
AreSideBySide low [] high = low ≡ high
AreSideBySide low (f ∷ fs) high = (f.kids.start ≡ low) × (low ≤ f.kids.end) × AreSideBySide f.kids.end fs high

-- a text that is the last of the kids from a place on ends where the bytes end
abbrev pub EndsInText : List ℕ → List Slot → ℕ → Type 0
EndsInText bytes pending start = (front : List Slot) (s : Span) → pending ≡ front ++ (slots.Text s ∷ []) → start ≤ length front → s.end ≡ length bytes

-- what holds of the open elements, the innermost one apart from those around it
pub record IsOpen (t : TableLists) (pending : List Slot) (outer : List Node) (f : Node) : Type 0 where
  pub places : All (IsSlotIn t.bytes (length t.nodes)) pending
  pub heads : All (IsHeadIn t) outer
  pub head : IsHeadIn t f
  pub around : AreSideBySide 0 outer f.kids.start
  pub ordered : f.kids.start ≤ f.kids.end
  pub whole : f.kids.end ≡ length pending
  pub attrs_last : f.kids.start ≡ f.kids.end → f.attrs.end ≡ length t.attrs
  pub text_last : EndsInText t.bytes pending f.kids.start
  pub fits : are_open (so_far t pending f ∷ stacked t pending outer []) ≡ true

-- there is room for so many nodes, and for so many kids more than those that are to be placed
pub record HasSpare (many more : ℕ) (t : Tables) (pending : SlotList) : Type 0 where
  pub nodes : length t.nodes.items + many ≤ t.nodes.capacity
  pub nodes_fit : length t.nodes.items + many < 2 ^ 32
  pub kids : length t.kids.items + (length pending.items + more) ≤ t.kids.capacity
  pub kids_fit : length t.kids.items + (length pending.items + more) < 2 ^ 32
  pub places : length pending.items + more ≤ pending.capacity

-- the node is the root of a tree
pub record IsRoot (t : TableLists) (node : ℕ) : Type 0 where
  pub there : node < length t.nodes
  pub is_tree : IsTree (element_in 256 t node)

-- what holds of a builder's parts between its calls
pub record IsSite (s : Site) : Type 0 where
  pub tables : AreWithin (content s.tables)
  pub root : IfSome s.root (IsRoot (content s.tables))
  pub opened : IfSome s.inner (IsOpen (content s.tables) s.pending.items s.outer.items)
  pub room : IfSome s.inner (λ _. HasSpare (suc (vec_len s.outer)) (suc (vec_len s.outer)) s.tables s.pending)

-- what a builder's parts say
abbrev pub built : Site → Building
built s = record {
  root = option_map (element_in 256 (content s.tables)) s.root;
  open_elements = all_open (content s.tables) s.pending.items s.inner s.outer.items;
}
