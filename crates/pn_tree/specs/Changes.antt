-- What the parts of a builder's calls do to its tables.
use Rattle.std.specs.Prelude.{◌≡◌, ℕ, ◌≤◌, List, [], ◌∷◌, ◌++◌, length, take, drop, Option, Some, None, MatchOption}
use Rattle.pn_tree.specs.Tables.{cut, TableLists, HasGrown, IsPut, IsTextIn}
use Rattle.pn_tree.specs.declared.tables.Span.{Span}
use Rattle.pn_tree.specs.declared.tables.Pair.{Pair}
use Rattle.pn_tree.specs.declared.tables.Slot.{Slot}
use Rattle.pn_tree.specs.declared.tables.Slot.TheVariants as slots
use Rattle.pn_tree.specs.declared.tables.Node.{Node}

-- an element that was given nothing yet, where there are so many attributes and kids
pub record IsNewNode (bytes name : List ℕ) (at attrs kids : ℕ) (f : Node) : Type 0 where
  pub there : IsTextIn bytes f.name
  pub called : cut f.name bytes ≡ name
  pub offset : f.at ≡ at
  pub own_attrs : f.attrs ≡ record { start = attrs; end = attrs }
  pub own_kids : f.kids ≡ record { start = kids; end = kids }

-- nothing but bytes was put into the tables
pub record HasBytes (old new : TableLists) : Type 0 where
  pub bytes : HasGrown old.bytes new.bytes
  pub attrs : new.attrs ≡ old.attrs
  pub kids : new.kids ≡ old.kids
  pub nodes : new.nodes ≡ old.nodes

-- the innermost element was put with those around it; where there was none, none is left
abbrev pub IsEnclosed : Option Node → List Node → List Slot → List Node → List Slot → Type 0
IsEnclosed None old old_kids new new_kids = (new ≡ []) × (new_kids ≡ [])
IsEnclosed (Some f) old old_kids new new_kids = (new ≡ old ++ (f ∷ [])) × (new_kids ≡ old_kids)

-- the bytes of an attribute were put behind the others
pub record IsPairPut (old new name value : List ℕ) (a : Pair) : Type 0 where
  pub middle : List ℕ
  pub called : IsPut old middle name a.name
  pub is : IsPut middle new value a.value

-- an attribute was put behind the others
pub record HasAttr (old new : TableLists) (name value : List ℕ) : Type 0 where
  pub pair : Pair
  pub bytes : IsPairPut old.bytes new.bytes name value pair
  pub attrs : new.attrs ≡ old.attrs ++ (pair ∷ [])
  pub kids : new.kids ≡ old.kids
  pub nodes : new.nodes ≡ old.nodes

-- where a text stands last among the kids from a place on, it was taken off
abbrev pub IsTextTaken : ℕ → List Slot → List Slot → Span → Type 0
IsTextTaken start old new s = (old ≡ new ++ (slots.Text s ∷ [])) × (start ≤ length new)

-- no text stands last there
abbrev pub HasNoText : ℕ → List Slot → Type 0
HasNoText start old = (front : List Slot) (s : Span) → old ≡ front ++ (slots.Text s ∷ []) → start ≤ length front → ⊥

-- the text, from where a text before it begins
abbrev pub joined_span : Option Span → Span → Span
joined_span None text = text
joined_span (Some s) text = record { start = s.start; end = text.end }

-- a text was put behind the kids from a place on, joined to a text that stood last there
pub record IsTextPlaced (start : ℕ) (text : Span) (old new : List Slot) : Type 0 where
  pub last : Option Span
  pub front : List Slot
  pub taken : MatchOption last ((front ≡ old) × HasNoText start old) (IsTextTaken start old front)
  pub placed : new ≡ front ++ (slots.Text (joined_span last text) ∷ [])

-- a text that is not empty was put into the tables and behind the kids from a place on
pub record IsTextAdded (start : ℕ) (old new : TableLists) (old_kids new_kids : List Slot) (text : List ℕ) : Type 0 where
  pub span : Span
  pub put : IsPut old.bytes new.bytes text span
  pub placed : IsTextPlaced start span old_kids new_kids

-- the kids from the element's first one on were moved into the tables, and its node behind the others
pub record IsClosed (old new : TableLists) (old_kids new_kids : List Slot) (f : Node) : Type 0 where
  pub bytes : new.bytes ≡ old.bytes
  pub attrs : new.attrs ≡ old.attrs
  pub kids : new.kids ≡ old.kids ++ drop f.kids.start old_kids
  pub nodes : new.nodes ≡ old.nodes ++ (record f { kids = record { start = length old.kids; end = length new.kids } } ∷ [])
  pub left : new_kids ≡ take f.kids.start old_kids
