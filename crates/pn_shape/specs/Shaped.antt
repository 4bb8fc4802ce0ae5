-- What an element without a fault of shape is like: its attributes, its characters and its kids are as its row says.
use Rattle.std.specs.Prelude.{◌≡◌, ℕ, ◌≤◌, true, List, None, Some, IfSome, slice_index_or}
use Rattle.std.specs.List.{slice_get, AllByRecursion}
use Rattle.pn_operators.specs.declared.kind.Kind.{Kind}
use Rattle.pn_tree.specs.declared.element.Element.{Element}
use Rattle.pn_tree.specs.declared.element.Child.{Child}
use Rattle.pn_tree.specs.declared.element.Child.TheOpen as layer
use Rattle.pn_tree.specs.declared.element.Child.TheViews.{out-Child}
use Rattle.pn_shape.specs.Attributes.{attr_fault, lack_fault}
use Rattle.pn_shape.specs.Faults.{own_text, text_fault, stray_fault, no_slot, IsShaped}
use Rattle.pn_shape.specs.Rules.{Saying}
use Rattle.pn_shape.specs.Spots.{spot_in, has_slot, filled}
use Rattle.pn_shape.specs.declared.rule.Slot.{Slot}
use Rattle.pn_shape.specs.declared.search.Spot.{Spot}

-- a kid that is an element has a place and no fault of shape there; a kid that is a text may stand there
abbrev pub IsPlacedLayer : Kind → Saying → layer.Child-F Child Element → Type 0
IsPlacedLayer k says (layer.Element x) = (s : Spot) × (spot_in k x.name 0 says.slots ≡ Some s) × IsShaped k s.tag x
IsPlacedLayer k says (layer.Text t) = stray_fault says.content t ≡ None

abbrev pub IsPlaced : Kind → Saying → Child → Type 0
IsPlaced k says c = IsPlacedLayer k says (out-Child c)

-- no more elements stand in a place than may
abbrev pub IsWithinMost : Kind → Saying → List Child → ℕ → Type 0
IsWithinMost k says kids i = IfSome (slice_index_or says.slots i no_slot).most (λ most. filled k says.slots i kids ≤ most)

-- the element is as the row says, where the elements in it are those of a net of this kind
pub record HasShape (k : Kind) (says : Saying) (e : Element) : Type 0 where
  pub attrs : AllByRecursion (λ a. attr_fault says.attrs a ≡ None) e.attrs
  pub lacks : AllByRecursion (λ r. lack_fault e.attrs r ≡ None) says.attrs
  pub text : text_fault says.content (own_text e.kids) ≡ None
  pub kids : AllByRecursion (IsPlaced k says) e.kids
  pub most : (i : ℕ) → IsWithinMost k says e.kids i
  pub least : (i : ℕ) (s : Slot) → slice_get says.slots i ≡ Some s → has_slot k s.fill ≡ true → s.least ≤ filled k says.slots i e.kids
