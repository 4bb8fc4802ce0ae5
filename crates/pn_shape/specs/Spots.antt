-- Which place of an element a kid stands in.
use Rattle.std.specs.Prelude.{ℕ, ◌+◌, Bool, false, ◌==◌, List, [], ◌∷◌, Option, None, Some, if◌then◌else◌}
use Rattle.std.specs.List.{list_any}
use Rattle.std.specs.Option.{option_map, option_or}
use Rattle.pn_operators.specs.declared.kind.Kind.{Kind}
use Rattle.pn_tree.specs.declared.element.Element.{Element}
use Rattle.pn_tree.specs.declared.element.Child.{Child}
use Rattle.pn_tree.specs.declared.element.Child.TheOpen as layer
use Rattle.pn_tree.specs.declared.element.Child.TheViews.{out-Child}
use Rattle.pn_shape.specs.Rules.{alternatives, is_had, is_named}
use Rattle.pn_shape.specs.declared.rule.Fill.{Fill}
use Rattle.pn_shape.specs.declared.rule.Slot.{Slot}
use Rattle.pn_shape.specs.declared.search.Spot.{Spot}
use Rattle.pn_shape.specs.declared.tag.Tag.{Tag}

-- the first of these elements that nets of this kind have and that has this name
abbrev pub first_named : Kind → List ℕ → List Tag → Option Tag
first_named k name [] = None
first_named k name (t ∷ ts) = if is_named k name t then Some t else first_named k name ts

-- which of the elements that fill a place the element of this name is
unfoldable pub tag_of : Kind → List ℕ → Fill → Option Tag
tag_of k name f = first_named k name (alternatives f)

-- whether nets of this kind have an element that fills a place
unfoldable pub has_slot : Kind → Fill → Bool
has_slot k f = list_any (is_had k) (alternatives f)

abbrev pub spot_at : ℕ → Tag → Spot
spot_at i t = record { place = i; tag = t }

-- the first of these places, numbered from i on, in which the element of this name may stand, and which element it is there
unfoldable pub spot_in : Kind → List ℕ → ℕ → List Slot → Option Spot
spot_in k name i [] = None
spot_in k name i (s ∷ slots) = option_or (option_map (spot_at i) (tag_of k name s.fill)) (spot_in k name (i + 1) slots)

abbrev pub is_at : ℕ → Option Spot → Bool
is_at i None = false
is_at i (Some s) = s.place == i

abbrev pub stands_layer : Kind → List Slot → ℕ → layer.Child-F Child Element → Bool
stands_layer k slots i (layer.Element e) = is_at i (spot_in k e.name 0 slots)
stands_layer k slots i (layer.Text t) = false

-- whether a kid stands in the place of this number
abbrev pub stands_in : Kind → List Slot → ℕ → Child → Bool
stands_in k slots i c = stands_layer k slots i (out-Child c)

-- how many of the kids stand in the place of this number
abbrev pub filled : Kind → List Slot → ℕ → List Child → ℕ
filled k slots i [] = 0
filled k slots i (c ∷ cs) = (if stands_in k slots i c then 1 else 0) + filled k slots i cs
