-- Which faults stand in the tree of a document, phase by phase; all but that an initial marking has no value, of which those say more that know the values of terms.
use Rattle.std.specs.Prelude.{◌≡◌, ◌==◌, ◌&&◌, ℕ, zero, suc, Bool, not, List, [], ◌∷◌, Option, codes, if◌then◌else◌}
use Rattle.std.specs.List.{Contains, filter, find, flat_map}
use Rattle.std.specs.Option.{option_and_then, option_map, unwrap_or}
use Rattle.pn_faults.specs.declared.fault.Fault.{Fault}
use Rattle.pn_faults.specs.Order.{fault_at}
use Rattle.pn_faults.specs.Reasons.{number_of}
use Rattle.pn_shape.specs.Faults.{shape_faults}
use Rattle.pn_spelling.specs.Parts.{child_elements, child_named, has_name}
use Rattle.pn_spelling.specs.ReadNets.{is_opaque_part, net_of}
use Rattle.pn_tree.specs.Depth.{depth_of}
use Rattle.pn_tree.specs.declared.element.Element.{Element}
use Rattle.pn_net.specs.Links.{StandsInLinks}
use Rattle.pn_net.specs.Typing.{StandsInSorts, StandsInTyping}

-- the tree has no fault of shape, so that it spells a net
abbrev pub HasNoShapeFault : Element → Type 0
HasNoShapeFault tree = shape_faults tree ≡ []

-- and its net has no fault of ids and links
pub record HasSoundLinks (tree : Element) : Type 0 where
  pub spells : HasNoShapeFault tree
  pub links : (f : Fault) → StandsInLinks (net_of tree) f → ⊥

-- and no fault of sorts
pub record HasSoundNetSorts (tree : Element) : Type 0 where
  pub linked : HasSoundLinks tree
  pub sorts : (f : Fault) → StandsInSorts (net_of tree) f → ⊥

-- an element and those in it, down to so many levels, but for what stands in parts that are kept as they are
unfoldable pub elements_within : ℕ → Element → List Element
elements_within zero e = e ∷ []
elements_within (suc levels) e = e ∷ flat_map (elements_within levels) (filter (λ x. not (is_opaque_part x)) (child_elements e))

-- a constant of a range, at this offset
abbrev pub is_constant_at : ℕ → Element → Bool
is_constant_at offset e = has_name (codes "finiteintrangeconstant") e && (e.at == offset)

-- the offset of the range in the constant at this offset, where there is one
abbrev pub range_offset : Element → ℕ → Option ℕ
range_offset tree offset = option_map (λ x. x.at) (option_and_then (child_named (codes "finiteintrange")) (find (is_constant_at offset) (elements_within (depth_of tree) tree)))

-- a fault of sorts as it is told of a document: an empty range of a constant, which the net has at the constant, at the range
abbrev pub told_in : Element → Fault → Fault
told_in tree f = if number_of f.reason == 20 then fault_at f.reason (unwrap_or (range_offset tree f.at) f.at) f.detail else f

-- the tree has this fault; a later phase is asked only where no fault of an earlier one stands
pub data StandsInTree (tree : Element) : Fault → Type 0 where
  shape : (f : Fault) → Contains (shape_faults tree) f → StandsInTree tree f
  links : (f : Fault) → HasNoShapeFault tree → StandsInLinks (net_of tree) f → StandsInTree tree f
  sorts : (f g : Fault) → HasSoundLinks tree → StandsInSorts (net_of tree) g → f ≡ told_in tree g → StandsInTree tree f
  typing : (f : Fault) → HasSoundNetSorts tree → StandsInTyping (net_of tree) f → StandsInTree tree f

-- no fault stands in the tree, but that an initial marking may have no value
abbrev pub IsWellTyped : Element → Type 0
IsWellTyped tree = (f : Fault) → StandsInTree tree f → ⊥
