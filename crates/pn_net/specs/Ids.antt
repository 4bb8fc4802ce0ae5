-- Who has the ids of a document: the net, its pages and objects, its declarations, and the constants and elements in these (ISO/IEC 15909-2, ids).
use Rattle.std.specs.Prelude.{◌≡◌, ℕ, ◌≤◌, List, [], ◌∷◌, ◌++◌, map}
use Rattle.std.specs.List.{Contains, flat_map}
use Rattle.pn_names.specs.Names.{at_of, constants_of, id_of}
use Rattle.pn_objects.specs.declared.net.Net.{Net}
use Rattle.pn_objects.specs.declared.net.Page.TheOpen as layer
use Rattle.pn_objects.specs.declared.object.Arc.{Arc}
use Rattle.pn_objects.specs.declared.object.Place.{Place}
use Rattle.pn_objects.specs.declared.object.Reference.{Reference}
use Rattle.pn_objects.specs.declared.object.Transition.{Transition}
use Rattle.pn_resolve.specs.Standing.{elements_of}
use Rattle.pn_syntax.specs.declared.declaration.Constant.{Constant}
use Rattle.pn_syntax.specs.declared.declaration.Declaration.{Declaration}
use Rattle.pn_syntax.specs.declared.declaration.Declaration.TheVariants as declarations
use Rattle.pn_syntax.specs.declared.declaration.PartElement.{PartElement}
use Rattle.pn_net.specs.Objects.{in_pages, net_arcs, net_declarations, net_place_references, net_places, net_transition_references, net_transitions}

-- what an arc or a reference may want of an element that has an id; a reference has the id to which it refers
pub data Role : Type 0 where
  place : Role
  transition : Role
  place_reference : List ℕ → Role
  transition_reference : List ℕ → Role
  other : Role

-- an element that has an id, with its offset
pub record IdHolder : Type 0 where
  pub id : List ℕ
  pub at : ℕ
  pub role : Role

abbrev pub holder : List ℕ → ℕ → Role → IdHolder
holder id offset role = record { id = id; at = offset; role = role }

abbrev pub place_holder : Place → IdHolder
place_holder p = holder p.id p.at place

abbrev pub transition_holder : Transition → IdHolder
transition_holder t = holder t.id t.at transition

abbrev pub place_reference_holder : Reference → IdHolder
place_reference_holder r = holder r.id r.at (place_reference r.refers)

abbrev pub transition_reference_holder : Reference → IdHolder
transition_reference_holder r = holder r.id r.at (transition_reference r.refers)

abbrev pub arc_holder : Arc → IdHolder
arc_holder a = holder a.id a.at other

abbrev pub constant_holder : Constant → IdHolder
constant_holder c = holder c.id c.at other

abbrev pub element_holder : PartElement → IdHolder
element_holder e = holder e.id e.at other

-- the constants of an enumeration
abbrev pub constants_in : Declaration → List Constant
constants_in (declarations.Named id name body at) = constants_of body
constants_in (declarations.Variable id name sort at) = []
constants_in (declarations.Partition id name sort elements at) = []

-- a declaration, and the constants and elements in it
abbrev pub declaration_holders : Declaration → List IdHolder
declaration_holders d = holder (id_of d) (at_of d) other ∷ (map constant_holder (constants_in d) ++ map element_holder (elements_of d))

abbrev pub page_holder : {P : Type 0} → layer.Page-F P → IdHolder
page_holder p = holder p.id p.at other

-- all that have an id, kind by kind
abbrev pub holders_of : Net → List IdHolder
holders_of n =
    holder n.id n.at other ∷ (in_pages (λ p. page_holder p ∷ []) n ++ (flat_map declaration_holders (net_declarations n) ++ (map place_holder (net_places n)
    ++ (map transition_holder (net_transitions n) ++ (map place_reference_holder (net_place_references n) ++ (map transition_reference_holder (net_transition_references n)
    ++ map arc_holder (net_arcs n)))))))

-- the id names this holder: the first that has it, by the offsets
pub record NamesHolder (n : Net) (id : List ℕ) (h : IdHolder) : Type 0 where
  pub stands : Contains (holders_of n) h
  pub has_id : h.id ≡ id
  pub is_first : (other : IdHolder) → Contains (holders_of n) other → other.id ≡ id → h.at ≤ other.at
