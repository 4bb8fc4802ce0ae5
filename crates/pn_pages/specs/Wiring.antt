-- Arcs of flat nets, by where their ends lead.
use Rattle.std.specs.Prelude.{◌≡◌, ◌<◌, ℕ, Bool, true, false, List, [], ◌∷◌, length, Option, None, Some, if◌then◌else◌}
use Rattle.std.specs.List.{AllZip, slice_get}
use Rattle.std.specs.Option.{option_map, unwrap_or}
use Rattle.pn_faults.specs.declared.fault.Fault.{Fault}
use Rattle.pn_net.specs.Ends.{ReachesEnd}
use Rattle.pn_net.specs.Ends as ends
use Rattle.pn_net.specs.Links.{StandsInLinks}
use Rattle.pn_net.specs.Objects.{net_arcs, net_places, net_transitions}
use Rattle.pn_net.specs.declared.flat.FlatArc.{FlatArc}
use Rattle.pn_objects.specs.declared.net.Net.{Net}
use Rattle.pn_objects.specs.declared.object.Arc.{Arc}
use Rattle.pn_objects.specs.declared.object.Place.{Place}
use Rattle.pn_objects.specs.declared.object.Transition.{Transition}
use Rattle.pn_pages.specs.declared.ends.Ends.{Ends}
use Rattle.pn_pages.specs.declared.follow.Goal.{Goal}
use Rattle.pn_pages.specs.declared.names.Node.{Node}
use Rattle.pn_pages.specs.declared.names.Node.TheVariants as nodes
use Rattle.pn_pages.specs.declared.numbered.Objects.{Objects}
use Rattle.pn_pages.specs.declared.wiring.Wire.{Wire}
use Rattle.pn_pages.specs.Linking.{is_of_places, node_side}
use Rattle.pn_pages.specs.Sides.{HoldsAll}

-- the number to which a reference leads: 0 where there is none
abbrev pub goal_number : Option Goal → ℕ
goal_number None = 0
goal_number (Some g) = unwrap_or g.end 0

-- the number of the place or transition that a node is, or to which it leads
abbrev pub end_number : List Goal → Option Node → ℕ
end_number goals None = 0
end_number goals (Some (nodes.Place i)) = i
end_number goals (Some (nodes.Transition i)) = i
end_number goals (Some (nodes.Reference k)) = goal_number (slice_get goals k)
end_number goals (Some nodes.Other) = 0

-- whether a node is on the side of places
abbrev pub is_at_places : ℕ → Option Node → Bool
is_at_places place_refs node = unwrap_or (option_map is_of_places (node_side place_refs node)) false

abbrev pub wire_by : Bool → ℕ → ℕ → Wire
wire_by true source target = record { place = source; transition = target; into_place = false }
wire_by false source target = record { place = target; transition = source; into_place = true }

-- what an arc with these ends joins
abbrev pub wire_of : ℕ → List Goal → Ends → Wire
wire_of place_refs goals e = wire_by (is_at_places place_refs e.source) (end_number goals e.source) (end_number goals e.target)

-- the ids of the place and of the transition of these numbers: empty where there is none
abbrev pub id_of_place : List Place → ℕ → List ℕ
id_of_place places i = unwrap_or (option_map (λ p. p.id) (slice_get places i)) []

abbrev pub id_of_transition : List Transition → ℕ → List ℕ
id_of_transition transitions i = unwrap_or (option_map (λ t. t.id) (slice_get transitions i)) []

-- an arc that joins this place and this transition, and names their ids
abbrev pub flat_arc_of : List Place → List Transition → Arc → Wire → FlatArc
flat_arc_of places transitions a w = record {
  arc = record a {
    source = if w.into_place then id_of_transition transitions w.transition else id_of_place places w.place;
    target = if w.into_place then id_of_place places w.place else id_of_transition transitions w.transition;
  };
  place = w.place;
  transition = w.transition;
  into_place = w.into_place;
}

-- arcs, each by what it joins
abbrev pub flat_arcs : List Place → List Transition → List Arc → List Wire → List FlatArc
flat_arcs places transitions [] ws = []
flat_arcs places transitions (a ∷ arcs) [] = []
flat_arcs places transitions (a ∷ arcs) (w ∷ ws) = flat_arc_of places transitions a w ∷ flat_arcs places transitions arcs ws

-- the arc joins these by the references of the net
pub record IsWire (n : Net) (a : Arc) (w : Wire) : Type 0 where
  pub place : w.place < length (net_places n)
  pub transition : w.transition < length (net_transitions n)
  pub source : ReachesEnd n a.source (if w.into_place then ends.transition w.transition else ends.place w.place)
  pub target : ReachesEnd n a.target (if w.into_place then ends.place w.place else ends.transition w.transition)

-- the objects are those of a net of this id at this offset
pub record AreOfNet (n : Net) (own_id : List ℕ) (offset : ℕ) (o : Objects) : Type 0 where
  pub id : n.id ≡ own_id
  pub at : n.at ≡ offset
  pub holds : HoldsAll n.declarations n.pages o

-- no fault of ids and links stands, and this is what the arcs join
pub record AreLinked (n : Net) (wires : List Wire) : Type 0 where
  pub sound : (f : Fault) → StandsInLinks n f → ⊥
  pub wired : AllZip (IsWire n) (net_arcs n) wires
