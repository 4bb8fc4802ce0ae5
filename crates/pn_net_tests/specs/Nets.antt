-- The nets of small documents, as they spell them.
use Rattle.std.specs.Prelude.{ℕ, List, [], ◌∷◌, codes, None}
use Rattle.pn_objects.specs.declared.label.Head.{Head}
use Rattle.pn_objects.specs.declared.net.Net.{Net}
use Rattle.pn_objects.specs.declared.net.Page.TheOpen as layer
use Rattle.pn_objects.specs.declared.net.Page.TheViews.{roll-Page}
use Rattle.pn_objects.specs.declared.object.Arc.{Arc}
use Rattle.pn_objects.specs.declared.object.Place.{Place}
use Rattle.pn_objects.specs.declared.object.Reference.{Reference}
use Rattle.pn_operators.specs.declared.kind.Kind.TheVariants as kinds

abbrev pub no_head : Head
no_head = record { name = None; opaque = [] }

abbrev pub place : List ℕ → ℕ → Place
place id offset = record { id = id; head = no_head; marking = None; sort = None; hl_marking = None; at = offset }

abbrev pub reference : List ℕ → List ℕ → ℕ → Reference
reference id refers offset = record { id = id; head = no_head; refers = refers; at = offset }

abbrev pub arc : List ℕ → List ℕ → List ℕ → ℕ → Arc
arc id source target offset = record { id = id; head = no_head; source = source; target = target; weight = None; inscription = None; at = offset }

-- a page `g` at 126, with the pages in it
abbrev pub page : {P : Type 0} → List P → List Place → List Reference → List Arc → layer.Page-F P
page pages places references arcs = record {
  id = codes "g";
  head = no_head;
  declarations = [];
  places = places;
  transitions = [];
  place_refs = references;
  transition_refs = [];
  arcs = arcs;
  pages = pages;
  at = 126;
}

-- a place/transition net `n` at 60 with one page
abbrev pub net : List Place → List Reference → List Arc → Net
net places references arcs = record {
  id = codes "n";
  kind = kinds.PtNet;
  prefixes = [];
  head = no_head;
  declarations = [];
  pages = roll-Page (page [] places references arcs) ∷ [];
  at = 60;
}

-- an arc from a place to a reference that refers to another place
abbrev pub arc_between_places : Net
arc_between_places = net (place (codes "a") 139 ∷ place (codes "b") 154 ∷ []) (reference (codes "r") (codes "b") 169 ∷ []) (arc (codes "u") (codes "a") (codes "r") 201 ∷ [])

-- two references that refer to each other
abbrev pub references_in_a_ring : Net
references_in_a_ring = net [] (reference (codes "r") (codes "s") 139 ∷ reference (codes "s") (codes "r") 171 ∷ []) []

-- two places with one id
abbrev pub places_of_one_id : Net
places_of_one_id = net (place (codes "a") 139 ∷ place (codes "a") 208 ∷ []) [] []
