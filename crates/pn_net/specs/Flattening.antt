-- The flat net of a net: one page, no references (ISO/IEC 15909-2, pages and references).
use Rattle.std.specs.Prelude.{◌≡◌, ℕ, List, [], ◌∷◌, map, None, Some, if◌then◌else◌}
use Rattle.std.specs.List.{slice_get, AllZip}
use Rattle.std.specs.Option.{option_map, unwrap_or}
use Rattle.pn_objects.specs.declared.label.Head.{Head}
use Rattle.pn_objects.specs.declared.label.Label.{Label}
use Rattle.pn_objects.specs.declared.net.Net.{Net}
use Rattle.pn_objects.specs.declared.net.Page.{Page}
use Rattle.pn_objects.specs.declared.net.Page.TheViews.{out-Page, roll-Page}
use Rattle.pn_objects.specs.declared.object.Arc.{Arc}
use Rattle.pn_objects.specs.declared.object.Place.{Place}
use Rattle.pn_objects.specs.declared.object.Transition.{Transition}
use Rattle.pn_syntax.specs.declared.declaration.Declaration.{Declaration}
use Rattle.pn_net.specs.declared.flat.Flat.{Flat}
use Rattle.pn_net.specs.declared.flat.FlatArc.{FlatArc}
use Rattle.pn_net.specs.Ends.{Reaches}
use Rattle.pn_net.specs.Objects.{net_arcs, net_declarations, net_places, net_transitions}

-- declarations in one element `declaration`, with no other part; no such element where there are none
abbrev pub in_one : List Declaration → List (Label (List Declaration))
in_one [] = []
in_one (d ∷ ds) = record { value = d ∷ ds; text = None; opaque = []; at = 0 } ∷ []

-- a page with this id, head, places, transitions and arcs, and nothing else
abbrev pub page_of_objects : List ℕ → Head → List Place → List Transition → List Arc → Page
page_of_objects id head places transitions arcs = roll-Page (record {
  id = id;
  head = head;
  declarations = [];
  places = places;
  transitions = transitions;
  place_refs = [];
  transition_refs = [];
  arcs = arcs;
  pages = [];
  at = 0;
})

-- the second is the first arc, with the ids of its ends in place of the references that lead to them
pub record IsRewired (n : Net) (a b : Arc) : Type 0 where
  pub source : List ℕ
  pub target : List ℕ
  pub from : Reaches n a.source source
  pub to : Reaches n a.target target
  pub is : b ≡ record a { source = source; target = target }

-- the net of one page that has all declarations and objects of the net, and these arcs
abbrev pub on_one_page : Net → Page → List Arc → Net
on_one_page n page arcs = record {
  id = n.id;
  kind = n.kind;
  prefixes = n.prefixes;
  head = n.head;
  declarations = in_one (net_declarations n);
  pages = page_of_objects (out-Page page).id (out-Page page).head (net_places n) (net_transitions n) arcs ∷ [];
  at = 0;
}

-- the second is the flat net of the first, as a net: its page has the id and the head of the first page, and references are gone
pub record IsFlattened (n flat : Net) : Type 0 where
  pub page : Page
  pub is_first : slice_get n.pages 0 ≡ Some page
  pub arcs : List Arc
  pub rewired : AllZip (IsRewired n) (net_arcs n) arcs
  pub is : flat ≡ on_one_page n page arcs

-- the id of the place of this number in a flat net: empty where there is none
abbrev pub place_id : Flat → ℕ → List ℕ
place_id f i = unwrap_or (option_map (λ p. p.id) (slice_get f.places i)) []

-- the id of the transition of this number in a flat net: empty where there is none
abbrev pub transition_id : Flat → ℕ → List ℕ
transition_id f i = unwrap_or (option_map (λ t. t.id) (slice_get f.transitions i)) []

-- the id at which an arc begins
abbrev pub source_id : Flat → FlatArc → List ℕ
source_id f a = if a.into_place then transition_id f a.transition else place_id f a.place

-- the id at which an arc ends
abbrev pub target_id : Flat → FlatArc → List ℕ
target_id f a = if a.into_place then place_id f a.place else transition_id f a.transition

-- an arc that names the ids of its ends
abbrev pub arc_of_flat : Flat → FlatArc → Arc
arc_of_flat f a = record a.arc { source = source_id f a; target = target_id f a }

-- a flat net as a net of one page
abbrev pub net_of_flat : Flat → Net
net_of_flat f = record {
  id = f.id;
  kind = f.kind;
  prefixes = f.prefixes;
  head = f.head;
  declarations = in_one f.declarations;
  pages = page_of_objects f.page_id f.page_head f.places f.transitions (map (arc_of_flat f) f.arcs) ∷ [];
  at = 0;
}
