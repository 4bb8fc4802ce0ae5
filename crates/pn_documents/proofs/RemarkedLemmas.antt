-- A flat net whose places have other initial markings: it is its own flat net, and has no fault of ids and links.
use Rattle.std.proofs.Common.{◌≡◌, inl, inr, ◌<◌, ℕ, Bool, true, false, cond, List, [], ◌∷◌, ◌++◌, append-nil, map, length, Option, None, Some, refl, sym, ap, ◌∙◌, subst}
use Rattle.std.specs.List.{AllZip, Contains, flat_map, slice_get}
use Rattle.std.specs.Option.{option_map, unwrap_or}
use Rattle.std.proofs.lemmas.Option.{slice_get-map}
use Rattle.std.proofs.lemmas.Simd.{map-map}
use Rattle.pn_checks.proofs.FlatLemmas.{flat_arcs, flat_places, flat_transitions, one_declared, one_page}
use Rattle.pn_checks.proofs.UniqueLemmas.{HasSound}
use Rattle.pn_facts.proofs.Contained.{contains_first, contains_next, contains_nil}
use Rattle.pn_facts.proofs.Lists.{got}
use Rattle.pn_net.specs.Ends.{Reaches, at_place, at_transition, place, transition}
use Rattle.pn_net.specs.Flattening.{IsFlattened, IsRewired, arc_of_flat, in_one, net_of_flat, page_of_objects, place_id, transition_id}
use Rattle.pn_net.specs.Ids.{IdHolder, NamesHolder, arc_holder, declaration_holders, holder, holders_of, page_holder, place_holder, place_reference_holder, transition_holder, transition_reference_holder}
use Rattle.pn_net.specs.Ids as ids
use Rattle.pn_net.specs.Links.{IsDuplicateAmong, IsOnSide, IsReference, NamesNoNode, Side, StandsInLinks, duplicate_id, reference_cycle, unknown_end, wrong_end}
use Rattle.pn_net.specs.Links as links
use Rattle.pn_net.specs.Objects.{declared_by, in_pages, net_arcs, net_declarations, net_place_references, net_places, net_transition_references, net_transitions}
use Rattle.pn_net.specs.Typed.{IsWired}
use Rattle.pn_net.specs.declared.flat.Flat.{Flat}
use Rattle.pn_net.specs.declared.flat.FlatArc.{FlatArc}
use Rattle.pn_objects.specs.declared.net.Net.{Net}
use Rattle.pn_objects.specs.declared.net.Page.{Page}
use Rattle.pn_objects.specs.declared.net.Page.TheOpen as layer
use Rattle.pn_objects.specs.declared.net.Page.TheViews.{out-roll-Page}
use Rattle.pn_objects.specs.declared.object.Arc.{Arc}
use Rattle.pn_objects.specs.declared.object.Place.{Place}
use Rattle.pn_objects.specs.declared.object.Reference.{Reference}
use Rattle.pn_objects.specs.declared.object.Transition.{Transition}
use Rattle.pn_flat_laws.proofs.AlikeNetLemmas.{same_length}
use Rattle.pn_marked.specs.Marked.{net_with_places}
use Rattle.pn_pages.proofs.GatherLemmas.{own_layer}

-- ---- what a flat net has as a net

module _ (f : Flat) where
  abbrev pub own : Net
  own = net_of_flat f

  abbrev pub own_page : Page
  own_page = page_of_objects f.page_id f.page_head f.places f.transitions (map (arc_of_flat f) f.arcs)

  abbrev pub own_page_layer : layer.Page-F Page
  own_page_layer = record {
    id = f.page_id;
    head = f.page_head;
    declarations = [];
    places = f.places;
    transitions = f.transitions;
    place_refs = [];
    transition_refs = [];
    arcs = map (arc_of_flat f) f.arcs;
    pages = [];
    at = 0;
  }

  -- the one page alone tells of what stands in it
  page_alone : {A : Type 0} (tell : layer.Page-F (List A) → List A) → in_pages tell own ≡ tell (own_layer tell own_page)
  page_alone tell = one_page tell own_page (ap (λ (l : layer.Page-F Page). l.pages) (out-roll-Page _))

  pub own_declarations : net_declarations own ≡ f.declarations
  own_declarations =
      ap (λ ds. declared_by (in_one f.declarations) ++ ds) (page_alone (λ p. declared_by p.declarations) ∙ ap (λ (l : layer.Page-F Page). declared_by l.declarations) (out-roll-Page _))
      ∙ append-nil (declared_by (in_one f.declarations)) ∙ one_declared f.declarations

  pub own_place_references : net_place_references own ≡ []
  own_place_references = page_alone (λ p. p.place_refs) ∙ ap (λ (l : layer.Page-F Page). l.place_refs) (out-roll-Page _)

  pub own_transition_references : net_transition_references own ≡ []
  own_transition_references = page_alone (λ p. p.transition_refs) ∙ ap (λ (l : layer.Page-F Page). l.transition_refs) (out-roll-Page _)

  own_page_holder : in_pages (λ p. page_holder p ∷ []) own ≡ holder f.page_id 0 ids.other ∷ []
  own_page_holder = page_alone (λ p. page_holder p ∷ []) ∙ ap (λ (l : layer.Page-F Page). page_holder l ∷ []) (out-roll-Page _)

  -- all that have an id
  abbrev own_holders : List IdHolder
  own_holders =
      holder f.id 0 ids.other ∷ ((holder f.page_id 0 ids.other ∷ []) ++ (flat_map declaration_holders f.declarations ++ (map place_holder f.places
      ++ (map transition_holder f.transitions ++ ([] ++ ([] ++ map arc_holder (map (arc_of_flat f) f.arcs)))))))

  holders_are : holders_of own ≡ own_holders
  holders_are = λ i. holder f.id 0 ids.other ∷ (own_page_holder i ++ (flat_map declaration_holders (own_declarations i) ++ (map place_holder (flat_places f i)
      ++ (map transition_holder (flat_transitions f i) ++ (map place_reference_holder (own_place_references i) ++ (map transition_reference_holder (own_transition_references i)
      ++ map arc_holder (flat_arcs f i)))))))

  pub no_own_reference : (r : Reference) → IsReference own r → ⊥
  no_own_reference r (inl c) = contains_nil r (subst (λ rs. Contains rs r) own_place_references c)
  no_own_reference r (inr c) = contains_nil r (subst (λ rs. Contains rs r) own_transition_references c)

  -- ---- it is its own flat net

  module _ (wired : (a : FlatArc) → Contains f.arcs a → IsWired f a) where
    reaches_place : (i : ℕ) → i < length f.places → Reaches own (place_id f i) (place_id f i)
    reaches_place i below =
        let p = got f.places i below in
        let there : slice_get (net_places own) i ≡ Some p.0 = ap (λ ps. slice_get ps i) (flat_places f) ∙ p.1 in
        let has : place_id f i ≡ p.0.id = ap (λ o. unwrap_or (option_map (λ (x : Place). x.id) o) []) p.1 in
        (place i, at_place (place_id f i) (place i) i p.0 there (sym has) refl, ap (option_map (λ (x : Place). x.id)) there ∙ ap Some (sym has))

    reaches_transition : (i : ℕ) → i < length f.transitions → Reaches own (transition_id f i) (transition_id f i)
    reaches_transition i below =
        let t = got f.transitions i below in
        let there : slice_get (net_transitions own) i ≡ Some t.0 = ap (λ ts. slice_get ts i) (flat_transitions f) ∙ t.1 in
        let has : transition_id f i ≡ t.0.id = ap (λ o. unwrap_or (option_map (λ (x : Transition). x.id) o) []) t.1 in
        (transition i, at_transition (transition_id f i) (transition i) i t.0 there (sym has) refl, ap (option_map (λ (x : Transition). x.id)) there ∙ ap Some (sym has))

    reaches_by : (b : Bool) (i j : ℕ) → i < length f.places → j < length f.transitions → Reaches own (cond b (transition_id f j) (place_id f i)) (cond b (transition_id f j) (place_id f i))
    reaches_by true i j place_below below = reaches_transition j below
    reaches_by false i j below transition_below = reaches_place i below

    reaches_into : (b : Bool) (i j : ℕ) → i < length f.places → j < length f.transitions → Reaches own (cond b (place_id f i) (transition_id f j)) (cond b (place_id f i) (transition_id f j))
    reaches_into true i j below transition_below = reaches_place i below
    reaches_into false i j place_below below = reaches_transition j below

    arc_stays : (a : FlatArc) → IsWired f a → IsRewired own (arc_of_flat f a) (arc_of_flat f a)
    arc_stays a is = record {
      source = (arc_of_flat f a).source;
      target = (arc_of_flat f a).target;
      from = reaches_by a.into_place a.place a.transition is.place is.transition;
      to = reaches_into a.into_place a.place a.transition is.place is.transition;
      is = refl;
    }

    arcs_stay : (all : List FlatArc) → ((a : FlatArc) → Contains all a → IsWired f a) → AllZip (IsRewired own) (map (arc_of_flat f) all) (map (arc_of_flat f) all)
    arcs_stay [] each = tt
    arcs_stay (a ∷ all) each = (arc_stays a (each a (contains_first a all)), arcs_stay all (λ b c. each b (contains_next a all b c)))

    pub own_flat : IsFlattened own own
    own_flat = record {
      page = own_page;
      is_first = refl;
      arcs = map (arc_of_flat f) f.arcs;
      rewired = subst (λ arcs. AllZip (IsRewired own) arcs (map (arc_of_flat f) f.arcs)) (sym (flat_arcs f)) (arcs_stay f.arcs wired);
      is = λ i. record own {
        declarations = in_one (sym own_declarations i);
        pages = page_of_objects (sym (out-roll-Page own_page_layer) i).id (sym (out-roll-Page own_page_layer) i).head (sym (flat_places f) i) (sym (flat_transitions f) i) (map (arc_of_flat f) f.arcs) ∷ [];
      };
    }

-- ---- other places with the same ids

-- a place without its initial marking
abbrev pub unmark : Place → Place
unmark p = record p { marking = None; hl_marking = None }

-- the flat net with these places
abbrev pub with_places : Flat → List Place → Flat
with_places f ps = record f { places = ps }

module _ (f : Flat) (ps : List Place) (same : map unmark ps ≡ map unmark f.places) where
  abbrev g : Flat
  g = with_places f ps

  pub ids_same : (i : ℕ) → place_id g i ≡ place_id f i
  ids_same i = ap (λ o. unwrap_or o []) (told ps ∙ ap (λ qs. option_map (λ (p : Place). p.id) (slice_get qs i)) same ∙ sym (told f.places))
    where
      told : (qs : List Place) → option_map (λ (p : Place). p.id) (slice_get qs i) ≡ option_map (λ (p : Place). p.id) (slice_get (map unmark qs) i)
      told qs = blind (slice_get qs i) ∙ ap (option_map (λ (p : Place). p.id)) (sym (slice_get-map unmark qs i))
        where
          blind : (o : Option Place) → option_map (λ (p : Place). p.id) o ≡ option_map (λ (p : Place). p.id) (option_map unmark o)
          blind None = refl
          blind (Some p) = refl

  arc_same : (a : FlatArc) → arc_of_flat g a ≡ arc_of_flat f a
  arc_same a = λ i. record a.arc { source = cond a.into_place (transition_id f a.transition) (ids_same a.place i); target = cond a.into_place (ids_same a.place i) (transition_id f a.transition) }

  pub arcs_same : (all : List FlatArc) → map (arc_of_flat g) all ≡ map (arc_of_flat f) all
  arcs_same [] = refl
  arcs_same (a ∷ all) = λ i. arc_same a i ∷ arcs_same all i

  pub net_same : net_of_flat g ≡ net_with_places f ps
  net_same = λ i. record (net_of_flat f) { pages = page_of_objects f.page_id f.page_head ps f.transitions (arcs_same f.arcs i) ∷ [] }

  pub wired_same : (a : FlatArc) → IsWired f a → IsWired g a
  wired_same a is = record {
    place = subst (λ n. a.place < n) (sym (same_length unmark ps f.places same)) is.place;
    transition = is.transition;
    source = is.source ∙ sym (ap (λ (x : Arc). x.source) (arc_same a));
    target = is.target ∙ sym (ap (λ (x : Arc). x.target) (arc_same a));
  }

  place_holders_same : map place_holder ps ≡ map place_holder f.places
  place_holders_same = told ps ∙ ap (map place_holder) same ∙ sym (told f.places)
    where
      told : (qs : List Place) → map place_holder qs ≡ map place_holder (map unmark qs)
      told qs = sym (map-map place_holder unmark qs)

  holders_same : holders_of (net_of_flat g) ≡ holders_of (net_of_flat f)
  holders_same =
      holders_are g
      ∙ (λ i. holder f.id 0 ids.other ∷ ((holder f.page_id 0 ids.other ∷ []) ++ (flat_map declaration_holders f.declarations ++ (place_holders_same i
      ++ (map transition_holder f.transitions ++ ([] ++ ([] ++ map arc_holder (arcs_same f.arcs i))))))))
      ∙ sym (holders_are f)

  pub own_arcs_same : net_arcs (net_of_flat g) ≡ net_arcs (net_of_flat f)
  own_arcs_same = flat_arcs g ∙ arcs_same f.arcs ∙ sym (flat_arcs f)

  names_there : (id : List ℕ) (h : IdHolder) → NamesHolder (net_of_flat g) id h → NamesHolder (net_of_flat f) id h
  names_there id h is = record {
    stands = subst (λ hs. Contains hs h) holders_same is.stands;
    has_id = is.has_id;
    is_first = λ x c. is.is_first x (subst (λ hs. Contains hs x) (sym holders_same) c);
  }

  names_here : (id : List ℕ) (h : IdHolder) → NamesHolder (net_of_flat f) id h → NamesHolder (net_of_flat g) id h
  names_here id h is = record {
    stands = subst (λ hs. Contains hs h) (sym holders_same) is.stands;
    has_id = is.has_id;
    is_first = λ x c. is.is_first x (subst (λ hs. Contains hs x) holders_same c);
  }

  side_there : (id : List ℕ) (s : Side) → IsOnSide (net_of_flat g) id s → IsOnSide (net_of_flat f) id s
  side_there id s (h, names, is) = (h, names_there id h names, is)

  none_there : (id : List ℕ) → NamesNoNode (net_of_flat g) id → NamesNoNode (net_of_flat f) id
  none_there id none s (h, names, is) = none s (h, names_here id h names, is)

  arc_there : (a : Arc) → Contains (net_arcs (net_of_flat g)) a → Contains (net_arcs (net_of_flat f)) a
  arc_there a c = subst (λ arcs. Contains arcs a) own_arcs_same c

  -- no fault of ids and links stands in it where none stands in the other
  pub links_same : HasSound (net_of_flat f) → HasSound (net_of_flat g)
  links_same sound x (duplicate_id _ d) = sound x (duplicate_id x (subst (λ hs. IsDuplicateAmong hs x) holders_same d))
  links_same sound x (unknown_end _ (links.source _ a c none is)) = sound x (unknown_end x (links.source x a (arc_there a c) (none_there a.source none) is))
  links_same sound x (unknown_end _ (links.target _ a s c on none is)) = sound x (unknown_end x (links.target x a s (arc_there a c) (side_there a.source s on) (none_there a.target none) is))
  links_same sound x (unknown_end _ (links.reference _ r stands none is)) = no_own_reference g r stands
  links_same sound x (wrong_end _ (links.arc _ a s c on to is)) = sound x (wrong_end x (links.arc x a s (arc_there a c) (side_there a.source s on) (side_there a.target s to) is))
  links_same sound x (wrong_end _ (links.to_place _ r c on is)) = no_own_reference g r (inl c)
  links_same sound x (wrong_end _ (links.to_transition _ r c on is)) = no_own_reference g r (inr c)
  links_same sound x (reference_cycle _ d) = no_own_reference g d.reference d.stands
