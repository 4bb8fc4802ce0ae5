-- What a net has that is the same but for offsets as the flat net of a net: its declarations, its places and transitions, and its arcs with their ends in place of references.
use Rattle.std.proofs.Common.{◌≡◌, ◌⊎◌, inl, inr, List, [], ◌∷◌, ◌++◌, map, sym, ap, ◌∙◌, subst, refl, append-nil}
use Rattle.std.specs.List.{AllZip, Contains, flat_map}
use Rattle.std.proofs.lemmas.List.{map-append}
use Rattle.pn_checks.proofs.FlatLemmas.{one_declared, one_page}
use Rattle.pn_facts.proofs.Contained.{contains_cases, contains_first, contains_next, contains_nil}
use Rattle.pn_net.proofs.AlikeLemmas.{alike_contains}
use Rattle.pn_net.specs.Flattening.{IsFlattened, IsRewired, in_one, on_one_page}
use Rattle.pn_net.specs.Objects.{declared_by, in_page, in_pages, net_arcs, net_declarations, net_place_references, net_places, net_transition_references, net_transitions}
use Rattle.pn_objects.specs.Offsets.{IsSameNet, arc_without_offsets, declarations_without_offsets, net_without_offsets, page_without_offsets, place_without_offsets, reference_without_offsets, transition_without_offsets}
use Rattle.pn_objects.specs.declared.label.Label.{Label}
use Rattle.pn_objects.specs.declared.net.Net.{Net}
use Rattle.pn_objects.specs.declared.net.Page.{Page}
use Rattle.pn_objects.specs.declared.net.Page.TheOpen as layer
use Rattle.pn_objects.specs.declared.net.Page.TheViews.{out-Page, out-roll-Page, roll-Page}
use Rattle.pn_objects.specs.declared.object.Arc.{Arc}
use Rattle.pn_pages.proofs.GatherLemmas.{own_layer}
use Rattle.pn_round_trip.proofs.PageLaws.{bare_page_is, bare_page_layer}
use Rattle.pn_syntax.specs.Offsets.{declaration_without_offsets}
use Rattle.pn_syntax.specs.declared.declaration.Declaration.{Declaration}

-- what a net of one page without subpages has
in_only_page : {A : Type 0} (own : layer.Page-F (List A) → List A) (w : Net) (q : Page) → w.pages ≡ q ∷ [] → (out-Page q).pages ≡ [] → in_pages own w ≡ own (own_layer own q)
in_only_page own w q only none = ap (flat_map (in_page own)) only ∙ one_page own q none

-- the page of which alone there is something that is the same as this one
page_alone : (qs : List Page) (x : Page) → map page_without_offsets qs ≡ x ∷ [] → (q : Page) × (qs ≡ q ∷ []) × (page_without_offsets q ≡ x)
page_alone [] x is = absurd cc
page_alone (q ∷ []) x is = (q, refl, cc)
page_alone (q ∷ r ∷ qs) x is = absurd cc

none_mapped : {A B : Type 0} (f : A → B) (xs : List A) → map f xs ≡ [] → xs ≡ []
none_mapped f [] is = refl
none_mapped f (x ∷ xs) is = absurd cc

declared_bare : (ls : List (Label (List Declaration))) → declared_by (map declarations_without_offsets ls) ≡ map declaration_without_offsets (declared_by ls)
declared_bare [] = refl
declared_bare (l ∷ ls) = ap (λ ds. map declaration_without_offsets l.value ++ ds) (declared_bare ls) ∙ sym (map-append declaration_without_offsets l.value (declared_by ls))

rewired_from : (n : Net) (olds bs : List Arc) (b : Arc) → AllZip (IsRewired n) olds bs → Contains bs b → (a : Arc) × Contains olds a × IsRewired n a b
rewired_from n [] [] b z c = absurd (contains_nil b c)
rewired_from n [] (y ∷ bs) b z c = absurd z
rewired_from n (x ∷ olds) [] b z c = absurd z
rewired_from n (x ∷ olds) (y ∷ bs) b z c = step (contains_cases y bs b c) (rewired_from n olds bs b z.1)
  where
    step : (y ≡ b) ⊎ Contains bs b → (Contains bs b → (o : Arc) × Contains olds o × IsRewired n o b) → (a : Arc) × Contains (x ∷ olds) a × IsRewired n a b
    step (inl here) more = (x, contains_first x olds, subst (IsRewired n x) here z.0)
    step (inr there) more = let found = more there in (found.0, contains_next x olds found.0 found.1, found.2)

-- an arc of the net is that of the other net which names where references lead
pub record IsSameArc (n : Net) (a c : Arc) : Type 0 where
  pub wired : Arc
  pub rewired : IsRewired n a wired
  pub alike : arc_without_offsets c ≡ arc_without_offsets wired

module _ (n flat w : Net) (p : IsFlattened n flat) (alike : IsSameNet w flat) where
  pub is_one_page : net_without_offsets w ≡ net_without_offsets (on_one_page n p.page p.arcs)
  is_one_page = alike ∙ ap net_without_offsets p.is

  abbrev pub only_layer : layer.Page-F Page
  only_layer = record {
    id = (out-Page p.page).id;
    head = (out-Page p.page).head;
    declarations = [];
    places = net_places n;
    transitions = net_transitions n;
    place_refs = [];
    transition_refs = [];
    arcs = p.arcs;
    pages = [];
    at = 0;
  }

  pub whole : (q : Page) × (w.pages ≡ q ∷ []) × (page_without_offsets q ≡ page_without_offsets (roll-Page only_layer))
  whole = page_alone w.pages (page_without_offsets (roll-Page only_layer)) (ap (λ m. m.pages) is_one_page)

  abbrev pub only : layer.Page-F Page
  only = out-Page whole.0

  pub layers : bare_page_layer only ≡ bare_page_layer only_layer
  layers =
      sym (out-roll-Page (bare_page_layer only)) ∙ ap out-Page (sym (bare_page_is whole.0) ∙ whole.2 ∙ bare_page_is (roll-Page only_layer))
      ∙ out-roll-Page (bare_page_layer (out-Page (roll-Page only_layer))) ∙ ap bare_page_layer (out-roll-Page only_layer)

  pub in_w : {A : Type 0} (own : layer.Page-F (List A) → List A) → in_pages own w ≡ own (own_layer own whole.0)
  in_w own = in_only_page own w whole.0 whole.1 (none_mapped page_without_offsets only.pages (ap (λ l. l.pages) layers))

  pub places_alike : map place_without_offsets (net_places w) ≡ map place_without_offsets (net_places n)
  places_alike = ap (map place_without_offsets) (in_w (λ l. l.places)) ∙ ap (λ l. l.places) layers

  pub transitions_alike : map transition_without_offsets (net_transitions w) ≡ map transition_without_offsets (net_transitions n)
  transitions_alike = ap (map transition_without_offsets) (in_w (λ l. l.transitions)) ∙ ap (λ l. l.transitions) layers

  pub arcs_alike : map arc_without_offsets (net_arcs w) ≡ map arc_without_offsets p.arcs
  arcs_alike = ap (map arc_without_offsets) (in_w (λ l. l.arcs)) ∙ ap (λ l. l.arcs) layers

  pub no_place_references : net_place_references w ≡ []
  no_place_references = in_w (λ l. l.place_refs) ∙ none_mapped reference_without_offsets only.place_refs (ap (λ l. l.place_refs) layers)

  pub no_transition_references : net_transition_references w ≡ []
  no_transition_references = in_w (λ l. l.transition_refs) ∙ none_mapped reference_without_offsets only.transition_refs (ap (λ l. l.transition_refs) layers)

  pub declared_alike : map declaration_without_offsets (net_declarations w) ≡ map declaration_without_offsets (net_declarations n)
  declared_alike =
      ap (λ ds. map declaration_without_offsets (declared_by w.declarations ++ ds))
      (in_w (λ l. declared_by l.declarations) ∙ ap declared_by (none_mapped declarations_without_offsets only.declarations (ap (λ l. l.declarations) layers)))
      ∙ ap (map declaration_without_offsets) (append-nil (declared_by w.declarations))
      ∙ sym (declared_bare w.declarations) ∙ ap (λ m. declared_by m.declarations) is_one_page ∙ declared_bare (in_one (net_declarations n)) ∙ ap (map declaration_without_offsets) (one_declared (net_declarations n))

  -- each arc of the other net comes from one of the net
  pub arc_from : (c : Arc) → Contains (net_arcs w) c → (a : Arc) × Contains (net_arcs n) a × IsSameArc n a c
  arc_from c has =
      let there = alike_contains arc_without_offsets (net_arcs w) p.arcs c arcs_alike has in
      let from = rewired_from n (net_arcs n) p.arcs there.0 p.rewired there.1 in
      (from.0, from.1, record { wired = there.0; rewired = from.2; alike = there.2 })
