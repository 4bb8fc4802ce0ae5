-- A flat net without faults has none with other initial markings that fit their places.
use Rattle.std.proofs.Common.{◌≡◌, ◌⊎◌, inl, inr, ℕ, List, [], ◌∷◌, ◌++◌, map, Option, None, Some, refl, sym, ap, ◌∙◌, subst}
use Rattle.std.specs.List.{Contains, cons_option, filter_map, slice_get}
use Rattle.std.proofs.lemmas.List.Elements.{Contains-append_cases, Contains-append_right}
use Rattle.pn_checks.proofs.FlatLemmas.{flat_places, flat_transitions}
use Rattle.pn_checks.proofs.KeptLemmas.{sorts_kept, typing_kept, values_kept}
use Rattle.pn_checks.proofs.ValueLemmas.{place_sort_once}
use Rattle.pn_checks.specs.NoValue.{AreOfSort, HasNoVariable, IsNoValue, SaysMultiset}
use Rattle.pn_facts.proofs.Contained.{contains_cases, contains_first, contains_next, contains_nil}
use Rattle.pn_faults.specs.declared.fault.Fault.{Fault}
use Rattle.pn_net.proofs.AlikeLemmas.{alike_get}
use Rattle.pn_net.specs.Ends.{End, IsPlaceOfArc, ReachesEnd, at_place, at_transition, by_reference, place}
use Rattle.pn_net.specs.Flattening.{IsFlattened, net_of_flat}
use Rattle.pn_net.specs.Labels.{IsPlaceSort, condition_terms, inscription_terms, marking_terms, net_terms, said, type_exprs}
use Rattle.pn_net.specs.Objects.{net_arcs, net_declarations, net_places, net_transitions}
use Rattle.pn_net.specs.Typing.{HasEmptyConstantRange, IsNoCondition, IsNoInscription, IsNoMarking, IsNotGround, StandsInSorts, StandsInTyping, declared, not_ground, of_condition, of_constant, of_inscription, of_marking, of_type}
use Rattle.pn_net.specs.Typing as typing
use Rattle.pn_net.specs.declared.flat.Flat.{Flat}
use Rattle.pn_objects.specs.declared.net.Net.{Net}
use Rattle.pn_objects.specs.declared.object.Arc.{Arc}
use Rattle.pn_objects.specs.declared.object.Place.{Place}
use Rattle.pn_objects.specs.declared.object.Transition.{Transition}
use Rattle.pn_resolve.specs.Standing.{StandsInSort}
use Rattle.pn_sorts.specs.Standing.{Stands}
use Rattle.pn_syntax.specs.declared.declaration.Declaration.{Declaration}
use Rattle.pn_syntax.specs.declared.term.Term.{Term}
use Rattle.pn_terms.proofs.SortLemmas.{sort_once, sorted_no_fault}
use Rattle.pn_terms.specs.Sorts.{HasSort}
use Rattle.pn_terms.specs.Standing.{SortStandsIn}
use Rattle.pn_terms.specs.declared.term_sort.TermSort.TheVariants as terms
use Rattle.pn_values.specs.Kin.{kin_of}
use Rattle.pn_values.specs.declared.sort.Sort.{Sort}
use Rattle.pn_values.specs.declared.value.Value.{Value}
use Rattle.pn_documents.specs.Written.{IsFaultlessNet}
use Rattle.pn_documents.proofs.LinkedLemmas.{flat_sound}
use Rattle.pn_documents.proofs.RemarkedLemmas.{links_same, no_own_reference, own_arcs_same, own_declarations, unmark, with_places}

-- the flat net of a net without faults has none
pub flat_faultless : (n flat : Net) → IsFlattened n flat → IsFaultlessNet n → IsFaultlessNet flat
flat_faultless n flat p old = record {
  links = flat_sound n flat flat old.links p refl;
  sorts = sorts_kept n flat flat p refl old.sorts;
  typing = typing_kept n flat flat p refl old.links old.typing;
  values = values_kept n flat flat p refl old.values;
}

-- an initial marking that fits its place: a multiset over the kin of its sort, with values of that sort, without variables and without faults of sorts
pub record IsFitMarking (items : List Declaration) (p : Place) (e : Term) : Type 0 where
  pub sort : Sort
  pub of_place : IsPlaceSort items p sort
  pub has_sort : HasSort items e (terms.Bag (kin_of sort))
  pub sorts : (f : Fault) → SortStandsIn items e f → ⊥
  pub ranges : (f : Fault) → HasEmptyConstantRange e f → ⊥
  pub ground : HasNoVariable e
  pub bag : List (Value × ℕ)
  pub says : SaysMultiset items e bag
  pub members : AreOfSort items sort bag

-- what is kept comes from somewhere
kept_from : {X Y : Type 0} (h : X → Option Y) (xs : List X) (y : Y) → Contains (filter_map h xs) y → (x : X) × Contains xs x × (h x ≡ Some y)
kept_from h [] y c = absurd (contains_nil y c)
kept_from {X} {Y} h (x ∷ xs) y c = by (h x) refl c (kept_from h xs y)
  where
    by : (o : Option Y) → h x ≡ o → Contains (cons_option o (filter_map h xs)) y → (Contains (filter_map h xs) y → (z : X) × Contains xs z × (h z ≡ Some y)) → (z : X) × Contains (x ∷ xs) z × (h z ≡ Some y)
    by None is c more = let found = more c in (found.0, contains_next x xs found.0 found.1, found.2)
    by (Some z) is c more = first (contains_cases z (filter_map h xs) y c)
      where
        first : (z ≡ y) ⊎ Contains (filter_map h xs) y → (w : X) × Contains (x ∷ xs) w × (h w ≡ Some y)
        first (inl same) = (x, contains_first x xs, is ∙ ap Some same)
        first (inr there) = let found = more there in (found.0, contains_next x xs found.0 found.1, found.2)

module _ (f : Flat) (ps : List Place) (same : map unmark ps ≡ map unmark f.places) where
  abbrev old_net : Net
  old_net = net_of_flat f

  abbrev new_net : Net
  new_net = net_of_flat (with_places f ps)

  declared_same : net_declarations new_net ≡ net_declarations old_net
  declared_same = own_declarations (with_places f ps) ∙ sym (own_declarations f)

  transitions_same : net_transitions new_net ≡ net_transitions old_net
  transitions_same = flat_transitions (with_places f ps) ∙ sym (flat_transitions f)

  arcs_are : net_arcs new_net ≡ net_arcs old_net
  arcs_are = own_arcs_same f ps same

  types_told : (qs : List Place) → filter_map (λ (p : Place). said p.sort) qs ≡ filter_map (λ (p : Place). said p.sort) (map unmark qs)
  types_told [] = refl
  types_told (q ∷ qs) = ap (cons_option (said q.sort)) (types_told qs)

  types_same : type_exprs new_net ≡ type_exprs old_net
  types_same =
      ap (filter_map (λ (p : Place). said p.sort)) (flat_places (with_places f ps)) ∙ types_told ps
      ∙ ap (filter_map (λ (p : Place). said p.sort)) same
      ∙ sym (ap (filter_map (λ (p : Place). said p.sort)) (flat_places f) ∙ types_told f.places)

  conditions_same : condition_terms new_net ≡ condition_terms old_net
  conditions_same = ap (filter_map (λ (t : Transition). said t.condition)) transitions_same

  rest_same : condition_terms new_net ++ inscription_terms new_net ≡ condition_terms old_net ++ inscription_terms old_net
  rest_same = λ i. conditions_same i ++ filter_map (λ (a : Arc). said a.inscription) (arcs_are i)

  -- the place of an arc
  end_there : (id : List ℕ) (e : End) → ReachesEnd new_net id e → ReachesEnd old_net id e
  end_there id e (at_place _ _ i p got has is) =
      let there = alike_get unmark ps f.places i p same (sym (ap (λ qs. slice_get qs i) (flat_places (with_places f ps))) ∙ got) in
      at_place id e i there.0 (ap (λ qs. slice_get qs i) (flat_places f) ∙ there.1) (sym (ap (λ (q : Place). q.id) there.2) ∙ has) is
  end_there id e (at_transition _ _ i t got has is) = at_transition id e i t (sym (ap (λ ts. slice_get ts i) transitions_same) ∙ got) has is
  end_there id e (by_reference _ _ r stands has way) = absurd (no_own_reference (with_places f ps) r stands)

  ends_there : (a : Arc) (i : ℕ) → ReachesEnd new_net a.source (place i) ⊎ ReachesEnd new_net a.target (place i) → ReachesEnd old_net a.source (place i) ⊎ ReachesEnd old_net a.target (place i)
  ends_there a i (inl from) = inl (end_there a.source (place i) from)
  ends_there a i (inr to) = inr (end_there a.target (place i) to)

  place_there : (a : Arc) (p : Place) → IsPlaceOfArc new_net a p → (q : Place) × IsPlaceOfArc old_net a q × (unmark p ≡ unmark q)
  place_there a p (i, got, ends) =
      let there = alike_get unmark ps f.places i p same (sym (ap (λ qs. slice_get qs i) (flat_places (with_places f ps))) ∙ got) in
      (there.0, (i, ap (λ qs. slice_get qs i) (flat_places f) ∙ there.1, ends_there a i ends), there.2)

  module _ (old : IsFaultlessNet old_net) (fit : (p : Place) (e : Term) → Contains ps p → said p.hl_marking ≡ Some e → IsFitMarking f.declarations p e) where
    -- an initial marking fits its place
    fits_here : (p : Place) (e : Term) → Contains (net_places new_net) p → said p.hl_marking ≡ Some e → IsFitMarking (net_declarations new_net) p e
    fits_here p e c is = subst (λ ds. IsFitMarking ds p e) (sym (own_declarations (with_places f ps))) (fit p e (subst (λ qs. Contains qs p) (flat_places (with_places f ps)) c) is)

    marking_fits : (e : Term) → Contains (marking_terms new_net) e → (p : Place) × IsFitMarking (net_declarations new_net) p e
    marking_fits e c = let from = kept_from (λ (p : Place). said p.hl_marking) (net_places new_net) e c in (from.0, fits_here from.0 e from.1 from.2)

    -- a term of the net is an initial marking, or stands in the old net too
    term_cases : (e : Term) → Contains (net_terms new_net) e → ((p : Place) × IsFitMarking (net_declarations new_net) p e) ⊎ Contains (net_terms old_net) e
    term_cases e c = by (Contains-append_cases (marking_terms new_net) (condition_terms new_net ++ inscription_terms new_net) e c)
      where
        by : Contains (marking_terms new_net) e ⊎ Contains (condition_terms new_net ++ inscription_terms new_net) e → ((p : Place) × IsFitMarking (net_declarations new_net) p e) ⊎ Contains (net_terms old_net) e
        by (inl marking) = inl (marking_fits e marking)
        by (inr other) = inr (Contains-append_right (marking_terms old_net) (condition_terms old_net ++ inscription_terms old_net) e (subst (λ es. Contains es e) rest_same other))

    no_sorts : (x : Fault) → StandsInSorts new_net x → ⊥
    no_sorts x (declared _ stands) = old.sorts x (declared x (subst (λ ds. Stands ds x) declared_same stands))
    no_sorts x (of_type _ e has stands) = old.sorts x (of_type x e (subst (λ es. Contains es e) types_same has) (subst (λ ds. StandsInSort ds e x) declared_same stands))
    no_sorts x (typing.of_term _ e has stands) = by (term_cases e has)
      where
        by : ((p : Place) × IsFitMarking (net_declarations new_net) p e) ⊎ Contains (net_terms old_net) e → ⊥
        by (inl (p, is)) = is.sorts x stands
        by (inr there) = old.sorts x (typing.of_term x e there (subst (λ ds. SortStandsIn ds e x) declared_same stands))
    no_sorts x (of_constant _ e has stands) = by (term_cases e has)
      where
        by : ((p : Place) × IsFitMarking (net_declarations new_net) p e) ⊎ Contains (net_terms old_net) e → ⊥
        by (inl (p, is)) = is.ranges x stands
        by (inr there) = old.sorts x (of_constant x e there stands)

    no_typing : (x : Fault) → StandsInTyping new_net x → ⊥
    no_typing x (typing.of_term _ e has stands) = by (term_cases e has)
      where
        by : ((p : Place) × IsFitMarking (net_declarations new_net) p e) ⊎ Contains (net_terms old_net) e → ⊥
        by (inl (p, is)) = sorted_no_fault (net_declarations new_net) e (terms.Bag (kin_of is.sort)) x is.has_sort stands
        by (inr there) = old.typing x (typing.of_term x e there (subst (λ ds. Rattle.pn_terms.specs.Standing.StandsIn ds e x) declared_same stands))
    no_typing x (of_condition _ h) = old.typing x (of_condition x (record {
      term = h.term;
      stands = subst (λ es. Contains es h.term) conditions_same h.stands;
      sort = h.sort;
      has_sort = subst (λ ds. HasSort ds h.term h.sort) declared_same h.has_sort;
      differs = h.differs;
      is = h.is;
    }))
    no_typing x (of_marking _ h) =
        let is = fits_here h.place h.term h.stands h.is_marking in
        let of_kin = sort_once (net_declarations new_net) h.term h.sort (terms.Bag (kin_of is.sort)) h.has_sort is.has_sort in
        let own = place_sort_once (net_declarations new_net) h.place is.sort h.place_sort is.of_place h.of_place in
        h.differs (inr (of_kin ∙ ap (λ s. terms.Bag (kin_of s)) own))
    no_typing x (of_inscription _ h) =
        let there = place_there h.arc h.place h.at_place in
        old.typing x (of_inscription x (record {
          arc = h.arc;
          stands = subst (λ arcs. Contains arcs h.arc) arcs_are h.stands;
          term = h.term;
          is_inscription = h.is_inscription;
          sort = h.sort;
          has_sort = subst (λ ds. HasSort ds h.term h.sort) declared_same h.has_sort;
          place = there.0;
          at_place = there.1;
          place_sort = h.place_sort;
          of_place = subst (λ ds. IsPlaceSort ds there.0 h.place_sort) declared_same (subst (λ q. IsPlaceSort (net_declarations new_net) q h.place_sort) there.2 h.of_place);
          differs = h.differs;
          is = h.is;
        }))
    no_typing x (not_ground _ h) = let is = marking_fits h.term h.stands in is.1.ground h.variable h.is_part h.name h.is_variable

    no_values : (x : Fault) → IsNoValue new_net x → ⊥
    no_values x h =
        let is = fits_here h.place h.term h.stands h.is_marking in
        let own = place_sort_once (net_declarations new_net) h.place is.sort h.is.0.place_sort is.of_place h.is.0.of_place in
        h.is.0.none is.bag is.says (subst (λ s. AreOfSort (net_declarations new_net) s is.bag) own is.members)

    -- no fault stands in the net with these markings
    pub remarked_faultless : IsFaultlessNet new_net
    remarked_faultless = record { links = links_same f ps same old.links; sorts = no_sorts; typing = no_typing; values = no_values }
