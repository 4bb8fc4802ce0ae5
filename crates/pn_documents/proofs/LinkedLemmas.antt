-- A net that is the same as the flat net of a net without faults of ids and links has no such fault.
use Rattle.std.proofs.Common.{◌≡◌, ◌⊎◌, inl, inr, ℕ, List, [], ◌∷◌, ◌++◌, map, Some, refl, sym, ap, ◌∙◌, subst, arith}
use Rattle.std.specs.List.{Contains, slice_get, AllZip, flat_map}
use Rattle.std.proofs.lemmas.List.{map-append}
use Rattle.std.proofs.lemmas.List.Elements.{Contains-append_left, Contains-append_right}
use Rattle.std.proofs.lemmas.Simd.{map-map}
use Rattle.pn_resolve.proofs.Options.{mapped_some}
use Rattle.pn_checks.proofs.SameEndLemmas.{once}
use Rattle.pn_checks.proofs.SameFlatLemmas.{arc_from, arcs_alike, declared_alike, in_w, is_one_page, layers, no_place_references, no_transition_references, places_alike, transitions_alike}
use Rattle.pn_pages.proofs.GatherLemmas.{page_law}
use Rattle.pn_facts.proofs.Contained.{contains_nil, contains_first, contains_next, contains_cases, contains_at}
use Rattle.pn_faults.specs.declared.fault.Fault.{Fault}
use Rattle.pn_faults.specs.Order.{fault_at}
use Rattle.pn_faults.specs.declared.reason.Reason.TheVariants as reasons
use Rattle.pn_names.specs.Names.{id_of}
use Rattle.pn_net.proofs.AlikeLemmas.{alike_contains}
use Rattle.pn_net.specs.Ends.{End, place, transition, ReachesEnd, at_place, at_transition, by_reference, id_at}
use Rattle.pn_net.specs.Flattening.{IsFlattened, IsRewired}
use Rattle.pn_net.specs.Ids.{IdHolder, NamesHolder, holder, holders_of, arc_holder, constant_holder, constants_in, declaration_holders, element_holder, page_holder, place_holder, place_reference_holder, transition_holder, transition_reference_holder}
use Rattle.pn_net.specs.Ids as ids
use Rattle.pn_net.specs.Links.{IsDuplicateAmong, IsOnSide, IsReference, IsUnknownEnd, IsWrongEnd, Side, duplicate_id, unknown_end, wrong_end, reference_cycle, places, transitions, side_of}
use Rattle.pn_net.specs.Links as links
use Rattle.pn_net.specs.Objects.{in_page, in_pages, net_arcs, net_declarations, net_place_references, net_places, net_transition_references, net_transitions}
use Rattle.pn_objects.specs.Offsets.{IsSameNet, arc_without_offsets, place_without_offsets, transition_without_offsets}
use Rattle.pn_objects.specs.declared.net.Net.{Net}
use Rattle.pn_objects.specs.declared.net.Page.{Page}
use Rattle.pn_objects.specs.declared.net.Page.TheOpen as layer
use Rattle.pn_objects.specs.declared.net.Page.TheViews.{out-Page}
use Rattle.pn_objects.specs.declared.object.Arc.{Arc}
use Rattle.pn_objects.specs.declared.object.Place.{Place}
use Rattle.pn_objects.specs.declared.object.Reference.{Reference}
use Rattle.pn_objects.specs.declared.object.Transition.{Transition}
use Rattle.pn_resolve.specs.Standing.{elements_of}
use Rattle.pn_syntax.specs.Offsets.{constant_without_offset, declaration_without_offsets, element_without_offsets}
use Rattle.pn_syntax.specs.declared.declaration.Declaration.{Declaration}
use Rattle.pn_syntax.specs.declared.declaration.Declaration.TheVariants as declarations
use Rattle.pn_syntax.specs.declared.declaration.SortBody.TheVariants as bodies
use Rattle.pn_checks.proofs.UniqueLemmas.{AreUnique, HasSound, contains_map, sound_unique, unique_one}

-- ---- lists of ids, one within another

-- the first list is the second without some items
abbrev IsThinned : List (List ℕ) → List (List ℕ) → Type 0
IsThinned [] [] = Unit {0}
IsThinned (x ∷ xs) [] = ⊥
IsThinned [] (y ∷ ys) = IsThinned [] ys
IsThinned (x ∷ xs) (y ∷ ys) = ((x ≡ y) × IsThinned xs ys) ⊎ IsThinned (x ∷ xs) ys

within_none : (ys : List (List ℕ)) → IsThinned [] ys
within_none [] = tt
within_none (y ∷ ys) = within_none ys

within_self : (xs : List (List ℕ)) → IsThinned xs xs
within_self [] = tt
within_self (x ∷ xs) = inl (refl, within_self xs)

within_later : (xs : List (List ℕ)) (y : List ℕ) (ys : List (List ℕ)) → IsThinned xs ys → IsThinned xs (y ∷ ys)
within_later [] y ys w = w
within_later (x ∷ xs) y ys w = inr w

within_rest : (xs ys zs : List (List ℕ)) → IsThinned xs zs → IsThinned xs (ys ++ zs)
within_rest xs [] zs w = w
within_rest xs (y ∷ ys) zs w = within_later xs y (ys ++ zs) (within_rest xs ys zs w)

within_both : (xs ys us ws : List (List ℕ)) → IsThinned xs ys → IsThinned us ws → IsThinned (xs ++ us) (ys ++ ws)
within_both [] ys us ws v w = within_rest us ys ws w
within_both (x ∷ xs) [] us ws v w = absurd v
within_both (x ∷ xs) (y ∷ ys) us ws (inl (same, v)) w = inl (same, within_both xs ys us ws v w)
within_both (x ∷ xs) (y ∷ ys) us ws (inr v) w = inr (within_both (x ∷ xs) ys us ws v w)

within_contains : (xs ys : List (List ℕ)) (z : List ℕ) → IsThinned xs ys → Contains xs z → Contains ys z
within_contains [] ys z w c = absurd (contains_nil z c)
within_contains (x ∷ xs) [] z w c = absurd w
within_contains (x ∷ xs) (y ∷ ys) z (inl (same, w)) c = step (contains_cases x xs z c) (within_contains xs ys z w)
  where
    step : (x ≡ z) ⊎ Contains xs z → (Contains xs z → Contains ys z) → Contains (y ∷ ys) z
    step (inl here) more = subst (λ v. Contains (y ∷ ys) v) (sym same ∙ here) (contains_first y ys)
    step (inr there) more = contains_next y ys z (more there)
within_contains (x ∷ xs) (y ∷ ys) z (inr w) c = contains_next y ys z (within_contains (x ∷ xs) ys z w c)

-- no id stands twice
abbrev AreDistinctIds : List (List ℕ) → Type 0
AreDistinctIds [] = Unit {0}
AreDistinctIds (x ∷ xs) = (Contains xs x → ⊥) × AreDistinctIds xs

within_apart : (xs ys : List (List ℕ)) → IsThinned xs ys → AreDistinctIds ys → AreDistinctIds xs
within_apart [] ys w a = tt
within_apart (x ∷ xs) [] w a = absurd w
within_apart (x ∷ xs) (y ∷ ys) (inl (same, w)) a = (λ c. a.0 (subst (Contains ys) same (within_contains xs ys x w c)), within_apart xs ys w a.1)
within_apart (x ∷ xs) (y ∷ ys) (inr w) a = within_apart (x ∷ xs) ys w a.1

-- ---- the ids of those that have one

abbrev ids_in : List IdHolder → List (List ℕ)
ids_in hs = map (λ h. h.id) hs

holder_of : (hs : List IdHolder) (id : List ℕ) → Contains (ids_in hs) id → (h : IdHolder) × Contains hs h × (h.id ≡ id)
holder_of [] id c = absurd (contains_nil id c)
holder_of (h ∷ hs) id c = step (contains_cases h.id (ids_in hs) id c) (holder_of hs id)
  where
    step : (h.id ≡ id) ⊎ Contains (ids_in hs) id → (Contains (ids_in hs) id → (y : IdHolder) × Contains hs y × (y.id ≡ id)) → (x : IdHolder) × Contains (h ∷ hs) x × (x.id ≡ id)
    step (inl here) more = (h, contains_first h hs, here)
    step (inr there) more = let found = more there in (found.0, contains_next h hs found.0 found.1, found.2)

apart_ids : (hs : List IdHolder) → AreUnique hs → AreDistinctIds (ids_in hs)
apart_ids [] u = tt
apart_ids (h ∷ hs) u = (λ c. let found = holder_of hs h.id c in u.0 found.0 found.1 (sym found.2), apart_ids hs u.1)

unique_ids : (hs : List IdHolder) → AreDistinctIds (ids_in hs) → AreUnique hs
unique_ids [] a = tt
unique_ids (h ∷ hs) a = (λ x c same. a.0 (subst (Contains (ids_in hs)) (sym same) (contains_map (λ y. y.id) hs x c)), unique_ids hs a.1)

no_duplicate : (hs : List IdHolder) → AreUnique hs → (f : Fault) → IsDuplicateAmong hs f → ⊥
no_duplicate hs u f d = d.differ (once hs d.one d.another d.first d.second u d.has_first d.has_second d.same)

-- ---- ids in what is the same but for offsets

-- what is told alike of things that are the same
told_alike : {A B : Type 0} (f : A → B) (clear : A → A) → ((x : A) → f x ≡ f (clear x)) → (xs ys : List A) → map clear xs ≡ map clear ys → map f xs ≡ map f ys
told_alike f clear blind xs ys same = of_clear xs ∙ ap (map f) same ∙ sym (of_clear ys)
  where
    of_clear : (zs : List _) → map f zs ≡ map f (map clear zs)
    of_clear [] = refl
    of_clear (z ∷ zs) = ap (λ b. b ∷ map f zs) (blind z) ∙ ap (λ bs. f (clear z) ∷ bs) (of_clear zs)

-- the ids of a declaration and of what it declares besides
abbrev declared_ids : Declaration → List (List ℕ)
declared_ids d = id_of d ∷ (map (λ c. c.id) (constants_in d) ++ map (λ e. e.id) (elements_of d))

declared_held : (d : Declaration) → ids_in (declaration_holders d) ≡ declared_ids d
declared_held d =
    ap (λ l. id_of d ∷ l) (map-append (λ h. h.id) (map constant_holder (constants_in d)) (map element_holder (elements_of d))
    ∙ (λ i. map-map (λ h. h.id) constant_holder (constants_in d) i ++ map-map (λ h. h.id) element_holder (elements_of d) i))

declared_blind : (d : Declaration) → declared_ids (declaration_without_offsets d) ≡ declared_ids d
declared_blind (declarations.Named id name (bodies.Plain e) at) = refl
declared_blind (declarations.Named id name (bodies.Finite constants) at) = ap (λ l. id ∷ (l ++ [])) (map-map (λ c. c.id) constant_without_offset constants)
declared_blind (declarations.Named id name (bodies.Cyclic constants) at) = ap (λ l. id ∷ (l ++ [])) (map-map (λ c. c.id) constant_without_offset constants)
declared_blind (declarations.Variable id name sort at) = refl
declared_blind (declarations.Partition id name sort elements at) = ap (λ l. id ∷ l) (map-map (λ e. e.id) element_without_offsets elements)

all_declared_held : (ds : List Declaration) → ids_in (flat_map declaration_holders ds) ≡ flat_map declared_ids ds
all_declared_held [] = refl
all_declared_held (d ∷ ds) = map-append (λ h. h.id) (declaration_holders d) (flat_map declaration_holders ds) ∙ (λ i. declared_held d i ++ all_declared_held ds i)

all_declared_blind : (ds : List Declaration) → flat_map declared_ids (map declaration_without_offsets ds) ≡ flat_map declared_ids ds
all_declared_blind [] = refl
all_declared_blind (d ∷ ds) = λ i. declared_blind d i ++ all_declared_blind ds i

-- the ids of a net, kind by kind
abbrev ids_of : List ℕ → List (List ℕ) → List Declaration → List Place → List Transition → List Reference → List Reference → List Arc → List (List ℕ)
ids_of id pages ds ps ts rs us olds =
    id ∷ (pages ++ (flat_map declared_ids ds ++ (map (λ p. p.id) ps ++ (map (λ t. t.id) ts ++ (map (λ r. r.id) rs ++ (map (λ r. r.id) us ++ map (λ a. a.id) olds))))))

abbrev page_ids : Net → List (List ℕ)
page_ids n = ids_in (in_pages (λ p. page_holder p ∷ []) n)

ids_held : (n : Net) → ids_in (holders_of n) ≡ ids_of n.id (page_ids n) (net_declarations n) (net_places n) (net_transitions n) (net_place_references n) (net_transition_references n) (net_arcs n)
ids_held n =
    let id_in : IdHolder → List ℕ = λ h. h.id in
    let olds = map arc_holder (net_arcs n) in
    let us = map transition_reference_holder (net_transition_references n) in
    let rs = map place_reference_holder (net_place_references n) in
    let ts = map transition_holder (net_transitions n) in
    let ps = map place_holder (net_places n) in
    let ds = flat_map declaration_holders (net_declarations n) in
    let pages = in_pages (λ p. page_holder p ∷ []) n in
    ap (λ l. n.id ∷ l)
    (map-append id_in pages (ds ++ (ps ++ (ts ++ (rs ++ (us ++ olds)))))
    ∙ ap (λ l. ids_in pages ++ l) (map-append id_in ds (ps ++ (ts ++ (rs ++ (us ++ olds))))
    ∙ (λ i. all_declared_held (net_declarations n) i ++ (map-append id_in ps (ts ++ (rs ++ (us ++ olds)))
    ∙ (λ j. map-map id_in place_holder (net_places n) j ++ (map-append id_in ts (rs ++ (us ++ olds))
    ∙ (λ k. map-map id_in transition_holder (net_transitions n) k ++ (map-append id_in rs (us ++ olds)
    ∙ (λ l. map-map id_in place_reference_holder (net_place_references n) l ++ (map-append id_in us olds
    ∙ (λ m. map-map id_in transition_reference_holder (net_transition_references n) m ++ map-map id_in arc_holder (net_arcs n) m)) l)) k)) j)) i)))

-- ---- sides

module _ (n : Net) (unique : AreUnique (holders_of n)) where
  -- who stands in a net is named by the id
  named : (h : IdHolder) (id : List ℕ) → Contains (holders_of n) h → h.id ≡ id → NamesHolder n id h
  named h id c has = record { stands = c; has_id = has; is_first = λ x d same. let one = unique_one (holders_of n) h x unique c d (has ∙ sym same) in omega (arith, ap (λ z. z.at) one) }

  one_side : (id : List ℕ) (s t : Side) → IsOnSide n id s → IsOnSide n id t → s ≡ t
  one_side id s t (h, names, is) (k, also, on) =
      let one = unique_one (holders_of n) h k unique names.stands also.stands (names.has_id ∙ sym also.has_id) in
      let same : Some s ≡ Some t = sym is ∙ ap (λ z. side_of z.role) one ∙ on in
      cc

-- where an object stands among those that have an id
module _ (n : Net) where
  abbrev own_arcs : List IdHolder
  own_arcs = map arc_holder (net_arcs n)

  abbrev own_transition_references : List IdHolder
  own_transition_references = map transition_reference_holder (net_transition_references n)

  abbrev own_place_references : List IdHolder
  own_place_references = map place_reference_holder (net_place_references n)

  abbrev own_transitions : List IdHolder
  own_transitions = map transition_holder (net_transitions n)

  abbrev own_places : List IdHolder
  own_places = map place_holder (net_places n)

  abbrev own_objects : List IdHolder
  own_objects = own_places ++ (own_transitions ++ (own_place_references ++ (own_transition_references ++ own_arcs)))

  abbrev own_declared : List IdHolder
  own_declared = flat_map declaration_holders (net_declarations n)

  abbrev own_pages : List IdHolder
  own_pages = in_pages (λ p. page_holder p ∷ []) n

  object_stands : (h : IdHolder) → Contains own_objects h → Contains (holders_of n) h
  object_stands h c = contains_next (holder n.id n.at ids.other) (own_pages ++ (own_declared ++ own_objects)) h (Contains-append_right own_pages (own_declared ++ own_objects) h (Contains-append_right own_declared own_objects h c))

  place_stands : (p : Place) → Contains (net_places n) p → Contains (holders_of n) (place_holder p)
  place_stands p c =
      object_stands (place_holder p) (Contains-append_left own_places (own_transitions ++ (own_place_references ++ (own_transition_references ++ own_arcs))) (place_holder p) (contains_map place_holder (net_places n) p c))

  transition_stands : (t : Transition) → Contains (net_transitions n) t → Contains (holders_of n) (transition_holder t)
  transition_stands t c =
      object_stands (transition_holder t) (Contains-append_right own_places (own_transitions ++ (own_place_references ++ (own_transition_references ++ own_arcs))) (transition_holder t)
      (Contains-append_left own_transitions (own_place_references ++ (own_transition_references ++ own_arcs)) (transition_holder t) (contains_map transition_holder (net_transitions n) t c)))

  place_reference_stands : (r : Reference) → Contains (net_place_references n) r → Contains (holders_of n) (place_reference_holder r)
  place_reference_stands r c =
      object_stands (place_reference_holder r) (Contains-append_right own_places (own_transitions ++ (own_place_references ++ (own_transition_references ++ own_arcs))) (place_reference_holder r)
      (Contains-append_right own_transitions (own_place_references ++ (own_transition_references ++ own_arcs)) (place_reference_holder r)
      (Contains-append_left own_place_references (own_transition_references ++ own_arcs) (place_reference_holder r) (contains_map place_reference_holder (net_place_references n) r c))))

  transition_reference_stands : (r : Reference) → Contains (net_transition_references n) r → Contains (holders_of n) (transition_reference_holder r)
  transition_reference_stands r c =
      object_stands (transition_reference_holder r) (Contains-append_right own_places (own_transitions ++ (own_place_references ++ (own_transition_references ++ own_arcs))) (transition_reference_holder r)
      (Contains-append_right own_transitions (own_place_references ++ (own_transition_references ++ own_arcs)) (transition_reference_holder r)
      (Contains-append_right own_place_references (own_transition_references ++ own_arcs) (transition_reference_holder r)
      (Contains-append_left own_transition_references own_arcs (transition_reference_holder r) (contains_map transition_reference_holder (net_transition_references n) r c)))))

-- the side of a place or transition
abbrev end_side : End → Side
end_side (place i) = places
end_side (transition i) = transitions

module _ (n : Net) (sound : HasSound n) where
  unique_here : AreUnique (holders_of n)
  unique_here = sound_unique n sound

  on_side : (id : List ℕ) (h : IdHolder) (s : Side) → Contains (holders_of n) h → h.id ≡ id → side_of h.role ≡ Some s → IsOnSide n id s
  on_side id h s c has is = (h, named n unique_here h id c has, is)

  reference_side : (r : Reference) (s : Side) → IsReference n r → IsOnSide n r.refers s → IsOnSide n r.id s
  reference_side r places (inl c) to = on_side r.id (place_reference_holder r) places (place_reference_stands n r c) refl refl
  reference_side r transitions (inl c) to = absurd (sound (fault_at reasons.WrongEnd r.at r.id) (wrong_end (fault_at reasons.WrongEnd r.at r.id) (links.to_place (fault_at reasons.WrongEnd r.at r.id) r c to refl)))
  reference_side r places (inr c) to = absurd (sound (fault_at reasons.WrongEnd r.at r.id) (wrong_end (fault_at reasons.WrongEnd r.at r.id) (links.to_transition (fault_at reasons.WrongEnd r.at r.id) r c to refl)))
  reference_side r transitions (inr c) to = on_side r.id (transition_reference_holder r) transitions (transition_reference_stands n r c) refl refl

  -- an id is on the side of what is reached from it
  reached_side : (id : List ℕ) (e : End) → ReachesEnd n id e → IsOnSide n id (end_side e)
  reached_side id e (at_place _ _ i p got has is) = subst (λ z. IsOnSide n id (end_side z)) (sym is) (on_side id (place_holder p) places (place_stands n p (contains_at (net_places n) i p got)) has refl)
  reached_side id e (at_transition _ _ i t got has is) = subst (λ z. IsOnSide n id (end_side z)) (sym is) (on_side id (transition_holder t) transitions (transition_stands n t (contains_at (net_transitions n) i t got)) has refl)
  reached_side id e (by_reference _ _ r stands has rest) = subst (λ z. IsOnSide n z (end_side e)) has (reference_side r (end_side e) stands (reached_side r.refers e rest))

  -- the ends of an arc are on different sides
  apart_ends : (a : Arc) (s t : Side) → Contains (net_arcs n) a → IsOnSide n a.source s → IsOnSide n a.target t → s ≡ t → ⊥
  apart_ends a s t c from to same =
      let f = fault_at reasons.WrongEnd a.at a.id in
      sound f (wrong_end f (links.arc f a s c from (subst (IsOnSide n a.target) (sym same) to) refl))

-- ---- the flat net

rewired_ids : (n : Net) (olds bs : List Arc) → AllZip (IsRewired n) olds bs → map (λ a. a.id) bs ≡ map (λ a. a.id) olds
rewired_ids n [] [] z = refl
rewired_ids n [] (b ∷ bs) z = absurd z
rewired_ids n (a ∷ olds) [] z = absurd z
rewired_ids n (a ∷ olds) (b ∷ bs) z = λ i. (ap (λ x. x.id) z.0.is i) ∷ rewired_ids n olds bs z.1 i

-- the id of the first page is among those of all
first_page : (ps : List Page) (page : Page) → slice_get ps 0 ≡ Some page → IsThinned ((out-Page page).id ∷ []) (ids_in (flat_map (in_page (λ p. page_holder p ∷ [])) ps))
first_page [] page is = absurd cc
first_page (x ∷ ps) page is =
    let own : layer.Page-F (List IdHolder) → List IdHolder = λ p. page_holder p ∷ [] in
    let here : x ≡ page = cc in
    subst (λ hs. IsThinned ((out-Page page).id ∷ []) (ids_in (hs ++ flat_map (in_page own) ps))) (sym (page_law own x))
    (inl (ap (λ y. (out-Page y).id) (sym here), within_none (ids_in (flat_map (in_page own) (out-Page x).pages ++ flat_map (in_page own) ps))))

-- the ends of an arc are on two sides
record HasTwoSides (w : Net) (a : Arc) : Type 0 where
  from : Side
  to : Side
  source : IsOnSide w a.source from
  target : IsOnSide w a.target to
  differ : from ≡ to → ⊥

module _ (n flat w : Net) (sound : HasSound n) (p : IsFlattened n flat) (alike : IsSameNet w flat) where
  -- the ids are some of those of the net
  ids_w : ids_in (holders_of w) ≡ ids_of n.id ((out-Page p.page).id ∷ []) (net_declarations n) (net_places n) (net_transitions n) [] [] (net_arcs n)
  ids_w =
      ids_held w
      ∙ (λ i. ap (λ m. m.id) (is_one_page n flat w p alike) i ∷ ((ap ids_in (in_w n flat w p alike (λ l. page_holder l ∷ [])) ∙ ap (λ l. l.id ∷ []) (layers n flat w p alike)) i
      ++ ((sym (all_declared_blind (net_declarations w)) ∙ ap (flat_map declared_ids) (declared_alike n flat w p alike) ∙ all_declared_blind (net_declarations n)) i
      ++ (told_alike (λ x. x.id) place_without_offsets (λ x. refl) (net_places w) (net_places n) (places_alike n flat w p alike) i
      ++ (told_alike (λ x. x.id) transition_without_offsets (λ x. refl) (net_transitions w) (net_transitions n) (transitions_alike n flat w p alike) i
      ++ (map (λ r. r.id) (no_place_references n flat w p alike i) ++ (map (λ r. r.id) (no_transition_references n flat w p alike i)
      ++ (told_alike (λ x. x.id) arc_without_offsets (λ x. refl) (net_arcs w) p.arcs (arcs_alike n flat w p alike) ∙ rewired_ids n (net_arcs n) p.arcs p.rewired) i)))))))

  ids_within : IsThinned (ids_of n.id ((out-Page p.page).id ∷ []) (net_declarations n) (net_places n) (net_transitions n) [] [] (net_arcs n))
      (ids_of n.id (page_ids n) (net_declarations n) (net_places n) (net_transitions n) (net_place_references n) (net_transition_references n) (net_arcs n))
  ids_within =
      let olds = map (λ a. a.id) (net_arcs n) in
      let us = map (λ r. r.id) (net_transition_references n) in
      let rs = map (λ r. r.id) (net_place_references n) in
      let ts = map (λ t. t.id) (net_transitions n) in
      let ps = map (λ x. x.id) (net_places n) in
      let ds = flat_map declared_ids (net_declarations n) in
      inl (
        refl,
        within_both ((out-Page p.page).id ∷ []) (page_ids n) (ds ++ (ps ++ (ts ++ olds))) (ds ++ (ps ++ (ts ++ (rs ++ (us ++ olds))))) (first_page n.pages p.page p.is_first)
            (within_both ds ds (ps ++ (ts ++ olds)) (ps ++ (ts ++ (rs ++ (us ++ olds)))) (within_self ds)
            (within_both ps ps (ts ++ olds) (ts ++ (rs ++ (us ++ olds))) (within_self ps)
            (within_both ts ts olds (rs ++ (us ++ olds)) (within_self ts) (within_rest olds rs (us ++ olds) (within_rest olds us olds (within_self olds)))))),
      )

  unique_w : AreUnique (holders_of w)
  unique_w =
      unique_ids (holders_of w) (subst AreDistinctIds (sym ids_w)
      (within_apart (ids_of n.id ((out-Page p.page).id ∷ []) (net_declarations n) (net_places n) (net_transitions n) [] [] (net_arcs n))
      (ids_of n.id (page_ids n) (net_declarations n) (net_places n) (net_transitions n) (net_place_references n) (net_transition_references n) (net_arcs n))
      ids_within (subst AreDistinctIds (ids_held n) (apart_ids (holders_of n) (sound_unique n sound)))))

  -- what is reached in the net is there
  end_there : (id : List ℕ) (e : End) → id_at n e ≡ Some id → IsOnSide w id (end_side e)
  end_there id (place i) is =
      let found = mapped_some (λ x. x.id) (slice_get (net_places n) i) id is in
      let there = alike_contains place_without_offsets (net_places n) (net_places w) found.0 (sym (places_alike n flat w p alike)) (contains_at (net_places n) i found.0 found.1) in
      let h = place_holder there.0 in
      (h, named w unique_w h id (place_stands w there.0 there.1) (ap (λ x. x.id) (sym there.2) ∙ found.2), refl)
  end_there id (transition i) is =
      let found = mapped_some (λ x. x.id) (slice_get (net_transitions n) i) id is in
      let there = alike_contains transition_without_offsets (net_transitions n) (net_transitions w) found.0 (sym (transitions_alike n flat w p alike)) (contains_at (net_transitions n) i found.0 found.1) in
      let h = transition_holder there.0 in
      (h, named w unique_w h id (transition_stands w there.0 there.1) (ap (λ x. x.id) (sym there.2) ∙ found.2), refl)

  two_sides : (c : Arc) → Contains (net_arcs w) c → HasTwoSides w c
  two_sides c has =
      let from = arc_from n flat w p alike c has in
      let r = from.2.rewired in
      record {
        from = end_side r.from.0;
        to = end_side r.to.0;
        source = subst (λ id. IsOnSide w id (end_side r.from.0)) (sym (ap (λ x. x.source) from.2.alike ∙ ap (λ x. x.source) r.is)) (end_there r.source r.from.0 r.from.2);
        target = subst (λ id. IsOnSide w id (end_side r.to.0)) (sym (ap (λ x. x.target) from.2.alike ∙ ap (λ x. x.target) r.is)) (end_there r.target r.to.0 r.to.2);
        differ = apart_ends n sound from.0 (end_side r.from.0) (end_side r.to.0) from.1 (reached_side n sound from.0.source r.from.0 r.from.1) (reached_side n sound from.0.target r.to.0 r.to.1);
      }

  no_reference : (r : Reference) → IsReference w r → ⊥
  no_reference r (inl c) = contains_nil r (subst (λ l. Contains l r) (no_place_references n flat w p alike) c)
  no_reference r (inr c) = contains_nil r (subst (λ l. Contains l r) (no_transition_references n flat w p alike) c)

  no_unknown : (f : Fault) → IsUnknownEnd w f → ⊥
  no_unknown f (links.source _ a c none is) = let sides = two_sides a c in none sides.from sides.source
  no_unknown f (links.target _ a side c from none is) = let sides = two_sides a c in none sides.to sides.target
  no_unknown f (links.reference _ r stands none is) = no_reference r stands

  no_wrong : (f : Fault) → IsWrongEnd w f → ⊥
  no_wrong f (links.arc _ a side c source target is) =
      let sides = two_sides a c in
      sides.differ (one_side w unique_w a.source sides.from side sides.source source ∙ sym (one_side w unique_w a.target sides.to side sides.target target))
  no_wrong f (links.to_place _ r c on is) = no_reference r (inl c)
  no_wrong f (links.to_transition _ r c on is) = no_reference r (inr c)

  pub flat_sound : HasSound w
  flat_sound f (duplicate_id _ d) = no_duplicate (holders_of w) unique_w f d
  flat_sound f (unknown_end _ u) = no_unknown f u
  flat_sound f (wrong_end _ e) = no_wrong f e
  flat_sound f (reference_cycle _ d) = no_reference d.reference d.stands
