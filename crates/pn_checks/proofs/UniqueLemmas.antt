-- In a net without faults of ids and links no two elements have one id, and each id leads to one place or transition.
use Rattle.std.proofs.Common.{◌≡◌, ◌≤◌, ◌<◌, ◌⊎◌, inl, inr, ℕ, zero, suc, List, [], ◌∷◌, ◌++◌, map, Option, Some, None, refl, sym, ap, ◌∙◌, subst, arith}
use Rattle.std.specs.List.{Contains, slice_get, AllZip, flat_map}
use Rattle.std.specs.Option.{option_map}
use Rattle.std.proofs.lemmas.List.Elements.{Contains-append_left, Contains-append_right}
use Rattle.pn_facts.proofs.Contained.{contains_nil, contains_first, contains_next, contains_cases, contains_at, at_contains}
use Rattle.pn_faults.specs.Order.{fault_at}
use Rattle.pn_faults.specs.declared.fault.Fault.{Fault}
use Rattle.pn_faults.specs.declared.reason.Reason.TheVariants as reasons
use Rattle.pn_net.specs.Ends.{End, place, transition, ReachesEnd, at_place, at_transition, by_reference, Reaches, id_at}
use Rattle.pn_net.specs.Flattening.{IsFlattened, IsRewired, on_one_page}
use Rattle.pn_net.specs.Ids.{IdHolder, holder, holders_of, arc_holder, declaration_holders, other, page_holder, place_holder, place_reference_holder, transition_holder, transition_reference_holder}
use Rattle.pn_net.specs.Links.{IsDuplicateAmong, IsReference, StandsInLinks, duplicate_id}
use Rattle.pn_net.specs.Objects.{in_pages, net_arcs, net_declarations, net_place_references, net_places, net_transition_references, net_transitions}
use Rattle.pn_objects.specs.declared.net.Net.{Net}
use Rattle.pn_objects.specs.declared.net.Page.{Page}
use Rattle.pn_objects.specs.declared.object.Arc.{Arc}
use Rattle.pn_objects.specs.declared.object.Place.{Place}
use Rattle.pn_objects.specs.declared.object.Reference.{Reference}
use Rattle.pn_objects.specs.declared.object.Transition.{Transition}

-- no two of these have one id
abbrev pub AreUnique : List IdHolder → Type 0
AreUnique [] = Unit {0}
AreUnique (h ∷ hs) = ((x : IdHolder) → Contains hs x → h.id ≡ x.id → ⊥) × AreUnique hs

pub unique_front : (xs ys : List IdHolder) → AreUnique (xs ++ ys) → AreUnique xs
unique_front [] ys u = tt
unique_front (x ∷ xs) ys u = (λ y c. u.0 y (Contains-append_left xs ys y c), unique_front xs ys u.1)

pub unique_rest : (xs ys : List IdHolder) → AreUnique (xs ++ ys) → AreUnique ys
unique_rest [] ys u = u
unique_rest (x ∷ xs) ys u = unique_rest xs ys u.1

pub unique_across : (xs ys : List IdHolder) (a b : IdHolder) → AreUnique (xs ++ ys) → Contains xs a → Contains ys b → a.id ≡ b.id → ⊥
unique_across [] ys a b u c d same = contains_nil a c
unique_across (x ∷ xs) ys a b u c d same = step (contains_cases x xs a c) (λ there. unique_across xs ys a b u.1 there d same)
  where
    step : (x ≡ a) ⊎ Contains xs a → (Contains xs a → ⊥) → ⊥
    step (inl here) more = u.0 b (Contains-append_right xs ys b d) (ap (λ h. h.id) here ∙ same)
    step (inr there) more = more there

-- of these only one holds an id
pub unique_one : (hs : List IdHolder) (a b : IdHolder) → AreUnique hs → Contains hs a → Contains hs b → a.id ≡ b.id → a ≡ b
unique_one [] a b u c d same = absurd (contains_nil a c)
unique_one (h ∷ hs) a b u c d same = step (contains_cases h hs a c) (contains_cases h hs b d) (λ p q. unique_one hs a b u.1 p q same)
  where
    step : (h ≡ a) ⊎ Contains hs a → (h ≡ b) ⊎ Contains hs b → (Contains hs a → Contains hs b → a ≡ b) → a ≡ b
    step (inl p) (inl q) more = sym p ∙ q
    step (inl p) (inr q) more = absurd (u.0 b q (ap (λ h. h.id) p ∙ same))
    step (inr p) (inl q) more = absurd (u.0 a p (ap (λ h. h.id) q ∙ sym same))
    step (inr p) (inr q) more = more p q

-- ---- from the numbers of places to lists

-- two places of one id are one place
abbrev AreOnce : List IdHolder → Type 0
AreOnce hs = (i j : ℕ) (x y : IdHolder) → slice_get hs i ≡ Some x → slice_get hs j ≡ Some y → x.id ≡ y.id → i ≡ j

once_unique : (hs : List IdHolder) → AreOnce hs → AreUnique hs
once_unique [] once = tt
once_unique (h ∷ hs) once = (first, once_unique hs (λ i j x y p q same. let next : suc i ≡ suc j = once (suc i) (suc j) x y p q same in omega arith))
  where
    first : (x : IdHolder) → Contains hs x → h.id ≡ x.id → ⊥
    first x c same =
        let found = at_contains hs x c in
        let equal : 0 ≡ suc found.0 = once 0 (suc found.0) h x refl found.1 same in
        omega arith

compare : (m n : ℕ) → (m ≡ n) ⊎ ((m ≡ n → ⊥) × ((m ≤ n) ⊎ (n ≤ m)))
compare zero zero = inl refl
compare zero (suc n) = inr (λ same. omega arith, inl (omega arith))
compare (suc m) zero = inr (λ same. omega arith, inr (omega arith))
compare (suc m) (suc n) = step (compare m n)
  where
    step : (m ≡ n) ⊎ ((m ≡ n → ⊥) × ((m ≤ n) ⊎ (n ≤ m))) → (suc m ≡ suc n) ⊎ ((suc m ≡ suc n → ⊥) × ((suc m ≤ suc n) ⊎ (suc n ≤ suc m)))
    step (inl same) = inl (ap suc same)
    step (inr (apart, inl le)) = inr (λ same. apart (omega arith), inl (omega arith))
    step (inr (apart, inr le)) = inr (λ same. apart (omega arith), inr (omega arith))

ordered : (m n : ℕ) → (m ≤ n) ⊎ (n ≤ m)
ordered zero n = inl (omega arith)
ordered (suc m) zero = inr (omega arith)
ordered (suc m) (suc n) = step (ordered m n)
  where
    step : (m ≤ n) ⊎ (n ≤ m) → (suc m ≤ suc n) ⊎ (suc n ≤ suc m)
    step (inl le) = inl (omega arith)
    step (inr le) = inr (omega arith)

once_where : (hs : List IdHolder) → ((f : Fault) → IsDuplicateAmong hs f → ⊥) → AreOnce hs
once_where hs none i j x y p q same = step (compare i j) (ordered x.at y.at)
  where
    duplicate : (a b : ℕ) (v w : IdHolder) → slice_get hs a ≡ Some v → slice_get hs b ≡ Some w → (a ≡ b → ⊥) → v.at ≤ w.at → v.id ≡ w.id → ⊥
    duplicate a b v w g h differ before equal = none (fault_at reasons.DuplicateId w.at w.id) (record { one = a; another = b; first = v; second = w; has_first = g; has_second = h; differ = differ; before = before; same = equal; is = refl })

    step : (i ≡ j) ⊎ ((i ≡ j → ⊥) × ((i ≤ j) ⊎ (j ≤ i))) → (x.at ≤ y.at) ⊎ (y.at ≤ x.at) → i ≡ j
    step (inl equal) o = equal
    step (inr (apart, e)) (inl before) = absurd (duplicate i j x y p q apart before same)
    step (inr (apart, e)) (inr before) = absurd (duplicate j i y x q p (λ equal. apart (sym equal)) before (sym same))

-- the net has no fault of ids and links
abbrev pub HasSound : Net → Type 0
HasSound n = (f : Fault) → StandsInLinks n f → ⊥

pub sound_unique : (n : Net) → HasSound n → AreUnique (holders_of n)
sound_unique n sound = once_unique (holders_of n) (once_where (holders_of n) (λ f d. sound f (duplicate_id f d)))

-- ---- one end from each id

pub contains_map : {X Y : Type 0} (f : X → Y) (xs : List X) (x : X) → Contains xs x → Contains (map f xs) (f x)
contains_map f [] x c = absurd (contains_nil x c)
contains_map f (y ∷ ys) x c = step (contains_cases y ys x c) (contains_map f ys x)
  where
    step : (y ≡ x) ⊎ Contains ys x → (Contains ys x → Contains (map f ys) (f x)) → Contains (f y ∷ map f ys) (f x)
    step (inl here) more = subst (λ z. Contains (f y ∷ map f ys) z) (ap f here) (contains_first (f y) (map f ys))
    step (inr there) more = contains_next (f y) (map f ys) (f x) (more there)

-- of things that each hold an id, two of one id are one
one_of_all : {X : Type 0} (f : X → IdHolder) (id : X → List ℕ) → ((x : X) → (f x).id ≡ id x) → (xs : List X) (x y : X) → AreUnique (map f xs) → Contains xs x → Contains xs y → id x ≡ id y → x ≡ y
one_of_all f id holds [] x y u c d same = absurd (contains_nil x c)
one_of_all f id holds (z ∷ zs) x y u c d same = step (contains_cases z zs x c) (contains_cases z zs y d) (λ p q. one_of_all f id holds zs x y u.1 p q same)
  where
    step : (z ≡ x) ⊎ Contains zs x → (z ≡ y) ⊎ Contains zs y → (Contains zs x → Contains zs y → x ≡ y) → x ≡ y
    step (inl p) (inl q) more = sym p ∙ q
    step (inl p) (inr q) more = absurd (u.0 (f y) (contains_map f zs y q) (holds z ∙ ap id p ∙ same ∙ sym (holds y)))
    step (inr p) (inl q) more = absurd (u.0 (f x) (contains_map f zs x p) (holds z ∙ ap id q ∙ sym same ∙ sym (holds x)))
    step (inr p) (inr q) more = more p q

-- ---- from each id one place or transition is reached

module _ (n : Net) (sound : HasSound n) where
  abbrev places_held : List IdHolder
  places_held = map place_holder (net_places n)

  abbrev transitions_held : List IdHolder
  transitions_held = map transition_holder (net_transitions n)

  abbrev place_references_held : List IdHolder
  place_references_held = map place_reference_holder (net_place_references n)

  abbrev transition_references_held : List IdHolder
  transition_references_held = map transition_reference_holder (net_transition_references n)

  abbrev arcs_held : List IdHolder
  arcs_held = map arc_holder (net_arcs n)

  abbrev references_on : List IdHolder
  references_on = place_references_held ++ (transition_references_held ++ arcs_held)

  pub objects_unique : AreUnique (places_held ++ (transitions_held ++ references_on))
  objects_unique =
      unique_rest (flat_map declaration_holders (net_declarations n)) (places_held ++ (transitions_held ++ references_on))
      (unique_rest (in_pages (λ p. page_holder p ∷ []) n) (flat_map declaration_holders (net_declarations n) ++ (places_held ++ (transitions_held ++ references_on))) (sound_unique n sound).1)

  behind_places : AreUnique (transitions_held ++ references_on)
  behind_places = unique_rest places_held (transitions_held ++ references_on) objects_unique

  references_unique : AreUnique references_on
  references_unique = unique_rest transitions_held references_on behind_places

  behind_place_references : AreUnique (transition_references_held ++ arcs_held)
  behind_place_references = unique_rest place_references_held (transition_references_held ++ arcs_held) references_unique

  -- what holds the id of a reference, among references and arcs
  reference_held : (r : Reference) → IsReference n r → (h : IdHolder) × Contains references_on h × (h.id ≡ r.id)
  reference_held r (inl c) =
      (place_reference_holder r, Contains-append_left place_references_held (transition_references_held ++ arcs_held) (place_reference_holder r) (contains_map place_reference_holder (net_place_references n) r c), refl)
  reference_held r (inr c) = (
    transition_reference_holder r,
    Contains-append_right place_references_held (transition_references_held ++ arcs_held) (transition_reference_holder r)
        (Contains-append_left transition_references_held arcs_held (transition_reference_holder r) (contains_map transition_reference_holder (net_transition_references n) r c)),
    refl,
  )

  place_no_reference : (p : Place) (r : Reference) → Contains (net_places n) p → IsReference n r → p.id ≡ r.id → ⊥
  place_no_reference p r c stands same =
      let held = reference_held r stands in
      unique_across places_held (transitions_held ++ references_on) (place_holder p) held.0 objects_unique (contains_map place_holder (net_places n) p c)
      (Contains-append_right transitions_held references_on held.0 held.1) (same ∙ sym held.2)

  transition_no_reference : (t : Transition) (r : Reference) → Contains (net_transitions n) t → IsReference n r → t.id ≡ r.id → ⊥
  transition_no_reference t r c stands same =
      let held = reference_held r stands in
      unique_across transitions_held references_on (transition_holder t) held.0 behind_places (contains_map transition_holder (net_transitions n) t c) held.1 (same ∙ sym held.2)

  apart : (r s : Reference) → Contains (net_place_references n) r → Contains (net_transition_references n) s → r.id ≡ s.id → ⊥
  apart r s c d same =
      unique_across place_references_held (transition_references_held ++ arcs_held) (place_reference_holder r) (transition_reference_holder s) references_unique
      (contains_map place_reference_holder (net_place_references n) r c)
      (Contains-append_left transition_references_held arcs_held (transition_reference_holder s) (contains_map transition_reference_holder (net_transition_references n) s d)) same

  one_reference : (r s : Reference) → IsReference n r → IsReference n s → r.id ≡ s.id → r ≡ s
  one_reference r s (inl c) (inl d) same =
      one_of_all place_reference_holder (λ x. x.id) (λ x. refl) (net_place_references n) r s (unique_front place_references_held (transition_references_held ++ arcs_held) references_unique) c d same
  one_reference r s (inl c) (inr d) same = absurd (apart r s c d same)
  one_reference r s (inr c) (inl d) same = absurd (apart s r d c (sym same))
  one_reference r s (inr c) (inr d) same =
      one_of_all transition_reference_holder (λ x. x.id) (λ x. refl) (net_transition_references n) r s (unique_front transition_references_held arcs_held behind_place_references) c d same

  -- two places of one id are one, and no transition has a place's id
  pub one_place : (p q : Place) → Contains (net_places n) p → Contains (net_places n) q → p.id ≡ q.id → p ≡ q
  one_place p q c d same = one_of_all place_holder (λ x. x.id) (λ x. refl) (net_places n) p q (unique_front places_held (transitions_held ++ references_on) objects_unique) c d same

  pub no_transition : (p : Place) (t : Transition) → Contains (net_places n) p → Contains (net_transitions n) t → p.id ≡ t.id → ⊥
  no_transition p t c d same =
      unique_across places_held (transitions_held ++ references_on) (place_holder p) (transition_holder t) objects_unique (contains_map place_holder (net_places n) p c)
      (Contains-append_left transitions_held references_on (transition_holder t) (contains_map transition_holder (net_transitions n) t d)) same

  at_this_place : (id : List ℕ) (end : End) (i : ℕ) (p : Place) → slice_get (net_places n) i ≡ Some p → p.id ≡ id → end ≡ place i → id_at n end ≡ Some id
  at_this_place id end i p got has is = ap (id_at n) is ∙ ap (option_map (λ x. x.id)) got ∙ ap Some has

  at_this_transition : (id : List ℕ) (end : End) (i : ℕ) (t : Transition) → slice_get (net_transitions n) i ≡ Some t → t.id ≡ id → end ≡ transition i → id_at n end ≡ Some id
  at_this_transition id end i t got has is = ap (id_at n) is ∙ ap (option_map (λ x. x.id)) got ∙ ap Some has

  pub ends_alike : (id : List ℕ) (d e : End) → ReachesEnd n id d → ReachesEnd n id e → id_at n d ≡ id_at n e
  ends_alike id d e (at_place _ _ i p got has is) (at_place _ _ j q found holds same) = at_this_place id d i p got has is ∙ sym (at_this_place id e j q found holds same)
  ends_alike id d e (at_place _ _ i p got has is) (at_transition _ _ j t found holds same) = at_this_place id d i p got has is ∙ sym (at_this_transition id e j t found holds same)
  ends_alike id d e (at_place _ _ i p got has is) (by_reference _ _ s stands holds more) = absurd (place_no_reference p s (contains_at (net_places n) i p got) stands (has ∙ sym holds))
  ends_alike id d e (at_transition _ _ i t got has is) (at_place _ _ j q found holds same) = at_this_transition id d i t got has is ∙ sym (at_this_place id e j q found holds same)
  ends_alike id d e (at_transition _ _ i t got has is) (at_transition _ _ j u found holds same) = at_this_transition id d i t got has is ∙ sym (at_this_transition id e j u found holds same)
  ends_alike id d e (at_transition _ _ i t got has is) (by_reference _ _ s stands holds more) = absurd (transition_no_reference t s (contains_at (net_transitions n) i t got) stands (has ∙ sym holds))
  ends_alike id d e (by_reference _ _ r stands has rest) (at_place _ _ j q found holds same) = absurd (place_no_reference q r (contains_at (net_places n) j q found) stands (holds ∙ sym has))
  ends_alike id d e (by_reference _ _ r stands has rest) (at_transition _ _ j u found holds same) = absurd (transition_no_reference u r (contains_at (net_transitions n) j u found) stands (holds ∙ sym has))
  ends_alike id d e (by_reference _ _ r stands has rest) (by_reference _ _ s also holds more) =
      let same = one_reference r s stands also (has ∙ sym holds) in
      ends_alike r.refers d e rest (subst (λ x. ReachesEnd n x.refers e) (sym same) more)

  reaches_one : (id a b : List ℕ) → Reaches n id a → Reaches n id b → a ≡ b
  reaches_one id a b (d, to_d, is) (e, to_e, also) = let same : Some a ≡ Some b = sym is ∙ ends_alike id d e to_d to_e ∙ also in cc

  rewired_one : (a b c : Arc) → IsRewired n a b → IsRewired n a c → b ≡ c
  rewired_one a b c p q =
      p.is
      ∙ ap (λ x. record a { source = x; target = p.target }) (reaches_one a.source p.source q.source p.from q.from)
      ∙ ap (λ x. record a { source = q.source; target = x }) (reaches_one a.target p.target q.target p.to q.to)
      ∙ sym q.is

  rewired_all : (olds bs cs : List Arc) → AllZip (IsRewired n) olds bs → AllZip (IsRewired n) olds cs → bs ≡ cs
  rewired_all [] [] [] p q = refl
  rewired_all [] [] (c ∷ cs) p q = absurd q
  rewired_all [] (b ∷ bs) cs p q = absurd p
  rewired_all (a ∷ olds) [] cs p q = absurd p
  rewired_all (a ∷ olds) (b ∷ bs) [] p q = absurd q
  rewired_all (a ∷ olds) (b ∷ bs) (c ∷ cs) p q = ap (λ x. x ∷ bs) (rewired_one a b c p.0 q.0) ∙ ap (λ l. c ∷ l) (rewired_all olds bs cs p.1 q.1)

  -- a net without faults of ids and links has one flat net
  pub one_flat_net : (f g : Net) → IsFlattened n f → IsFlattened n g → f ≡ g
  one_flat_net f g p q =
      let page : p.page ≡ q.page = (let same : Some p.page ≡ Some q.page = sym p.is_first ∙ q.is_first in cc) in
      p.is ∙ ap (λ x. on_one_page n x p.arcs) page ∙ ap (on_one_page n q.page) (rewired_all (net_arcs n) p.arcs q.arcs p.rewired q.rewired) ∙ sym q.is
