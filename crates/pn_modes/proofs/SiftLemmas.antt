-- Those of a list that are wanted, in their order, and the modes that are made of them.
use Rattle.std.proofs.Common.{◌≡◌, ◌⊎◌, inl, inr, ℕ, ◌<◌, List, [], ◌∷◌, ◌++◌, map, length, refl, sym, ap, ◌∙◌, subst, append_assoc, append-nil, arith, length-append}
use Rattle.std.specs.List.{AllByRecursion, Contains}
use Rattle.std.specs.List.Sorted.{IsStrictlySortedBy}
use Rattle.std.specs.Cmp.Lexicographic.{slice_cmp}
use Rattle.std.specs.Option.{option_map}
use Rattle.std.specs.Ordering.{nat_cmp, ordering_then}
use Rattle.std.specs.declared.cmp.Ordering.{Ordering}
use Rattle.std.specs.declared.cmp.Ordering.TheVariants.{Equal, Less}
use Rattle.std.proofs.lemmas.Bool.Decides.{nat_tests}
use Rattle.std.proofs.lemmas.List.{map-append}
use Rattle.std.proofs.lemmas.Option.{slice_get-map}
use Rattle.pn_facts.proofs.Contained.{at_contains, contains_at, contains_cases, contains_first, contains_next, contains_nil}
use Rattle.pn_facts.proofs.Each.{one_of}
use Rattle.pn_carriers.specs.Carriers.{choices}
use Rattle.pn_carriers.proofs.PlaceLemmas.{mapped}
use Rattle.pn_net.specs.declared.mode.Mode.{Mode}
use Rattle.pn_net.specs.Orders.{mode_cmp}
use Rattle.pn_values.specs.declared.value.Value.{Value}
use Rattle.pn_values.specs.Order.{value_cmp}
use Rattle.pn_modes.specs.Prunes.{AreAllModes, AreUnwanted, Skips}
use Rattle.pn_modes.proofs.ChoiceLemmas.{choice_of, of_choice}

module _ (wanted : List Value → Type 0) where
  -- these are the wanted ones of a list, in their order
  abbrev pub AreSifted : List (List Value) → List (List Value) → Type 0
  AreSifted [] ys = ys ≡ []
  AreSifted (x ∷ xs) ys = ((wanted x → ⊥) × AreSifted xs ys) ⊎ (wanted x × ((rest : List (List Value)) × (ys ≡ x ∷ rest) × AreSifted xs rest))

  sifted_past : (skipped new ys : List (List Value)) → AreUnwanted wanted skipped → AreSifted new ys → AreSifted (skipped ++ new) ys
  sifted_past [] new ys none h = h
  sifted_past (x ∷ skipped) new ys none h = inl (none.0, sifted_past skipped new ys none.1 h)

  pub sifted_next : (old : List (List Value)) (a : List Value) (new ys : List (List Value)) → Skips wanted old (a ∷ new) → wanted a → AreSifted new ys → AreSifted old (a ∷ ys)
  sifted_next old a new ys s is h = subst (λ l. AreSifted l (a ∷ ys)) (sym s.is) (sifted_past s.skipped (a ∷ new) (a ∷ ys) s.unwanted (inr (is, (ys, refl, h))))

  pub sifted_none : (old : List (List Value)) → AreUnwanted wanted old → AreSifted old []
  sifted_none [] none = refl
  sifted_none (x ∷ xs) none = inl (none.0, sifted_none xs none.1)

  sifted_only : (xs ys : List (List Value)) (a : List Value) → AreSifted xs ys → Contains ys a → Contains xs a × wanted a
  sifted_only [] ys a h c = absurd (contains_nil a (subst (λ l. Contains l a) h c))
  sifted_only (x ∷ xs) ys a (inl h) c = let found = sifted_only xs ys a h.1 c in (contains_next x xs a found.0, found.1)
  sifted_only (x ∷ xs) ys a (inr h) c = step (contains_cases x h.1.0 a (subst (λ l. Contains l a) h.1.1 c)) (sifted_only xs h.1.0 a h.1.2)
    where
      step : (x ≡ a) ⊎ Contains h.1.0 a → (Contains h.1.0 a → Contains xs a × wanted a) → Contains (x ∷ xs) a × wanted a
      step (inl same) more = (subst (Contains (x ∷ xs)) same (contains_first x xs), subst wanted same h.0)
      step (inr there) more = let found = more there in (contains_next x xs a found.0, found.1)

  sifted_every : (xs ys : List (List Value)) (a : List Value) → AreSifted xs ys → Contains xs a → wanted a → Contains ys a
  sifted_every [] ys a h c is = absurd (contains_nil a c)
  sifted_every (x ∷ xs) ys a (inl h) c is = step (contains_cases x xs a c) (λ w. sifted_every xs ys a h.1 w is)
    where
      step : (x ≡ a) ⊎ Contains xs a → (Contains xs a → Contains ys a) → Contains ys a
      step (inl same) more = absurd (h.0 (subst wanted (sym same) is))
      step (inr there) more = more there
  sifted_every (x ∷ xs) ys a (inr h) c is = subst (λ l. Contains l a) (sym h.1.1) (step (contains_cases x xs a c) (λ w. sifted_every xs h.1.0 a h.1.2 w is))
    where
      step : (x ≡ a) ⊎ Contains xs a → (Contains xs a → Contains h.1.0 a) → Contains (x ∷ h.1.0) a
      step (inl same) more = subst (Contains (x ∷ h.1.0)) same (contains_first x h.1.0)
      step (inr there) more = contains_next x h.1.0 a (more there)

  sifted_each : (P : List Value → Type 0) (xs ys : List (List Value)) → AreSifted xs ys → AllByRecursion P xs → AllByRecursion P ys
  sifted_each P [] ys h all = subst (AllByRecursion P) (sym h) tt
  sifted_each P (x ∷ xs) ys (inl h) all = sifted_each P xs ys h.1 all.1
  sifted_each P (x ∷ xs) ys (inr h) all = subst (AllByRecursion P) (sym h.1.1) (all.0, sifted_each P xs h.1.0 h.1.2 all.1)

  sifted_ascend : (cmp : List Value → List Value → Ordering) (xs ys : List (List Value)) → AreSifted xs ys → IsStrictlySortedBy cmp xs → IsStrictlySortedBy cmp ys
  unfolding IsStrictlySortedBy
  sifted_ascend cmp [] ys h up = subst (IsStrictlySortedBy cmp) (sym h) tt
  sifted_ascend cmp (x ∷ xs) ys (inl h) up = sifted_ascend cmp xs ys h.1 up.1
  sifted_ascend cmp (x ∷ xs) ys (inr h) up = subst (IsStrictlySortedBy cmp) (sym h.1.1) (sifted_each (λ y. cmp x y ≡ Less) xs h.1.0 h.1.2 up.0, sifted_ascend cmp xs h.1.0 h.1.2 up.1)

-- ---- modes

abbrev pub values_of : Mode → List Value
values_of m = m.values

values_contained : (modes : List Mode) (m : Mode) → Contains modes m → Contains (map values_of modes) m.values
values_contained modes m c =
    let p = at_contains modes m c in contains_at (map values_of modes) p.0 m.values (slice_get-map values_of modes p.0 ∙ ap (option_map values_of) p.1)

pub same_transition : (t : ℕ) (m n : Mode) → m.transition ≡ t → n.transition ≡ t → mode_cmp m n ≡ slice_cmp value_cmp m.values n.values
same_transition t m n is also =
    let tied : nat_cmp t t ≡ Equal = grind (arith, nat_tests) in
    ap (λ o. ordering_then o (slice_cmp value_cmp m.values n.values)) (ap (λ k. nat_cmp k n.transition) is ∙ ap (nat_cmp t) also ∙ tied)

above : (t : ℕ) (m : Mode) (modes : List Mode) → m.transition ≡ t → AllByRecursion (λ n. n.transition ≡ t) modes → AllByRecursion (λ vs. slice_cmp value_cmp m.values vs ≡ Less) (map values_of modes) → AllByRecursion (λ n. mode_cmp m n ≡ Less) modes
above t m [] is same up = tt
above t m (n ∷ modes) is same up = (same_transition t m n is same.0 ∙ up.0, above t m modes is same.1 up.1)

modes_ascend : (t : ℕ) (modes : List Mode) → AllByRecursion (λ n. n.transition ≡ t) modes → IsStrictlySortedBy (slice_cmp value_cmp) (map values_of modes) → IsStrictlySortedBy mode_cmp modes
unfolding IsStrictlySortedBy
modes_ascend t [] same up = tt
modes_ascend t (m ∷ modes) same up = (above t m modes same.0 same.1 up.0, modes_ascend t modes same.1 up.1)

-- modes of one transition whose values are the wanted choices are all modes
pub all_modes : (wanted : List Value → Type 0) (cs : List (List Value)) (t : ℕ) (modes : List Mode) → IsStrictlySortedBy (slice_cmp value_cmp) (choices cs) → AllByRecursion (λ m. m.transition ≡ t) modes
    → AreSifted wanted (choices cs) (map values_of modes) → AreAllModes wanted cs t modes
all_modes wanted cs t modes up same h = record {
  ascending = modes_ascend t modes same (sifted_ascend wanted (slice_cmp value_cmp) (choices cs) (map values_of modes) h up);
  only = λ m c. let found = sifted_only wanted (choices cs) (map values_of modes) m.values h (values_contained modes m c) in (one_of (λ n. n.transition ≡ t) modes m same c, choice_of cs m.values found.0, found.1);
  every = λ m is choice want.
      let p = at_contains (map values_of modes) m.values (sifted_every wanted (choices cs) (map values_of modes) m.values h (of_choice cs m.values choice) want) in
      let n = mapped values_of modes p.0 m.values p.1 in
      let there = contains_at modes p.0 n.0 n.1 in
      subst (Contains modes) (one_mode n.0 m (one_of (λ k. k.transition ≡ t) modes n.0 same there ∙ sym is) (sym n.2)) there;
}
  where
    one_mode : (n m : Mode) → n.transition ≡ m.transition → n.values ≡ m.values → n ≡ m
    one_mode n m transitions values = λ i. record { transition = transitions i; values = values i }

-- one more mode
pub one_more_mode : (wanted : List Value → Type 0) (all : List (List Value)) (modes more : List Mode) (m : Mode) (old new : List (List Value)) → more ≡ modes ++ m ∷ [] → Skips wanted old (m.values ∷ new) → wanted m.values
    → ((ys : List (List Value)) → AreSifted wanted old ys → AreSifted wanted all (map values_of modes ++ ys)) → (ys : List (List Value)) → AreSifted wanted new ys → AreSifted wanted all (map values_of more ++ ys)
one_more_mode wanted all modes more m old new is skips want so_far ys h =
    let next : map values_of more ++ ys ≡ map values_of modes ++ m.values ∷ ys = ap (λ l. map values_of l ++ ys) is ∙ ap (λ l. l ++ ys) (map-append values_of modes (m ∷ [])) ∙ append_assoc (map values_of modes) (m.values ∷ []) ys in
    subst (AreSifted wanted all) (sym next) (so_far (m.values ∷ ys) (sifted_next wanted old m.values new ys skips want h))

pub one_more_transition : (t : ℕ) (modes : List Mode) (m : Mode) → m.transition ≡ t → AllByRecursion (λ n. n.transition ≡ t) modes → AllByRecursion (λ n. n.transition ≡ t) (modes ++ m ∷ [])
one_more_transition t [] m is all = (is, tt)
one_more_transition t (n ∷ modes) m is all = (all.0, one_more_transition t modes m is all.1)

-- fewer are to come
pub fewer_to_come : (wanted : List Value → Type 0) (old : List (List Value)) (a : List Value) (new : List (List Value)) → Skips wanted old (a ∷ new) → length new < length old
fewer_to_come wanted old a new s = let long = length-append s.skipped (a ∷ new) in let same : length old ≡ length (s.skipped ++ a ∷ new) = ap length s.is in omega arith

-- at the end all are found
pub sifted_all : (wanted : List Value → Type 0) (all : List (List Value)) (modes : List Mode) (old : List (List Value)) → AreUnwanted wanted old
    → ((ys : List (List Value)) → AreSifted wanted old ys → AreSifted wanted all (map values_of modes ++ ys)) → AreSifted wanted all (map values_of modes)
sifted_all wanted all modes old none so_far = subst (AreSifted wanted all) (append-nil (map values_of modes)) (so_far [] (sifted_none wanted old none))
