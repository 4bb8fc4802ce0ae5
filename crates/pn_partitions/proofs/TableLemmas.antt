-- The table of a partition, as values are listed.
use Rattle.std.proofs.Common.{◌≡◌, ◌≢◌, ◌⊎◌, inl, inr, ℕ, zero, suc, ◌+◌, ◌<◌, true, false, ◌&&◌, List, [], ◌∷◌, ◌++◌, map, length, take, drop, get_or, set, Option, Some, None, is_some, Result, Ok, Err, IfOk, IfSome, IfNone, IsSome, MatchOption, ◌↔◌, refl, ap, sym, ◌∙◌, subst, true≢false, append_assoc, append-nil, take-append-drop, length-set, get_or-set_same, get_or-set_other, arith}
use Rattle.std.specs.List.{slice_get, list_all, flat_map, Contains}
use Rattle.std.specs.Option.{option_map}
use Rattle.std.proofs.lemmas.List.{drop_more, take_more, map-append, map_more}
use Rattle.std.proofs.lemmas.List.Concat.{flat_map-append}
use Rattle.std.proofs.lemmas.List.Elements.{Contains-push_cases}
use Rattle.std.proofs.lemmas.List.Folds.{list_all-append}
use Rattle.std.proofs.lemmas.Bool.{cases_eq}
use Rattle.std.proofs.lemmas.Option.{none-some, same_Some, slice_get-map, slice_get_within, slice_get-get_or, get_or_from_slice_get}
use Rattle.pn_partitions.specs.Partitions.{IsOnce}
use Rattle.pn_partitions.specs.Tables.{AreEachOnce, IsEntry, IsFilled, IsSpoilt}
use Rattle.pn_names.proofs.DeclaredLemmas.{slice_get_at, slice_get_left}
use Rattle.pn_facts.proofs.Options.{none_unless_some}

pub slice_get_push : {A : Type 0} (xs : List A) (y : A) (j : ℕ) (x : A) → slice_get (xs ++ y ∷ []) j ≡ Some x → (slice_get xs j ≡ Some x) ⊎ ((j ≡ length xs) × (y ≡ x))
slice_get_push [] y zero x h = inr (refl, same_Some y x h)
slice_get_push [] y (suc j) x h = absurd (none-some x h)
slice_get_push (z ∷ xs) y zero x h = inl h
slice_get_push (z ∷ xs) y (suc j) x h = elim (slice_get_push xs y j x h) [ inl l ↦ inl l | inr r ↦ inr (ap suc r.0, r.1) ]

pub contains_at : {A : Type 0} (xs : List A) (i : ℕ) (x : A) → slice_get xs i ≡ Some x → Contains xs x
contains_at xs i x h = (i, slice_get_within xs i x h, get_or_from_slice_get xs i x x h)

pub at_contains : {A : Type 0} (xs : List A) (x : A) → Contains xs x → (i : ℕ) × (slice_get xs i ≡ Some x)
at_contains xs x c = (c.0, slice_get-get_or xs c.0 x c.1 ∙ ap Some c.2)

once_push : (listed : List (Option ℕ)) (k : ℕ) (y : Option ℕ) → y ≢ Some k → IsOnce listed k → IsOnce (listed ++ y ∷ []) k
once_push listed k y other once =
    (once.0, slice_get_left listed (y ∷ []) once.0 (Some k) once.1, λ j h. elim (slice_get_push listed y j (Some k) h) [ inl l ↦ once.2 j l | inr r ↦ absurd (other r.1) ])

once_first : (listed : List (Option ℕ)) (k : ℕ) → (Contains listed (Some k) → ⊥) → IsOnce (listed ++ Some k ∷ []) k
once_first listed k absent =
    (length listed, slice_get_at listed (Some k) [], λ j h. elim (slice_get_push listed (Some k) j (Some k) h) [ inl l ↦ absurd (absent (contains_at listed j (Some k) l)) | inr r ↦ r.0 ])

entry_kept : (lists : List (List (Option ℕ))) (listed : List (Option ℕ)) (k : ℕ) (y entry : Option ℕ) → y ≢ Some k → IsEntry lists listed k entry → IsEntry lists (listed ++ y ∷ []) k entry
entry_kept lists listed k y None other absent = λ c. elim (Contains-push_cases listed y (Some k) c) [ inl l ↦ absent l | inr r ↦ other r ]
entry_kept lists listed k y (Some n) other there = (once_push listed k y other there.0, there.1)

all_some_push : (listed : List (Option ℕ)) (p : ℕ) → list_all is_some listed ≡ true → list_all is_some (listed ++ Some p ∷ []) ≡ true
all_some_push listed p h = list_all-append is_some listed (Some p ∷ []) ∙ ap (λ b. b && true) h

-- a number that was not listed yet
filled_push : (lists : List (List (Option ℕ))) (listed : List (Option ℕ)) (table : List (Option ℕ)) (p number : ℕ) (l : List (Option ℕ)) → slice_get lists number ≡ Some l → Contains l (Some p) → p < length table
    → get_or table p None ≡ None → IsFilled lists listed table → IsFilled lists (listed ++ Some p ∷ []) (set table p (Some number))
filled_push lists listed table p number l at has lt free filled = record {
  values = all_some_push listed p filled.values;
  entries = λ k within. elim (cases_eq k p) [ inl same ↦ here k same | inr other ↦ there k other (omega (arith, length-set table p (Some number))) ];
}
  where
    absent : Contains listed (Some p) → ⊥
    absent = subst (IsEntry lists listed p) free (filled.entries p lt)

    here : (k : ℕ) → k ≡ p → IsEntry lists (listed ++ Some p ∷ []) k (get_or (set table p (Some number)) k None)
    here k same = subst (λ (m : ℕ). IsEntry lists (listed ++ Some p ∷ []) m (get_or (set table p (Some number)) m None)) (sym same)
        (subst (IsEntry lists (listed ++ Some p ∷ []) p) (sym (get_or-set_same table p (Some number) None lt)) (once_first listed p absent, (l, at, has)))

    there : (k : ℕ) → k ≢ p → k < length table → IsEntry lists (listed ++ Some p ∷ []) k (get_or (set table p (Some number)) k None)
    there k other within = subst (IsEntry lists (listed ++ Some p ∷ []) k) (sym (get_or-set_other table p k (Some number) None other))
        (entry_kept lists listed k (Some p) (get_or table k None) (λ same. other (sym (same_Some p k same))) (filled.entries k within))

none_listed : (xs ys : List (Option ℕ)) → list_all is_some (xs ++ None ∷ ys) ≡ false
none_listed [] ys = refl
none_listed (None ∷ xs) ys = refl
none_listed (Some x ∷ xs) ys = none_listed xs ys

spoilt_none : (size : ℕ) (listed rest : List (Option ℕ)) → IsSpoilt size (listed ++ None ∷ rest)
spoilt_none size listed rest more each =
    true≢false (sym each.values ∙ ap (list_all is_some) (append_assoc listed (None ∷ rest) more) ∙ none_listed listed (rest ++ more))

twice : (size : ℕ) (listed rest more : List (Option ℕ)) (p : ℕ) → p < size → IsOnce listed p → AreEachOnce size ((listed ++ Some p ∷ rest) ++ more) → ⊥
twice size listed rest more p lt once each =
    let all = subst (AreEachOnce size) (append_assoc listed (Some p ∷ rest) more) each in
    let only = all.once p lt in
    let first = only.2 once.0 (slice_get_left listed (Some p ∷ (rest ++ more)) once.0 (Some p) once.1) in
    let second = only.2 (length listed) (slice_get_at listed (Some p) (rest ++ more)) in
    let within = slice_get_within listed once.0 (Some p) once.1 in
    absurd (omega (arith, first, second, within))

-- a number that was listed before
spoilt_twice : (lists : List (List (Option ℕ))) (listed rest : List (Option ℕ)) (table : List (Option ℕ)) (p : ℕ) → p < length table → (entry : Option ℕ) → get_or table p None ≡ entry → is_some entry ≡ true
    → IsFilled lists listed table → IsSpoilt (length table) (listed ++ Some p ∷ rest)
spoilt_twice lists listed rest table p lt None is taken filled more each = true≢false (sym taken)
spoilt_twice lists listed rest table p lt (Some n) is taken filled more each = twice (length table) listed rest more p lt (subst (IsEntry lists listed p) is (filled.entries p lt)).0 each

-- a number that is not listed
pub gap_left : (lists : List (List (Option ℕ))) (listed : List (Option ℕ)) (table : List (Option ℕ)) → IsFilled lists listed table → Contains table None → AreEachOnce (length table) listed → ⊥
gap_left lists listed table filled gap each =
    let once = each.once gap.0 gap.1 in
    subst (IsEntry lists listed gap.0) gap.2 (filled.entries gap.0 gap.1) (contains_at listed once.0 (Some gap.0) once.1)

pub spoilt_now : (size : ℕ) (listed : List (Option ℕ)) → IsSpoilt size listed → AreEachOnce size listed → ⊥
spoilt_now size listed spoilt each = spoilt [] (subst (AreEachOnce size) (sym (append-nil listed)) each)

-- whatever is listed after it
spoilt_front : (size : ℕ) (listed rest : List (Option ℕ)) → IsSpoilt size listed → IsSpoilt size (listed ++ rest)
spoilt_front size listed rest spoilt more each = spoilt (rest ++ more) (subst (AreEachOnce size) (append_assoc listed rest more) each)

module _ {X : Type 0} (place : X → Option ℕ) (values : List X) (i : ℕ) (v : X) (lt : i < length values) (is : v ≡ get_or values i v) (listed : List (Option ℕ)) where
  next_place : listed ++ map place (take (i + 1) values) ≡ (listed ++ map place (take i values)) ++ place v ∷ []
  next_place = ap (λ l. listed ++ l) (map_more place values i v lt) ∙ ap (λ x. listed ++ (map place (take i values) ++ place x ∷ [])) (sym is) ∙ sym (append_assoc listed (map place (take i values)) (place v ∷ []))

  split_places : (listed ++ map place (take i values)) ++ place v ∷ map place (drop (i + 1) values) ≡ listed ++ map place values
  split_places =
      append_assoc listed (map place (take i values)) (place v ∷ map place (drop (i + 1) values))
      ∙ ap (λ l. listed ++ l) (sym (map-append place (take i values) (v ∷ drop (i + 1) values)) ∙ ap (map place) (ap (λ x. take i values ++ x ∷ drop (i + 1) values) is ∙ ap (λ l. take i values ++ l) (sym (drop_more values i v lt)) ∙ take-append-drop i values))

  -- a value that is none of the base sort
  pub refused_none : (size : ℕ) → place v ≡ None → IsSpoilt size (listed ++ map place values)
  refused_none size none = subst (IsSpoilt size) (ap (λ y. (listed ++ map place (take i values)) ++ y ∷ map place (drop (i + 1) values)) (sym none) ∙ split_places)
      (spoilt_none size (listed ++ map place (take i values)) (map place (drop (i + 1) values)))

  -- a value that was listed before
  pub refused_twice : (lists : List (List (Option ℕ))) (table : List (Option ℕ)) (p : ℕ) → place v ≡ Some p → p < length table → is_some (get_or table p None) ≡ true
      → IsFilled lists (listed ++ map place (take i values)) table → IsSpoilt (length table) (listed ++ map place values)
  refused_twice lists table p at within taken filled =
      subst (IsSpoilt (length table)) (ap (λ y. (listed ++ map place (take i values)) ++ y ∷ map place (drop (i + 1) values)) (sym at) ∙ split_places)
      (spoilt_twice lists (listed ++ map place (take i values)) (map place (drop (i + 1) values)) table p within (get_or table p None) refl taken filled)

  -- a value that was not
  pub entered_next : (lists : List (List (Option ℕ))) (table : List (Option ℕ)) (p number : ℕ) → slice_get lists number ≡ Some (map place values) → place v ≡ Some p → p < length table
      → is_some (get_or table p None) ≡ false → IsFilled lists (listed ++ map place (take i values)) table
      → IsFilled lists (listed ++ map place (take (i + 1) values)) (set table p (Some number))
  entered_next lists table p number there at within free filled =
      let has = contains_at (map place values) i (Some p) (slice_get-map place values i ∙ ap (option_map place) (slice_get-get_or values i v lt) ∙ ap (λ x. Some (place x)) (sym is) ∙ ap Some at) in
      subst (λ l. IsFilled lists l (set table p (Some number))) (ap (λ y. (listed ++ map place (take i values)) ++ y ∷ []) (sym at) ∙ sym next_place)
      (filled_push lists (listed ++ map place (take i values)) table p number (map place values) there has within (none_unless_some (get_or table p None) free) filled)

module _ {X : Type 0} (places : X → List (Option ℕ)) (elements : List X) (i : ℕ) (e : X) (lt : i < length elements) (is : e ≡ get_or elements i e) where
  -- the places of an element stand at its number
  pub places_there : slice_get (map places elements) i ≡ Some (places e)
  places_there = slice_get-map places elements i ∙ ap (option_map places) (slice_get-get_or elements i e lt) ∙ ap (λ x. Some (places x)) (sym is)

  pub next_places : flat_map places (take i elements) ++ places e ≡ flat_map places (take (i + 1) elements)
  next_places =
      ap (λ l. flat_map places (take i elements) ++ l) (sym (append-nil (places e))) ∙ sym (flat_map-append places (take i elements) (e ∷ []))
      ∙ ap (flat_map places) (ap (λ x. take i elements ++ x ∷ []) is ∙ sym (take_more elements i e lt))

  split_elements : (flat_map places (take i elements) ++ places e) ++ flat_map places (drop (i + 1) elements) ≡ flat_map places elements
  split_elements =
      append_assoc (flat_map places (take i elements)) (places e) (flat_map places (drop (i + 1) elements)) ∙ sym (flat_map-append places (take i elements) (e ∷ drop (i + 1) elements))
      ∙ ap (flat_map places) (ap (λ x. take i elements ++ x ∷ drop (i + 1) elements) is ∙ ap (λ l. take i elements ++ l) (sym (drop_more elements i e lt)) ∙ take-append-drop i elements)

  -- what an element spoils
  pub refused_element : (size : ℕ) → IsSpoilt size (flat_map places (take i elements) ++ places e) → IsSpoilt size (flat_map places elements)
  refused_element size spoilt = subst (IsSpoilt size) split_elements (spoilt_front size (flat_map places (take i elements) ++ places e) (flat_map places (drop (i + 1) elements)) spoilt)

module _ {V E : Type 0} (r : Result (Option V) E) where
  -- what the answer None says
  pub none_answered : (A B : Type 0) (P : V → Type 0) → (A → B) → IfOk r (λ t. MatchOption t A P) → IfOk r (λ t. IfNone t B)
  none_answered A B P f h = at r h
    where
      at : (r : Result (Option V) E) → IfOk r (λ t. MatchOption t A P) → IfOk r (λ t. IfNone t B)
      at (Ok None) h = f h
      at (Ok (Some v)) h = tt
      at (Err e) h = tt

  -- what both answers say
  pub both_answered : (A S : Type 0) (P Q : V → Type 0) → (A → S → ⊥) → ((v : V) → P v → Q v → S) → IfOk r (λ t. IfNone t A) → IfOk r (λ t. IfSome t P) → IfOk r (λ t. IfSome t Q) → IfOk r (λ t. IsSome t ↔ S)
  both_answered A S P Q f g a p q = at r a p q
    where
      at : (r : Result (Option V) E) → IfOk r (λ t. IfNone t A) → IfOk r (λ t. IfSome t P) → IfOk r (λ t. IfSome t Q) → IfOk r (λ t. IsSome t ↔ S)
      at (Ok None) a p q = (λ h. absurd (true≢false (sym h)), λ s. absurd (f a s))
      at (Ok (Some v)) a p q = (λ h. g v p q, λ s. refl)
      at (Err e) a p q = tt

  pub some_answered : (P Q S : V → Type 0) → ((v : V) → P v → Q v → S v) → IfOk r (λ t. IfSome t P) → IfOk r (λ t. IfSome t Q) → IfOk r (λ t. IfSome t S)
  some_answered P Q S g p q = at r p q
    where
      at : (r : Result (Option V) E) → IfOk r (λ t. IfSome t P) → IfOk r (λ t. IfSome t Q) → IfOk r (λ t. IfSome t S)
      at (Ok None) p q = tt
      at (Ok (Some v)) p q = g v p q
      at (Err e) p q = tt
