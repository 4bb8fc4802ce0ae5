-- The arcs of a transition by their numbers, and what stands in their inscriptions.
use Rattle.std.proofs.Common.{◌≡◌, ◌+◌, ◌-◌, ◌≤◌, ◌++◌, ◌⊎◌, inl, inr, ◌&&◌, ℕ, zero, suc, List, [], ◌∷◌, Bool, true, false, cond, Option, None, Some, IfSome, length, take, drop, refl, sym, ap, ◌∙◌, subst, arith, if◌then◌else◌}
use Rattle.std.specs.List.{Contains, cons_option, filter, filter_map, slice_get}
use Rattle.std.specs.Option.{option_to_list}
use Rattle.std.proofs.lemmas.Bool.{false≢true}
use Rattle.std.proofs.lemmas.List.Elements.{Contains-append_left, Contains-append_right, filter-append, filter_map-append}
use Rattle.pn_eval.specs.Assignments.{Covers}
use Rattle.pn_facts.proofs.Contained.{contains_all_of, contains_at, contains_cases, contains_first, contains_next, contains_nil}
use Rattle.pn_net.proofs.DocumentLemmas.{contains_kept}
use Rattle.pn_net.specs.Labels.{said}
use Rattle.pn_net.specs.Typed.{AreVariablesAt, arc_numbers_at, condition_at, is_at, numbers_where, terms_at}
use Rattle.pn_net.specs.declared.flat.Flat.{Flat}
use Rattle.pn_net.specs.declared.flat.FlatArc.{FlatArc}
use Rattle.pn_syntax.specs.declared.term.Term.{Term}
use Rattle.pn_terms.specs.Variables.{variables_in_term}
use Rattle.pn_marking.specs.Known.{AreKnown, arcs_with}
use Rattle.pn_marking.specs.Totals.{arcs_at, leads}

module _ {A : Type 0} where
  filter_both : (p q : A → Bool) (xs : List A) → filter q (filter p xs) ≡ filter (λ x. p x && q x) xs
  filter_both p q [] = refl
  filter_both p q (x ∷ xs) = by (p x) (filter_both p q xs)
    where
      by : (b : Bool) → filter q (filter p xs) ≡ filter (λ x. p x && q x) xs → filter q (cond b (x ∷ filter p xs) (filter p xs)) ≡ cond (b && q x) (x ∷ filter (λ x. p x && q x) xs) (filter (λ x. p x && q x) xs)
      by true rest = ap (λ ys. cond (q x) (x ∷ ys) ys) rest
      by false rest = rest

  -- the items of the numbers of those that pass are those that pass
  picked : (p : A → Bool) (g : ℕ → Option A) (i : ℕ) (xs : List A) → ((j : ℕ) → g (i + j) ≡ slice_get xs j) → filter_map g (numbers_where p i xs) ≡ filter p xs
  picked p g i [] is = refl
  picked p g i (x ∷ xs) is = by (p x) (picked p g (suc i) xs (λ j. ap g (omega arith) ∙ is (suc j)))
    where
      head : g i ≡ Some x
      head = ap g (omega arith) ∙ is 0

      by : (b : Bool) → filter_map g (numbers_where p (suc i) xs) ≡ filter p xs
          → filter_map g (if b then i ∷ numbers_where p (suc i) xs else numbers_where p (suc i) xs) ≡ cond b (x ∷ filter p xs) (filter p xs)
      by true rest = ap (λ o. cons_option o (filter_map g (numbers_where p (suc i) xs))) head ∙ ap (λ ys. x ∷ ys) rest
      by false rest = rest

  -- a number of one that passes
  number_in : (p : A → Bool) (g : ℕ → Option A) (i : ℕ) (xs : List A) → ((j : ℕ) → g (i + j) ≡ slice_get xs j) → (n : ℕ) → Contains (numbers_where p i xs) n → (x : A) × (g n ≡ Some x) × (p x ≡ true)
  number_in p g i [] is n has = absurd (contains_nil n has)
  number_in p g i (x ∷ xs) is n has = by (number_in p g (suc i) xs (λ j. ap g (omega arith) ∙ is (suc j)) n) (p x) refl has
    where
      by : (Contains (numbers_where p (suc i) xs) n → (x : A) × (g n ≡ Some x) × (p x ≡ true)) → (b : Bool) → p x ≡ b → Contains (if b then i ∷ numbers_where p (suc i) xs else numbers_where p (suc i) xs) n
          → (x : A) × (g n ≡ Some x) × (p x ≡ true)
      by later true passes there = first (contains_cases i (numbers_where p (suc i) xs) n there)
        where
          first : (i ≡ n) ⊎ Contains (numbers_where p (suc i) xs) n → (x : A) × (g n ≡ Some x) × (p x ≡ true)
          first (inl same) = (x, ap g (sym same) ∙ ap g (omega arith) ∙ is 0, passes)
          first (inr more) = later more
      by later false fails there = later there

  filtered : (p : A → Bool) (xs : List A) (x : A) → p x ≡ true → Contains xs x → Contains (filter p xs) x
  filtered p [] x passes has = absurd (contains_nil x has)
  filtered p (y ∷ xs) x passes has = by (p y) refl (contains_cases y xs x has) (filtered p xs x passes)
    where
      by : (b : Bool) → p y ≡ b → (y ≡ x) ⊎ Contains xs x → (Contains xs x → Contains (filter p xs) x) → Contains (cond b (y ∷ filter p xs) (filter p xs)) x
      by true is (inl same) later = subst (Contains (y ∷ filter p xs)) same (contains_first y (filter p xs))
      by true is (inr more) later = contains_next y (filter p xs) x (later more)
      by false is (inl same) later = absurd (false≢true (sym is ∙ ap p same ∙ passes))
      by false is (inr more) later = later more

-- ---- halves of a list

all_taken : {A : Type 0} (n : ℕ) (xs : List A) → length xs ≤ n → take n xs ≡ xs
all_taken zero [] small = refl
all_taken zero (x ∷ xs) small = absurd (omega (arith, small))
all_taken (suc n) [] small = refl
all_taken (suc n) (x ∷ xs) small = ap (λ ys. x ∷ ys) (all_taken n xs (omega (arith, small)))

rest_size : {A : Type 0} (h : ℕ) (xs : List A) → length (drop h xs) ≤ length xs - h
rest_size zero xs = omega arith
rest_size (suc h) [] = omega arith
rest_size (suc h) (x ∷ xs) = let rest = rest_size h xs in omega (arith, rest)

front_and_rest : {A : Type 0} (h : ℕ) (xs : List A) → xs ≡ take h xs ++ drop h xs
front_and_rest zero xs = refl
front_and_rest (suc h) [] = refl
front_and_rest (suc h) (x ∷ xs) = ap (λ ys. x ∷ ys) (front_and_rest h xs)

halves : {A : Type 0} (h : ℕ) (xs : List A) → xs ≡ take h xs ++ take (length xs - h) (drop h xs)
halves h xs = front_and_rest h xs ∙ ap (λ ys. take h xs ++ ys) (sym (all_taken (length xs - h) (drop h xs) (rest_size h xs)))

pub in_first : (h : ℕ) (xs : List ℕ) (n : ℕ) → Contains (take h xs) n → Contains xs n
in_first h xs n has = subst (λ ys. Contains ys n) (sym (halves h xs)) (Contains-append_left (take h xs) (take (length xs - h) (drop h xs)) n has)

pub in_second : (h : ℕ) (xs : List ℕ) (n : ℕ) → Contains (take (length xs - h) (drop h xs)) n → Contains xs n
in_second h xs n has = subst (λ ys. Contains ys n) (sym (halves h xs)) (Contains-append_right (take h xs) (take (length xs - h) (drop h xs)) n has)

-- ---- arcs

module _ (f : Flat) (into : Bool) where
  pub arcs_both : (xs ys : List ℕ) → arcs_with f into (xs ++ ys) ≡ arcs_with f into xs ++ arcs_with f into ys
  arcs_both xs ys = ap (filter (leads into)) (filter_map-append (slice_get f.arcs) xs ys) ∙ filter-append (leads into) (filter_map (slice_get f.arcs) xs) (filter_map (slice_get f.arcs) ys)

  pub arcs_halved : (h : ℕ) (xs : List ℕ) → arcs_with f into xs ≡ arcs_with f into (take h xs) ++ arcs_with f into (take (length xs - h) (drop h xs))
  arcs_halved h xs = ap (arcs_with f into) (halves h xs) ∙ arcs_both (take h xs) (take (length xs - h) (drop h xs))

  pub arc_alone : (n : ℕ) (a : FlatArc) → slice_get f.arcs n ≡ Some a → leads into a ≡ true → arcs_with f into (n ∷ []) ≡ a ∷ []
  arc_alone n a got there = ap (λ o. filter (leads into) (cons_option o [])) got ∙ ap (λ b. cond b (a ∷ []) []) there

  pub no_arc : (n : ℕ) (a : FlatArc) → slice_get f.arcs n ≡ Some a → leads into a ≡ false → arcs_with f into (n ∷ []) ≡ []
  no_arc n a got there = ap (λ o. filter (leads into) (cons_option o [])) got ∙ ap (λ b. cond b (a ∷ []) []) there

  -- the numbers that a typed net keeps are those of all arcs of a transition
  pub all_arcs : (t : ℕ) → arcs_with f into (arc_numbers_at f t) ≡ arcs_at f t into
  all_arcs t = ap (filter (leads into)) (picked (is_at t) (slice_get f.arcs) 0 f.arcs (λ j. ap (slice_get f.arcs) (omega arith))) ∙ filter_both (is_at t) (leads into) f.arcs

-- ---- variables

module _ (f : Flat) (t : ℕ) (vars : List ℕ) (are : AreVariablesAt f t vars) where
  covered : (e : Term) → Contains (terms_at f t) e → Covers f.declarations vars e
  covered e has v there = (are.each v).1 (contains_all_of (variables_in_term f.declarations) (terms_at f t) e v has there)

  pub condition_covered : IfSome (condition_at f t) (Covers f.declarations vars)
  condition_covered = by (condition_at f t) refl
    where
      by : (o : Option Term) → condition_at f t ≡ o → IfSome o (Covers f.declarations vars)
      by None is = tt
      by (Some e) is =
          covered e (Contains-append_left (option_to_list (condition_at f t)) (filter_map (λ (a : FlatArc). said a.arc.inscription) (filter (is_at t) f.arcs)) e (subst (λ o. Contains (option_to_list o) e) (sym is) (contains_first e [])))

  pub arcs_known : AreKnown f vars (arc_numbers_at f t)
  arcs_known n has =
      let found = number_in (is_at t) (slice_get f.arcs) 0 f.arcs (λ j. ap (slice_get f.arcs) (omega arith)) n has in
      (found.0, found.1, by found.0 (filtered (is_at t) f.arcs found.0 found.2 (contains_at f.arcs n found.0 found.1)) (said found.0.arc.inscription) refl)
    where
      by : (a : FlatArc) → Contains (filter (is_at t) f.arcs) a → (o : Option Term) → said a.arc.inscription ≡ o → IfSome o (Covers f.declarations vars)
      by a there None is = tt
      by a there (Some e) is =
          covered e (Contains-append_right (option_to_list (condition_at f t)) (filter_map (λ (a : FlatArc). said a.arc.inscription) (filter (is_at t) f.arcs)) e
          (contains_kept (λ (a : FlatArc). said a.arc.inscription) (filter (is_at t) f.arcs) a e there is))
