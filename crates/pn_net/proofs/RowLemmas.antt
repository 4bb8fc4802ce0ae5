-- How what is known of transitions grows, arc by arc.
use Rattle.std.proofs.Common.{◌≡◌, ◌<◌, ◌+◌, ◌↔◌, ◌⊎◌, ℕ, zero, suc, Bool, true, false, List, [], ◌∷◌, ◌++◌, length, Option, None, Some, if◌then◌else◌, slice_set, get_or, inl, inr, refl, sym, ap, ◌∙◌, subst, append_assoc, append-nil, arith, take}
use Rattle.std.specs.List.{AllZip, Contains, filter, filter_map, flat_map}
use Rattle.std.specs.Option.{option_to_list}
use Rattle.std.proofs.lemmas.Bool.{ne_eqb}
use Rattle.std.proofs.lemmas.Bool.Decides.{eqb_tells}
use Rattle.std.proofs.lemmas.Grind.{flat_map-append}
use Rattle.std.proofs.lemmas.List.{length-take-le}
use Rattle.std.proofs.lemmas.List.Elements.{Contains-append_cases, Contains-append_left, Contains-append_right, filter-append, filter_map-append}
use Rattle.std.proofs.lemmas.Option.{slice_get-get_or}
use Rattle.std.specs.Result.{OnOk}
use Rattle.std.proofs.Common.{Result, Ok, Err}
use Rattle.pn_facts.proofs.Contained.{contains_at}
use Rattle.pn_objects.specs.declared.object.Transition.{Transition}
use Rattle.pn_syntax.specs.declared.declaration.Declaration.{Declaration}
use Rattle.pn_syntax.specs.declared.term.Term.{Term}
use Rattle.pn_terms.specs.Variables.{variables_in_term}
use Rattle.pn_net.specs.declared.flat.FlatArc.{FlatArc}
use Rattle.pn_net.specs.declared.tables.Row.{Row}
use Rattle.pn_net.specs.Labels.{said}
use Rattle.pn_net.specs.Typed.{AreRowsFrom, AreSettled, HasVariables, IsRowBy, IsSettled, condition_of, is_at, numbers_where, terms_of}

abbrev pub AreSame : List ℕ → List ℕ → Type 0
AreSame xs ys = (v : ℕ) → Contains xs v ↔ Contains ys v

to_both : (xs ys us ws : List ℕ) → ((v : ℕ) → Contains xs v → Contains us v) → ((v : ℕ) → Contains ys v → Contains ws v) → (v : ℕ) → Contains (xs ++ ys) v → Contains (us ++ ws) v
to_both xs ys us ws first second v h = side (Contains-append_cases xs ys v h)
  where
    side : Contains xs v ⊎ Contains ys v → Contains (us ++ ws) v
    side (inl x) = Contains-append_left us ws v (first v x)
    side (inr y) = Contains-append_right us ws v (second v y)

-- lists with the same items, one behind another
pub same_both : (xs ys us ws : List ℕ) → AreSame xs us → AreSame ys ws → AreSame (xs ++ ys) (us ++ ws)
same_both xs ys us ws first second v = (to_both xs ys us ws (λ k. (first k).0) (λ k. (second k).0) v, to_both us ws xs ys (λ k. (first k).1) (λ k. (second k).1) v)

pub same_itself : (xs : List ℕ) → AreSame xs xs
same_itself xs v = (λ h. h, λ h. h)

pub same_then : (xs ys zs : List ℕ) → AreSame xs ys → AreSame ys zs → AreSame xs zs
same_then xs ys zs first second v = (λ h. (second v).0 ((first v).0 h), λ h. (first v).1 ((second v).1 h))

-- ---- numbers

module _ {A : Type 0} (p : A → Bool) where
  one_more : (b : Bool) (i n : ℕ) (longer shorter : List ℕ) → longer ≡ shorter ++ n ∷ [] → (if b then i ∷ longer else longer) ≡ (if b then i ∷ shorter else shorter) ++ n ∷ []
  one_more true i n longer shorter is = ap (λ xs. i ∷ xs) is
  one_more false i n longer shorter is = is

  none_more : (b : Bool) (i : ℕ) (longer shorter : List ℕ) → longer ≡ shorter → (if b then i ∷ longer else longer) ≡ (if b then i ∷ shorter else shorter)
  none_more b i longer shorter is = ap (λ xs. if b then i ∷ xs else xs) is

  pub numbers_last : (i n : ℕ) (xs : List A) (x : A) → p x ≡ true → n ≡ i + length xs → numbers_where p i (xs ++ x ∷ []) ≡ numbers_where p i xs ++ n ∷ []
  numbers_last i n [] x passes is = rw passes (ap (λ k. k ∷ []) (omega (arith, is)))
  numbers_last i n (y ∷ ys) x passes is = one_more (p y) i n (numbers_where p (suc i) (ys ++ x ∷ [])) (numbers_where p (suc i) ys) (numbers_last (suc i) n ys x passes (omega (arith, is)))

  pub numbers_same : (i : ℕ) (xs : List A) (x : A) → p x ≡ false → numbers_where p i (xs ++ x ∷ []) ≡ numbers_where p i xs
  numbers_same i [] x fails = rw fails refl
  numbers_same i (y ∷ ys) x fails = none_more (p y) i (numbers_where p (suc i) (ys ++ x ∷ [])) (numbers_where p (suc i) ys) (numbers_same (suc i) ys x fails)

-- ---- terms

pub one_kept : {X Y : Type 0} (h : X → Option Y) (x : X) → filter_map h (x ∷ []) ≡ option_to_list (h x)
one_kept h x = step (h x) refl
  where
    step : (o : _) → h x ≡ o → filter_map h (x ∷ []) ≡ option_to_list o
    step None is = rw is refl
    step (Some y) is = rw is refl

abbrev inscription_of : FlatArc → Option Term
inscription_of a = said a.arc.inscription

terms_last : (condition : Option Term) (t : ℕ) (before : List FlatArc) (a : FlatArc) → is_at t a ≡ true → terms_of condition t (before ++ a ∷ []) ≡ terms_of condition t before ++ option_to_list (inscription_of a)
terms_last condition t before a passes =
    ap (λ arcs. option_to_list condition ++ filter_map inscription_of arcs) (filter-append (is_at t) before (a ∷ []))
    ∙ ap (λ arcs. option_to_list condition ++ filter_map inscription_of (filter (is_at t) before ++ arcs)) (rw passes refl)
    ∙ ap (λ more. option_to_list condition ++ more) (filter_map-append inscription_of (filter (is_at t) before) (a ∷ []) ∙ ap (λ more. filter_map inscription_of (filter (is_at t) before) ++ more) (one_kept inscription_of a))
    ∙ sym (append_assoc (option_to_list condition) (filter_map inscription_of (filter (is_at t) before)) (option_to_list (inscription_of a)))

terms_same : (condition : Option Term) (t : ℕ) (before : List FlatArc) (a : FlatArc) → is_at t a ≡ false → terms_of condition t (before ++ a ∷ []) ≡ terms_of condition t before
terms_same condition t before a fails =
    ap (λ arcs. option_to_list condition ++ filter_map inscription_of arcs) (filter-append (is_at t) before (a ∷ []) ∙ ap (λ arcs. filter (is_at t) before ++ arcs) (rw fails refl) ∙ append-nil (filter (is_at t) before))

-- ---- one row

abbrev variables_in : List Declaration → List Term → List ℕ
variables_in items = flat_map (variables_in_term items)

pub row_begun : (items : List Declaration) (condition : Option Term) (t : ℕ) (row : Row) → row.arcs.items ≡ [] → AreSame row.variables.items (variables_in items (option_to_list condition)) → IsRowBy items condition [] t row
row_begun items condition t row none same = record {
  arcs_at = none;
  variables = subst (λ terms. HasVariables items terms row.variables.items) (sym (append-nil (option_to_list condition))) same;
}

at_its_own : (a : FlatArc) → is_at a.transition a ≡ true
at_its_own a = step (eqb_tells a.transition a.transition)
  where
    step : ((is_at a.transition a ≡ true) × (a.transition ≡ a.transition)) ⊎ ((is_at a.transition a ≡ false) × (a.transition ≡ a.transition → ⊥)) → is_at a.transition a ≡ true
    step (inl h) = h.0
    step (inr h) = absurd (h.1 refl)

pub row_more : (items : List Declaration) (condition : Option Term) (before : List FlatArc) (a : FlatArc) (n : ℕ) (row new : Row) → length before ≡ n → IsRowBy items condition before a.transition row
    → new.arcs.items ≡ row.arcs.items ++ n ∷ [] → AreSame new.variables.items (row.variables.items ++ variables_in items (option_to_list (inscription_of a))) → IsRowBy items condition (before ++ a ∷ []) a.transition new
row_more items condition before a n row new long old arcs same = record {
  arcs_at = arcs ∙ ap (λ xs. xs ++ n ∷ []) old.arcs_at ∙ sym (numbers_last (is_at a.transition) 0 n before a (at_its_own a) (omega (arith, long)));
  variables = subst (AreSame new.variables.items) (sym (ap (variables_in items) (terms_last condition a.transition before a (at_its_own a)) ∙ flat_map-append (variables_in_term items) (terms_of condition a.transition before) (option_to_list (inscription_of a))))
      (same_then new.variables.items _ _ same (same_both row.variables.items _ _ _ old.variables (same_itself (variables_in items (option_to_list (inscription_of a))))));
}

pub row_other : (items : List Declaration) (condition : Option Term) (before : List FlatArc) (a : FlatArc) (t : ℕ) (row : Row) → (t ≡ a.transition → ⊥) → IsRowBy items condition before t row → IsRowBy items condition (before ++ a ∷ []) t row
row_other items condition before a t row differs old =
    let fails : is_at t a ≡ false = ne_eqb a.transition t (λ e. differs (sym e)) in record {
      arcs_at = old.arcs_at ∙ sym (numbers_same (is_at t) 0 before a fails);
      variables = subst (λ terms. HasVariables items terms row.variables.items) (sym (terms_same condition t before a fails)) old.variables;
    }

-- the same row with its variables in order
pub row_settled : (items : List Declaration) (condition : Option Term) (arcs : List FlatArc) (t : ℕ) (row new : Row) → new.arcs.items ≡ row.arcs.items → AreSame new.variables.items row.variables.items → IsRowBy items condition arcs t row → IsRowBy items condition arcs t new
row_settled items condition arcs t row new same alike old = record {
  arcs_at = same ∙ old.arcs_at;
  variables = same_then new.variables.items row.variables.items _ alike old.variables;
}

-- ---- all rows

pub rows_length : (items : List Declaration) (arcs : List FlatArc) (t : ℕ) (xs : List Transition) (rows : List Row) → AreRowsFrom items arcs t xs rows → length rows ≡ length xs
rows_length items arcs t [] [] have = refl
rows_length items arcs t [] (row ∷ rows) have = absurd have
rows_length items arcs t (x ∷ xs) [] have = absurd have
rows_length items arcs t (x ∷ xs) (row ∷ rows) have = ap suc (rows_length items arcs (suc t) xs rows have.1)

pub rows_push : (items : List Declaration) (arcs : List FlatArc) (t : ℕ) (xs : List Transition) (rows : List Row) (x : Transition) (row : Row) → AreRowsFrom items arcs t xs rows → ((i : ℕ) → IsRowBy items (condition_of x) arcs i row)
    → AreRowsFrom items arcs t (xs ++ x ∷ []) (rows ++ row ∷ [])
rows_push items arcs t [] [] x row have is = (is t, tt)
rows_push items arcs t [] (r ∷ rows) x row have is = absurd have
rows_push items arcs t (y ∷ xs) [] x row have is = absurd have
rows_push items arcs t (y ∷ xs) (r ∷ rows) x row have is = (have.0, rows_push items arcs (suc t) xs rows x row have.1 is)

module _ (items : List Declaration) (arcs others : List FlatArc) (n : ℕ) (keep : (condition : Option Term) (row : Row) (t : ℕ) → (t ≡ n → ⊥) → IsRowBy items condition arcs t row → IsRowBy items condition others t row) where
  rows_keep : (t : ℕ) (xs : List Transition) (rows : List Row) → n < t → AreRowsFrom items arcs t xs rows → AreRowsFrom items others t xs rows
  rows_keep t [] [] above have = tt
  rows_keep t [] (row ∷ rows) above have = absurd have
  rows_keep t (x ∷ xs) [] above have = absurd have
  rows_keep t (x ∷ xs) (row ∷ rows) above have = (keep (condition_of x) row t (λ e. omega (arith, above, e)) have.0, rows_keep (suc t) xs rows (omega (arith, above)) have.1)

  -- one row is another, and now they are by other arcs
  pub rows_set : (new d : Row) (t k : ℕ) (xs : List Transition) (rows : List Row) → AreRowsFrom items arcs t xs rows → k < length rows → n ≡ t + k
      → ((condition : Option Term) → IsRowBy items condition arcs n (get_or rows k d) → IsRowBy items condition others n new) → AreRowsFrom items others t xs (slice_set rows k new)
  rows_set new d t k [] [] have small is at = absurd (omega (arith, small))
  rows_set new d t k [] (row ∷ rows) have small is at = absurd have
  rows_set new d t k (x ∷ xs) [] have small is at = absurd have
  rows_set new d t zero (x ∷ xs) (row ∷ rows) have small is at =
      let same : n ≡ t = omega (arith, is) in
      (subst (λ i. IsRowBy items (condition_of x) others i new) same (at (condition_of x) (subst (λ i. IsRowBy items (condition_of x) arcs i row) (sym same) have.0)), rows_keep (suc t) xs rows (omega (arith, is)) have.1)
  rows_set new d t (suc k) (x ∷ xs) (row ∷ rows) have small is at =
      (keep (condition_of x) row t (λ e. omega (arith, is, e)) have.0, rows_set new d (suc t) k xs rows have.1 (omega (arith, small)) (omega (arith, is)) at)

pub settled_push : (rows : List Row) (row : Row) → AreSettled rows → IsSettled row → AreSettled (rows ++ row ∷ [])
settled_push [] row have is = (is, tt)
settled_push (r ∷ rows) row have is = (have.0, settled_push rows row have.1 is)

-- ---- sorts

pub zip_push : {A B : Type 0} (R : A → B → Type 0) (xs : List A) (ys : List B) (x : A) (y : B) → AllZip R xs ys → R x y → AllZip R (xs ++ x ∷ []) (ys ++ y ∷ [])
zip_push R [] [] x y have is = (is, tt)
zip_push R [] (b ∷ ys) x y have is = absurd have
zip_push R (a ∷ xs) [] x y have is = absurd have
zip_push R (a ∷ xs) (b ∷ ys) x y have is = (have.0, zip_push R xs ys x y have.1 is)

pub on_ok_then : {T E : Type 0} (r : Result T E) (P Q : Type 0) → (P → Q) → OnOk r P → OnOk r Q
on_ok_then (Ok v) P Q to is = to is
on_ok_then (Err e) P Q to is = tt

pub contains_get : {X : Type 0} (xs : List X) (k : ℕ) (d : X) → k < length xs → Contains xs (get_or xs k d)
contains_get xs k d small = contains_at xs k (get_or xs k d) (slice_get-get_or xs k d small)

pub length_front : {X : Type 0} (xs : List X) (k : ℕ) → k < length xs → length (take k xs) ≡ k
length_front xs k small = length-take-le k xs (omega (arith, small))
