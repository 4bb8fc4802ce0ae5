-- What the tables of a typed net tell.
use Rattle.std.proofs.Common.{◌≡◌, ◌<◌, ◌+◌, ℕ, zero, suc, Bool, true, false, List, [], ◌∷◌, length, Option, Some, None, if◌then◌else◌, IfSome, refl, sym, ◌∙◌, subst, arith}
use Rattle.std.specs.List.{AllZip, slice_get}
use Rattle.std.specs.List.Sorted.{IsStrictlyIncreasing}
use Rattle.std.specs.Option.{option_and_then}
use Rattle.std.specs.Str.{bytes_eq}
use Rattle.std.proofs.lemmas.Slice.Zip.{AllZip-long}
use Rattle.pn_ids.specs.Names.{named_in}
use Rattle.pn_objects.specs.declared.object.Transition.{Transition}
use Rattle.pn_syntax.specs.declared.declaration.Declaration.{Declaration}
use Rattle.pn_values.specs.declared.sort.Sort.{Sort}
use Rattle.pn_net.specs.declared.flat.Flat.{Flat}
use Rattle.pn_net.specs.declared.flat.FlatArc.{FlatArc}
use Rattle.pn_net.specs.declared.tables.Row.{Row}
use Rattle.pn_net.specs.Labels.{IsPlaceSort}
use Rattle.pn_net.specs.Typed.{AreRowsFrom, AreSettled, AreVariablesAt, HasVariables, IsRowBy, IsSettled, IsSortOfPlace, TablesKeep, arc_numbers_at, condition_of, terms_of, transition_named, transitions_from}
use Rattle.pn_net.proofs.RowLemmas.{rows_length}

zip_at : {A B : Type 0} (R : A → B → Type 0) (xs : List A) (ys : List B) (k : ℕ) (y : B) → AllZip R xs ys → slice_get ys k ≡ Some y → (x : A) × (slice_get xs k ≡ Some x) × R x y
zip_at R [] [] k y have is = absurd (cc (sym is))
zip_at R [] (b ∷ ys) k y have is = absurd have
zip_at R (a ∷ xs) [] k y have is = absurd have
zip_at R (a ∷ xs) (b ∷ ys) zero y have is = (a, refl, subst (R a) (cc is) have.0)
zip_at R (a ∷ xs) (b ∷ ys) (suc k) y have is = zip_at R xs ys k y have.1 is

pub record IsRowAt (items : List Declaration) (arcs : List FlatArc) (xs : List Transition) (rows : List Row) (t k : ℕ) : Type 0 where
  pub transition : Transition
  pub row : Row
  pub has_transition : slice_get xs k ≡ Some transition
  pub has_row : slice_get rows k ≡ Some row
  pub is_row : IsRowBy items (condition_of transition) arcs (t + k) row

row_at : (items : List Declaration) (arcs : List FlatArc) (t k : ℕ) (xs : List Transition) (rows : List Row) → AreRowsFrom items arcs t xs rows → k < length xs → IsRowAt items arcs xs rows t k
row_at items arcs t k [] rows have small = absurd (omega (arith, small))
row_at items arcs t k (x ∷ xs) [] have small = absurd have
row_at items arcs t zero (x ∷ xs) (row ∷ rows) have small = record { transition = x; row = row; has_transition = refl; has_row = refl; is_row = subst (λ i. IsRowBy items (condition_of x) arcs i row) (omega arith) have.0 }
row_at items arcs t (suc k) (x ∷ xs) (row ∷ rows) have small =
    let found = row_at items arcs (suc t) k xs rows have.1 (omega (arith, small)) in record {
      transition = found.transition;
      row = found.row;
      has_transition = found.has_transition;
      has_row = found.has_row;
      is_row = subst (λ i. IsRowBy items (condition_of found.transition) arcs i found.row) (omega arith) found.is_row;
    }

settled_at : (rows : List Row) (k : ℕ) (row : Row) → AreSettled rows → slice_get rows k ≡ Some row → IsSettled row
settled_at [] k row have is = absurd (cc (sym is))
settled_at (r ∷ rows) zero row have is = let same : r ≡ row = cc is in subst IsSettled same have.0
settled_at (r ∷ rows) (suc k) row have is = settled_at rows k row have.1 is

module _ (f : Flat) (sorts : List Sort) (rows : List Row) (ids : List (List ℕ × ℕ)) (keep : TablesKeep f sorts rows ids) where
  pub sort_there : (i : ℕ) → i < length f.places → i < length sorts
  sort_there i small = subst (λ n. i < n) (sym (AllZip-long (IsPlaceSort f.declarations) f.places sorts keep.places)) small

  pub sort_is : (i : ℕ) (sort : Sort) → slice_get sorts i ≡ Some sort → IsSortOfPlace f i sort
  sort_is i sort is = zip_at (IsPlaceSort f.declarations) f.places sorts i sort keep.places is

  pub row_there : (t : ℕ) → t < length f.transitions → t < length rows
  row_there t small = subst (λ n. t < n) (sym (rows_length f.declarations f.arcs 0 f.transitions rows keep.transitions)) small

  pub arcs_are : (t : ℕ) (ks : List ℕ) → t < length f.transitions → IfSome (slice_get rows t) (λ row. ks ≡ row.arcs.items) → ks ≡ arc_numbers_at f t
  arcs_are t ks small is =
      let at = row_at f.declarations f.arcs 0 t f.transitions rows keep.transitions small in
      let row : IsRowBy f.declarations (condition_of at.transition) f.arcs t at.row = subst (λ i. IsRowBy f.declarations (condition_of at.transition) f.arcs i at.row) (omega arith) at.is_row in
      subst (λ o. IfSome o (λ row. ks ≡ row.arcs.items)) at.has_row is ∙ row.arcs_at

  pub variables_are : (t : ℕ) (vs : List ℕ) → t < length f.transitions → IfSome (slice_get rows t) (λ row. vs ≡ row.variables.items) → AreVariablesAt f t vs
  variables_are t vs small is =
      let at = row_at f.declarations f.arcs 0 t f.transitions rows keep.transitions small in
      let row : IsRowBy f.declarations (condition_of at.transition) f.arcs t at.row = subst (λ i. IsRowBy f.declarations (condition_of at.transition) f.arcs i at.row) (omega arith) at.is_row in
      let same : vs ≡ at.row.variables.items = subst (λ o. IfSome o (λ row. vs ≡ row.variables.items)) at.has_row is in record {
        ascending = subst IsStrictlyIncreasing (sym same) (settled_at rows t at.row keep.settled at.has_row);
        each = subst (λ o. HasVariables f.declarations (terms_of (option_and_then condition_of o) t f.arcs) vs) (sym at.has_transition) (subst (HasVariables f.declarations (terms_of (condition_of at.transition) t f.arcs)) (sym same) row.variables);
      }

if_some_to : {A : Type 0} (o : Option A) (P Q : A → Type 0) → ((a : A) → P a → Q a) → IfSome o P → IfSome o Q
if_some_to None P Q to is = tt
if_some_to (Some a) P Q to is = to a is

named_within : (i : ℕ) (ts : List Transition) (id : List ℕ) → IfSome (named_in (transitions_from i ts) id) (λ k. k < i + length ts)
named_within i [] id = tt
named_within i (t ∷ ts) id = step (bytes_eq id t.id) (named_within (suc i) ts id)
  where
    step : (b : Bool) → IfSome (named_in (transitions_from (suc i) ts) id) (λ k. k < suc i + length ts) → IfSome (if b then Some i else named_in (transitions_from (suc i) ts) id) (λ k. k < i + length (t ∷ ts))
    step true is = omega arith
    step false is = if_some_to (named_in (transitions_from (suc i) ts) id) (λ k. k < suc i + length ts) (λ k. k < i + length (t ∷ ts)) (λ k small. omega (arith, small)) is

pub found_within : (f : Flat) (id : List ℕ) → IfSome (transition_named f id) (λ t. t < length f.transitions)
found_within f id = if_some_to (transition_named f id) (λ k. k < 0 + length f.transitions) (λ k. k < length f.transitions) (λ k small. omega (arith, small)) (named_within 0 f.transitions id)
