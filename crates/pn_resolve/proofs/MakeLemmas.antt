-- Lists with one thing for each declaration, which are made one by one.
use Rattle.std.proofs.Common.{◌≡◌, inl, inr, ℕ, suc, ◌+◌, ◌<◌, ◌≤◌, take, drop, List, [], ◌∷◌, ◌++◌, length, get_or, Some, refl, sym, ap, ◌∙◌, arith}
use Rattle.std.specs.List.{slice_get}
use Rattle.std.proofs.lemmas.Bool.{cases_lt}
use Rattle.std.proofs.lemmas.Option.{slice_get-get_or, slice_get_within}
use Rattle.std.proofs.lemmas.List.{get_or_append_left}
use Rattle.std.proofs.Math.Seq.{get_or-append_seam}
use Rattle.pn_syntax.specs.declared.declaration.Declaration.{Declaration}

-- what is made of the declarations so far
pub record Made {A : Type 0} (items : List Declaration) (make : ℕ → Declaration → A) (default : A) (count : ℕ) (made : List A) : Type 0 where
  pub sized : length made ≡ count
  pub each : (k : ℕ) (d : Declaration) → k < count → slice_get items k ≡ Some d → get_or made k default ≡ make k d

pub none_made : {A : Type 0} (items : List Declaration) (make : ℕ → Declaration → A) (default : A) → Made items make default 0 []
none_made items make default = record { sized = refl; each = λ k d lt stands. absurd (omega arith) }

pub next_made : {A : Type 0} (items : List Declaration) (make : ℕ → Declaration → A) (default : A) (made : List A) (i : ℕ) (x : Declaration) (new : A) → Made items make default i made
    → i < length items → x ≡ get_or items i x → new ≡ make i x → Made items make default (i + 1) (made ++ new ∷ [])
next_made {A = A} items make default made i x new before lt x_is new_is = record {
  sized = length_more made new ∙ ap (λ n. n + 1) before.sized;
  each = λ k d below stands. elim (cases_lt k i) [
    | inl first ↦ get_or_append_left made (new ∷ []) default k (omega (arith, before.sized)) ∙ before.each k d first stands
    | inr last ↦ (
        let here : k ≡ length made = omega (arith, before.sized) in
        let at : k ≡ i = omega arith in
        let item : Some x ≡ Some d = ap Some x_is ∙ sym (slice_get-get_or items i x lt) ∙ ap (slice_get items) (sym at) ∙ stands in
        let same : x ≡ d = cc in
        ap (λ n. get_or (made ++ new ∷ []) n default) here ∙ get_or-append_seam made new [] default ∙ new_is ∙ ap (make i) same ∙ ap (λ n. make n d) (sym at)
        )
  ];
}
  where
    length_more : (xs : List A) (y : A) → length (xs ++ y ∷ []) ≡ length xs + 1
    length_more [] y = refl
    length_more (x' ∷ xs) y = omega (arith, length_more xs y)

pub all_made : {A : Type 0} (items : List Declaration) (make : ℕ → Declaration → A) (default : A) (i : ℕ) (made : List A) → Made items make default i made → length items ≤ i → (k : ℕ) (d : Declaration) → slice_get items k ≡ Some d → get_or made k default ≡ make k d
all_made items make default i made all le k d stands = all.each k d (omega (arith, slice_get_within items k d stands)) stands

front : {A : Type 0} (new rest : List A) → take (length new) (new ++ rest) ≡ new
front [] rest = refl
front (x ∷ new) rest = ap (λ l. x ∷ l) (front new rest)

-- a list that was written whole
pub kept_whole : {A : Type 0} (new old : List A) (n : ℕ) → length new ≡ n → take n (new ++ drop (length new) old) ≡ new
kept_whole [] old n is = ap (λ k. take k old) (sym is)
kept_whole (x ∷ new) old n is = ap (λ k. take k ((x ∷ new) ++ drop (suc (length new)) old)) (sym is) ∙ step
  where
    step : take (suc (length new)) (x ∷ (new ++ drop (suc (length new)) old)) ≡ x ∷ new
    step = ap (λ l. x ∷ l) (front new (drop (suc (length new)) old))
