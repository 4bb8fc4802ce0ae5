-- The texts of values of single sorts.
use Rattle.std.proofs.Common.{◌≡◌, ℕ, zero, suc, ◌==◌, Bool, true, false, ℤ, int_le, List, [], ◌∷◌, codes, Some, FitsSigned, w64, refl, sym, ap, subst, arith}
use Rattle.std.specs.List.{list_all, slice_get}
use Rattle.std.proofs.lemmas.Bool.{false≢true}
use Rattle.std.proofs.lemmas.Bool.Decides.{nat_tests}
use Rattle.std.proofs.lemmas.Int.{ints}
use Rattle.pn_facts.proofs.Lists.{list_all_each}
use Rattle.pn_lines.specs.Escapes.{is_line_byte}
use Rattle.pn_terms.proofs.SortLemmas.{same_some}
use Rattle.pn_values.specs.declared.value.Value.{Value}
use Rattle.pn_values.specs.declared.value.Value.TheVariants as values
use Rattle.pn_words.proofs.PieceLemmas.{closed_renamed}
use Rattle.pn_words.specs.Languages.{AreApart, Closed, Continues, Listed, Only, is_unmarked}
use Rattle.pn_words.specs.Numbers.{SignedDecimal, is_no_digit}
use Rattle.pn_mode_text.specs.Quoted.{IsQuoted}
use Rattle.pn_mode_text.specs.Readings.{AreStops, is_stop}
use Rattle.pn_mode_text.specs.ValueReadings.{IsDotText, IsNumberText, IsTextText, IsTruthText}
use Rattle.pn_mode_text.proofs.IdLemmas.{unmarked_byte}

pub dot_read : (marks b : List ℕ) → Continues (Closed IsDotText marks) b (Closed (Only (codes "dot")) marks) b (λ p. (values.Dot, p.1))
dot_read marks b = closed_renamed IsDotText (Only (codes "dot")) (λ u. values.Dot) marks b (λ u w h. (refl, h)) (λ v w h. (tt, h.0, h.1))

abbrev pub truth_words : List (List ℕ)
truth_words = codes "false" ∷ codes "true" ∷ []

pub truth_read : (marks b : List ℕ) → Continues (Closed IsTruthText marks) b (Closed (Listed truth_words 2) marks) b (λ p. (values.Bool (p.0 == 1), p.1))
truth_read marks b = closed_renamed IsTruthText (Listed truth_words 2) (λ i. values.Bool (i == 1)) marks b to from
  where
    to : (i : ℕ) (t : List ℕ) → Listed truth_words 2 i t → IsTruthText (values.Bool (i == 1)) t
    to zero t h = (false, refl, sym (same_some (codes "false") t (Some t) (sym h.1) refl))
    to (suc zero) t h = (true, refl, sym (same_some (codes "true") t (Some t) (sym h.1) refl))
    to (suc (suc i)) t h = absurd (omega (arith, h.0))

    from : (v : Value) (t : List ℕ) → IsTruthText v t → (i : ℕ) × (v ≡ values.Bool (i == 1)) × Listed truth_words 2 i t
    from v t (false, is, text) = (0, is, (omega arith, ap Some (sym text)))
    from v t (true, is, text) = (1, is, (omega arith, ap Some (sym text)))

pub truths_apart : (marks : List ℕ) → AreStops marks → AreApart truth_words marks
truths_apart marks stops = record { unmarked = unmarked; once = once }
  where
    clean : (t : List ℕ) → list_all is_line_byte t ≡ true → list_all (is_unmarked marks) t ≡ true
    clean t h = list_all_each is_line_byte (is_unmarked marks) (λ b is. unmarked_byte marks b stops is) t h

    unmarked : (i : ℕ) (t : List ℕ) → slice_get truth_words i ≡ Some t → list_all (is_unmarked marks) t ≡ true
    unmarked zero t h = subst (λ l. list_all (is_unmarked marks) l ≡ true) (same_some (codes "false") t (Some t) (sym h) refl) (clean (codes "false") refl)
    unmarked (suc zero) t h = subst (λ l. list_all (is_unmarked marks) l ≡ true) (same_some (codes "true") t (Some t) (sym h) refl) (clean (codes "true") refl)
    unmarked (suc (suc i)) t h = absurd cc

    differ : codes "false" ≡ codes "true" → ⊥
    differ e = let h = ap (λ (l : List ℕ). is_first l) e in false≢true (sym h)
      where
        is_first : List ℕ → Bool
        is_first [] = false
        is_first (x ∷ xs) = x == 102

    once : (i j : ℕ) (t : List ℕ) → slice_get truth_words i ≡ Some t → slice_get truth_words j ≡ Some t → i ≡ j
    once zero zero t h k = refl
    once zero (suc zero) t h k = absurd (differ (same_some (codes "false") (codes "true") (Some t) (sym h) (sym k)))
    once zero (suc (suc j)) t h k = absurd cc
    once (suc zero) zero t h k = absurd (differ (same_some (codes "false") (codes "true") (Some t) (sym k) (sym h)))
    once (suc zero) (suc zero) t h k = refl
    once (suc zero) (suc (suc j)) t h k = absurd cc
    once (suc (suc i)) j t h k = absurd cc

pub number_read : (low high : ℤ) (marks b : List ℕ) → Continues (Closed (IsNumberText low high) marks) b (Closed (SignedDecimal low high) marks) b (λ p. (values.Int p.0, p.1))
number_read low high marks b = closed_renamed (IsNumberText low high) (SignedDecimal low high) values.Int marks b (λ z w h. (z, refl, h)) (λ v w h. (h.0, h.1, h.2))

pub text_read : (marks b : List ℕ) → Continues (Closed IsTextText marks) b (Closed IsQuoted marks) b (λ p. (values.Text p.0, p.1))
text_read marks b = closed_renamed IsTextText IsQuoted values.Text marks b (λ u w h. (u, refl, h)) (λ v w h. (h.0, h.1, h.2))

-- marks that end an escaped text are no digits
pub no_digits : (marks : List ℕ) → AreStops marks → list_all is_no_digit marks ≡ true
no_digits marks stops = list_all_each is_stop is_no_digit each marks stops
  where
    each : (b : ℕ) → is_stop b ≡ true → is_no_digit b ≡ true
    each b h = grind (arith, nat_tests)

pub number_fits : (low z high : ℤ) → FitsSigned w64 low → FitsSigned w64 high → int_le low z ≡ true → int_le z high ≡ true → FitsSigned w64 z
number_fits low z high f g least most = grind (arith, ints)
