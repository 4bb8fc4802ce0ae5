-- From a break to the longest front that begins a word.
use Rattle.std.proofs.Common.{◌≡◌, ◌⊎◌, inl, inr, ℕ, zero, suc, ◌+◌, ◌-◌, ◌<◌, ◌≤◌, ◌==◌, Bool, true, false, cond, List, [], ◌∷◌, ◌++◌, length, take, refl, sym, ap, ◌∙◌, subst, arith}
use Rattle.std.proofs.lemmas.Bool.Decides.{nat_tests}
use Rattle.pn_words.specs.Languages.{same, Apart, IsRead, Broken, SharesUpTo, IsWordFront, IsBadPlace}
use Rattle.pn_words.proofs.SameLemmas.{same_within_first, same_next, length_both, apart_falls}

pub equal_from : (x y : ℕ) → (x == y) ≡ true → x ≡ y
equal_from x y h = grind (arith, nat_tests)

-- a word goes on behind the front that it shares
pub front_of_same : (w b : List ℕ) (k : ℕ) → k ≤ same w b → (rest : List ℕ) × (w ≡ take k b ++ rest)
front_of_same w b zero le = (w, refl)
front_of_same [] b (suc k) le = absurd (omega (arith, le))
front_of_same (x ∷ w) [] (suc k) le = absurd (omega (arith, le))
front_of_same (x ∷ w) (y ∷ b) (suc k) le = by (x == y) refl le (λ h. front_of_same w b k h)
  where
    by : (t : Bool) → (x == y) ≡ t → suc k ≤ cond t (suc (same w b)) 0 → (k ≤ same w b → (rest : List ℕ) × (w ≡ take k b ++ rest))
        → (rest : List ℕ) × (x ∷ w ≡ y ∷ (take k b ++ rest))
    by true e h more = let m = more (omega (arith, h)) in (m.0, λ i. equal_from x y e i ∷ m.1 i)
    by false e h more = absurd (omega (arith, h))

-- a word that begins with a front of the bytes shares it
pub same_of_front : (b : List ℕ) (k : ℕ) (rest : List ℕ) → k ≤ length b → k ≤ same (take k b ++ rest) b
same_of_front b zero rest le = omega arith
same_of_front [] (suc k) rest le = absurd (omega (arith, le))
same_of_front (y ∷ b) (suc k) rest le =
    let h = same_of_front b k rest (omega (arith, le)) in let e = same_next y (take k b ++ rest) b in omega (arith, h, e)

pub bad_place : {V : Type 0} (L : V → List ℕ → Type 0) (b : List ℕ) (left : ℕ) → Broken L b left → IsBadPlace L b (length b - left)
bad_place {V} L b left h = record { within = omega arith; front = fronts h.reach; greatest = λ j lt le f. none j lt le f }
  where
    fronts : SharesUpTo L b left → (length b - left ≡ 0) ⊎ IsWordFront L (take (length b - left) b)
    fronts (inl e) = inl (omega (arith, e))
    fronts (inr r) =
        let f = front_of_same r.1 b (length b - left) (omega (arith, r.3)) in inr (r.0, f.0, subst (L r.0) f.1 r.2)

    none : (j : ℕ) → length b - left < j → j ≤ length b → IsWordFront L (take j b) → ⊥
    none j lt le f =
        let k = same_of_front b j f.1 le in
        let falls = h.only f.0 (take j b ++ f.1) f.2 in
        let within = h.within in omega (arith, lt, k, falls.by, within)

-- a word with more bytes behind it is broken behind the word
pub more_broken : {V : Type 0} (L : V → List ℕ → Type 0) (b : List ℕ) (v : V) (x : ℕ) (rest : List ℕ) → IsRead L b v (x ∷ rest)
    → IsBadPlace L b (length b - length (x ∷ rest))
more_broken {V} L b v x rest f = record { within = omega arith; front = inr fronts; greatest = λ j lt le h. none j lt le h }
  where
    n : length b ≡ length f.word + length (x ∷ rest)
    n = ap length f.cut ∙ length_both f.word (x ∷ rest)

    shared : length f.word ≤ same f.word b
    shared = subst (λ l. length f.word ≤ same f.word l) (sym f.cut) (whole f.word (x ∷ rest))
      where
        whole : (w c : List ℕ) → length w ≤ same w (w ++ c)
        whole [] c = omega arith
        whole (y ∷ w) c = let h = whole w c in let e = same_next y w (w ++ c) in omega (arith, h, e)

    fronts : IsWordFront L (take (length b - length (x ∷ rest)) b)
    fronts = let f2 = front_of_same f.word b (length b - length (x ∷ rest)) (omega (arith, n, shared)) in (v, f2.0, subst (L v) f2.1 f.is_word)

    none : (j : ℕ) → length b - length (x ∷ rest) < j → j ≤ length b → IsWordFront L (take j b) → ⊥
    none j lt le h =
        let k = same_of_front b j h.1 le in
        by k (f.only h.0 (take j b ++ h.1) h.2)
      where
        by : j ≤ same (take j b ++ h.1) b → ((h.0 ≡ v) × (take j b ++ h.1 ≡ f.word)) ⊎ Apart (take j b ++ h.1) f.word → ⊥
        by k (inl e) = let s = same_within_first (take j b ++ h.1) b in let m = ap length e.1 in omega (arith, n, lt, k, s, m)
        by k (inr a) = let falls = apart_falls (take j b ++ h.1) f.word (x ∷ rest) b (length (x ∷ rest)) a f.cut (omega arith) in omega (arith, n, lt, k, falls.by)
