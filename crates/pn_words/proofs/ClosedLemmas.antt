-- Texts with a mark behind them.
use Rattle.std.proofs.Common.{◌≡◌, ◌⊎◌, inl, inr, ℕ, zero, suc, ◌<◌, ◌≤◌, ◌==◌, Bool, true, false, cond, List, [], ◌∷◌, ◌++◌, length, take, refl, sym, ap, ◌∙◌, subst, append_assoc, append-nil, ltb, leb, ◌-◌, arith}
use Rattle.std.specs.List.{Contains, list_all}
use Rattle.std.proofs.lemmas.Bool.{false≢true}
use Rattle.std.proofs.lemmas.Bool.Decides.{nat_tests}
use Rattle.pn_facts.proofs.Truths.{and_left, and_right, and_both}
use Rattle.pn_words.specs.Languages.{same, Apart, IsRead, Broken, SharesUpTo, Closed}
use Rattle.pn_words.proofs.PlaceLemmas.{equal_from, front_of_same, same_of_front}
use Rattle.pn_words.proofs.SameLemmas.{same_next, same_within_second, length_both}

pub differ : (x y : ℕ) (w b : List ℕ) → (x == y) ≡ false → Apart (x ∷ w) (y ∷ b)
differ x y w b h =
    let e : same (x ∷ w) (y ∷ b) ≡ 0 = ap (λ t. cond t (suc (same w b)) 0) h in record { first = omega (arith, e); second = omega (arith, e) }

agree : (x : ℕ) (w b : List ℕ) → Apart w b → Apart (x ∷ w) (x ∷ b)
agree x w b h = let e = same_next x w b in record { first = omega (arith, e, h.first); second = omega (arith, e, h.second) }

-- plain texts with marks behind them that are not plain are the same, or differ inside both
pub marked : (plain : ℕ → Bool) (t : List ℕ) (c : ℕ) (u : List ℕ) (d : ℕ) → list_all plain t ≡ true → plain c ≡ false → list_all plain u ≡ true → plain d ≡ false
    → ((t ≡ u) × (c ≡ d)) ⊎ Apart (t ++ c ∷ []) (u ++ d ∷ [])
marked plain [] c [] d ht hc hu hd = by [] (c == d) refl
  where
    by : (n : List ℕ) (t : Bool) → (c == d) ≡ t → ((n ≡ n) × (c ≡ d)) ⊎ Apart (c ∷ []) (d ∷ [])
    by n true e = inl (refl, equal_from c d e)
    by n false e = inr (differ c d [] [] e)
marked plain [] c (y ∷ u) d ht hc hu hd = by (c == y) refl (and_left (plain y) (list_all plain u) hu)
  where
    by : (t : Bool) → (c == y) ≡ t → plain y ≡ true → (([] ≡ y ∷ u) × (c ≡ d)) ⊎ Apart (c ∷ []) (y ∷ (u ++ d ∷ []))
    by true e h = absurd (false≢true (sym hc ∙ ap plain (equal_from c y e) ∙ h))
    by false e h = inr (differ c y [] (u ++ d ∷ []) e)
marked plain (x ∷ t) c [] d ht hc hu hd = by (x == d) refl (and_left (plain x) (list_all plain t) ht)
  where
    by : (b : Bool) → (x == d) ≡ b → plain x ≡ true → ((x ∷ t ≡ []) × (c ≡ d)) ⊎ Apart (x ∷ (t ++ c ∷ [])) (d ∷ [])
    by true e h = absurd (false≢true (sym hd ∙ ap plain (sym (equal_from x d e)) ∙ h))
    by false e h = inr (differ x d (t ++ c ∷ []) [] e)
marked plain (x ∷ t) c (y ∷ u) d ht hc hu hd =
    by (x == y) refl (marked plain t c u d (and_right (plain x) (list_all plain t) ht) hc (and_right (plain y) (list_all plain u) hu) hd)
  where
    by : (b : Bool) → (x == y) ≡ b → ((t ≡ u) × (c ≡ d)) ⊎ Apart (t ++ c ∷ []) (u ++ d ∷ [])
        → ((x ∷ t ≡ y ∷ u) × (c ≡ d)) ⊎ Apart (x ∷ (t ++ c ∷ [])) (y ∷ (u ++ d ∷ []))
    by true e (inl h) = inl ((λ i. equal_from x y e i ∷ h.0 i), h.1)
    by true e (inr h) = inr (subst (λ z. Apart (x ∷ (t ++ c ∷ [])) (z ∷ (u ++ d ∷ []))) (equal_from x y e) (agree x (t ++ c ∷ []) (u ++ d ∷ []) h))
    by false e h = inr (differ x y (t ++ c ∷ []) (u ++ d ∷ []) e)

-- a plain text of a value, with a mark behind it, is read: no other value has the text
pub closed_found : {V : Type 0} (plain : ℕ → Bool) (L : V → List ℕ → Type 0) (marks : List ℕ)
    → ((v : V) (t : List ℕ) → L v t → list_all plain t ≡ true) → ((c : ℕ) → Contains marks c → plain c ≡ false) → ((u v : V) (t : List ℕ) → L u t → L v t → u ≡ v)
    → (b : List ℕ) (v : V) (t : List ℕ) (c : ℕ) (rest : List ℕ) → L v t → Contains marks c → b ≡ t ++ c ∷ rest → IsRead (Closed L marks) b (v, c) rest
closed_found {V} plain L marks are ends one b v t c rest h k cut = record {
  word = t ++ c ∷ [];
  is_word = (t, h, k, refl);
  cut = cut ∙ sym (append_assoc t (c ∷ []) rest);
  only = λ p w x. other p w x.0 x.1 x.2 x.3 (marked plain x.0 p.1 t c (are p.0 x.0 x.1) (ends p.1 x.2) (are v t h) (ends c k));
}
  where
    other : (p : V × ℕ) (w u : List ℕ) → L p.0 u → Contains marks p.1 → w ≡ u ++ p.1 ∷ [] → ((u ≡ t) × (p.1 ≡ c)) ⊎ Apart (u ++ p.1 ∷ []) (t ++ c ∷ [])
        → ((p ≡ (v, c)) × (w ≡ t ++ c ∷ [])) ⊎ Apart w (t ++ c ∷ [])
    other p w u x y e (inl m) = inl ((λ i. (one p.0 v t (subst (L p.0) m.0 x) h i, m.1 i)), e ∙ (λ i. m.0 i ++ m.1 i ∷ []))
    other p w u x y e (inr a) = inr (subst (λ l. Apart l (t ++ c ∷ [])) (sym e) a)

all_shorter : (p : ℕ → Bool) (k n : ℕ) (b : List ℕ) → k ≤ n → list_all p (take n b) ≡ true → list_all p (take k b) ≡ true
all_shorter p zero n b le h = refl
all_shorter p (suc k) zero b le h = absurd (omega (arith, le))
all_shorter p (suc k) (suc n) [] le h = refl
all_shorter p (suc k) (suc n) (x ∷ b) le h =
    and_both (p x) (list_all p (take k b)) (and_left (p x) (list_all p (take n b)) h) (all_shorter p k n b (omega (arith, le)) (and_right (p x) (list_all p (take n b)) h))

last_passes : (p : ℕ → Bool) (t : List ℕ) (c : ℕ) → list_all p (t ++ c ∷ []) ≡ true → p c ≡ true
last_passes p [] c h = and_left (p c) true h
last_passes p (x ∷ t) c h = last_passes p t c (and_right (p x) (list_all p (t ++ c ∷ [])) h)

nothing_behind : (w f rest : List ℕ) → w ≡ f ++ rest → length w ≤ length f → w ≡ f
nothing_behind w f [] e le = e ∙ append-nil f
nothing_behind w f (x ∷ rest) e le = let a = ap length e in let b = length_both f (x ∷ rest) in absurd (omega (arith, a, b, le))

length_taken : (n : ℕ) (xs : List ℕ) → n ≤ length xs → length (take n xs) ≡ n
length_taken zero xs le = refl
length_taken (suc n) [] le = absurd (omega (arith, le))
length_taken (suc n) (x ∷ xs) le = ap suc (length_taken n xs (omega (arith, le)))

-- plain bytes with which a word begins, where none begins with one byte more, are the longest front that begins one
pub closed_broken : {V : Type 0} (plain : ℕ → Bool) (L : V → List ℕ → Type 0) (marks : List ℕ) → ((c : ℕ) → Contains marks c → plain c ≡ false)
    → (b : List ℕ) (at : ℕ) → at ≤ length b → list_all plain (take at b) ≡ true → (at ≡ 0) ⊎ ((p : V × ℕ) × (rest : List ℕ) × Closed L marks p (take at b ++ rest))
    → ((p : V × ℕ) (rest : List ℕ) → at < length b → Closed L marks p (take (suc at) b ++ rest) → ⊥) → Broken (Closed L marks) b (length b - at)
closed_broken {V} plain L marks ends b at within all reach none = record {
  within = omega arith;
  reach = reached reach;
  only = λ p w h. record { short = short p w h; by = (let m = most p w h in omega (arith, within, m)) };
}
  where
    reached : (at ≡ 0) ⊎ ((p : V × ℕ) × (rest : List ℕ) × Closed L marks p (take at b ++ rest)) → SharesUpTo (Closed L marks) b (length b - at)
    reached (inl e) = inl (omega (arith, e))
    reached (inr r) = inr (r.0, take at b ++ r.1, r.2, (let s = same_of_front b at r.1 within in omega (arith, s, within)))

    most : (p : V × ℕ) (w : List ℕ) → Closed L marks p w → same w b ≤ at
    most p w h = by (leb (same w b) at) refl
      where
        by : (t : Bool) → leb (same w b) at ≡ t → same w b ≤ at
        by true e = grind (arith, nat_tests)
        by false e =
            let more : suc at ≤ same w b = grind (arith, nat_tests) in
            let f = front_of_same w b (suc at) more in
            let s = same_within_second w b in absurd (none p f.0 (omega (arith, more, s)) (subst (Closed L marks p) f.1 h))

    short : (p : V × ℕ) (w : List ℕ) → Closed L marks p w → same w b < length w
    short p w h = by (ltb (same w b) (length w)) refl
      where
        by : (t : Bool) → ltb (same w b) (length w) ≡ t → same w b < length w
        by true e = grind (arith, nat_tests)
        by false e =
            let whole : length w ≤ same w b = grind (arith, nat_tests) in
            let f = front_of_same w b (length w) whole in
            let s = same_within_second w b in
            let m = most p w h in
            let n = length_taken (length w) b (omega (arith, whole, s)) in
            let is : w ≡ take (length w) b = nothing_behind w (take (length w) b) f.0 f.1 (omega (arith, n)) in
            let k = all_shorter plain (length w) at b (omega (arith, whole, m)) all in
            let l = subst (λ l. list_all plain l ≡ true) (sym is ∙ h.3) k in
            absurd (false≢true (sym (ends p.1 h.2) ∙ last_passes plain h.0 p.1 l))
