-- A fixed text at the front.
use Rattle.std.proofs.Common.{◌≡◌, inl, inr, ℕ, suc, ◌-◌, ◌<◌, ◌≤◌, ◌==◌, Bool, true, false, cond, List, [], ◌∷◌, ◌++◌, length, take, drop, refl, sym, ap, ◌∙◌, arith}
use Rattle.pn_words.specs.Languages.{same, IsRead, Broken, Only}
use Rattle.pn_words.proofs.PlaceLemmas.{equal_from}
use Rattle.pn_words.proofs.SameLemmas.{same_within_first, same_within_second, rest_whole}

whole_shared : (t b : List ℕ) → length t ≤ same t b → b ≡ t ++ drop (length t) b
whole_shared [] b le = refl
whole_shared (x ∷ t) [] le = absurd (omega (arith, le))
whole_shared (x ∷ t) (y ∷ b) le = by (x == y) refl le (λ h. whole_shared t b h)
  where
    by : (c : Bool) → (x == y) ≡ c → length (x ∷ t) ≤ cond c (suc (same t b)) 0 → (length t ≤ same t b → b ≡ t ++ drop (length t) b) → y ∷ b ≡ x ∷ (t ++ drop (length t) b)
    by true e h more = λ i. sym (equal_from x y e) i ∷ more (omega (arith, h)) i
    by false e h more = absurd (omega (arith, h))

pub literal_found : (t b : List ℕ) (n : ℕ) → n ≡ same t b → length t ≤ n → IsRead (Only t) b tt (take (length b - n) (drop n b))
literal_found t b n is le =
    let within = same_within_first t b in
    let e : length t ≡ n = omega (arith, is, le, within) in
    record {
      word = t;
      is_word = refl;
      cut = whole_shared t b (omega (arith, is, le)) ∙ ap (λ k. t ++ drop k b) e ∙ ap (λ l. t ++ l) (sym (rest_whole n b));
      only = λ u w k. inl (refl, k);
    }

pub literal_broken : (t b : List ℕ) (n : ℕ) → n ≡ same t b → n < length t → Broken (Only t) b (length b - n)
literal_broken t b n is lt = let s = same_within_second t b in record {
  within = omega arith;
  reach = inr (tt, t, refl, omega (arith, is, s));
  only = λ u w e. record {
    short = (let k : same w b ≡ n = ap (λ l. same l b) e ∙ sym is in let m = ap length e in omega (arith, k, m, lt));
    by = (let k : same w b ≡ n = ap (λ l. same l b) e ∙ sym is in omega (arith, k, is, s));
  };
}
