-- Words one behind the other.
use Rattle.std.proofs.Common.{◌≡◌, ◌⊎◌, inl, inr, ℕ, ◌+◌, ◌≤◌, List, [], ◌++◌, length, refl, sym, ap, ◌∙◌, subst, append_assoc, append-nil, arith}
use Rattle.pn_words.specs.Languages.{same, Apart, Falls, IsRead, Broken, SharesUpTo, Then}
use Rattle.pn_words.proofs.SameLemmas.{same_behind, same_short, same_more, length_both, apart_both, apart_behind, apart_falls}

-- a word of the first, then a word of the second
pub then_found : {V W : Type 0} (L : V → List ℕ → Type 0) (M : V → W → List ℕ → Type 0) (b : List ℕ) (v : V) (c : List ℕ) (u : W) (rest : List ℕ)
    → IsRead L b v c → IsRead (M v) c u rest → IsRead (Then L M) b (v, u) rest
then_found {V} {W} L M b v c u rest f g = record {
  word = f.word ++ g.word;
  is_word = (f.word, g.word, f.is_word, g.is_word, refl);
  cut = f.cut ∙ ap (λ l. f.word ++ l) g.cut ∙ sym (append_assoc f.word g.word rest);
  only = λ p w h. other p w h.0 h.1 h.2 h.3 h.4 (f.only p.0 h.0 h.2);
}
  where
    second : (p : V × W) (w x y : List ℕ) → w ≡ x ++ y → p.0 ≡ v → x ≡ f.word → ((p.1 ≡ u) × (y ≡ g.word)) ⊎ Apart y g.word
        → ((p ≡ (v, u)) × (w ≡ f.word ++ g.word)) ⊎ Apart w (f.word ++ g.word)
    second p w x y e same_value same_word (inl both) = inl (λ i. (same_value i, both.0 i), e ∙ (λ i. same_word i ++ both.1 i))
    second p w x y e same_value same_word (inr apart) =
        inr (subst (λ l. Apart l (f.word ++ g.word)) (sym (e ∙ ap (λ l. l ++ y) same_word)) (apart_behind f.word y g.word apart))

    other : (p : V × W) (w x y : List ℕ) → L p.0 x → M p.0 p.1 y → w ≡ x ++ y → ((p.0 ≡ v) × (x ≡ f.word)) ⊎ Apart x f.word
        → ((p ≡ (v, u)) × (w ≡ f.word ++ g.word)) ⊎ Apart w (f.word ++ g.word)
    other p w x y hx hy e (inl both) = second p w x y e both.0 both.1 (g.only p.1 y (subst (λ t. M t p.1 y) both.0 hy))
    other p w x y hx hy e (inr apart) = inr (subst (λ l. Apart l (f.word ++ g.word)) (sym e) (apart_both x f.word y g.word apart))

-- a break behind a word of the first, behind which there are words
pub then_broken_at : {V W : Type 0} (L : V → List ℕ → Type 0) (M : V → W → List ℕ → Type 0) (b : List ℕ) (v : V) (c : List ℕ) (left : ℕ)
    → (y : W) × (w : List ℕ) × M v y w → IsRead L b v c → Broken (M v) c left → Broken (Then L M) b left
then_broken_at {V} {W} L M b v c left member f g =
    let n : length b ≡ length f.word + length c = ap length f.cut ∙ length_both f.word c in
    record {
      within = omega (arith, n, g.within);
      reach = inr (reached n g.reach);
      only = λ p w h. other n p w h.0 h.1 h.2 h.3 h.4 (f.only p.0 h.0 h.2);
    }
  where
    shares : (y : List ℕ) → same (f.word ++ y) b ≡ length f.word + same y c
    shares y = ap (same (f.word ++ y)) f.cut ∙ same_behind f.word y c

    reached : length b ≡ length f.word + length c → SharesUpTo (M v) c left → (p : V × W) × (w : List ℕ) × Then L M p w × (length b ≤ same w b + left)
    reached n (inl e) =
        let y = member in
        ((v, y.0), f.word ++ y.1, (f.word, y.1, f.is_word, y.2, refl), (let s = shares y.1 in omega (arith, n, e, s)))
    reached n (inr r) =
        ((v, r.0), f.word ++ r.1, (f.word, r.1, f.is_word, r.2, refl), (let s = shares r.1 in omega (arith, n, s, r.3)))

    behind : length b ≡ length f.word + length c → (w x y : List ℕ) → w ≡ x ++ y → x ≡ f.word → Falls y c left → Falls w b left
    behind n w x y e is h =
        let k : w ≡ f.word ++ y = e ∙ ap (λ l. l ++ y) is in
        let s : same w b ≡ length f.word + same y c = ap (λ l. same l b) k ∙ shares y in
        let m : length w ≡ length f.word + length y = ap length k ∙ length_both f.word y in
        record { short = omega (arith, s, m, h.short); by = omega (arith, s, n, h.by) }

    other : length b ≡ length f.word + length c → (p : V × W) (w x y : List ℕ) → L p.0 x → M p.0 p.1 y → w ≡ x ++ y
        → ((p.0 ≡ v) × (x ≡ f.word)) ⊎ Apart x f.word → Falls w b left
    other n p w x y hx hy e (inl both) = behind n w x y e both.1 (g.only p.1 y (subst (λ t. M t p.1 y) both.0 hy))
    other n p w x y hx hy e (inr apart) =
        apart_falls w (f.word ++ []) (c) b left (subst (λ l. Apart l (f.word ++ [])) (sym e) (apart_both x f.word y [] apart)) (f.cut ∙ ap (λ l. l ++ c) (sym (append-nil f.word))) g.within

pub then_broken : {V W : Type 0} (L : V → List ℕ → Type 0) (M : V → W → List ℕ → Type 0) (b : List ℕ) (v : V) (c : List ℕ) (left : ℕ)
    → ((x : V) → (y : W) × (w : List ℕ) × M x y w) → IsRead L b v c → Broken (M v) c left → Broken (Then L M) b left
then_broken L M b v c left member f g = then_broken_at L M b v c left (member v) f g

-- a break in the word of the first, where there are words behind each
pub first_broken_among : {V W : Type 0} (L : V → List ℕ → Type 0) (M : V → W → List ℕ → Type 0) (b : List ℕ) (left : ℕ)
    → ((x : V) (a : List ℕ) → L x a → (y : W) × (w : List ℕ) × M x y w) → Broken L b left → Broken (Then L M) b left
first_broken_among {V} {W} L M b left member h = record {
  within = h.within;
  reach = reached h.reach;
  only = λ p w e. other w e.0 e.1 e.4 (h.only p.0 e.0 e.2);
}
  where
    reached : SharesUpTo L b left → SharesUpTo (Then L M) b left
    reached (inl e) = inl e
    reached (inr r) =
        let y = member r.0 r.1 r.2 in
        inr ((r.0, y.0), r.1 ++ y.1, (r.1, y.1, r.2, y.2, refl), (let s = same_more r.1 b y.1 in omega (arith, s, r.3)))

    other : (w x y : List ℕ) → w ≡ x ++ y → Falls x b left → Falls w b left
    other w x y e f =
        let s : same w b ≡ same x b = ap (λ l. same l b) e ∙ same_short x b y f.short in
        let m : length w ≡ length x + length y = ap length e ∙ length_both x y in
        record { short = omega (arith, s, m, f.short); by = omega (arith, s, f.by) }

pub first_broken : {V W : Type 0} (L : V → List ℕ → Type 0) (M : V → W → List ℕ → Type 0) (b : List ℕ) (left : ℕ)
    → ((x : V) → (y : W) × (w : List ℕ) × M x y w) → Broken L b left → Broken (Then L M) b left
first_broken L M b left member h = first_broken_among L M b left (λ x a is. member x) h
