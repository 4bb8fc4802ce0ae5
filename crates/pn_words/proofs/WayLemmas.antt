-- From one language to another, and what holds on the way.
use Rattle.std.proofs.Common.{◌≡◌, ◌⊎◌, inl, inr, ℕ, ◌<◌, ◌≤◌, Bool, true, false, List, [], leb, min, refl, ap, ◌∙◌, subst, arith}
use Rattle.std.proofs.lemmas.Bool.Decides.{nat_tests}
use Rattle.pn_words.specs.Languages.{Apart, Falls, IsRead, Broken, SharesUpTo, Then, Continues, Either, Only}
use Rattle.pn_words.proofs.ThenLemmas.{then_found, then_broken_at}

-- the same language, but for the names of its values
pub renamed : {V W : Type 0} (L : V → List ℕ → Type 0) (M : W → List ℕ → Type 0) (f : W → V) (b : List ℕ)
    → ((u : W) (w : List ℕ) → M u w → L (f u) w) → ((v : V) (w : List ℕ) → L v w → (u : W) × (v ≡ f u) × M u w) → Continues L b M b f
renamed {V} {W} L M f b to from = record {
  found = λ u rest h. record { word = h.word; is_word = to u h.word h.is_word; cut = h.cut; only = λ v w k. other u h.word v w (from v w k) h.only };
  broken = λ left h. record { within = h.within; reach = reached left h.reach; only = λ v w k. (let m = from v w k in h.only m.0 w m.2) };
}
  where
    other : (u : W) (word : List ℕ) (v : V) (w : List ℕ) → ((x : W) × (v ≡ f x) × M x w) → ((x : W) (y : List ℕ) → M x y → ((x ≡ u) × (y ≡ word)) ⊎ Apart y word)
        → ((v ≡ f u) × (w ≡ word)) ⊎ Apart w word
    other u word v w m only = elim (only m.0 w m.2) [ inl e ↦ inl (m.1 ∙ ap f e.0, e.1) | inr apart ↦ inr apart ]

    reached : (left : ℕ) → SharesUpTo M b left → SharesUpTo L b left
    reached left (inl e) = inl e
    reached left (inr r) = inr (f r.0, r.1, to r.0 r.1 r.2, r.3)

-- one way behind another
pub onward : {V W X : Type 0} (L : V → List ℕ → Type 0) (b : List ℕ) (M : W → List ℕ → Type 0) (c : List ℕ) (f : W → V) (N : X → List ℕ → Type 0) (d : List ℕ) (g : X → W)
    → Continues L b M c f → Continues M c N d g → Continues L b N d (λ x. f (g x))
onward L b M c f N d g h k = record {
  found = λ u rest x. h.found (g u) rest (k.found u rest x);
  broken = λ left x. h.broken left (k.broken left x);
}

pub start : {V : Type 0} (L : V → List ℕ → Type 0) (b : List ℕ) → Continues L b L b (λ v. v)
start L b = record { found = λ u rest x. x; broken = λ left x. x }

-- behind a word of the first, behind which there are words, the second goes on
pub then_continues_at : {V W : Type 0} (L : V → List ℕ → Type 0) (M : V → W → List ℕ → Type 0) (b : List ℕ) (v : V) (c : List ℕ)
    → (y : W) × (w : List ℕ) × M v y w → IsRead L b v c → Continues (Then L M) b (M v) c (λ u. (v, u))
then_continues_at L M b v c member f = record {
  found = λ u rest x. then_found L M b v c u rest f x;
  broken = λ left x. then_broken_at L M b v c left member f x;
}

pub then_continues : {V W : Type 0} (L : V → List ℕ → Type 0) (M : V → W → List ℕ → Type 0) (b : List ℕ) (v : V) (c : List ℕ)
    → ((x : V) → (y : W) × (w : List ℕ) × M x y w) → IsRead L b v c → Continues (Then L M) b (M v) c (λ u. (v, u))
then_continues L M b v c member f = then_continues_at L M b v c (member v) f

-- nothing is left to read
pub nothing_found : (b : List ℕ) → IsRead (Only []) b tt b
nothing_found b = record { word = []; is_word = refl; cut = refl; only = λ u w e. inl (refl, e) }

-- a word of one language, where all words of the other differ from it inside both
pub first_found : {V : Type 0} (L M : V → List ℕ → Type 0) (b : List ℕ) (v : V) (rest : List ℕ) (f : IsRead L b v rest)
    → ((u : V) (w : List ℕ) → M u w → Apart w f.word) → IsRead (Either L M) b v rest
first_found {V} L M b v rest f apart = record { word = f.word; is_word = inl f.is_word; cut = f.cut; only = λ u w h. other u w h }
  where
    other : (u : V) (w : List ℕ) → Either L M u w → ((u ≡ v) × (w ≡ f.word)) ⊎ Apart w f.word
    other u w (inl h) = f.only u w h
    other u w (inr h) = inr (apart u w h)

pub second_found : {V : Type 0} (L M : V → List ℕ → Type 0) (b : List ℕ) (v : V) (rest : List ℕ) (f : IsRead M b v rest)
    → ((u : V) (w : List ℕ) → L u w → Apart w f.word) → IsRead (Either L M) b v rest
second_found {V} L M b v rest f apart = record { word = f.word; is_word = inr f.is_word; cut = f.cut; only = λ u w h. other u w h }
  where
    other : (u : V) (w : List ℕ) → Either L M u w → ((u ≡ v) × (w ≡ f.word)) ⊎ Apart w f.word
    other u w (inl h) = inr (apart u w h)
    other u w (inr h) = f.only u w h

-- bytes that are broken for one language by more than for the other
pub falls_less : (w b : List ℕ) (left less : ℕ) → less ≤ left → Falls w b left → Falls w b less
falls_less w b left less le h = record { short = h.short; by = omega (arith, h.by, le) }

pub broken_first : {V : Type 0} (L M : V → List ℕ → Type 0) (b : List ℕ) (left : ℕ) → Broken L b left
    → ((u : V) (w : List ℕ) → M u w → Falls w b left) → Broken (Either L M) b left
broken_first {V} L M b left h falls = record { within = h.within; reach = reached h.reach; only = λ u w k. other u w k }
  where
    reached : SharesUpTo L b left → SharesUpTo (Either L M) b left
    reached (inl e) = inl e
    reached (inr r) = inr (r.0, r.1, inl r.2, r.3)

    other : (u : V) (w : List ℕ) → Either L M u w → Falls w b left
    other u w (inl k) = h.only u w k
    other u w (inr k) = falls u w k

pub broken_second : {V : Type 0} (L M : V → List ℕ → Type 0) (b : List ℕ) (left : ℕ) → Broken M b left
    → ((u : V) (w : List ℕ) → L u w → Falls w b left) → Broken (Either L M) b left
broken_second {V} L M b left h falls = record { within = h.within; reach = reached h.reach; only = λ u w k. other u w k }
  where
    reached : SharesUpTo M b left → SharesUpTo (Either L M) b left
    reached (inl e) = inl e
    reached (inr r) = inr (r.0, r.1, inr r.2, r.3)

    other : (u : V) (w : List ℕ) → Either L M u w → Falls w b left
    other u w (inl k) = falls u w k
    other u w (inr k) = h.only u w k

-- bytes that are broken for both
pub broken_both : {V : Type 0} (L M : V → List ℕ → Type 0) (b : List ℕ) (left more : ℕ) → left ≤ more → Broken L b left → Broken M b more → Broken (Either L M) b left
broken_both L M b left more le h k = broken_first L M b left h (λ u w x. falls_less w b more left le (k.only u w x))

pub broken_least : {V : Type 0} (L M : V → List ℕ → Type 0) (b : List ℕ) (left less : ℕ) → Broken L b left → Broken M b less → Broken (Either L M) b (min left less)
broken_least L M b left less h k = by (leb left less) refl
  where
    by : (c : Bool) → leb left less ≡ c → Broken (Either L M) b (min left less)
    by true e =
        let le : left ≤ less = grind (arith, nat_tests) in
        let is : left ≡ min left less = omega (arith, le) in subst (Broken (Either L M) b) is (broken_both L M b left less le h k)
    by false e =
        let lt : less < left = grind (arith, nat_tests) in
        let is : less ≡ min left less = omega (arith, lt) in
        subst (Broken (Either L M) b) is (broken_second L M b less k (λ u w x. falls_less w b left less (omega (arith, lt)) (h.only u w x)))
