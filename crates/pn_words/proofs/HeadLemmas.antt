-- Languages whose words are told apart by their first byte.
use Rattle.std.proofs.Common.{◌≡◌, ◌⊎◌, inl, inr, ℕ, suc, ◌<◌, ◌≤◌, ◌==◌, Bool, true, false, cond, List, [], ◌∷◌, ◌++◌, length, refl, sym, ap, ◌∙◌, subst, arith}
use Rattle.pn_words.specs.Languages.{same, Apart, Falls, IsRead, Broken, SharesUpTo, Continues, Then, Only}
use Rattle.pn_words.proofs.ClosedLemmas.{differ}
use Rattle.pn_words.proofs.WayLemmas.{onward, then_continues}

-- the list is not empty, and begins with another byte than these bytes
abbrev pub Elsewhere : List ℕ → List ℕ → Type 0
Elsewhere w b = (0 < length w) × (same w b ≡ 0)

pub elsewhere_falls : (w b : List ℕ) (left : ℕ) → left ≤ length b → Elsewhere w b → Falls w b left
elsewhere_falls w b left le h = record { short = omega (arith, h.0, h.1); by = omega (arith, h.1, le) }

pub elsewhere_apart : (w m rest : List ℕ) → 0 < length m → Elsewhere w (m ++ rest) → Apart w m
elsewhere_apart [] m rest some h = absurd (omega (arith, h.0))
elsewhere_apart (y ∷ w) [] rest some h = absurd (omega (arith, some))
elsewhere_apart (y ∷ w) (x ∷ m) rest some h = by (y == x) refl h.1
  where
    by : (t : Bool) → (y == x) ≡ t → cond t (suc (same w (m ++ rest))) 0 ≡ 0 → Apart (y ∷ w) (x ∷ m)
    by true e none = absurd (omega (arith, none))
    by false e none = differ y x w m e

pub other_head : (y x : ℕ) (w b : List ℕ) → (y == x) ≡ false → Elsewhere (y ∷ w) (x ∷ b)
other_head y x w b e = (omega arith, ap (λ t. cond t (suc (same w b)) 0) e)

pub nothing_elsewhere : (x : ℕ) (w : List ℕ) → Elsewhere (x ∷ w) []
nothing_elsewhere x w = (omega arith, refl)

-- where each word begins with another byte, all bytes are left
pub none_begins : {V : Type 0} (L : V → List ℕ → Type 0) (b : List ℕ) → ((v : V) (w : List ℕ) → L v w → Elsewhere w b) → Broken L b (length b)
none_begins L b elsewhere = record { within = omega arith; reach = inl refl; only = λ u w h. elsewhere_falls w b (length b) (omega arith) (elsewhere u w h) }

-- the words that don't begin with another byte are those of the second language
pub among_others : {V W : Type 0} (L : V → List ℕ → Type 0) (M : W → List ℕ → Type 0) (f : W → V) (b : List ℕ) → ((u : W) (w : List ℕ) → M u w → L (f u) w)
    → ((v : V) (w : List ℕ) → L v w → ((u : W) × (v ≡ f u) × M u w) ⊎ Elsewhere w b) → ((u : W) (w : List ℕ) → M u w → 0 < length w) → Continues L b M b f
among_others {V} {W} L M f b to from some = record {
  found = λ u rest h. record {
    word = h.word;
    is_word = to u h.word h.is_word;
    cut = h.cut;
    only = λ v w k. other u h.word rest v w (some u h.word h.is_word) h.cut (from v w k) h.only;
  };
  broken = λ left h. record { within = h.within; reach = reached left h.reach; only = λ v w k. falls left v w h.within (from v w k) h.only };
}
  where
    other : (u : W) (word rest : List ℕ) (v : V) (w : List ℕ) → 0 < length word → b ≡ word ++ rest → ((x : W) × (v ≡ f x) × M x w) ⊎ Elsewhere w b
        → ((x : W) (y : List ℕ) → M x y → ((x ≡ u) × (y ≡ word)) ⊎ Apart y word) → ((v ≡ f u) × (w ≡ word)) ⊎ Apart w word
    other u word rest v w long cut (inl m) only = elim (only m.0 w m.2) [ inl e ↦ inl (m.1 ∙ ap f e.0, e.1) | inr apart ↦ inr apart ]
    other u word rest v w long cut (inr e) only = inr (elsewhere_apart w word rest long (subst (Elsewhere w) cut e))

    reached : (left : ℕ) → SharesUpTo M b left → SharesUpTo L b left
    reached left (inl e) = inl e
    reached left (inr r) = inr (f r.0, r.1, to r.0 r.1 r.2, r.3)

    falls : (left : ℕ) (v : V) (w : List ℕ) → left ≤ length b → ((u : W) × (v ≡ f u) × M u w) ⊎ Elsewhere w b → ((x : W) (y : List ℕ) → M x y → Falls y b left) → Falls w b left
    falls left v w le (inl m) only = only m.0 w m.2
    falls left v w le (inr e) only = elsewhere_falls w b left le e

-- bytes that begin with another byte than this
pub head_elsewhere : (x : ℕ) (w b : List ℕ) (left : ℕ) → Broken (Only (x ∷ [])) b left → Elsewhere (x ∷ w) b
head_elsewhere x w [] left h = nothing_elsewhere x w
head_elsewhere x w (y ∷ b) left h = by (x == y) refl (h.only tt (x ∷ []) refl).short
  where
    by : (t : Bool) → (x == y) ≡ t → cond t (suc (same [] b)) 0 < 1 → Elsewhere (x ∷ w) (y ∷ b)
    by true e lt = absurd (omega (arith, lt))
    by false e lt = other_head x y w b e

-- behind a byte with which some words begin, and others with another byte, the second language goes on
pub behind_byte : {V W : Type 0} (L : V → List ℕ → Type 0) (M : W → List ℕ → Type 0) (f : W → V) (x : ℕ) (b c : List ℕ) → (u : W) × (w : List ℕ) × M u w
    → ((u : W) (w : List ℕ) → M u w → L (f u) (x ∷ w))
    → ((v : V) (w : List ℕ) → L v w → ((u : W) × (v ≡ f u) × (t : List ℕ) × (w ≡ x ∷ t) × M u t) ⊎ Elsewhere w b) → IsRead (Only (x ∷ [])) b tt c → Continues L b M c f
behind_byte {V} {W} L M f x b c some to from read =
    onward L b (Then (Only (x ∷ [])) (λ u. M)) b (λ q. f q.1) M c (λ u. (tt, u)) (among_others L (Then (Only (x ∷ [])) (λ u. M)) (λ q. f q.1) b whole parts long)
    (then_continues (Only (x ∷ [])) (λ u. M) b tt c (λ u. some) read)
  where
    whole : (q : Unit {0} × W) (w : List ℕ) → Then (Only (x ∷ [])) (λ u. M) q w → L (f q.1) w
    whole q w (a, t, is, m, cut) = subst (L (f q.1)) (sym (cut ∙ ap (λ l. l ++ t) is)) (to q.1 t m)

    parts : (v : V) (w : List ℕ) → L v w → ((q : Unit {0} × W) × (v ≡ f q.1) × Then (Only (x ∷ [])) (λ u. M) q w) ⊎ Elsewhere w b
    parts v w h = elim (from v w h) [ inl m ↦ inl ((tt, m.0), m.1, (x ∷ [], m.2, refl, m.4, m.3)) | inr e ↦ inr e ]

    long : (q : Unit {0} × W) (w : List ℕ) → Then (Only (x ∷ [])) (λ u. M) q w → 0 < length w
    long q w (a, t, is, m, cut) = let n = ap length (cut ∙ ap (λ l. l ++ t) is) in omega (arith, n)
