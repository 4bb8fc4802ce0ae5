-- Characters in UTF-8, byte by byte.
use Rattle.std.proofs.Common.{◌≡◌, ◌⊎◌, inl, inr, ℕ, ◌+◌, ◌*◌, ◌-◌, ◌/◌, ◌%◌, ◌≤◌, ◌<◌, nat_lt, nat_le, ltb, Bool, true, false, cond, ◌&&◌, ◌||◌, ◌==◌, List, [], ◌∷◌, ◌++◌, refl, sym, ◌∙◌, subst, append-nil, arith}
use Rattle.std.proofs.lemmas.Bool.{false≢true, and_parts, and_from, or_cases, or_left, or_right, cond-true, cond-false, ltb-true, lt-ltb, le-ltb, leb-true, le-leb, eqb-true, cases_eq, cases_lt, eq-eqb}
use Rattle.std.proofs.lemmas.Bool.Decides.{nat_tests}
use Rattle.pn_text.specs.Characters.{is_within, is_character, utf8_of, further}
use Rattle.pn_utf8.specs.Characters.{is_further, begin_three, begin_four, is_last_pair, is_whole, is_begun}

-- the bytes of a character by its size

utf8_one : (c : ℕ) → c < 0x80 → utf8_of c ≡ c ∷ []
utf8_one c h = cond-true (ltb c 0x80) (c ∷ []) _ (lt-ltb c 0x80 h)

utf8_two : (c : ℕ) → 0x80 ≤ c → c < 0x800 → utf8_of c ≡ (0xC0 + c / 0x40) ∷ further c ∷ []
utf8_two c h k = cond-false (ltb c 0x80) _ _ (le-ltb c 0x80 h) ∙ cond-true (ltb c 0x800) _ _ (lt-ltb c 0x800 k)

utf8_three : (c : ℕ) → 0x800 ≤ c → c < 0x1_0000 → utf8_of c ≡ (0xE0 + c / 0x1000) ∷ further (c / 0x40) ∷ further c ∷ []
utf8_three c h k =
    cond-false (ltb c 0x80) _ _ (le-ltb c 0x80 (omega arith)) ∙ cond-false (ltb c 0x800) _ _ (le-ltb c 0x800 h) ∙ cond-true (ltb c 0x1_0000) _ _ (lt-ltb c 0x1_0000 k)

utf8_four : (c : ℕ) → 0x1_0000 ≤ c → utf8_of c ≡ (0xF0 + c / 0x4_0000) ∷ further (c / 0x1000) ∷ further (c / 0x40) ∷ further c ∷ []
utf8_four c h =
    cond-false (ltb c 0x80) _ _ (le-ltb c 0x80 (omega arith)) ∙ cond-false (ltb c 0x800) _ _ (le-ltb c 0x800 (omega arith)) ∙ cond-false (ltb c 0x1_0000) _ _ (le-ltb c 0x1_0000 h)

-- what the tests say

pub within_parts : (low high b : ℕ) → is_within low high b ≡ true → (low ≤ b) × (b ≤ high)
within_parts low high b h = let both = and_parts (nat_le low b) (nat_le b high) h in (leb-true low b both.0, leb-true b high both.1)

-- the number that two bytes begin is in the range of three bytes, and no surrogate
three_range : (a b : ℕ) → begin_three a b ≡ true
    → (0xE0 ≤ a) × (a ≤ 0xEF) × (0x80 ≤ b) × (b ≤ 0xBF) × (0x20 ≤ (a - 0xE0) * 64 + (b - 0x80)) × (((a - 0xE0) * 64 + (b - 0x80) < 0x360) ⊎ (0x380 ≤ (a - 0xE0) * 64 + (b - 0x80)))
three_range a b h = go (or_cases ((a == 0xE0) && is_within 0xA0 0xBF b) ((is_within 0xE1 0xEC a && is_further b) || (((a == 0xED) && is_within 0x80 0x9F b) || (is_within 0xEE 0xEF a && is_further b))) h)
  where
    Range : Type 0
    Range = (0xE0 ≤ a) × (a ≤ 0xEF) × (0x80 ≤ b) × (b ≤ 0xBF) × (0x20 ≤ (a - 0xE0) * 64 + (b - 0x80)) × (((a - 0xE0) * 64 + (b - 0x80) < 0x360) ⊎ (0x380 ≤ (a - 0xE0) * 64 + (b - 0x80)))

    go3 : (((a == 0xED) && is_within 0x80 0x9F b) ≡ true) ⊎ ((is_within 0xEE 0xEF a && is_further b) ≡ true)
        → (0xE0 ≤ a) × (a ≤ 0xEF) × (0x80 ≤ b) × (b ≤ 0xBF) × (0x20 ≤ (a - 0xE0) * 64 + (b - 0x80)) × (((a - 0xE0) * 64 + (b - 0x80) < 0x360) ⊎ (0x380 ≤ (a - 0xE0) * 64 + (b - 0x80)))
    go3 (inl k) =
        let p = and_parts (a == 0xED) (is_within 0x80 0x9F b) k in let e = eqb-true a 0xED p.0 in let w = within_parts 0x80 0x9F b p.1 in
        (omega (arith, e), omega (arith, e), w.0, omega (arith, w.1), omega (arith, e, w.0, w.1), inl (omega (arith, e, w.0, w.1)))
    go3 (inr k) =
        let p = and_parts (is_within 0xEE 0xEF a) (is_further b) k in let v = within_parts 0xEE 0xEF a p.0 in let w = within_parts 0x80 0xBF b p.1 in
        (omega (arith, v.0), v.1, w.0, w.1, omega (arith, v.0, w.0), inr (omega (arith, v.0, w.0)))

    go2 : ((is_within 0xE1 0xEC a && is_further b) ≡ true) ⊎ ((((a == 0xED) && is_within 0x80 0x9F b) || (is_within 0xEE 0xEF a && is_further b)) ≡ true)
        → (0xE0 ≤ a) × (a ≤ 0xEF) × (0x80 ≤ b) × (b ≤ 0xBF) × (0x20 ≤ (a - 0xE0) * 64 + (b - 0x80)) × (((a - 0xE0) * 64 + (b - 0x80) < 0x360) ⊎ (0x380 ≤ (a - 0xE0) * 64 + (b - 0x80)))
    go2 (inl k) =
        let p = and_parts (is_within 0xE1 0xEC a) (is_further b) k in let v = within_parts 0xE1 0xEC a p.0 in let w = within_parts 0x80 0xBF b p.1 in
        (omega (arith, v.0), omega (arith, v.1), w.0, w.1, omega (arith, v.0, w.0), inl (omega (arith, v.1, w.1)))
    go2 (inr k) = go3 (or_cases ((a == 0xED) && is_within 0x80 0x9F b) (is_within 0xEE 0xEF a && is_further b) k)

    go : (((a == 0xE0) && is_within 0xA0 0xBF b) ≡ true) ⊎ (((is_within 0xE1 0xEC a && is_further b) || (((a == 0xED) && is_within 0x80 0x9F b) || (is_within 0xEE 0xEF a && is_further b))) ≡ true)
        → (0xE0 ≤ a) × (a ≤ 0xEF) × (0x80 ≤ b) × (b ≤ 0xBF) × (0x20 ≤ (a - 0xE0) * 64 + (b - 0x80)) × (((a - 0xE0) * 64 + (b - 0x80) < 0x360) ⊎ (0x380 ≤ (a - 0xE0) * 64 + (b - 0x80)))
    go (inl k) =
        let p = and_parts (a == 0xE0) (is_within 0xA0 0xBF b) k in let e = eqb-true a 0xE0 p.0 in let w = within_parts 0xA0 0xBF b p.1 in
        (omega (arith, e), omega (arith, e), omega (arith, w.0), w.1, omega (arith, e, w.0, w.1), inl (omega (arith, e, w.0, w.1)))
    go (inr k) = go2 (or_cases (is_within 0xE1 0xEC a && is_further b) (((a == 0xED) && is_within 0x80 0x9F b) || (is_within 0xEE 0xEF a && is_further b)) k)

four_range : (a b : ℕ) → begin_four a b ≡ true → (0xF0 ≤ a) × (a ≤ 0xF4) × (0x80 ≤ b) × (b ≤ 0xBF) × (0x10 ≤ (a - 0xF0) * 64 + (b - 0x80)) × ((a - 0xF0) * 64 + (b - 0x80) < 0x110)
four_range a b h = go (or_cases ((a == 0xF0) && is_within 0x90 0xBF b) ((is_within 0xF1 0xF3 a && is_further b) || ((a == 0xF4) && is_within 0x80 0x8F b)) h)
  where
    go2 : ((is_within 0xF1 0xF3 a && is_further b) ≡ true) ⊎ (((a == 0xF4) && is_within 0x80 0x8F b) ≡ true)
        → (0xF0 ≤ a) × (a ≤ 0xF4) × (0x80 ≤ b) × (b ≤ 0xBF) × (0x10 ≤ (a - 0xF0) * 64 + (b - 0x80)) × ((a - 0xF0) * 64 + (b - 0x80) < 0x110)
    go2 (inl k) =
        let p = and_parts (is_within 0xF1 0xF3 a) (is_further b) k in let v = within_parts 0xF1 0xF3 a p.0 in let w = within_parts 0x80 0xBF b p.1 in
        (omega (arith, v.0), omega (arith, v.1), w.0, w.1, omega (arith, v.0, w.0), omega (arith, v.1, w.1))
    go2 (inr k) =
        let p = and_parts (a == 0xF4) (is_within 0x80 0x8F b) k in let e = eqb-true a 0xF4 p.0 in let w = within_parts 0x80 0x8F b p.1 in
        (omega (arith, e), omega (arith, e), w.0, omega (arith, w.1), omega (arith, e, w.0), omega (arith, e, w.1))

    go : (((a == 0xF0) && is_within 0x90 0xBF b) ≡ true) ⊎ (((is_within 0xF1 0xF3 a && is_further b) || ((a == 0xF4) && is_within 0x80 0x8F b)) ≡ true)
        → (0xF0 ≤ a) × (a ≤ 0xF4) × (0x80 ≤ b) × (b ≤ 0xBF) × (0x10 ≤ (a - 0xF0) * 64 + (b - 0x80)) × ((a - 0xF0) * 64 + (b - 0x80) < 0x110)
    go (inl k) =
        let p = and_parts (a == 0xF0) (is_within 0x90 0xBF b) k in let e = eqb-true a 0xF0 p.0 in let w = within_parts 0x90 0xBF b p.1 in
        (omega (arith, e), omega (arith, e), omega (arith, w.0), w.1, omega (arith, e, w.0), omega (arith, e, w.1))
    go (inr k) = go2 (or_cases (is_within 0xF1 0xF3 a && is_further b) ((a == 0xF4) && is_within 0x80 0x8F b) k)

pub lt_of : (a b : ℕ) → a ≤ b → (a ≡ b → ⊥) → a < b
lt_of a b h k = go (cases_lt a b)
  where
    go : (a < b) ⊎ (b ≤ a) → a < b
    go (inl l) = l
    go (inr l) = absurd (k (omega arith))

-- whole bytes are those of a character

pub record Character (q : List ℕ) : Type 0 where
  pub number : ℕ
  pub is : is_character number ≡ true
  pub bytes : utf8_of number ≡ q

pub character_in : (c : ℕ) → ((0x20 ≤ c) × (c ≤ 0xD7FF)) ⊎ (((0xE000 ≤ c) × (c ≤ 0xFFFD)) ⊎ ((0x1_0000 ≤ c) × (c ≤ 0x10_FFFF))) → is_character c ≡ true
character_in c (inl h) = let l : nat_le 0x20 c ≡ true = le-leb 0x20 c h.0 in let u : nat_le c 0xD7FF ≡ true = le-leb c 0xD7FF h.1 in grind (arith, nat_tests)
character_in c (inr (inl h)) = let l : nat_le 0xE000 c ≡ true = le-leb 0xE000 c h.0 in let u : nat_le c 0xFFFD ≡ true = le-leb c 0xFFFD h.1 in grind (arith, nat_tests)
character_in c (inr (inr h)) = let l : nat_le 0x1_0000 c ≡ true = le-leb 0x1_0000 c h.0 in let u : nat_le c 0x10_FFFF ≡ true = le-leb c 0x10_FFFF h.1 in grind (arith, nat_tests)

list_two : (a b x y : ℕ) → a ≡ x → b ≡ y → a ∷ b ∷ [] ≡ x ∷ y ∷ []
list_two a b x y h k = cc

list_three : (a b c x y z : ℕ) → a ≡ x → b ≡ y → c ≡ z → a ∷ b ∷ c ∷ [] ≡ x ∷ y ∷ z ∷ []
list_three a b c x y z h k l = cc

list_four : (a b c d x y z w : ℕ) → a ≡ x → b ≡ y → c ≡ z → d ≡ w → a ∷ b ∷ c ∷ d ∷ [] ≡ x ∷ y ∷ z ∷ w ∷ []
list_four a b c d x y z w h k l m = cc

two_whole : (a b : ℕ) → 0xC2 ≤ a → a ≤ 0xDF → 0x80 ≤ b → b ≤ 0xBF → Character (a ∷ b ∷ [])
two_whole a b h1 h2 h3 h4 =
    let c = (a - 0xC0) * 64 + (b - 0x80) in
    let low : 0x80 ≤ c = omega arith in
    let high : c < 0x800 = omega arith in
    record {
      number = c;
      is = character_in c (inl (omega (arith, low), omega (arith, high)));
      bytes = utf8_two c low high ∙ list_two (0xC0 + c / 0x40) (further c) a b (omega arith) (omega arith);
    }

three_whole : (a b c : ℕ) → begin_three a b ≡ true → 0x80 ≤ c → c ≤ 0xBF → (a ≡ 0xEF → b ≡ 0xBF → c ≤ 0xBD) → Character (a ∷ b ∷ c ∷ [])
three_whole a b c h k l last =
    let r = three_range a b h in
    let hi = (a - 0xE0) * 64 + (b - 0x80) in
    let n = hi * 64 + (c - 0x80) in
    let r0 : 0xE0 ≤ a = r.0 in
    let r1 : a ≤ 0xEF = r.1 in
    let r2 : 0x80 ≤ b = r.2 in
    let r3 : b ≤ 0xBF = r.3 in
    let r4 : 0x20 ≤ hi = r.4 in
    let low : 0x800 ≤ n = omega arith in
    let high : n < 0x1_0000 = omega arith in
    record {
      number = n;
      is = character_in n (go r.5);
      bytes = utf8_three n low high ∙ list_three (0xE0 + n / 0x1000) (further (n / 0x40)) (further n) a b c (omega arith) (omega arith) (omega arith);
    }
  where
    small : (a ≤ 0xEF) → (b ≤ 0xBF) → (0xE0 ≤ a) → (0x80 ≤ b) → ((a - 0xE0) * 64 + (b - 0x80)) * 64 + (c - 0x80) ≤ 0xFFFD
    small h1 h2 h3 h4 = cases (cases_eq a 0xEF) (cases_eq b 0xBF)
      where
        cases : (a ≡ 0xEF) ⊎ (a ≡ 0xEF → ⊥) → (b ≡ 0xBF) ⊎ (b ≡ 0xBF → ⊥) → ((a - 0xE0) * 64 + (b - 0x80)) * 64 + (c - 0x80) ≤ 0xFFFD
        cases (inl e) (inl f) = let m : c ≤ 0xBD = last e f in omega arith
        cases (inl e) (inr f) = let m : b < 0xBF = lt_of b 0xBF h2 f in omega arith
        cases (inr e) f = let m : a < 0xEF = lt_of a 0xEF h1 e in omega arith

    go : ((a - 0xE0) * 64 + (b - 0x80) < 0x360) ⊎ (0x380 ≤ (a - 0xE0) * 64 + (b - 0x80))
        → ((0x20 ≤ ((a - 0xE0) * 64 + (b - 0x80)) * 64 + (c - 0x80)) × (((a - 0xE0) * 64 + (b - 0x80)) * 64 + (c - 0x80) ≤ 0xD7FF)) ⊎ (((0xE000 ≤ ((a - 0xE0) * 64 + (b - 0x80)) * 64 + (c - 0x80)) × (((a - 0xE0) * 64 + (b - 0x80)) * 64 + (c - 0x80) ≤ 0xFFFD)) ⊎ ((0x1_0000 ≤ ((a - 0xE0) * 64 + (b - 0x80)) * 64 + (c - 0x80)) × (((a - 0xE0) * 64 + (b - 0x80)) * 64 + (c - 0x80) ≤ 0x10_FFFF)))
    go (inl m) = let r = three_range a b h in let r4 : 0x20 ≤ (a - 0xE0) * 64 + (b - 0x80) = r.4 in inl (omega arith, omega arith)
    go (inr m) = let r = three_range a b h in inr (inl (omega arith, small r.1 r.3 r.0 r.2))

four_whole : (a b c d : ℕ) → begin_four a b ≡ true → 0x80 ≤ c → c ≤ 0xBF → 0x80 ≤ d → d ≤ 0xBF → Character (a ∷ b ∷ c ∷ d ∷ [])
four_whole a b c d h k l m o =
    let r = four_range a b h in
    let hi = (a - 0xF0) * 64 + (b - 0x80) in
    let n = (hi * 64 + (c - 0x80)) * 64 + (d - 0x80) in
    let r0 : 0xF0 ≤ a = r.0 in
    let r2 : 0x80 ≤ b = r.2 in
    let r3 : b ≤ 0xBF = r.3 in
    let r4 : 0x10 ≤ hi = r.4 in
    let r5 : hi < 0x110 = r.5 in
    let low : 0x1_0000 ≤ n = omega arith in
    record {
      number = n;
      is = character_in n (inr (inr (low, omega arith)));
      bytes = utf8_four n low ∙ list_four (0xF0 + n / 0x4_0000) (further (n / 0x1000)) (further (n / 0x40)) (further n) a b c d (omega arith) (omega arith) (omega arith) (omega arith);
    }

pub whole_is : (q : List ℕ) → is_whole q ≡ true → Character q
whole_is [] h = absurd (false≢true h)
whole_is (a ∷ []) h = let p = and_parts (nat_lt a 0x80) (is_character a) h in record { number = a; is = p.1; bytes = utf8_one a (ltb-true a 0x80 p.0) }
whole_is (a ∷ b ∷ []) h =
    let p = and_parts (is_within 0xC2 0xDF a) (is_further b) h in let v = within_parts 0xC2 0xDF a p.0 in let w = within_parts 0x80 0xBF b p.1 in two_whole a b v.0 v.1 w.0 w.1
whole_is (a ∷ b ∷ c ∷ []) h =
    let p = and_parts (begin_three a b) (cond (is_last_pair a b c) false (is_further c)) h in
    let q = last (is_last_pair a b c) refl p.1 in
    let w = within_parts 0x80 0xBF c q.0 in
    three_whole a b c p.0 w.0 w.1 (λ e f. leb_of c (not_last e f q.1))
  where
    last : (t : Bool) → is_last_pair a b c ≡ t → cond t false (is_further c) ≡ true → (is_further c ≡ true) × (is_last_pair a b c ≡ false)
    last true e k = absurd (false≢true k)
    last false e k = (k, e)

    not_last : a ≡ 0xEF → b ≡ 0xBF → is_last_pair a b c ≡ false → nat_lt 0xBD c ≡ false
    not_last e f k = subst (λ y. ((y == 0xEF) && ((0xBF == 0xBF) && nat_lt 0xBD c)) ≡ false) e (subst (λ z. ((a == 0xEF) && ((z == 0xBF) && nat_lt 0xBD c)) ≡ false) f k)

    leb_of : (c : ℕ) → nat_lt 0xBD c ≡ false → c ≤ 0xBD
    leb_of c h = grind (arith, nat_tests)
whole_is (a ∷ b ∷ c ∷ d ∷ []) h =
    let p = and_parts (begin_four a b) (is_further c && is_further d) h in
    let q = and_parts (is_further c) (is_further d) p.1 in
    let v = within_parts 0x80 0xBF c q.0 in let w = within_parts 0x80 0xBF d q.1 in
    four_whole a b c d p.0 v.0 v.1 w.0 w.1
whole_is (a ∷ b ∷ c ∷ d ∷ e ∷ es) h = absurd (false≢true h)

-- and the bytes of a character are whole

pub within_from : (low high b : ℕ) → low ≤ b → b ≤ high → is_within low high b ≡ true
within_from low high b h k = and_from (nat_le low b) (nat_le b high) (le-leb low b h) (le-leb b high k)

pub begins_three : (a b : ℕ) → 0xE0 ≤ a → a ≤ 0xEF → 0x80 ≤ b → b ≤ 0xBF → (a ≡ 0xE0 → 0xA0 ≤ b) → (a ≡ 0xED → b ≤ 0x9F) → begin_three a b ≡ true
begins_three a b h1 h2 h3 h4 first surrogate = go (cases_eq a 0xE0) (cases_eq a 0xED) (cases_lt a 0xED)
  where
    p1 : Bool
    p1 = (a == 0xE0) && is_within 0xA0 0xBF b

    rest3 : Bool
    rest3 = ((a == 0xED) && is_within 0x80 0x9F b) || (is_within 0xEE 0xEF a && is_further b)

    go : (a ≡ 0xE0) ⊎ (a ≡ 0xE0 → ⊥) → (a ≡ 0xED) ⊎ (a ≡ 0xED → ⊥) → (a < 0xED) ⊎ (0xED ≤ a) → begin_three a b ≡ true
    go (inl e) f g =
        or_left ((a == 0xE0) && is_within 0xA0 0xBF b) ((is_within 0xE1 0xEC a && is_further b) || (((a == 0xED) && is_within 0x80 0x9F b) || (is_within 0xEE 0xEF a && is_further b)))
        (and_from (a == 0xE0) (is_within 0xA0 0xBF b) (eq-eqb a 0xE0 e) (within_from 0xA0 0xBF b (first e) h4))
    go (inr e) (inl f) g =
        or_right ((a == 0xE0) && is_within 0xA0 0xBF b) ((is_within 0xE1 0xEC a && is_further b) || (((a == 0xED) && is_within 0x80 0x9F b) || (is_within 0xEE 0xEF a && is_further b)))
        (or_right (is_within 0xE1 0xEC a && is_further b) (((a == 0xED) && is_within 0x80 0x9F b) || (is_within 0xEE 0xEF a && is_further b))
        (or_left ((a == 0xED) && is_within 0x80 0x9F b) (is_within 0xEE 0xEF a && is_further b) (and_from (a == 0xED) (is_within 0x80 0x9F b) (eq-eqb a 0xED f) (within_from 0x80 0x9F b h3 (surrogate f)))))
    go (inr e) (inr f) (inl g) =
        let up : 0xE0 < a = lt_of 0xE0 a h1 (λ q. e (sym q)) in
        or_right ((a == 0xE0) && is_within 0xA0 0xBF b) ((is_within 0xE1 0xEC a && is_further b) || (((a == 0xED) && is_within 0x80 0x9F b) || (is_within 0xEE 0xEF a && is_further b)))
        (or_left (is_within 0xE1 0xEC a && is_further b) (((a == 0xED) && is_within 0x80 0x9F b) || (is_within 0xEE 0xEF a && is_further b))
        (and_from (is_within 0xE1 0xEC a) (is_further b) (within_from 0xE1 0xEC a (omega arith) (omega arith)) (within_from 0x80 0xBF b h3 h4)))
    go (inr e) (inr f) (inr g) =
        let up : 0xED < a = lt_of 0xED a g (λ q. f (sym q)) in
        or_right ((a == 0xE0) && is_within 0xA0 0xBF b) ((is_within 0xE1 0xEC a && is_further b) || (((a == 0xED) && is_within 0x80 0x9F b) || (is_within 0xEE 0xEF a && is_further b)))
        (or_right (is_within 0xE1 0xEC a && is_further b) (((a == 0xED) && is_within 0x80 0x9F b) || (is_within 0xEE 0xEF a && is_further b))
        (or_right ((a == 0xED) && is_within 0x80 0x9F b) (is_within 0xEE 0xEF a && is_further b)
        (and_from (is_within 0xEE 0xEF a) (is_further b) (within_from 0xEE 0xEF a (omega arith) h2) (within_from 0x80 0xBF b h3 h4))))

pub begins_four : (a b : ℕ) → 0xF0 ≤ a → a ≤ 0xF4 → 0x80 ≤ b → b ≤ 0xBF → (a ≡ 0xF0 → 0x90 ≤ b) → (a ≡ 0xF4 → b ≤ 0x8F) → begin_four a b ≡ true
begins_four a b h1 h2 h3 h4 first last = go (cases_eq a 0xF0) (cases_eq a 0xF4)
  where
    go : (a ≡ 0xF0) ⊎ (a ≡ 0xF0 → ⊥) → (a ≡ 0xF4) ⊎ (a ≡ 0xF4 → ⊥) → begin_four a b ≡ true
    go (inl e) f =
        or_left ((a == 0xF0) && is_within 0x90 0xBF b) ((is_within 0xF1 0xF3 a && is_further b) || ((a == 0xF4) && is_within 0x80 0x8F b))
        (and_from (a == 0xF0) (is_within 0x90 0xBF b) (eq-eqb a 0xF0 e) (within_from 0x90 0xBF b (first e) h4))
    go (inr e) (inl f) =
        or_right ((a == 0xF0) && is_within 0x90 0xBF b) ((is_within 0xF1 0xF3 a && is_further b) || ((a == 0xF4) && is_within 0x80 0x8F b))
        (or_right (is_within 0xF1 0xF3 a && is_further b) ((a == 0xF4) && is_within 0x80 0x8F b) (and_from (a == 0xF4) (is_within 0x80 0x8F b) (eq-eqb a 0xF4 f) (within_from 0x80 0x8F b h3 (last f))))
    go (inr e) (inr f) =
        let up : 0xF0 < a = lt_of 0xF0 a h1 (λ q. e (sym q)) in
        let down : a < 0xF4 = lt_of a 0xF4 h2 f in
        or_right ((a == 0xF0) && is_within 0x90 0xBF b) ((is_within 0xF1 0xF3 a && is_further b) || ((a == 0xF4) && is_within 0x80 0x8F b))
        (or_left (is_within 0xF1 0xF3 a && is_further b) ((a == 0xF4) && is_within 0x80 0x8F b)
        (and_from (is_within 0xF1 0xF3 a) (is_further b) (within_from 0xF1 0xF3 a (omega arith) (omega arith)) (within_from 0x80 0xBF b h3 h4)))

-- the range of a character
pub character_range : (c : ℕ) → is_character c ≡ true → (c < 0xD800) ⊎ (((0xE000 ≤ c) × (c ≤ 0xFFFD)) ⊎ ((0x1_0000 ≤ c) × (c ≤ 0x10_FFFF)))
character_range c h = go (cases_lt c 0xD800) (cases_lt c 0x1_0000)
  where
    low : 0xD800 ≤ c → c < 0x1_0000 → (0xE000 ≤ c) × (c ≤ 0xFFFD)
    low k l = (grind (arith, nat_tests), grind (arith, nat_tests))

    high : 0x1_0000 ≤ c → c ≤ 0x10_FFFF
    high k = grind (arith, nat_tests)

    go : (c < 0xD800) ⊎ (0xD800 ≤ c) → (c < 0x1_0000) ⊎ (0x1_0000 ≤ c) → (c < 0xD800) ⊎ (((0xE000 ≤ c) × (c ≤ 0xFFFD)) ⊎ ((0x1_0000 ≤ c) × (c ≤ 0x10_FFFF)))
    go (inl k) l = inl k
    go (inr k) (inl l) = inr (inl (low k l))
    go (inr k) (inr l) = inr (inr (l, high l))

three_bytes : (c : ℕ) → 0x800 ≤ c → c < 0x1_0000 → (c < 0xD800) ⊎ (0xE000 ≤ c) → c ≤ 0xFFFD → is_whole (utf8_of c) ≡ true
three_bytes c h k surrogate small = subst (λ q. is_whole q ≡ true) (sym (utf8_three c h k)) (and_from (begin_three a b) (cond (is_last_pair a b d) false (is_further d)) begins (last (is_last_pair a b d) refl))
  where
    a : ℕ
    a = 0xE0 + c / 0x1000

    b : ℕ
    b = 0x80 + (c / 0x40) % 0x40

    d : ℕ
    d = 0x80 + c % 0x40

    begins : begin_three (0xE0 + c / 0x1000) (0x80 + (c / 0x40) % 0x40) ≡ true
    begins = begins_three (0xE0 + c / 0x1000) (0x80 + (c / 0x40) % 0x40) (omega arith) (omega arith) (omega arith) (omega arith) (λ e. omega arith) (λ e. go surrogate e)
      where
        go : (c < 0xD800) ⊎ (0xE000 ≤ c) → 0xE0 + c / 0x1000 ≡ 0xED → 0x80 + (c / 0x40) % 0x40 ≤ 0x9F
        go (inl l) e = omega arith
        go (inr l) e = omega arith

    further_last : is_further (0x80 + c % 0x40) ≡ true
    further_last = within_from 0x80 0xBF (0x80 + c % 0x40) (omega arith) (omega arith)

    pair : is_last_pair (0xE0 + c / 0x1000) (0x80 + (c / 0x40) % 0x40) (0x80 + c % 0x40) ≡ true → ⊥
    pair e =
        let p = and_parts ((0xE0 + c / 0x1000) == 0xEF) (((0x80 + (c / 0x40) % 0x40) == 0xBF) && nat_lt 0xBD (0x80 + c % 0x40)) e in
        let q = and_parts ((0x80 + (c / 0x40) % 0x40) == 0xBF) (nat_lt 0xBD (0x80 + c % 0x40)) p.1 in
        let x : 0xE0 + c / 0x1000 ≡ 0xEF = eqb-true (0xE0 + c / 0x1000) 0xEF p.0 in
        let y : 0x80 + (c / 0x40) % 0x40 ≡ 0xBF = eqb-true (0x80 + (c / 0x40) % 0x40) 0xBF q.0 in
        let z : 0xBD < 0x80 + c % 0x40 = ltb-true 0xBD (0x80 + c % 0x40) q.1 in
        omega arith

    last : (t : Bool) → is_last_pair (0xE0 + c / 0x1000) (0x80 + (c / 0x40) % 0x40) (0x80 + c % 0x40) ≡ t → cond t false (is_further (0x80 + c % 0x40)) ≡ true
    last true e = absurd (pair e)
    last false e = further_last

four_bytes : (c : ℕ) → 0x1_0000 ≤ c → c ≤ 0x10_FFFF → is_whole (utf8_of c) ≡ true
four_bytes c h k =
    subst (λ q. is_whole q ≡ true) (sym (utf8_four c h))
    (and_from (begin_four (0xF0 + c / 0x4_0000) (further (c / 0x1000))) (is_further (further (c / 0x40)) && is_further (further c))
    (begins_four (0xF0 + c / 0x4_0000) (further (c / 0x1000)) (omega arith) (omega arith) (omega arith) (omega arith) (λ e. omega arith) (λ e. omega arith))
    (and_from (is_further (further (c / 0x40))) (is_further (further c)) (within_from 0x80 0xBF (further (c / 0x40)) (omega arith) (omega arith)) (within_from 0x80 0xBF (further c) (omega arith) (omega arith))))

pub whole_bytes : (c : ℕ) → is_character c ≡ true → is_whole (utf8_of c) ≡ true
whole_bytes c h = go (cases_lt c 0x80) (cases_lt c 0x800) (character_range c h)
  where
    two_bytes : 0x80 ≤ c → c < 0x800 → is_whole (utf8_of c) ≡ true
    two_bytes k l =
        subst (λ q. is_whole q ≡ true) (sym (utf8_two c k l))
        (and_from (is_within 0xC2 0xDF (0xC0 + c / 0x40)) (is_further (further c)) (within_from 0xC2 0xDF (0xC0 + c / 0x40) (omega arith) (omega arith)) (within_from 0x80 0xBF (further c) (omega arith) (omega arith)))

    go : (c < 0x80) ⊎ (0x80 ≤ c) → (c < 0x800) ⊎ (0x800 ≤ c) → (c < 0xD800) ⊎ (((0xE000 ≤ c) × (c ≤ 0xFFFD)) ⊎ ((0x1_0000 ≤ c) × (c ≤ 0x10_FFFF))) → is_whole (utf8_of c) ≡ true
    go (inl k) l r = subst (λ q. is_whole q ≡ true) (sym (utf8_one c k)) (and_from (nat_lt c 0x80) (is_character c) (lt-ltb c 0x80 k) h)
    go (inr k) (inl l) r = two_bytes k l
    go (inr k) (inr l) (inl r) = three_bytes c l (omega arith) (inl r) (omega arith)
    go (inr k) (inr l) (inr (inl r)) = let lo = r.0 in let hi = r.1 in three_bytes c l (omega arith) (inr lo) hi
    go (inr k) (inr l) (inr (inr r)) = four_bytes c r.0 r.1

-- a front of whole bytes is begun
pub whole_front : (x : ℕ) (a : List ℕ) (m : ℕ) (more : List ℕ) → is_whole ((x ∷ a) ++ (m ∷ more)) ≡ true → is_begun (x ∷ a) ≡ true
whole_front x [] m [] h = let v = within_parts 0xC2 0xDF x (and_parts (is_within 0xC2 0xDF x) (is_further m) h).0 in within_from 0xC2 0xF4 x v.0 (let u : x ≤ 0xDF = v.1 in omega arith)
whole_front x [] m (n ∷ []) h =
    let r = three_range x m (and_parts (begin_three x m) (cond (is_last_pair x m n) false (is_further n)) h).0 in
    within_from 0xC2 0xF4 x (let u : 0xE0 ≤ x = r.0 in omega arith) (let u : x ≤ 0xEF = r.1 in omega arith)
whole_front x [] m (n ∷ o ∷ []) h =
    let r = four_range x m (and_parts (begin_four x m) (is_further n && is_further o) h).0 in within_from 0xC2 0xF4 x (let u : 0xF0 ≤ x = r.0 in omega arith) r.1
whole_front x [] m (n ∷ o ∷ p ∷ q) h = absurd (false≢true h)
whole_front x (y ∷ []) m [] h = or_left (begin_three x y) (begin_four x y) (and_parts (begin_three x y) (cond (is_last_pair x y m) false (is_further m)) h).0
whole_front x (y ∷ []) m (n ∷ []) h = or_right (begin_three x y) (begin_four x y) (and_parts (begin_four x y) (is_further m && is_further n) h).0
whole_front x (y ∷ []) m (n ∷ o ∷ p) h = absurd (false≢true h)
whole_front x (y ∷ z ∷ []) m [] h =
    let p = and_parts (begin_four x y) (is_further z && is_further m) h in and_from (begin_four x y) (is_further z) p.0 (and_parts (is_further z) (is_further m) p.1).0
whole_front x (y ∷ z ∷ []) m (n ∷ o) h = absurd (false≢true h)
whole_front x (y ∷ z ∷ w ∷ a) m more h = absurd (false≢true (too_long a h))
  where
    too_long : (a : List ℕ) → is_whole (x ∷ y ∷ z ∷ w ∷ (a ++ (m ∷ more))) ≡ true → false ≡ true
    too_long [] h = h
    too_long (v ∷ a) h = h

-- a front of begun bytes is begun
pub begun_front : (x : ℕ) (a more : List ℕ) → is_begun ((x ∷ a) ++ more) ≡ true → is_begun (x ∷ a) ≡ true
begun_front x a [] h = subst (λ l. is_begun (x ∷ l) ≡ true) (append-nil a) h
begun_front x [] (m ∷ []) h = go (or_cases (begin_three x m) (begin_four x m) h)
  where
    go : (begin_three x m ≡ true) ⊎ (begin_four x m ≡ true) → is_within 0xC2 0xF4 x ≡ true
    go (inl k) = let r = three_range x m k in within_from 0xC2 0xF4 x (let u : 0xE0 ≤ x = r.0 in omega arith) (let u : x ≤ 0xEF = r.1 in omega arith)
    go (inr k) = let r = four_range x m k in within_from 0xC2 0xF4 x (let u : 0xF0 ≤ x = r.0 in omega arith) r.1
begun_front x [] (m ∷ n ∷ []) h = let r = four_range x m (and_parts (begin_four x m) (is_further n) h).0 in within_from 0xC2 0xF4 x (let u : 0xF0 ≤ x = r.0 in omega arith) r.1
begun_front x [] (m ∷ n ∷ o ∷ p) h = absurd (false≢true h)
begun_front x (y ∷ []) (m ∷ []) h = or_right (begin_three x y) (begin_four x y) (and_parts (begin_four x y) (is_further m) h).0
begun_front x (y ∷ []) (m ∷ n ∷ o) h = absurd (false≢true h)
begun_front x (y ∷ z ∷ a) (m ∷ more) h = absurd (false≢true (too_long a h))
  where
    too_long : (a : List ℕ) → is_begun (x ∷ y ∷ z ∷ (a ++ (m ∷ more))) ≡ true → false ≡ true
    too_long [] h = h
    too_long (v ∷ a) h = h

-- begun bytes are not whole
pub begun_not_whole : (q : List ℕ) → is_begun q ≡ true → is_whole q ≡ true → ⊥
begun_not_whole [] h k = false≢true h
begun_not_whole (a ∷ []) h k =
    let lo : 0xC2 ≤ a = (within_parts 0xC2 0xF4 a h).0 in let hi : a < 0x80 = ltb-true a 0x80 (and_parts (nat_lt a 0x80) (is_character a) k).0 in omega arith
begun_not_whole (a ∷ b ∷ []) h k = go (or_cases (begin_three a b) (begin_four a b) h)
  where
    high : a ≤ 0xDF
    high = (within_parts 0xC2 0xDF a (and_parts (is_within 0xC2 0xDF a) (is_further b) k).0).1

    go : (begin_three a b ≡ true) ⊎ (begin_four a b ≡ true) → ⊥
    go (inl l) = let lo : 0xE0 ≤ a = (three_range a b l).0 in let hi : a ≤ 0xDF = (within_parts 0xC2 0xDF a (and_parts (is_within 0xC2 0xDF a) (is_further b) k).0).1 in omega arith
    go (inr l) = let lo : 0xF0 ≤ a = (four_range a b l).0 in let hi : a ≤ 0xDF = (within_parts 0xC2 0xDF a (and_parts (is_within 0xC2 0xDF a) (is_further b) k).0).1 in omega arith
begun_not_whole (a ∷ b ∷ c ∷ []) h k =
    let lo : 0xF0 ≤ a = (four_range a b (and_parts (begin_four a b) (is_further c) h).0).0 in
    let hi : a ≤ 0xEF = (three_range a b (and_parts (begin_three a b) (cond (is_last_pair a b c) false (is_further c)) k).0).1 in omega arith
begun_not_whole (a ∷ b ∷ c ∷ d ∷ es) h k = false≢true h
