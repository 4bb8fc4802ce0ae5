-- Which numbers begin with the digits of one.
use Rattle.std.proofs.Common.{◌≡◌, ℕ, zero, suc, ◌+◌, ◌-◌, ◌*◌, ◌/◌, ◌%◌, ◌^◌, ◌<◌, ◌≤◌, Bool, true, false, List, [], ◌∷◌, ◌++◌, length, take, get_or, nat_eq, decimal, ltb, leb, refl, sym, ap, ◌∙◌, subst, append-nil, append_assoc, arith}
use Rattle.std.proofs.Math.Seq.{take-append_seam}
use Rattle.std.proofs.lemmas.Fmt.{decimal_step_wide, decimal_digit, decimal_is_IsNumeral_wide, first_decimal}
use Rattle.std.proofs.lemmas.Bool.Decides.{nat_tests}
use Rattle.std.specs.Str.Parse.{digits_value}
use Rattle.pn_words.specs.Numbers.{Begins}
use Rattle.pn_words.proofs.SameLemmas.{length_both}

-- a number with so many zeros behind it
abbrev pub shift : ℕ → ℕ → ℕ
shift zero a = a
shift (suc j) a = shift j a * 10

shift_positive : (j a : ℕ) → 0 < a → 0 < shift j a
shift_positive zero a h = h
shift_positive (suc j) a h = let k = shift_positive j a h in omega (arith, k)

pub same_number : (m n : ℕ) → m < 10 ^ 64 → n < 10 ^ 64 → decimal m ≡ decimal n → m ≡ n
same_number m n hm hn e =
    sym (decimal_is_IsNumeral_wide m hm).1 ∙ ap (digits_value 10) e ∙ (decimal_is_IsNumeral_wide n hn).1

-- what lies between the number and the next, both with as many zeros, begins with its digits
pub between_begins : (j m n : ℕ) → 0 < m → n < 10 ^ 64 → shift j m ≤ n → n < shift j (suc m) → (rest : List ℕ) × (decimal n ≡ decimal m ++ rest)
between_begins zero m n pos wide low high = let e : n ≡ m = omega (arith, low, high) in ([], ap decimal e ∙ sym (append-nil (decimal m)))
between_begins (suc j) m n pos wide low high =
    let p = shift_positive j m pos in
    let ten : 10 ≤ n = omega (arith, p, low) in
    let before = between_begins j m (n / 10) pos (omega (arith, wide)) (omega (arith, low)) (omega (arith, high)) in (
      before.0 ++ (48 + n % 10) ∷ [],
      decimal_step_wide n ten wide ∙ ap (λ l. l ++ (48 + n % 10) ∷ []) before.1 ∙ append_assoc (decimal m) before.0 ((48 + n % 10) ∷ []),
    )

pub split_last : (x : ℕ) (xs : List ℕ) → (ys : List ℕ) × (y : ℕ) × (x ∷ xs ≡ ys ++ y ∷ [])
split_last x [] = ([], x, refl)
split_last x (z ∷ xs) = let h = split_last z xs in (x ∷ h.0, h.1, ap (λ l. x ∷ l) h.2)

pub same_before : (xs ys : List ℕ) (x y : ℕ) → xs ++ x ∷ [] ≡ ys ++ y ∷ [] → xs ≡ ys
same_before xs ys x y e =
    let p = length_both xs (x ∷ []) in
    let q = length_both ys (y ∷ []) in
    let r = ap length e in
    let n : length xs ≡ length ys = omega (arith, p, q, r) in
    sym (take-append_seam xs (x ∷ [])) ∙ ap (take (length xs)) e ∙ ap (λ k. take k (ys ++ y ∷ [])) n ∙ take-append_seam ys (y ∷ [])

pub some_digits : (n : ℕ) → n < 10 ^ 64 → 0 < length (decimal n)
some_digits n h = (decimal_is_IsNumeral_wide n h).0.0

-- and the other way round
pub begins_between : (k : ℕ) (rest : List ℕ) (m n : ℕ) → length rest ≤ k → m < 10 ^ 64 → n < 10 ^ 64 → decimal n ≡ decimal m ++ rest
    → (j : ℕ) × (shift j m ≤ n) × (n < shift j (suc m))
begins_between k [] m n le hm hn e = let s : n ≡ m = same_number n m hn hm (e ∙ append-nil (decimal m)) in (0, omega (arith, s), omega (arith, s))
begins_between zero (x ∷ rest) m n le hm hn e = absurd (omega (arith, le))
begins_between (suc k) (x ∷ rest) m n le hm hn e =
    by (ltb n 10) refl (split_last x rest) (some_digits m hm) (λ ys l h. begins_between k ys m (n / 10) l hm (omega (arith, hn)) h)
  where
    short : n < 10 → 0 < length (decimal m) → ⊥
    short lt some =
        let a = ap length (sym (decimal_digit n lt) ∙ e) in
        let b = length_both (decimal m) (x ∷ rest) in omega (arith, a, b, some)

    more : 10 ≤ n → (s : (ys : List ℕ) × (y : ℕ) × (x ∷ rest ≡ ys ++ y ∷ []))
        → ((ys : List ℕ) → length ys ≤ k → decimal (n / 10) ≡ decimal m ++ ys → (j : ℕ) × (shift j m ≤ n / 10) × (n / 10 < shift j (suc m)))
        → (j : ℕ) × (shift j m ≤ n / 10) × (n / 10 < shift j (suc m))
    more ge s again =
        let whole = sym (decimal_step_wide n ge hn) ∙ e ∙ ap (λ l. decimal m ++ l) s.2 ∙ sym (append_assoc (decimal m) s.0 (s.1 ∷ [])) in
        let before = same_before (decimal (n / 10)) (decimal m ++ s.0) (48 + n % 10) s.1 whole in
        let a = ap length s.2 in
        let b = length_both s.0 (s.1 ∷ []) in
        again s.0 (omega (arith, le, a, b)) before

    up : (j : ℕ) × (shift j m ≤ n / 10) × (n / 10 < shift j (suc m)) → (j : ℕ) × (shift j m ≤ n) × (n < shift j (suc m))
    up b = (suc b.0, omega (arith, b.1), omega (arith, b.2))

    by : (t : Bool) → ltb n 10 ≡ t → (s : (ys : List ℕ) × (y : ℕ) × (x ∷ rest ≡ ys ++ y ∷ [])) → 0 < length (decimal m)
        → ((ys : List ℕ) → length ys ≤ k → decimal (n / 10) ≡ decimal m ++ ys → (j : ℕ) × (shift j m ≤ n / 10) × (n / 10 < shift j (suc m)))
        → (j : ℕ) × (shift j m ≤ n) × (n < shift j (suc m))
    by true lt s some again = absurd (short (grind (arith, nat_tests)) some)
    by false ge s some again = up (more (grind (arith, nat_tests)) s again)

-- more zeros make no less
shift_grows : (i d m : ℕ) → shift i m ≤ shift (d + i) m
shift_grows i zero m = (let e : 0 + i ≡ i = omega arith in subst (λ k. shift i m ≤ shift k m) (sym e) (omega arith))
shift_grows i (suc d) m =
    let h = shift_grows i d m in
    let e : suc d + i ≡ suc (d + i) = omega arith in
    let more : shift i m ≤ shift (suc (d + i)) m = omega (arith, h) in subst (λ k. shift i m ≤ shift k m) (sym e) more

pub shift_rises : (i j m : ℕ) → i ≤ j → shift i m ≤ shift j m
shift_rises i j m le = let e : (j - i) + i ≡ j = omega (arith, le) in subst (λ k. shift i m ≤ shift k m) e (shift_grows i (j - i) m)

-- it is no less than what it begins with
shift_least : (j m : ℕ) → m ≤ shift j m
shift_least j m = shift_rises 0 j m (omega arith)

pub begins_within : (low high m : ℕ) → high < 2 ^ 64 → m < 200000000000000000000 → Begins low high m → m ≤ high
begins_within low high m hh hm b =
    let n = b.0 in
    let le = b.3 in
    let w = begins_between (length b.1) b.1 m n (omega arith) (omega (arith, hm)) (omega (arith, le, hh)) b.4 in
    let l = shift_least w.0 m in omega (arith, w.1, le, l)

-- the digits of a number, and one more
pub one_more_digit : (m d : ℕ) → 0 < m → d < 10 → m < 2 ^ 64 → decimal (m * 10 + d) ≡ decimal m ++ (48 + d) ∷ []
one_more_digit m d pos lt wide =
    let ten : 10 ≤ m * 10 + d = omega (arith, pos) in
    let q : (m * 10 + d) / 10 ≡ m = omega (arith, lt) in
    let r : (m * 10 + d) % 10 ≡ d = omega (arith, lt) in
    decimal_step_wide (m * 10 + d) ten (omega (arith, wide, lt)) ∙ (λ i. decimal (q i) ++ (48 + r i) ∷ [])

-- the bounds with as many zeros: what was passed by, and where the search ends
pub record Zeros (low m least above : ℕ) : Type 0 where
  pub zeros : ℕ
  pub least_is : least ≡ shift zeros m
  pub above_is : above ≡ shift zeros (suc m)
  pub passed : (i : ℕ) → i < zeros → shift i (suc m) ≤ low

pub zeros_none : (low m : ℕ) → Zeros low m m (m + 1)
zeros_none low m = record { zeros = 0; least_is = refl; above_is = omega arith; passed = λ i lt. absurd (omega (arith, lt)) }

pub zeros_next : (low m least above : ℕ) → Zeros low m least above → above ≤ low → Zeros low m (least * 10) (above * 10)
zeros_next low m least above z le = record {
  zeros = suc z.zeros;
  least_is = ap (λ x. x * 10) z.least_is;
  above_is = ap (λ x. x * 10) z.above_is;
  passed = λ i lt. by i lt (leb i z.zeros) (ltb i z.zeros) refl;
}
  where
    by : (i : ℕ) → i < suc z.zeros → (t u : Bool) → ltb i z.zeros ≡ u → shift i (suc m) ≤ low
    by i lt t true e = z.passed i (grind (arith, nat_tests))
    by i lt t false e =
        let k : i ≡ z.zeros = grind (arith, nat_tests) in
        let a = z.above_is in
        let s : shift i (suc m) ≡ above = ap (λ x. shift x (suc m)) k ∙ sym a in omega (arith, s, le)

-- found: some number begins so
pub zeros_begin : (low high m least above : ℕ) → 0 < m → low ≤ high → high < 2 ^ 64 → Zeros low m least above → least ≤ high → low < above → Begins low high m
zeros_begin low high m least above pos order hh z le lt = by (leb low least) refl
  where
    grows : shift z.zeros m < shift z.zeros (suc m)
    grows = more z.zeros
      where
        more : (j : ℕ) → shift j m < shift j (suc m)
        more zero = omega arith
        more (suc j) = let h = more j in omega (arith, h)

    a : least ≡ shift z.zeros m
    a = z.least_is

    c : above ≡ shift z.zeros (suc m)
    c = z.above_is

    at : (n : ℕ) → low ≤ n → n ≤ high → least ≤ n → n < above → Begins low high m
    at n ln nh len na =
        let b = between_begins z.zeros m n pos (omega (arith, nh, hh)) (omega (arith, a, len)) (omega (arith, c, na)) in (n, b.0, ln, nh, b.1)

    by : (t : Bool) → leb low least ≡ t → Begins low high m
    by true e = at least (grind (arith, nat_tests)) le (omega arith) (let g = grows in omega (arith, a, c, g))
    by false e = at low (omega arith) order (grind (arith, nat_tests)) lt

-- the search has ended: none begins so
pub zeros_end : (low high m least above : ℕ) → high < 2 ^ 64 → m < 200000000000000000000 → Zeros low m least above → high < least → Begins low high m → ⊥
zeros_end low high m least above hh hm z lt b =
    let n = b.0 in
    let lown = b.2 in
    let le = b.3 in
    let w = begins_between (length b.1) b.1 m n (omega arith) (omega (arith, hm)) (omega (arith, le, hh)) b.4 in
    by w.0 w.1 w.2 lown le (ltb w.0 z.zeros) refl
  where
    by : (i : ℕ) → shift i m ≤ b.0 → b.0 < shift i (suc m) → low ≤ b.0 → b.0 ≤ high → (t : Bool) → ltb i z.zeros ≡ t → ⊥
    by i x y lown le true e = let p = z.passed i (grind (arith, nat_tests)) in omega (arith, p, y, lown)
    by i x y lown le false e =
        let r = shift_rises z.zeros i m (grind (arith, nat_tests)) in
        let a = z.least_is in omega (arith, r, a, x, le, lt)

-- with the digit 0 only 0 begins
pub zero_begins : (low high m : ℕ) → m ≡ 0 → low ≡ 0 → low ≤ high → Begins low high m
zero_begins low high m e z le = (0, [], omega (arith, z), omega (arith), ap decimal (sym e) ∙ sym (append-nil (decimal m)))

pub begins_zero : (low high m : ℕ) → m ≡ 0 → high < 2 ^ 64 → Begins low high m → nat_eq low 0 ≡ true
begins_zero low high m e hh b = by (ltb 0 b.0) refl
  where
    text : decimal b.0 ≡ 48 ∷ b.1
    text = b.4 ∙ ap (λ k. decimal k ++ b.1) e ∙ ap (λ l. l ++ b.1) (decimal_digit 0 (omega arith))

    by : (t : Bool) → ltb 0 b.0 ≡ t → nat_eq low 0 ≡ true
    by true lt =
        let le = b.3 in
        let f = first_decimal b.0 (grind (arith, nat_tests)) (omega (arith, le, hh)) in
        let g : get_or (decimal b.0) 0 0 ≡ 48 = ap (λ l. get_or l 0 0) text in absurd (omega (arith, f, g))
    by false ge = let l = b.2 in let n : b.0 ≡ 0 = grind (arith, nat_tests) in let z : low ≡ 0 = omega (arith, l, n) in ap (λ k. nat_eq k 0) z
