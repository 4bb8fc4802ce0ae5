-- Whole numbers in decimal, with `-` before a negative one.
use Rattle.std.proofs.Common.{◌≡◌, ◌⊎◌, inl, inr, ℕ, suc, ◌-◌, ◌^◌, ◌<◌, ◌≤◌, ◌==◌, Bool, true, false, ℤ, pos, negsuc, int_le, List, [], ◌∷◌, ◌++◌, length, decimal, unsigned_abs, FitsSigned, w64, refl, sym, ap, ◌∙◌, subst, arith}
use Rattle.std.specs.Char.{is_ascii_digit}
use Rattle.std.specs.Fmt.{signed_decimal}
use Rattle.std.specs.List.{list_all}
use Rattle.std.proofs.lemmas.Bool.{false≢true}
use Rattle.std.proofs.lemmas.Bool.Decides.{nat_tests}
use Rattle.std.proofs.lemmas.Int.{ints}
use Rattle.pn_facts.proofs.Truths.{and_left}
use Rattle.std.specs.declared.result.Result.{Result}
use Rattle.std.specs.declared.result.Result.TheVariants.{Ok, Err}
use Rattle.pn_words.specs.Languages.{Broken, Closed, Continues, IsRead, Only, Reads}
use Rattle.pn_words.specs.Numbers.{BehindSign, Decimal, PlainDecimal, SignedDecimal, least_behind, least_plain}
use Rattle.pn_words.proofs.DigitLemmas.{are_digits}
use Rattle.pn_words.proofs.HeadLemmas.{Elsewhere, among_others, behind_byte, head_elsewhere, none_begins, other_head}
use Rattle.pn_words.proofs.NumberLemmas.{some_digits}
use Rattle.pn_words.proofs.PieceLemmas.{closed_renamed, closed_some}
use Rattle.pn_words.proofs.SameLemmas.{length_both}

-- digits begin with another byte than `-`
digits_elsewhere : (t rest b : List ℕ) → list_all is_ascii_digit t ≡ true → 0 < length t → Elsewhere (t ++ rest) (45 ∷ b)
digits_elsewhere [] rest b all some = absurd (omega (arith, some))
digits_elsewhere (d ∷ t) rest b all some = other_head d 45 (t ++ rest) b (by (d == 45) refl (and_left (is_ascii_digit d) (list_all is_ascii_digit t) all))
  where
    by : (c : Bool) → (d == 45) ≡ c → is_ascii_digit d ≡ true → c ≡ false
    by true e digit = let same : d ≡ 45 = grind (arith, nat_tests) in absurd (false≢true (sym (ap is_ascii_digit same) ∙ digit))
    by false e digit = refl

starts_with : (b c : List ℕ) → IsRead (Only (45 ∷ [])) b tt c → 45 ∷ c ≡ b
starts_with b c read = sym (read.cut ∙ ap (λ l. l ++ c) read.is_word)

plain_elsewhere : (n : ℕ) (rest b c : List ℕ) → n < 10 ^ 64 → IsRead (Only (45 ∷ [])) b tt c → Elsewhere (decimal n ++ rest) b
plain_elsewhere n rest b c wide read = subst (Elsewhere (decimal n ++ rest)) (starts_with b c read) (digits_elsewhere (decimal n) rest c (are_digits n wide) (some_digits n wide))

below_bound : (n : ℕ) (high : ℤ) → int_le high (pos (10 ^ 63)) ≡ true → int_le (pos n) high ≡ true → n < 10 ^ 64
below_bound n (pos m) fits le = grind (arith, ints)
below_bound n (negsuc m) fits le = absurd (false≢true le)

not_negative : (n : ℕ) → int_le (pos 0) (pos n) ≡ true
not_negative n = grind (arith, ints)

behind_some : (low high : ℤ) → int_le low high ≡ true → int_le (pos 0) low ≡ false → (z : ℤ) × (t : List ℕ) × BehindSign low high z t
behind_some (pos n) high order negative = absurd (false≢true (sym negative ∙ not_negative n))
behind_some (negsuc n) high order negative = (negsuc n, decimal (suc n), (n, refl, grind (arith, ints), order, refl))

-- behind `-` the digits of a negative number go on
pub behind_sign : (low high : ℤ) (marks b c : List ℕ) → 0 < length marks → int_le high (pos (10 ^ 63)) ≡ true → int_le low high ≡ true → int_le (pos 0) low ≡ false
    → IsRead (Only (45 ∷ [])) b tt c → Continues (Closed (SignedDecimal low high) marks) b (Closed (BehindSign low high) marks) c (λ p. p)
behind_sign low high marks b c some fits order negative read =
    let z = behind_some low high order negative in
    behind_byte (Closed (SignedDecimal low high) marks) (Closed (BehindSign low high) marks) (λ p. p) 45 b c (closed_some (BehindSign low high) marks some z.0 z.1 z.2) to from read
  where
    to : (p : ℤ × ℕ) (w : List ℕ) → Closed (BehindSign low high) marks p w → Closed (SignedDecimal low high) marks p (45 ∷ w)
    to p w (t, (n, value, least, most, is), mark, cut) = (45 ∷ t, (least, most, ap (λ l. 45 ∷ l) is ∙ sym (ap signed_decimal value)), mark, ap (λ l. 45 ∷ l) cut)

    from : (p : ℤ × ℕ) (w : List ℕ) → Closed (SignedDecimal low high) marks p w → ((q : ℤ × ℕ) × (p ≡ q) × (t : List ℕ) × (w ≡ 45 ∷ t) × Closed (BehindSign low high) marks q t) ⊎ Elsewhere w b
    from (pos n, m) w (t, (least, most, is), mark, cut) =
        inr (subst (λ l. Elsewhere l b) (sym (cut ∙ ap (λ l. l ++ m ∷ []) is)) (plain_elsewhere n (m ∷ []) b c (below_bound n high fits most) read))
    from (negsuc n, m) w (t, (least, most, is), mark, cut) =
        inl ((negsuc n, m), refl, decimal (suc n) ++ m ∷ [], cut ∙ ap (λ l. l ++ m ∷ []) is, (decimal (suc n), (n, refl, least, most, refl), mark, refl))

signed_elsewhere : (n m : ℕ) (t w b : List ℕ) (left : ℕ) → Broken (Only (45 ∷ [])) b left → t ≡ signed_decimal (negsuc n) → w ≡ t ++ m ∷ [] → Elsewhere w b
signed_elsewhere n m t w b left h is cut = subst (λ l. Elsewhere l b) (sym (cut ∙ ap (λ l. l ++ m ∷ []) is)) (head_elsewhere 45 (decimal (suc n) ++ m ∷ []) b left h)

-- where the bytes don't begin with `-`, only the others are read
pub without_sign : (low high : ℤ) (marks b : List ℕ) (left : ℕ) → Broken (Only (45 ∷ [])) b left → Continues (Closed (SignedDecimal low high) marks) b (Closed (PlainDecimal low high) marks) b (λ p. p)
without_sign low high marks b left h = among_others (Closed (SignedDecimal low high) marks) (Closed (PlainDecimal low high) marks) (λ p. p) b to from long
  where
    to : (p : ℤ × ℕ) (w : List ℕ) → Closed (PlainDecimal low high) marks p w → Closed (SignedDecimal low high) marks p w
    to p w (t, (n, value, least, most, is), mark, cut) = (t, (least, most, is ∙ sym (ap signed_decimal value)), mark, cut)

    from : (p : ℤ × ℕ) (w : List ℕ) → Closed (SignedDecimal low high) marks p w → ((q : ℤ × ℕ) × (p ≡ q) × Closed (PlainDecimal low high) marks q w) ⊎ Elsewhere w b
    from (pos n, m) w (t, (least, most, is), mark, cut) = inl ((pos n, m), refl, (t, (n, refl, least, most, is), mark, cut))
    from (negsuc n, m) w (t, (least, most, is), mark, cut) = inr (signed_elsewhere n m t w b left h is cut)

    long : (p : ℤ × ℕ) (w : List ℕ) → Closed (PlainDecimal low high) marks p w → 0 < length w
    long p w (t, value, mark, cut) = let n = ap length cut in let k = length_both t (p.1 ∷ []) in omega (arith, n, k)

-- `-` where no number is negative
pub no_negative : (low high : ℤ) (marks b c : List ℕ) → int_le high (pos (10 ^ 63)) ≡ true → int_le (pos 0) low ≡ true → IsRead (Only (45 ∷ [])) b tt c
    → Broken (Closed (SignedDecimal low high) marks) b (length b)
no_negative low high marks b c fits least_is read = none_begins (Closed (SignedDecimal low high) marks) b elsewhere
  where
    elsewhere : (p : ℤ × ℕ) (w : List ℕ) → Closed (SignedDecimal low high) marks p w → Elsewhere w b
    elsewhere (pos n, m) w (t, (least, most, is), mark, cut) =
        subst (λ l. Elsewhere l b) (sym (cut ∙ ap (λ l. l ++ m ∷ []) is)) (plain_elsewhere n (m ∷ []) b c (below_bound n high fits most) read)
    elsewhere (negsuc n, m) w (t, (least, most, is), mark, cut) = absurd (not_below low n least_is least)
      where
        not_below : (z : ℤ) (k : ℕ) → int_le (pos 0) z ≡ true → int_le z (negsuc k) ≡ true → ⊥
        not_below (pos i) k le more = false≢true more
        not_below (negsuc i) k le more = false≢true le

-- no `-` where each number is negative
pub only_negative : (low high : ℤ) (marks b : List ℕ) (left : ℕ) → int_le (pos 0) high ≡ false → Broken (Only (45 ∷ [])) b left
    → Broken (Closed (SignedDecimal low high) marks) b (length b)
only_negative low high marks b left below h = none_begins (Closed (SignedDecimal low high) marks) b elsewhere
  where
    elsewhere : (p : ℤ × ℕ) (w : List ℕ) → Closed (SignedDecimal low high) marks p w → Elsewhere w b
    elsewhere (pos n, m) w (t, (least, most, is), mark, cut) = absurd (not_above high n below most)
      where
        not_above : (z : ℤ) (k : ℕ) → int_le (pos 0) z ≡ false → int_le (pos k) z ≡ true → ⊥
        not_above (pos i) k le more = false≢true (sym le ∙ not_negative i)
        not_above (negsuc i) k le more = false≢true more
    elsewhere (negsuc n, m) w (t, (least, most, is), mark, cut) = signed_elsewhere n m t w b left h is cut

-- no number lies between bounds that are the wrong way round
pub none_between : (low high : ℤ) (marks b : List ℕ) → int_le low high ≡ false → Broken (Closed (SignedDecimal low high) marks) b (length b)
none_between low high marks b order = none_begins (Closed (SignedDecimal low high) marks) b (λ p w h. absurd (none p.0 h.1.0 h.1.1))
  where
    none : (z : ℤ) → int_le low z ≡ true → int_le z high ≡ true → ⊥
    none z least most = let e : int_le low high ≡ true = grind (arith, ints) in false≢true (sym order ∙ e)

-- the digits behind `-` are those of a number between bounds
pub behind_decimal : (low high : ℤ) (lo hi : ℕ) (marks b : List ℕ) → lo ≡ least_behind high → hi ≡ unsigned_abs low → int_le (pos 0) low ≡ false
    → Continues (Closed (BehindSign low high) marks) b (Closed (Decimal lo hi) marks) b (λ p. (negsuc (p.0 - 1), p.1))
behind_decimal low high lo hi marks b lo_is hi_is negative = closed_renamed (BehindSign low high) (Decimal lo hi) (λ n. negsuc (n - 1)) marks b to from
  where
    some : (z : ℤ) → 0 < least_behind z
    some (pos n) = omega arith
    some (negsuc n) = omega arith

    above : (z : ℤ) (n : ℕ) → least_behind z ≤ suc n → int_le (negsuc n) z ≡ true
    above (pos m) n le = refl
    above (negsuc m) n le = grind (arith, ints)

    below : (z : ℤ) (n : ℕ) → int_le (pos 0) z ≡ false → suc n ≤ unsigned_abs z → int_le z (negsuc n) ≡ true
    below (pos m) n is le = absurd (false≢true (sym is ∙ not_negative m))
    below (negsuc m) n is le = grind (arith, ints)

    at_least : (z : ℤ) (n : ℕ) → int_le (negsuc n) z ≡ true → least_behind z ≤ suc n
    at_least (pos m) n le = omega arith
    at_least (negsuc m) n le = grind (arith, ints)

    at_most : (z : ℤ) (n : ℕ) → int_le z (negsuc n) ≡ true → suc n ≤ unsigned_abs z
    at_most (pos m) n le = absurd (false≢true le)
    at_most (negsuc m) n le = grind (arith, ints)

    to : (n : ℕ) (w : List ℕ) → Decimal lo hi n w → BehindSign low high (negsuc (n - 1)) w
    to n w (least, most, is) =
        let positive = some high in
        let same : suc (n - 1) ≡ n = omega (arith, least, lo_is, positive) in
        (n - 1, refl, below low (n - 1) negative (omega (arith, same, most, hi_is)), above high (n - 1) (omega (arith, same, least, lo_is)), is ∙ ap decimal (sym same))

    from : (z : ℤ) (w : List ℕ) → BehindSign low high z w → (n : ℕ) × (z ≡ negsuc (n - 1)) × Decimal lo hi n w
    from z w (n, value, least, most, is) =
        let ge = at_least high n (subst (λ y. int_le y high ≡ true) value most) in
        let le = at_most low n (subst (λ y. int_le low y ≡ true) value least) in
        let same : n ≡ suc n - 1 = omega arith in
        (suc n, value ∙ ap negsuc same, (omega (arith, lo_is, ge), omega (arith, hi_is, le), is))

-- the digits without `-` are those of a number between bounds
pub plain_decimal : (low high : ℤ) (lo hi : ℕ) (marks b : List ℕ) → lo ≡ least_plain low → hi ≡ unsigned_abs high → int_le (pos 0) high ≡ true
    → Continues (Closed (PlainDecimal low high) marks) b (Closed (Decimal lo hi) marks) b (λ p. (pos p.0, p.1))
plain_decimal low high lo hi marks b lo_is hi_is positive = closed_renamed (PlainDecimal low high) (Decimal lo hi) pos marks b to from
  where
    above : (z : ℤ) (n : ℕ) → least_plain z ≤ n → int_le z (pos n) ≡ true
    above (pos m) n le = grind (arith, ints)
    above (negsuc m) n le = refl

    below : (z : ℤ) (n : ℕ) → int_le (pos 0) z ≡ true → n ≤ unsigned_abs z → int_le (pos n) z ≡ true
    below (pos m) n is le = grind (arith, ints)
    below (negsuc m) n is le = absurd (false≢true is)

    at_least : (z : ℤ) (n : ℕ) → int_le z (pos n) ≡ true → least_plain z ≤ n
    at_least (pos m) n le = grind (arith, ints)
    at_least (negsuc m) n le = omega arith

    at_most : (z : ℤ) (n : ℕ) → int_le (pos n) z ≡ true → n ≤ unsigned_abs z
    at_most (pos m) n le = grind (arith, ints)
    at_most (negsuc m) n le = absurd (false≢true le)

    to : (n : ℕ) (w : List ℕ) → Decimal lo hi n w → PlainDecimal low high (pos n) w
    to n w (least, most, is) = (n, refl, above low n (omega (arith, least, lo_is)), below high n positive (omega (arith, most, hi_is)), is)

    from : (z : ℤ) (w : List ℕ) → PlainDecimal low high z w → (n : ℕ) × (z ≡ pos n) × Decimal lo hi n w
    from z w (n, value, least, most, is) =
        let ge = at_least low n (subst (λ y. int_le low y ≡ true) value least) in
        let le = at_most high n (subst (λ y. int_le y high ≡ true) value most) in
        (n, value, (omega (arith, lo_is, ge), omega (arith, hi_is, le), is))

-- what was read by a fault-free way on is read of the whole
pub reads_further : {V W T : Type 0} (L : V → List ℕ → Type 0) (b : List ℕ) (M : W → List ℕ → Type 0) (c : List ℕ) (f : W → V) (value : T → W) (rest : T → List ℕ) (r : Result T ℕ)
    → Continues L b M c f → Reads M c value rest r → Reads L b (λ x. f (value x)) rest r
reads_further L b M c f value rest (Ok x) k h = k.found (value x) (rest x) h
reads_further L b M c f value rest (Err left) k h = k.broken left h

-- bounds that are the same
pub reads_between : {T : Type 0} (L : ℤ → ℤ → ℤ → List ℕ → Type 0) (low least high most : ℤ) (marks b : List ℕ) (value : T → ℤ × ℕ) (rest : T → List ℕ) (r : Result T ℕ) → low ≡ least → high ≡ most
    → Reads (Closed (L low high) marks) b value rest r → Reads (Closed (L least most) marks) b value rest r
reads_between L low least high most marks b value rest r same alike h =
    subst (λ (z : ℤ). Reads (Closed (L z most) marks) b value rest r) same (subst (λ (z : ℤ). Reads (Closed (L low z) marks) b value rest r) alike h)

pub negative_fits : (n : ℕ) → n < 2 ^ 63 → FitsSigned w64 (negsuc n)
negative_fits n h = grind (arith, ints)
