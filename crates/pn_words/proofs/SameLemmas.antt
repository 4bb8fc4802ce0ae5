-- How many bytes two lists share from the front.
use Rattle.std.proofs.Common.{◌≡◌, ℕ, zero, suc, ◌+◌, ◌<◌, ◌≤◌, ◌==◌, Bool, true, false, cond, List, [], ◌∷◌, ◌++◌, length, take, drop, get_or, Some, ◌-◌, refl, ap, ◌∙◌, arith}
use Rattle.std.proofs.lemmas.Bool.Decides.{nat_tests}
use Rattle.std.specs.List.{slice_get}
use Rattle.pn_words.specs.Languages.{same, Apart, Falls}

pub test_refl : (x : ℕ) → (x == x) ≡ true
test_refl x = grind (arith, nat_tests)

pub same_within_first : (w b : List ℕ) → same w b ≤ length w
same_within_first [] b = omega arith
same_within_first (x ∷ w) [] = omega arith
same_within_first (x ∷ w) (y ∷ b) = by (x == y) (same_within_first w b)
  where
    by : (t : Bool) → same w b ≤ length w → cond t (suc (same w b)) 0 ≤ length (x ∷ w)
    by true h = omega (arith, h)
    by false h = omega arith

pub same_within_second : (w b : List ℕ) → same w b ≤ length b
same_within_second [] b = omega arith
same_within_second (x ∷ w) [] = omega arith
same_within_second (x ∷ w) (y ∷ b) = by (x == y) (same_within_second w b)
  where
    by : (t : Bool) → same w b ≤ length b → cond t (suc (same w b)) 0 ≤ length (y ∷ b)
    by true h = omega (arith, h)
    by false h = omega arith

pub same_next : (x : ℕ) (w b : List ℕ) → same (x ∷ w) (x ∷ b) ≡ suc (same w b)
same_next x w b = ap (λ t. cond t (suc (same w b)) 0) (test_refl x)

-- behind a common front
pub same_behind : (a w b : List ℕ) → same (a ++ w) (a ++ b) ≡ length a + same w b
same_behind [] w b = omega arith
same_behind (x ∷ a) w b = let h = same_behind a w b in let e = same_next x (a ++ w) (a ++ b) in omega (arith, h, e)

-- what stands behind the place where two lists differ doesn't matter
pub same_apart : (a b c d : List ℕ) → same a b < length a → same a b < length b → same (a ++ c) (b ++ d) ≡ same a b
same_apart [] b c d h k = absurd (omega (arith, h))
same_apart (x ∷ a) [] c d h k = absurd (omega (arith, k))
same_apart (x ∷ a) (y ∷ b) c d h k = by (x == y) (λ p q. same_apart a b c d p q) h k
  where
    by : (t : Bool) → (same a b < length a → same a b < length b → same (a ++ c) (b ++ d) ≡ same a b) → cond t (suc (same a b)) 0 < length (x ∷ a) → cond t (suc (same a b)) 0 < length (y ∷ b) → cond t (suc (same (a ++ c) (b ++ d))) 0 ≡ cond t (suc (same a b)) 0
    by true f p q = ap suc (f (omega (arith, p)) (omega (arith, q)))
    by false f p q = refl

-- what stands behind in the first list doesn't matter where the second has ended or differs before
pub same_short : (a b c : List ℕ) → same a b < length a → same (a ++ c) b ≡ same a b
same_short [] b c h = absurd (omega (arith, h))
same_short (x ∷ a) [] c h = refl
same_short (x ∷ a) (y ∷ b) c h = by (x == y) (λ p. same_short a b c p) h
  where
    by : (t : Bool) → (same a b < length a → same (a ++ c) b ≡ same a b) → cond t (suc (same a b)) 0 < length (x ∷ a) → cond t (suc (same (a ++ c) b)) 0 ≡ cond t (suc (same a b)) 0
    by true f p = ap suc (f (omega (arith, p)))
    by false f p = refl

-- at least as many where the first goes on
pub same_more : (a b c : List ℕ) → same a b ≤ same (a ++ c) b
same_more [] b c = omega arith
same_more (x ∷ a) [] c = omega arith
same_more (x ∷ a) (y ∷ b) c = by (x == y) (same_more a b c)
  where
    by : (t : Bool) → same a b ≤ same (a ++ c) b → cond t (suc (same a b)) 0 ≤ cond t (suc (same (a ++ c) b)) 0
    by true h = omega (arith, h)
    by false h = omega arith

pub length_both : (a b : List ℕ) → length (a ++ b) ≡ length a + length b
length_both [] b = omega arith
length_both (x ∷ a) b = let h = length_both a b in omega (arith, h)

-- two lists that differ inside both do so with anything behind them
pub apart_both : (a b c d : List ℕ) → Apart a b → Apart (a ++ c) (b ++ d)
apart_both a b c d h =
    let e = same_apart a b c d h.first h.second in
    let p = length_both a c in
    let q = length_both b d in
    record { first = omega (arith, e, p, h.first); second = omega (arith, e, q, h.second) }

-- two lists that differ inside both do so behind a common front
pub apart_behind : (a b c : List ℕ) → Apart b c → Apart (a ++ b) (a ++ c)
apart_behind a b c h =
    let e = same_behind a b c in
    let p = length_both a b in
    let q = length_both a c in
    record { first = omega (arith, e, p, h.first); second = omega (arith, e, q, h.second) }

moved_by : (w a d : List ℕ) → same w a < length w → same w a < length a → same w (a ++ d) ≡ same w a
moved_by [] a d h k = absurd (omega (arith, h))
moved_by (x ∷ w) [] d h k = absurd (omega (arith, k))
moved_by (x ∷ w) (y ∷ a) d h k = by (x == y) (λ p q. moved_by w a d p q) h k
  where
    by : (t : Bool) → (same w a < length w → same w a < length a → same w (a ++ d) ≡ same w a) → cond t (suc (same w a)) 0 < length (x ∷ w) → cond t (suc (same w a)) 0 < length (y ∷ a) → cond t (suc (same w (a ++ d))) 0 ≡ cond t (suc (same w a)) 0
    by true f p q = ap suc (f (omega (arith, p)) (omega (arith, q)))
    by false f p q = refl

-- a word that differs from a front of the bytes falls before its end
pub apart_falls : (w a rest b : List ℕ) (left : ℕ) → Apart w a → b ≡ a ++ rest → left ≤ length rest → Falls w b left
apart_falls w a rest b left h cut le =
    let e : same w b ≡ same w a = ap (same w) cut ∙ moved_by w a rest h.first h.second in
    let n : length b ≡ length a + length rest = ap length cut ∙ length_both a rest in
    record { short = omega (arith, e, h.first); by = omega (arith, e, n, h.second, le) }

-- so many bytes are shared, and how many are is these and those of what is left
pub record Shares (w b : List ℕ) (at : ℕ) : Type 0 where
  pub first : at ≤ length w
  pub second : at ≤ length b
  pub so_far : same w b ≡ at + same (drop at w) (drop at b)

same_none : (w : List ℕ) → same w [] ≡ 0
same_none [] = refl
same_none (x ∷ w) = refl

past : {X : Type 0} (n : ℕ) (xs : List X) → length xs ≤ n → drop n xs ≡ []
past zero [] le = refl
past zero (x ∷ xs) le = absurd (omega (arith, le))
past (suc n) [] le = refl
past (suc n) (x ∷ xs) le = past n xs (omega (arith, le))

pub shares_all : (w b : List ℕ) (at : ℕ) → Shares w b at → length b ≤ at → at ≡ same w b
shares_all w b at s le =
    let e : same (drop at w) (drop at b) ≡ 0 = ap (same (drop at w)) (past at b le) ∙ same_none (drop at w) in
    let h = s.so_far in omega (arith, e, h)

all_taken : {X : Type 0} (n : ℕ) (xs : List X) → length xs ≤ n → take n xs ≡ xs
all_taken zero [] le = refl
all_taken zero (x ∷ xs) le = absurd (omega (arith, le))
all_taken (suc n) [] le = refl
all_taken (suc n) (x ∷ xs) le = ap (λ l. x ∷ l) (all_taken n xs (omega (arith, le)))

left_long : {X : Type 0} (n : ℕ) (xs : List X) → length (drop n xs) ≤ length xs - n
left_long zero xs = omega arith
left_long (suc n) [] = omega arith
left_long (suc n) (x ∷ xs) = let h = left_long n xs in omega (arith, h)

-- what is left from a place on, as a slice is cut
pub rest_whole : {X : Type 0} (n : ℕ) (xs : List X) → take (length xs - n) (drop n xs) ≡ drop n xs
rest_whole n xs = all_taken (length xs - n) (drop n xs) (left_long n xs)

pub got_at : (xs : List ℕ) (k : ℕ) → k < length xs → slice_get xs k ≡ Some (get_or xs k 0)
got_at [] k lt = absurd (omega (arith, lt))
got_at (x ∷ xs) zero lt = refl
got_at (x ∷ xs) (suc k) lt = got_at xs k (omega (arith, lt))
