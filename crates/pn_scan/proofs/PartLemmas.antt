-- The values of the parts of a declaration, and how they begin.
use Rattle.std.proofs.Common.{◌≡◌, ℕ, Bool, true, false, not, ◌&&◌, ◌||◌, ◌==◌, ◌⊎◌, inl, inr, List, [], ◌∷◌, ◌++◌, codes, map, refl, sym, ap, subst, arith, nat_lt}
use Rattle.std.proofs.lemmas.Bool.{false≢true, eqb-true, and_parts, and_from, or_cases, or_left, or_right, eq-eqb, not-true}
use Rattle.std.proofs.lemmas.Bool.Decides.{nat_tests}
use Rattle.std.proofs.lemmas.Slice.Eq.{bytes_eq-Decides}
use Rattle.std.specs.List.{list_all}
use Rattle.std.specs.Char.{to_ascii_lowercase}
use Rattle.std.specs.Str.{bytes_eq}
use Rattle.pn_text.specs.Characters.{is_within}
use Rattle.pn_markup.specs.Bytes.{is_quote, begins_with}
use Rattle.pn_markup.specs.Declaration.{is_version, are_digits}
use Rattle.pn_scan.specs.State.{Part, version, encoding, standalone}
use Rattle.pn_scan.specs.Rest.{is_part_value}
use Rattle.pn_scan.specs.NextState.{is_part_front, is_version_front}
use Rattle.pn_scan.proofs.Spans.{all_first, all_rest, all_more, all_append_left, all_append_right}

pub begins_prefix : (a b w : List ℕ) → begins_with (a ++ b) w ≡ true → begins_with a w ≡ true
begins_prefix [] b w h = refl
begins_prefix (x ∷ a) b [] h = h
begins_prefix (x ∷ a) b (y ∷ w) h =
    let both = and_parts (x == y) (begins_with (a ++ b) w) h in and_from (x == y) (begins_with a w) both.0 (begins_prefix a b w both.1)

pub begins_self : (w : List ℕ) → begins_with w w ≡ true
begins_self [] = refl
begins_self (x ∷ w) = and_from (x == x) (begins_with w w) (eq-eqb x x refl) (begins_self w)

pub begins_all : (q : ℕ → Bool) (a w : List ℕ) → list_all q w ≡ true → begins_with a w ≡ true → list_all q a ≡ true
begins_all q [] w h k = refl
begins_all q (x ∷ a) [] h k = absurd (false≢true k)
begins_all q (x ∷ a) (y ∷ w) h k =
    let both = and_parts (x == y) (begins_with a w) k in
    all_more q x a (subst (λ z. q z ≡ true) (sym (eqb-true x y both.0)) (all_first q y w h)) (begins_all q a w (all_rest q y w h) both.1)

pub lower_append : (a b : List ℕ) → map to_ascii_lowercase (a ++ b) ≡ map to_ascii_lowercase a ++ map to_ascii_lowercase b
lower_append [] b = refl
lower_append (x ∷ a) b = ap (λ l. to_ascii_lowercase x ∷ l) (lower_append a b)

-- one of two words begins so
abbrev pub either : List ℕ → List ℕ → List ℕ → Bool
either v w b = begins_with b v || begins_with b w

either_prefix : (v w a b : List ℕ) → either v w (a ++ b) ≡ true → either v w a ≡ true
either_prefix v w a b h = go (or_cases (begins_with (a ++ b) v) (begins_with (a ++ b) w) h)
  where
    go : (begins_with (a ++ b) v ≡ true) ⊎ (begins_with (a ++ b) w ≡ true) → either v w a ≡ true
    go (inl k) = or_left (begins_with a v) (begins_with a w) (begins_prefix a b v k)
    go (inr k) = or_right (begins_with a v) (begins_with a w) (begins_prefix a b w k)

either_value : (v w b : List ℕ) → (bytes_eq b v || bytes_eq b w) ≡ true → either v w b ≡ true
either_value v w b h = go (or_cases (bytes_eq b v) (bytes_eq b w) h)
  where
    go : (bytes_eq b v ≡ true) ⊎ (bytes_eq b w ≡ true) → either v w b ≡ true
    go (inl k) = or_left (begins_with b v) (begins_with b w) (subst (λ l. begins_with b l ≡ true) ((bytes_eq-Decides b v).0 k) (begins_self b))
    go (inr k) = or_right (begins_with b v) (begins_with b w) (subst (λ l. begins_with b l ≡ true) ((bytes_eq-Decides b w).0 k) (begins_self b))

either_all : (q : ℕ → Bool) (v w b : List ℕ) → list_all q v ≡ true → list_all q w ≡ true → either v w b ≡ true → list_all q b ≡ true
either_all q v w b i j h = go (or_cases (begins_with b v) (begins_with b w) h)
  where
    go : (begins_with b v ≡ true) ⊎ (begins_with b w ≡ true) → list_all q b ≡ true
    go (inl k) = begins_all q b v i k
    go (inr k) = begins_all q b w j k

version_prefix : (a b : List ℕ) → is_version_front (a ++ b) ≡ true → is_version_front a ≡ true
version_prefix [] b h = refl
version_prefix (x ∷ []) [] h = h
version_prefix (x ∷ []) (y ∷ b) h = (and_parts (x == 49) (y == 46) (and_parts ((x == 49) && (y == 46)) (list_all (is_within 48 57) b) h).0).0
version_prefix (x ∷ y ∷ a) b h =
    let both = and_parts ((x == 49) && (y == 46)) (list_all (is_within 48 57) (a ++ b)) h in
    and_from ((x == 49) && (y == 46)) (list_all (is_within 48 57) a) both.0 (all_append_left (is_within 48 57) a b both.1)

digits_all : (ds : List ℕ) → are_digits ds ≡ true → list_all (is_within 48 57) ds ≡ true
digits_all [] h = absurd (false≢true h)
digits_all (d ∷ ds) h = h

version_value : (b : List ℕ) → is_version b ≡ true → is_version_front b ≡ true
version_value [] h = refl
version_value (x ∷ []) h = absurd (false≢true h)
version_value (x ∷ y ∷ ds) h =
    let both = and_parts (bytes_eq (x ∷ y ∷ []) (codes "1.")) (are_digits ds) h in
    let same : x ∷ y ∷ [] ≡ 49 ∷ 46 ∷ [] = (bytes_eq-Decides (x ∷ y ∷ []) (codes "1.")).0 both.0 in
    and_from ((x == 49) && (y == 46)) (list_all (is_within 48 57) ds) (and_from (x == 49) (y == 46) (eq-eqb x 49 cc) (eq-eqb y 46 cc)) (digits_all ds both.1)

-- a value begins as itself
pub value_front : (p : Part) (b : List ℕ) → is_part_value p b ≡ true → is_part_front p b ≡ true
value_front version b h = version_value b h
value_front encoding b h = either_value (codes "utf-8") (codes "us-ascii") (map to_ascii_lowercase b) h
value_front standalone b h = either_value (codes "yes") (codes "no") b h

-- what begins a front is one
pub front_prefix : (p : Part) (a b : List ℕ) → is_part_front p (a ++ b) ≡ true → is_part_front p a ≡ true
front_prefix version a b h = version_prefix a b h
front_prefix encoding a b h =
    either_prefix (codes "utf-8") (codes "us-ascii") (map to_ascii_lowercase a) (map to_ascii_lowercase b) (subst (λ l. either (codes "utf-8") (codes "us-ascii") l ≡ true) (lower_append a b) h)
front_prefix standalone a b h = either_prefix (codes "yes") (codes "no") a b h

abbrev pub no_quote : ℕ → Bool
no_quote x = not (is_quote x) && nat_lt x 0x80

version_all : (b : List ℕ) → is_version_front b ≡ true → list_all no_quote b ≡ true
version_all [] h = refl
version_all (x ∷ []) h = all_more no_quote x [] (grind (arith, nat_tests)) refl
version_all (x ∷ y ∷ ds) h =
    let both = and_parts ((x == 49) && (y == 46)) (list_all (is_within 48 57) ds) h in
    let two = and_parts (x == 49) (y == 46) both.0 in
    all_more no_quote x (y ∷ ds) (one x 49 two.0 refl) (all_more no_quote y ds (one y 46 two.1 refl) (digits ds both.1))
  where
    one : (x k : ℕ) → (x == k) ≡ true → no_quote k ≡ true → no_quote x ≡ true
    one x k h i = subst (λ z. no_quote z ≡ true) (sym (eqb-true x k h)) i

    digit : (d : ℕ) → is_within 48 57 d ≡ true → no_quote d ≡ true
    digit d h = grind (arith, nat_tests)

    digits : (ds : List ℕ) → list_all (is_within 48 57) ds ≡ true → list_all no_quote ds ≡ true
    digits [] h = refl
    digits (d ∷ ds) h = all_more no_quote d ds (digit d (all_first (is_within 48 57) d ds h)) (digits ds (all_rest (is_within 48 57) d ds h))

lower_quote : (x : ℕ) → no_quote (to_ascii_lowercase x) ≡ true → no_quote x ≡ true
lower_quote x h = grind (arith, nat_tests)

lower_all : (b : List ℕ) → list_all no_quote (map to_ascii_lowercase b) ≡ true → list_all no_quote b ≡ true
lower_all [] h = refl
lower_all (x ∷ b) h =
    all_more no_quote x b (lower_quote x (all_first no_quote (to_ascii_lowercase x) (map to_ascii_lowercase b) h)) (lower_all b (all_rest no_quote (to_ascii_lowercase x) (map to_ascii_lowercase b) h))

-- no front has a quote or a byte past ASCII
front_all : (p : Part) (b : List ℕ) → is_part_front p b ≡ true → list_all no_quote b ≡ true
front_all version b h = version_all b h
front_all encoding b h = lower_all b (either_all no_quote (codes "utf-8") (codes "us-ascii") (map to_ascii_lowercase b) refl refl h)
front_all standalone b h = either_all no_quote (codes "yes") (codes "no") b refl refl h

pub front_last : (p : Part) (a : List ℕ) (x : ℕ) → is_part_front p (a ++ (x ∷ [])) ≡ true → is_quote x ≡ false
front_last p a x h =
    not-true (is_quote x) (and_parts (not (is_quote x)) (nat_lt x 0x80) (all_first no_quote x [] (all_append_right no_quote a (x ∷ []) (front_all p (a ++ (x ∷ [])) h)))).0

pub front_ascii : (p : Part) (a : List ℕ) (x : ℕ) → is_part_front p (a ++ (x ∷ [])) ≡ true → nat_lt x 0x80 ≡ true
front_ascii p a x h =
    (and_parts (not (is_quote x)) (nat_lt x 0x80) (all_first no_quote x [] (all_append_right no_quote a (x ∷ []) (front_all p (a ++ (x ∷ [])) h)))).1
