-- What holds of escaped texts.
use Rattle.std.proofs.Common.{◌≡◌, ◌/◌, ◌%◌, ◌+◌, ◌<◌, ◌||◌, ◌==◌, ℕ, Bool, true, false, not, nat_lt, List, [], ◌∷◌, ◌++◌, get_or, drop, if◌then◌else◌, refl, sym, ap, ◌∙◌, arith}
use Rattle.std.proofs.lemmas.Bool.{false≢true}
use Rattle.std.proofs.lemmas.Bool.Decides.{nat_tests}
use Rattle.std.specs.Fmt.{digit_glyph}
use Rattle.std.specs.Char.{is_ascii_alphanumeric}
use Rattle.std.specs.List.{list_all}
use Rattle.pn_facts.proofs.Lists.{all_append, flat_map_same}
use Rattle.pn_lines.specs.Escapes.{escape, escaped, is_line_byte, is_plain, percent_escape}
use Rattle.pn_lines.proofs.ByteLemmas.{plain_stays}

digit_stays : (d : ℕ) → d < 16 → is_line_byte (digit_glyph true d) ≡ true
digit_stays d lt = step (nat_lt d 10) refl
  where
    step : (low : Bool) → nat_lt d 10 ≡ low → is_line_byte (if low then 48 + d else 55 + d) ≡ true
    step true is = grind (arith, nat_tests)
    step false is = grind (arith, nat_tests)

digit_tells : (d e : ℕ) → d < 16 → e < 16 → digit_glyph true d ≡ digit_glyph true e → d ≡ e
digit_tells d e small less same = step (nat_lt d 10) (nat_lt e 10) refl refl same
  where
    step : (low lower : Bool) → nat_lt d 10 ≡ low → nat_lt e 10 ≡ lower → (if low then 48 + d else 55 + d) ≡ (if lower then 48 + e else 55 + e) → d ≡ e
    step true true p q is = omega arith
    step true false p q is = grind (arith, nat_tests)
    step false true p q is = grind (arith, nat_tests)
    step false false p q is = omega arith

-- a byte that is escaped is one of ASCII
pub escaped_small : (b : ℕ) → is_plain b ≡ false → b < 128
escaped_small b is = step (nat_lt b 128) refl (not_plain (is_ascii_alphanumeric b) ((b == 95) || ((b == 45) || (b == 46))) (nat_lt b 128) is)
  where
    not_plain : (p q r : Bool) → (p || (q || not r)) ≡ false → r ≡ true
    not_plain true q r e = absurd (false≢true (sym e))
    not_plain false true r e = absurd (false≢true (sym e))
    not_plain false false true e = refl
    not_plain false false false e = absurd (false≢true (sym e))

    step : (t : Bool) → nat_lt b 128 ≡ t → nat_lt b 128 ≡ true → b < 128
    step t e h = grind (arith, nat_tests)

pub escape_is_clean : (b : ℕ) → list_all is_line_byte (escape b) ≡ true
escape_is_clean b = step (is_plain b) refl
  where
    step : (plain : Bool) → is_plain b ≡ plain → list_all is_line_byte (if plain then b ∷ [] else percent_escape b) ≡ true
    step true is = ap (λ p. list_all (λ (q : Bool). q) ((p || (b == 37)) ∷ [])) is
    step false is =
        let small = escaped_small b is in
        ap (λ p. list_all (λ (q : Bool). q) (true ∷ p ∷ is_line_byte (digit_glyph true (b % 16)) ∷ [])) (digit_stays (b / 16) (omega (arith, small)))
        ∙ ap (λ p. list_all (λ (q : Bool). q) (true ∷ true ∷ p ∷ [])) (digit_stays (b % 16) (omega (arith, small)))

pub escaped_is_clean : (text : List ℕ) → list_all is_line_byte (escaped text) ≡ true
escaped_is_clean [] = refl
escaped_is_clean (b ∷ bs) = all_append is_line_byte (escape b) (escaped bs) (escape_is_clean b) (escaped_is_clean bs)

pub plain_text_stays : (text : List ℕ) → list_all is_plain text ≡ true → escaped text ≡ text
plain_text_stays = flat_map_same escape is_plain plain_stays

mark_is_not_plain : (x : ℕ) → x ≡ 37 → is_plain x ≡ true → ⊥
mark_is_not_plain x is plain = false≢true (sym (ap is_plain is) ∙ plain)

same_byte : (x y : ℕ) → x < 128 → y < 128 → digit_glyph true (x / 16) ≡ digit_glyph true (y / 16) → digit_glyph true (x % 16) ≡ digit_glyph true (y % 16) → x ≡ y
same_byte x y small less high low =
    let upper : x / 16 ≡ y / 16 = digit_tells (x / 16) (y / 16) (omega arith) (omega arith) high in
    let lower : x % 16 ≡ y % 16 = digit_tells (x % 16) (y % 16) (omega arith) (omega arith) low in
    omega arith

-- where two escapes begin the same bytes, they are of the same byte
pub fronts_tell : (x y : ℕ) (xs ys : List ℕ) → escape x ++ xs ≡ escape y ++ ys → (x ≡ y) × (xs ≡ ys)
fronts_tell x y xs ys same = step (is_plain x) (is_plain y) refl refl same
  where
    step : (p q : Bool) → is_plain x ≡ p → is_plain y ≡ q → (if p then x ∷ [] else percent_escape x) ++ xs ≡ (if q then y ∷ [] else percent_escape y) ++ ys
        → (x ≡ y) × (xs ≡ ys)
    step true true p q is = (ap (λ l. get_or l 0 0) is, ap (drop 1) is)
    step true false p q is = absurd (mark_is_not_plain x (ap (λ l. get_or l 0 0) is) p)
    step false true p q is = absurd (mark_is_not_plain y (sym (ap (λ l. get_or l 0 0) is)) q)
    step false false p q is = (same_byte x y (escaped_small x p) (escaped_small y q) (ap (λ l. get_or l 1 0) is) (ap (λ l. get_or l 2 0) is), ap (drop 3) is)

pub some_is_escaped : (y : ℕ) (ys : List ℕ) → [] ≡ escape y ++ ys → ⊥
some_is_escaped y ys is = step (is_plain y) is
  where
    step : (q : Bool) → [] ≡ (if q then y ∷ [] else percent_escape y) ++ ys → ⊥
    step true is = cc
    step false is = cc

pub escaped_tells : (one two : List ℕ) → escaped one ≡ escaped two → one ≡ two
escaped_tells [] [] is = refl
escaped_tells [] (y ∷ ys) is = absurd (some_is_escaped y (escaped ys) is)
escaped_tells (x ∷ xs) [] is = absurd (some_is_escaped x (escaped xs) (sym is))
escaped_tells (x ∷ xs) (y ∷ ys) is =
    let both = fronts_tell x y (escaped xs) (escaped ys) is in
    let rest : xs ≡ ys = escaped_tells xs ys both.1 in
    ap (λ b. b ∷ xs) both.0 ∙ ap (λ l. y ∷ l) rest
