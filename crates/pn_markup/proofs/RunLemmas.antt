-- Runs: bytes of a text or a value that are written as they are, and bytes that are written by a reference.
use Rattle.std.proofs.Common.{◌≡◌, ℕ, Bool, true, false, cond, ◌==◌, ◌&&◌, not, List, [], ◌∷◌, ◌++◌, codes, refl, sym, ap, ◌∙◌, subst, arith}
use Rattle.std.specs.List.{list_all}
use Rattle.std.proofs.lemmas.Bool.{eqb-true}
use Rattle.std.proofs.lemmas.Bool.Decides.{nat_tests}
use Rattle.pn_text.specs.Characters.{is_within}
use Rattle.pn_tree.specs.Canonical.{text_escape, value_escape}
use Rattle.pn_facts.proofs.Lists.{list_all_each}
use Rattle.pn_facts.proofs.Truths.{and_left, and_right, and_both}
use Rattle.pn_markup.specs.Bytes.{is_space, begins_with, lacks, line_ends, spaced, spaced_behind, line_ends_behind}
use Rattle.pn_markup.specs.Content.{is_run_byte, CharData}
use Rattle.pn_markup.specs.References.{Reference, entity, decimal, amp, lt, gt, quot}
use Rattle.pn_markup.specs.Tags.{is_value_byte}

-- a byte of a text that is written as it is
abbrev pub is_unescaped : ℕ → Bool
is_unescaped b = not (b == 38) && (not (b == 60) && (not (b == 62) && not (b == 13)))

-- a byte of a value that is written as it is
abbrev pub is_unescaped_value : ℕ → Bool
is_unescaped_value b = not (b == 34) && (not (b == 9) && (not (b == 10) && is_unescaped b))

-- a byte is written as it is, or by a reference in ASCII
pub data Written (unescaped : ℕ → Bool) (b : ℕ) (out : List ℕ) : Type 0 where
  as_is : unescaped b ≡ true → out ≡ b ∷ [] → Written unescaped b out
  by_reference : Reference (b ∷ []) out → list_all (is_within 32 126) out ≡ true → Written unescaped b out

named_reference : (b c : ℕ) (out : List ℕ) → (b == c) ≡ true → Reference (c ∷ []) out → Reference (b ∷ []) out
named_reference b c out e r = subst (λ x. Reference (x ∷ []) out) (sym (eqb-true b c e)) r

pub text_written : (b : ℕ) → Written is_unescaped b (text_escape b)
text_written b = by (b == 38) refl (b == 60) refl (b == 62) refl (b == 13) refl
  where
    by : (v : Bool) → (b == 38) ≡ v → (w : Bool) → (b == 60) ≡ w → (x : Bool) → (b == 62) ≡ x → (y : Bool) → (b == 13) ≡ y
        → Written is_unescaped b (cond v (codes "&amp;") (cond w (codes "&lt;") (cond x (codes "&gt;") (cond y (codes "&#13;") (b ∷ [])))))
    by true e w f x g y h = by_reference (named_reference b 38 (codes "&amp;") e (entity (38 ∷ []) (codes "&amp;") amp refl refl)) refl
    by false e true f x g y h = by_reference (named_reference b 60 (codes "&lt;") f (entity (60 ∷ []) (codes "&lt;") lt refl refl)) refl
    by false e false f true g y h = by_reference (named_reference b 62 (codes "&gt;") g (entity (62 ∷ []) (codes "&gt;") gt refl refl)) refl
    by false e false f false g true h =
        by_reference (named_reference b 13 (codes "&#13;") h
        (decimal (13 ∷ []) (codes "&#13;") 13 (codes "13") (record { first = λ none. absurd cc; are_digits = refl; value = refl; character = refl }) refl refl)) refl
    by false e false f false g false h =
        as_is (and_both (not (b == 38)) (not (b == 60) && (not (b == 62) && not (b == 13))) (ap not e)
        (and_both (not (b == 60)) (not (b == 62) && not (b == 13)) (ap not f) (and_both (not (b == 62)) (not (b == 13)) (ap not g) (ap not h)))) refl

pub value_written : (b : ℕ) → Written is_unescaped_value b (value_escape b)
value_written b = by (b == 34) refl (b == 9) refl (b == 10) refl (text_written b)
  where
    by : (v : Bool) → (b == 34) ≡ v → (w : Bool) → (b == 9) ≡ w → (x : Bool) → (b == 10) ≡ x → Written is_unescaped b (text_escape b)
        → Written is_unescaped_value b (cond v (codes "&quot;") (cond w (codes "&#9;") (cond x (codes "&#10;") (text_escape b))))
    by true e w f x g t = by_reference (named_reference b 34 (codes "&quot;") e (entity (34 ∷ []) (codes "&quot;") quot refl refl)) refl
    by false e true f x g t =
        by_reference (named_reference b 9 (codes "&#9;") f
        (decimal (9 ∷ []) (codes "&#9;") 9 (codes "9") (record { first = λ none. absurd cc; are_digits = refl; value = refl; character = refl }) refl refl)) refl
    by false e false f true g t =
        by_reference (named_reference b 10 (codes "&#10;") g
        (decimal (10 ∷ []) (codes "&#10;") 10 (codes "10") (record { first = λ none. absurd cc; are_digits = refl; value = refl; character = refl }) refl refl)) refl
    by false e false f false g (by_reference r low) = by_reference r low
    by false e false f false g (as_is p is) =
        as_is (and_both (not (b == 34)) (not (b == 9) && (not (b == 10) && is_unescaped b)) (ap not e)
        (and_both (not (b == 9)) (not (b == 10) && is_unescaped b) (ap not f) (and_both (not (b == 10)) (is_unescaped b) (ap not g) p))) is

-- a mark whose last byte stands nowhere in a list
not_begun : (mark : List ℕ) (last : ℕ) (bs : List ℕ) → list_all (λ c. not (c == last)) bs ≡ true → begins_with (mark ++ (last ∷ [])) bs ≡ false
not_begun [] last [] h = refl
not_begun [] last (b ∷ bs) h =
    let other : not (b == last) ≡ true = and_left (not (b == last)) (list_all (λ c. not (c == last)) bs) h in grind (arith, nat_tests)
not_begun (m ∷ ms) last [] h = refl
not_begun (m ∷ ms) last (b ∷ bs) h = never (m == b) (not_begun ms last bs (and_right (not (b == last)) (list_all (λ c. not (c == last)) bs) h))
  where
    never : (v : Bool) {w : Bool} → w ≡ false → (v && w) ≡ false
    never true e = e
    never false e = refl

lacks_last : (mark : List ℕ) (last : ℕ) (bs : List ℕ) → list_all (λ c. not (c == last)) bs ≡ true → lacks (mark ++ (last ∷ [])) bs ≡ true
lacks_last mark last [] h = refl
lacks_last mark last (b ∷ bs) h =
    and_both (not (begins_with (mark ++ (last ∷ [])) (b ∷ bs))) (lacks (mark ++ (last ∷ [])) bs) (ap not (not_begun mark last (b ∷ bs) h))
    (lacks_last mark last bs (and_right (not (b == last)) (list_all (λ c. not (c == last)) bs) h))

-- unescaped bytes are a run
pub unescaped_run : (bs : List ℕ) → list_all is_unescaped bs ≡ true → CharData bs
unescaped_run bs h = record {
  are_run = list_all_each is_unescaped is_run_byte (λ c p. grind (arith, nat_tests)) bs h;
  unmarked = lacks_last (93 ∷ 93 ∷ []) 62 bs (list_all_each is_unescaped (λ c. not (c == 62)) (λ c p. grind (arith, nat_tests)) bs h);
}

kept_byte : {X : Type 0} (v w : Bool) (x y z : X) → v ≡ false → cond v x (cond (w && false) y z) ≡ z
kept_byte true w x y z e = absurd cc
kept_byte false true x y z e = refl
kept_byte false false x y z e = refl

-- unescaped bytes have no line end that is read as another
pub unescaped_ends : (bs : List ℕ) → list_all is_unescaped bs ≡ true → line_ends bs ≡ bs
unescaped_ends [] h = refl
unescaped_ends (b ∷ bs) h =
    let p = and_left (is_unescaped b) (list_all is_unescaped bs) h in
    let no_cr : (b == 13) ≡ false = grind (arith, nat_tests) in
    kept_byte (b == 13) (b == 10) (10 ∷ line_ends_behind true bs) (line_ends_behind false bs) (b ∷ line_ends_behind false bs) no_cr
    ∙ ap (λ l. b ∷ l) (unescaped_ends bs (and_right (is_unescaped b) (list_all is_unescaped bs) h))

-- unescaped bytes of a value
pub unescaped_value : (bs : List ℕ) → list_all is_unescaped_value bs ≡ true → list_all (is_value_byte 34) bs ≡ true
unescaped_value bs h = list_all_each is_unescaped_value (is_value_byte 34) (λ c p. grind (arith, nat_tests)) bs h

pub unescaped_spaced : (bs : List ℕ) → list_all is_unescaped_value bs ≡ true → spaced bs ≡ bs
unescaped_spaced [] h = refl
unescaped_spaced (b ∷ bs) h =
    let p = and_left (is_unescaped_value b) (list_all is_unescaped_value bs) h in
    let no_cr : (b == 13) ≡ false = grind (arith, nat_tests) in
    let same : cond (is_space b) 32 b ≡ b = grind (arith, nat_tests) in
    kept_byte (b == 13) (b == 10) (32 ∷ spaced_behind true bs) (spaced_behind false bs) (cond (is_space b) 32 b ∷ spaced_behind false bs) no_cr
    ∙ ap (λ x. x ∷ spaced bs) same ∙ ap (λ l. b ∷ l) (unescaped_spaced bs (and_right (is_unescaped_value b) (list_all is_unescaped_value bs) h))
