-- Texts by their characters, and where a text may be cut.
use Rattle.std.proofs.Common.{◌≡◌, ℕ, ◌<◌, true, List, [], ◌∷◌, ◌++◌, refl, sym, ap, ◌∙◌, arith}
use Rattle.std.specs.List.{list_all, flat_map}
use Rattle.std.proofs.lemmas.Bool.Decides.{nat_tests}
use Rattle.pn_text.specs.Characters.{is_character, utf8_of, is_text}
use Rattle.pn_facts.proofs.Truths.{and_left, and_right, and_both}
use Rattle.pn_text.proofs.TextLemmas.{is_past, Encoded, ascii, past, encoded, Characters, text_characters, characters_text}

-- a text that is cut: nothing, or bytes that begin in ASCII
abbrev pub Edge : List ℕ → Type 0
Edge [] = Unit {0}
Edge (b ∷ bs) = b < 128

-- the rest of a character's bytes stands before the cut
peel : (more rest xs ys : List ℕ) → list_all is_past more ≡ true → more ++ rest ≡ xs ++ ys → Edge ys → (left : List ℕ) × (xs ≡ more ++ left) × (rest ≡ left ++ ys)
peel [] rest xs ys h is edge = (xs, refl, is)
peel (m ∷ more) rest [] [] h is edge = absurd cc
peel (m ∷ more) rest [] (y ∷ ys) h is edge =
    let same : m ≡ y = cc in
    let high = and_left (is_past m) (list_all is_past more) h in
    absurd (grind (arith, nat_tests))
peel (m ∷ more) rest (x ∷ xs) ys h is edge =
    let same : m ≡ x = cc in
    let tails : more ++ rest ≡ xs ++ ys = cc in
    let p = peel more rest xs ys (and_right (is_past m) (list_all is_past more) h) tails edge in
    (p.0, ap (λ y. y ∷ xs) (sym same) ∙ ap (λ l. m ∷ l) p.1, p.2)

pub record Halves (xs ys : List ℕ) : Type 0 where
  pub front : Characters xs
  pub back : Characters ys

one_more : (c : ℕ) (xs ys zs : List ℕ) → is_character c ≡ true → xs ≡ utf8_of c ++ zs → Halves zs ys → Halves xs ys
one_more c xs ys zs h is p = record {
  front = record {
    spelled = c ∷ p.front.spelled;
    are_characters = and_both (is_character c) (list_all is_character p.front.spelled) h p.front.are_characters;
    bytes = ap (λ l. utf8_of c ++ l) p.front.bytes ∙ sym is;
  };
  back = p.back;
}

cut_at : (cs xs ys : List ℕ) → list_all is_character cs ≡ true → flat_map utf8_of cs ≡ xs ++ ys → Edge ys → Halves xs ys
cut_at cs [] ys h is edge = record { front = record { spelled = []; are_characters = refl; bytes = refl }; back = record { spelled = cs; are_characters = h; bytes = is } }
cut_at [] (x ∷ xs) ys h is edge = absurd cc
cut_at (c ∷ cs) (x ∷ xs) ys h is edge =
    by (encoded c) (λ zs later. cut_at cs zs ys (and_right (is_character c) (list_all is_character cs) h) later edge)
  where
    by : Encoded c (utf8_of c) → ((zs : List ℕ) → flat_map utf8_of cs ≡ zs ++ ys → Halves zs ys) → Halves (x ∷ xs) ys
    by (ascii lt one) f =
        let whole : c ∷ flat_map utf8_of cs ≡ x ∷ (xs ++ ys) = ap (λ l. l ++ flat_map utf8_of cs) (sym one) ∙ is in
        let same : c ≡ x = cc in
        let later : flat_map utf8_of cs ≡ xs ++ ys = cc in
        one_more c (x ∷ xs) ys xs (and_left (is_character c) (list_all is_character cs) h) (ap (λ y. y ∷ xs) (sym same) ∙ ap (λ l. l ++ xs) (sym one)) (f xs later)
    by (past lt first more bytes high) f =
        let whole : (first ∷ more) ++ flat_map utf8_of cs ≡ (x ∷ xs) ++ ys = ap (λ l. l ++ flat_map utf8_of cs) (sym bytes) ∙ is in
        let same : first ≡ x = cc in
        let tails : more ++ flat_map utf8_of cs ≡ xs ++ ys = cc in
        let p = peel more (flat_map utf8_of cs) xs ys (and_right (is_past first) (list_all is_past more) high) tails edge in
        one_more c (x ∷ xs) ys p.0 (and_left (is_character c) (list_all is_character cs) h)
        (ap (λ y. y ∷ xs) (sym same) ∙ ap (λ l. first ∷ l) p.1 ∙ ap (λ l. l ++ p.0) (sym bytes)) (f p.0 p.2)

-- a text is cut before ASCII into two texts
pub cut_text : (xs ys : List ℕ) → is_text (xs ++ ys) ≡ true → Edge ys → (is_text xs ≡ true) × (is_text ys ≡ true)
cut_text xs ys h edge =
    let t = text_characters (xs ++ ys) h in
    let p = cut_at t.spelled xs ys t.are_characters t.bytes edge in
    (characters_text xs p.front, characters_text ys p.back)

behind_first : (cs : List ℕ) (b : ℕ) (bs : List ℕ) → list_all is_character cs ≡ true → flat_map utf8_of cs ≡ b ∷ bs → b < 128 → Characters bs
behind_first [] b bs h is lt = absurd cc
behind_first (c ∷ cs) b bs h is lt = by (encoded c)
  where
    by : Encoded c (utf8_of c) → Characters bs
    by (ascii low one) =
        let whole : c ∷ flat_map utf8_of cs ≡ b ∷ bs = ap (λ l. l ++ flat_map utf8_of cs) (sym one) ∙ is in
        record { spelled = cs; are_characters = and_right (is_character c) (list_all is_character cs) h; bytes = cc }
    by (past high first more bytes all) =
        let whole : (first ∷ more) ++ flat_map utf8_of cs ≡ b ∷ bs = ap (λ l. l ++ flat_map utf8_of cs) (sym bytes) ∙ is in
        let same : first ≡ b = cc in
        let up = and_left (is_past first) (list_all is_past more) all in
        absurd (grind (arith, nat_tests))

-- behind an ASCII byte a text goes on
pub text_behind : (b : ℕ) (bs : List ℕ) → is_text (b ∷ bs) ≡ true → b < 128 → is_text bs ≡ true
text_behind b bs h lt =
    let t = text_characters (b ∷ bs) h in characters_text bs (behind_first t.spelled b bs t.are_characters t.bytes lt)
