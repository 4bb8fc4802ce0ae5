-- Names by their bytes and by their characters.
use Rattle.std.proofs.Common.{◌≡◌, ℕ, ◌<◌, true, ◌&&◌, List, [], ◌∷◌, ◌++◌, refl, sym, ap, ◌∙◌, subst, arith}
use Rattle.std.specs.List.{list_all, flat_map}
use Rattle.std.proofs.lemmas.Bool.Decides.{nat_tests}
use Rattle.std.proofs.lemmas.List.Folds.{list_all-append}
use Rattle.pn_text.specs.Characters.{characters_of, utf8_of, is_text, is_name_start, is_name_part, are_name, is_name}
use Rattle.pn_facts.proofs.Lists.{list_all_each}
use Rattle.pn_facts.proofs.Truths.{and_left, and_right, and_both}
use Rattle.pn_text.proofs.TextLemmas.{is_past, Encoded, ascii, past, encoded, text_bytes}

past_part : (b : ℕ) → is_past b ≡ true → is_name_part b ≡ true
past_part b h = grind (arith, nat_tests)

past_start : (b : ℕ) → is_past b ≡ true → is_name_start b ≡ true
past_start b h = grind (arith, nat_tests)

-- from characters to bytes

part_bytes : (c : ℕ) → is_name_part c ≡ true → list_all is_name_part (utf8_of c) ≡ true
part_bytes c h = by (encoded c)
  where
    by : Encoded c (utf8_of c) → list_all is_name_part (utf8_of c) ≡ true
    by (ascii lt one) = ap (list_all is_name_part) one ∙ and_both (is_name_part c) true h refl
    by (past lt first more bytes high) = ap (list_all is_name_part) bytes ∙ list_all_each is_past is_name_part past_part (first ∷ more) high

parts_bytes : (cs : List ℕ) → list_all is_name_part cs ≡ true → list_all is_name_part (flat_map utf8_of cs) ≡ true
parts_bytes [] h = refl
parts_bytes (c ∷ cs) h =
    list_all-append is_name_part (utf8_of c) (flat_map utf8_of cs)
    ∙ and_both (list_all is_name_part (utf8_of c)) (list_all is_name_part (flat_map utf8_of cs))
    (part_bytes c (and_left (is_name_part c) (list_all is_name_part cs) h)) (parts_bytes cs (and_right (is_name_part c) (list_all is_name_part cs) h))

name_bytes : (cs : List ℕ) → are_name cs ≡ true → are_name (flat_map utf8_of cs) ≡ true
name_bytes [] h = h
name_bytes (c ∷ cs) h = by (encoded c)
  where
    rest : list_all is_name_part (flat_map utf8_of cs) ≡ true
    rest = parts_bytes cs (and_right (is_name_start c) (list_all is_name_part cs) h)

    by : Encoded c (utf8_of c) → are_name (utf8_of c ++ flat_map utf8_of cs) ≡ true
    by (ascii lt one) =
        ap (λ l. are_name (l ++ flat_map utf8_of cs)) one
        ∙ and_both (is_name_start c) (list_all is_name_part (flat_map utf8_of cs)) (and_left (is_name_start c) (list_all is_name_part cs) h) rest
    by (past lt first more bytes high) =
        ap (λ l. are_name (l ++ flat_map utf8_of cs)) bytes
        ∙ and_both (is_name_start first) (list_all is_name_part (more ++ flat_map utf8_of cs)) (past_start first (and_left (is_past first) (list_all is_past more) high))
        (list_all-append is_name_part more (flat_map utf8_of cs)
        ∙ and_both (list_all is_name_part more) (list_all is_name_part (flat_map utf8_of cs))
        (list_all_each is_past is_name_part past_part more (and_right (is_past first) (list_all is_past more) high)) rest)

-- the bytes of a name
pub name_is : (bs : List ℕ) → is_name bs ≡ true → are_name bs ≡ true
name_is bs h =
    subst (λ l. are_name l ≡ true) (text_bytes bs (and_left (is_text bs) (are_name (characters_of bs)) h))
    (name_bytes (characters_of bs) (and_right (is_text bs) (are_name (characters_of bs)) h))

pub name_text : (bs : List ℕ) → is_name bs ≡ true → is_text bs ≡ true
name_text bs h = and_left (is_text bs) (are_name (characters_of bs)) h

-- from bytes to characters

past_character_part : (c : ℕ) → 127 < c → is_name_part c ≡ true
past_character_part c lt = grind (arith, nat_tests)

past_character_start : (c : ℕ) → 127 < c → is_name_start c ≡ true
past_character_start c lt = grind (arith, nat_tests)

part_character : (c : ℕ) → list_all is_name_part (utf8_of c) ≡ true → is_name_part c ≡ true
part_character c h = by (encoded c)
  where
    by : Encoded c (utf8_of c) → is_name_part c ≡ true
    by (ascii lt one) = and_left (is_name_part c) true (sym (ap (list_all is_name_part) one) ∙ h)
    by (past lt first more bytes high) = past_character_part c lt

part_characters : (cs : List ℕ) → list_all is_name_part (flat_map utf8_of cs) ≡ true → list_all is_name_part cs ≡ true
part_characters [] h = refl
part_characters (c ∷ cs) h =
    let both = sym (list_all-append is_name_part (utf8_of c) (flat_map utf8_of cs)) ∙ h in
    and_both (is_name_part c) (list_all is_name_part cs)
    (part_character c (and_left (list_all is_name_part (utf8_of c)) (list_all is_name_part (flat_map utf8_of cs)) both))
    (part_characters cs (and_right (list_all is_name_part (utf8_of c)) (list_all is_name_part (flat_map utf8_of cs)) both))

name_characters : (cs : List ℕ) → are_name (flat_map utf8_of cs) ≡ true → are_name cs ≡ true
name_characters [] h = h
name_characters (c ∷ cs) h = by (encoded c)
  where
    by : Encoded c (utf8_of c) → are_name (c ∷ cs) ≡ true
    by (ascii lt one) =
        let whole : (is_name_start c && list_all is_name_part (flat_map utf8_of cs)) ≡ true = sym (ap (λ l. are_name (l ++ flat_map utf8_of cs)) one) ∙ h in
        and_both (is_name_start c) (list_all is_name_part cs) (and_left (is_name_start c) (list_all is_name_part (flat_map utf8_of cs)) whole)
        (part_characters cs (and_right (is_name_start c) (list_all is_name_part (flat_map utf8_of cs)) whole))
    by (past lt first more bytes high) =
        let whole : (is_name_start first && list_all is_name_part (more ++ flat_map utf8_of cs)) ≡ true = sym (ap (λ l. are_name (l ++ flat_map utf8_of cs)) bytes) ∙ h in
        let both = sym (list_all-append is_name_part more (flat_map utf8_of cs)) ∙ and_right (is_name_start first) (list_all is_name_part (more ++ flat_map utf8_of cs)) whole in
        and_both (is_name_start c) (list_all is_name_part cs) (past_character_start c lt)
        (part_characters cs (and_right (list_all is_name_part more) (list_all is_name_part (flat_map utf8_of cs)) both))

-- a text whose bytes are those of a name
pub name_of_bytes : (bs : List ℕ) → is_text bs ≡ true → are_name bs ≡ true → is_name bs ≡ true
name_of_bytes bs t h =
    and_both (is_text bs) (are_name (characters_of bs)) t
    (name_characters (characters_of bs) (subst (λ l. are_name l ≡ true) (sym (text_bytes bs t)) h))
