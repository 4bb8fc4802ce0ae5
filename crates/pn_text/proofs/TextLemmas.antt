-- Texts by their characters: UTF-8, texts that are put together, texts in ASCII.
use Rattle.std.proofs.Common.{◌≡◌, ℕ, zero, suc, ◌+◌, ◌<◌, ◌/◌, Bool, true, false, cond, ltb, nat_lt, slice_index, ◌&&◌, List, [], ◌∷◌, ◌++◌, refl, sym, ap, ◌∙◌, subst, append-nil, arith}
use Rattle.std.specs.List.{list_all, flat_map}
use Rattle.std.specs.Str.{chars, IsUtf8, encode_utf8_all, bytes_eq}
use Rattle.std.proofs.lemmas.Bool.Decides.{nat_tests}
use Rattle.std.proofs.lemmas.List.Folds.{list_all-append}
use Rattle.std.proofs.lemmas.Slice.Eq.{bytes_eq-Decides}
use Rattle.std.proofs.lemmas.Str.{chars-append, chars-IsAscii, chars_from_encodes, encodes-append, encodes-chars}
use lib.Utf8.{scalar, scalars, encode}
use Rattle.pn_facts.proofs.Truths.{and_left, and_right, and_both}
use Rattle.pn_facts.proofs.Lists.{list_all_each, flat_map_same}
use Rattle.pn_text.specs.Characters.{is_within, is_character, characters_of, further, utf8_of, is_text}

pub chars_are : (bs : List ℕ) → characters_of bs ≡ chars bs
unfolding chars
chars_are [] = refl
chars_are (b ∷ bs) = refl

-- a character that a document may have is a scalar value
pub is_character-scalar : (c : ℕ) → is_character c ≡ true → scalar c ≡ true
is_character-scalar c h = grind (arith, nat_tests)

pub are_scalars : (cs : List ℕ) → list_all is_character cs ≡ true → scalars cs ≡ true
are_scalars [] h = refl
are_scalars (c ∷ cs) h =
    and_both (scalar c) (scalars cs) (is_character-scalar c (and_left (is_character c) (list_all is_character cs) h))
    (are_scalars cs (and_right (is_character c) (list_all is_character cs) h))

pub utf8_is : (c : ℕ) → utf8_of c ≡ encode c
unfolding encode
utf8_is c = refl

pub all_utf8 : (cs : List ℕ) → flat_map utf8_of cs ≡ encode_utf8_all cs
all_utf8 [] = refl
all_utf8 (c ∷ cs) = ap (λ l. l ++ flat_map utf8_of cs) (utf8_is c) ∙ ap (λ l. encode c ++ l) (all_utf8 cs)

pub encodes_back : (bs : List ℕ) → is_text bs ≡ true → encode_utf8_all (characters_of bs) ≡ bs
encodes_back bs h =
    sym (all_utf8 (characters_of bs)) ∙ (bytes_eq-Decides (flat_map utf8_of (characters_of bs)) bs).0
    (and_right (list_all is_character (characters_of bs)) (bytes_eq (flat_map utf8_of (characters_of bs)) bs) h)

pub all_characters : (bs : List ℕ) → is_text bs ≡ true → list_all is_character (characters_of bs) ≡ true
all_characters bs h = and_left (list_all is_character (characters_of bs)) (bytes_eq (flat_map utf8_of (characters_of bs)) bs) h

-- a text is UTF-8
pub is_text-utf8 : (bs : List ℕ) → is_text bs ≡ true → IsUtf8 bs
is_text-utf8 bs h = (characters_of bs, (are_scalars (characters_of bs) (all_characters bs h), encodes_back bs h))

pub characters-append : (xs ys : List ℕ) → is_text xs ≡ true → characters_of (xs ++ ys) ≡ characters_of xs ++ characters_of ys
characters-append xs ys h =
    chars_are (xs ++ ys) ∙ chars-append xs ys (is_text-utf8 xs h) ∙ ap (λ l. l ++ chars ys) (sym (chars_are xs)) ∙ ap (λ l. characters_of xs ++ l) (sym (chars_are ys))

-- two texts, one after the other, are a text
pub is_text-append : (xs ys : List ℕ) → is_text xs ≡ true → is_text ys ≡ true → is_text (xs ++ ys) ≡ true
is_text-append xs ys h k =
    let cs = characters_of xs in
    let ds = characters_of ys in
    let split : characters_of (xs ++ ys) ≡ cs ++ ds = characters-append xs ys h in
    let all : list_all is_character (cs ++ ds) ≡ true =
    list_all-append is_character cs ds ∙ and_both (list_all is_character cs) (list_all is_character ds) (all_characters xs h) (all_characters ys k) in
    let back : flat_map utf8_of (cs ++ ds) ≡ xs ++ ys =
    all_utf8 (cs ++ ds) ∙ encodes-append cs ds ∙ ap (λ l. l ++ encode_utf8_all ds) (encodes_back xs h) ∙ ap (λ l. xs ++ l) (encodes_back ys k) in
    subst (λ ls. (list_all is_character ls && bytes_eq (flat_map utf8_of ls) (xs ++ ys)) ≡ true) (sym split)
    (and_both (list_all is_character (cs ++ ds)) (bytes_eq (flat_map utf8_of (cs ++ ds)) (xs ++ ys)) all ((bytes_eq-Decides (flat_map utf8_of (cs ++ ds)) (xs ++ ys)).1 back))

-- printable ASCII

ascii_below : (bs : List ℕ) → list_all (is_within 32 126) bs ≡ true → (i : ℕ) → slice_index bs i < 128
ascii_below [] h i = omega arith
ascii_below (b ∷ bs) h zero =
    let here = and_left (is_within 32 126 b) (list_all (is_within 32 126) bs) h in grind (arith, nat_tests)
ascii_below (b ∷ bs) h (suc i) = ascii_below bs (and_right (is_within 32 126 b) (list_all (is_within 32 126) bs) h) i

ascii_utf8 : (b : ℕ) → is_within 32 126 b ≡ true → utf8_of b ≡ b ∷ []
ascii_utf8 b h =
    let below : ltb b 128 ≡ true = grind (arith, nat_tests) in ap (λ t. cond t (b ∷ []) (cond (ltb b 2048) ((192 + b / 64) ∷ further b ∷ []) (cond (ltb b 65536) ((224 + b / 4096) ∷ further (b / 64) ∷ further b ∷ []) ((240 + b / 262144) ∷ further (b / 4096) ∷ further (b / 64) ∷ further b ∷ [])))) below

-- printable ASCII is a text
pub is_text-ascii : (bs : List ℕ) → list_all (is_within 32 126) bs ≡ true → is_text bs ≡ true
is_text-ascii bs h =
    let same : characters_of bs ≡ bs = chars_are bs ∙ chars-IsAscii bs (ascii_below bs h) in
    subst (λ cs. (list_all is_character cs && bytes_eq (flat_map utf8_of cs) bs) ≡ true) (sym same)
    (and_both (list_all is_character bs) (bytes_eq (flat_map utf8_of bs) bs)
    (list_all_each (is_within 32 126) is_character (λ c w. grind (arith, nat_tests)) bs h)
    ((bytes_eq-Decides (flat_map utf8_of bs) bs).1 (flat_map_same utf8_of (is_within 32 126) ascii_utf8 bs h)))

-- the characters whose UTF-8 the bytes are
pub record Characters (bs : List ℕ) : Type 0 where
  pub spelled : List ℕ
  pub are_characters : list_all is_character spelled ≡ true
  pub bytes : flat_map utf8_of spelled ≡ bs

-- a text is the UTF-8 of its characters
pub text_bytes : (bs : List ℕ) → is_text bs ≡ true → flat_map utf8_of (characters_of bs) ≡ bs
text_bytes bs h =
    (bytes_eq-Decides (flat_map utf8_of (characters_of bs)) bs).0
    (and_right (list_all is_character (characters_of bs)) (bytes_eq (flat_map utf8_of (characters_of bs)) bs) h)

pub text_characters : (bs : List ℕ) → is_text bs ≡ true → Characters bs
text_characters bs h = record {
  spelled = characters_of bs;
  are_characters = and_left (list_all is_character (characters_of bs)) (bytes_eq (flat_map utf8_of (characters_of bs)) bs) h;
  bytes = text_bytes bs h;
}

pub characters_text : (bs : List ℕ) → Characters bs → is_text bs ≡ true
characters_text bs t =
    let cs = t.spelled in
    let back : encode_utf8_all cs ≡ bs = sym (all_utf8 cs) ∙ t.bytes in
    let utf8 : IsUtf8 bs = (cs, (are_scalars cs t.are_characters, back)) in
    let same : cs ≡ characters_of bs = chars_from_encodes cs bs utf8 back ∙ sym (chars_are bs) in
    subst (λ ds. (list_all is_character ds && bytes_eq (flat_map utf8_of ds) bs) ≡ true) same
    (and_both (list_all is_character cs) (bytes_eq (flat_map utf8_of cs) bs) t.are_characters ((bytes_eq-Decides (flat_map utf8_of cs) bs).1 t.bytes))

-- a character's bytes are a text
pub is_text-character : (c : ℕ) → is_character c ≡ true → is_text (utf8_of c) ≡ true
is_text-character c h =
    characters_text (utf8_of c) (record { spelled = c ∷ []; are_characters = and_both (is_character c) true h refl; bytes = append-nil (utf8_of c) })

and_true : (a b : Bool) → b ≡ true → (a && b) ≡ a
and_true true b h = h
and_true false b h = refl

-- of bytes in UTF-8 only the characters matter
pub text_by_characters : (bs : List ℕ) → IsUtf8 bs → list_all is_character (chars bs) ≡ is_text bs
text_by_characters bs utf8 =
    let back : flat_map utf8_of (characters_of bs) ≡ bs = ap (flat_map utf8_of) (chars_are bs) ∙ all_utf8 (chars bs) ∙ encodes-chars bs utf8 in
    ap (list_all is_character) (sym (chars_are bs))
    ∙ sym (and_true (list_all is_character (characters_of bs)) (bytes_eq (flat_map utf8_of (characters_of bs)) bs) ((bytes_eq-Decides (flat_map utf8_of (characters_of bs)) bs).1 back))

-- a byte past ASCII
abbrev pub is_past : ℕ → Bool
is_past b = nat_lt 127 b

-- a character in ASCII is one byte, and each byte of another is past ASCII
pub data Encoded (c : ℕ) (bytes : List ℕ) : Type 0 where
  ascii : c < 128 → bytes ≡ c ∷ [] → Encoded c bytes
  past : 127 < c → (first : ℕ) (more : List ℕ) → bytes ≡ first ∷ more → list_all is_past (first ∷ more) ≡ true → Encoded c bytes

past_byte : (b : ℕ) → 127 < b → is_past b ≡ true
past_byte b lt = grind (arith, nat_tests)

pub encoded : (c : ℕ) → Encoded c (utf8_of c)
encoded c = by (nat_lt c 0x80) refl (nat_lt c 0x800) (nat_lt c 0x1_0000)
  where
    by : (v : Bool) → nat_lt c 0x80 ≡ v → (w x : Bool)
        → Encoded c (cond v (c ∷ []) (cond w ((0xC0 + c / 0x40) ∷ further c ∷ []) (cond x ((0xE0 + c / 0x1000) ∷ further (c / 0x40) ∷ further c ∷ []) ((0xF0 + c / 0x4_0000) ∷ further (c / 0x1000) ∷ further (c / 0x40) ∷ further c ∷ []))))
    by true e w x = ascii (grind (arith, nat_tests)) refl
    by false e true x =
        past (grind (arith, nat_tests)) (0xC0 + c / 0x40) (further c ∷ []) refl
        (and_both (is_past (0xC0 + c / 0x40)) (is_past (further c) && true) (past_byte (0xC0 + c / 0x40) (omega arith))
        (and_both (is_past (further c)) true (past_byte (further c) (omega arith)) refl))
    by false e false true =
        past (grind (arith, nat_tests)) (0xE0 + c / 0x1000) (further (c / 0x40) ∷ further c ∷ []) refl
        (and_both (is_past (0xE0 + c / 0x1000)) (is_past (further (c / 0x40)) && (is_past (further c) && true)) (past_byte (0xE0 + c / 0x1000) (omega arith))
        (and_both (is_past (further (c / 0x40))) (is_past (further c) && true) (past_byte (further (c / 0x40)) (omega arith))
        (and_both (is_past (further c)) true (past_byte (further c) (omega arith)) refl)))
    by false e false false =
        past (grind (arith, nat_tests)) (0xF0 + c / 0x4_0000) (further (c / 0x1000) ∷ further (c / 0x40) ∷ further c ∷ []) refl
        (and_both (is_past (0xF0 + c / 0x4_0000)) (is_past (further (c / 0x1000)) && (is_past (further (c / 0x40)) && (is_past (further c) && true))) (past_byte (0xF0 + c / 0x4_0000) (omega arith))
        (and_both (is_past (further (c / 0x1000))) (is_past (further (c / 0x40)) && (is_past (further c) && true)) (past_byte (further (c / 0x1000)) (omega arith))
        (and_both (is_past (further (c / 0x40))) (is_past (further c) && true) (past_byte (further (c / 0x40)) (omega arith))
        (and_both (is_past (further c)) true (past_byte (further c) (omega arith)) refl))))
