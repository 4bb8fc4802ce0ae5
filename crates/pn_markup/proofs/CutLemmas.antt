-- The parts of a document begin and end in ASCII, so that its text is cut into texts.
use Rattle.std.proofs.Common.{◌≡◌, ℕ, ◌<◌, true, List, [], ◌∷◌, ◌++◌, codes, refl, sym, ap, ◌∙◌, subst, append_assoc, arith}
use Rattle.std.specs.List.{list_all, flat_map}
use Rattle.std.proofs.lemmas.Bool.Decides.{nat_tests}
use Rattle.pn_text.specs.Characters.{is_character, utf8_of, is_text}
use Rattle.pn_text.proofs.TextLemmas.{is_text-append, is_past, Encoded, ascii, past, encoded, text_characters, is_text-character}
use Rattle.pn_facts.proofs.Truths.{and_left, and_right}
use Rattle.pn_markup.specs.Bytes.{is_space, is_quote, MaybeSpace, Space}
use Rattle.pn_markup.specs.Content.{CDSect, Piece, reference, section, comment, instruction}
use Rattle.pn_markup.specs.Misc.{Comment, PI}
use Rattle.pn_markup.specs.References.{Reference, entity, decimal, hexadecimal, Entity, lt, gt, amp, apos, quot, entity_name, entity_text}
use Rattle.pn_markup.proofs.CharacterLemmas.{Edge, cut_text, text_behind}
use Rattle.pn_markup.proofs.LineEndLemmas.{line_ends_text}

-- bytes that begin and end in ASCII
pub record Bounded (b : List ℕ) : Type 0 where
  pub first : ℕ
  pub more : List ℕ
  pub front : List ℕ
  pub last : ℕ
  pub first_low : first < 128
  pub last_low : last < 128
  pub begins : b ≡ first ∷ more
  pub ends : b ≡ front ++ (last ∷ [])

pub bounded_edge : (b rest : List ℕ) → Bounded b → Edge (b ++ rest)
bounded_edge b rest p = subst (λ l. Edge (l ++ rest)) (sym p.begins) p.first_low

first_alone : (cs : List ℕ) (b : ℕ) (bs : List ℕ) → list_all is_character cs ≡ true → flat_map utf8_of cs ≡ b ∷ bs → b < 128 → is_text (b ∷ []) ≡ true
first_alone [] b bs h is low = absurd cc
first_alone (c ∷ cs) b bs h is low = by (encoded c)
  where
    by : Encoded c (utf8_of c) → is_text (b ∷ []) ≡ true
    by (ascii small one) =
        let whole : c ∷ flat_map utf8_of cs ≡ b ∷ bs = ap (λ l. l ++ flat_map utf8_of cs) (sym one) ∙ is in
        let same : c ≡ b = cc in
        ap (λ x. is_text (x ∷ [])) (sym same) ∙ ap is_text (sym one) ∙ is_text-character c (and_left (is_character c) (list_all is_character cs) h)
    by (past high first more bytes all) =
        let whole : (first ∷ more) ++ flat_map utf8_of cs ≡ b ∷ bs = ap (λ l. l ++ flat_map utf8_of cs) (sym bytes) ∙ is in
        let same : first ≡ b = cc in
        let up = and_left (is_past first) (list_all is_past more) all in
        absurd (grind (arith, nat_tests))

-- a text is cut behind bytes that end in ASCII
pub cut_behind : (b rest : List ℕ) → Bounded b → is_text (b ++ rest) ≡ true → (is_text b ≡ true) × (is_text rest ≡ true)
cut_behind b rest p h =
    let split : is_text (p.front ++ (p.last ∷ rest)) ≡ true = ap is_text (sym (append_assoc p.front (p.last ∷ []) rest) ∙ ap (λ l. l ++ rest) (sym p.ends)) ∙ h in
    let parts = cut_text p.front (p.last ∷ rest) split p.last_low in
    let t = text_characters (p.last ∷ rest) parts.1 in
    (ap is_text p.ends ∙ is_text-append p.front (p.last ∷ []) parts.0 (first_alone t.spelled p.last rest t.are_characters t.bytes p.last_low), text_behind p.last rest parts.1 p.last_low)

-- white space

space_low : (b : ℕ) → is_space b ≡ true → b < 128
space_low b h = grind (arith, nat_tests)

pub quote_low : (b : ℕ) → is_quote b ≡ true → b < 128
quote_low b h = grind (arith, nat_tests)

pub space_edge : (s rest : List ℕ) → MaybeSpace s → Edge rest → Edge (s ++ rest)
space_edge [] rest h edge = edge
space_edge (b ∷ bs) rest h edge = space_low b (and_left (is_space b) (list_all is_space bs) h)

pub behind_space : (s rest : List ℕ) → MaybeSpace s → is_text (s ++ rest) ≡ true → is_text rest ≡ true
behind_space [] rest h t = t
behind_space (b ∷ bs) rest h t =
    behind_space bs rest (and_right (is_space b) (list_all is_space bs) h) (text_behind b (bs ++ rest) t (space_low b (and_left (is_space b) (list_all is_space bs) h)))

pub some_space : (s : List ℕ) → Space s → MaybeSpace s
some_space [] h = absurd h
some_space (b ∷ bs) h = h

pub some_space_edge : (s rest : List ℕ) → Space s → Edge (s ++ rest)
some_space_edge [] rest h = absurd h
some_space_edge (b ∷ bs) rest h = space_low b (and_left (is_space b) (list_all is_space bs) h)

-- references

pub reference_bounded : (text b : List ℕ) → Reference text b → Bounded b
reference_bounded text b (entity _ _ e t is) = record {
  first = 38;
  more = entity_name e ++ codes ";";
  front = 38 ∷ entity_name e;
  last = 59;
  first_low = omega arith;
  last_low = omega arith;
  begins = is;
  ends = is;
}
reference_bounded text b (decimal _ _ c digits n t is) = record {
  first = 38;
  more = 35 ∷ (digits ++ codes ";");
  front = 38 ∷ 35 ∷ digits;
  last = 59;
  first_low = omega arith;
  last_low = omega arith;
  begins = is;
  ends = is;
}
reference_bounded text b (hexadecimal _ _ c digits n t is) = record {
  first = 38;
  more = 35 ∷ 120 ∷ (digits ++ codes ";");
  front = 38 ∷ 35 ∷ 120 ∷ digits;
  last = 59;
  first_low = omega arith;
  last_low = omega arith;
  begins = is;
  ends = is;
}

pub entity_is_text : (e : Entity) → is_text (entity_text e) ≡ true
entity_is_text lt = refl
entity_is_text gt = refl
entity_is_text amp = refl
entity_is_text apos = refl
entity_is_text quot = refl

pub reference_text : (text b : List ℕ) → Reference text b → is_text text ≡ true
reference_text text b (entity _ _ e t is) = ap is_text t ∙ entity_is_text e
reference_text text b (decimal _ _ c digits n t is) = ap is_text t ∙ is_text-character c n.character
reference_text text b (hexadecimal _ _ c digits n t is) = ap is_text t ∙ is_text-character c n.character

-- comments, processing instructions and sections

comment_bounded : (b : List ℕ) → Comment b → Bounded b
comment_bounded b c = record {
  first = 60;
  more = 33 ∷ 45 ∷ 45 ∷ (c.0 ++ codes "-->");
  front = 60 ∷ 33 ∷ 45 ∷ 45 ∷ (c.0 ++ codes "--");
  last = 62;
  first_low = omega arith;
  last_low = omega arith;
  begins = c.2;
  ends = c.2 ∙ ap (λ l. 60 ∷ 33 ∷ 45 ∷ 45 ∷ l) (sym (append_assoc c.0 (codes "--") (62 ∷ [])));
}

instruction_bounded : (b : List ℕ) → PI b → Bounded b
instruction_bounded b p = record {
  first = 60;
  more = 63 ∷ (p.target ++ (p.text ++ codes "?>"));
  front = 60 ∷ 63 ∷ (p.target ++ (p.text ++ codes "?"));
  last = 62;
  first_low = omega arith;
  last_low = omega arith;
  begins = p.whole;
  ends =
      p.whole
      ∙ ap (λ l. 60 ∷ 63 ∷ l)
      (ap (λ l. p.target ++ l) (sym (append_assoc p.text (codes "?") (62 ∷ []))) ∙ sym (append_assoc p.target (p.text ++ codes "?") (62 ∷ [])));
}

section_bounded : (text b : List ℕ) → CDSect text b → Bounded b
section_bounded text b s = record {
  first = 60;
  more = 33 ∷ 91 ∷ 67 ∷ 68 ∷ 65 ∷ 84 ∷ 65 ∷ 91 ∷ (text ++ codes "]]>");
  front = codes "<![CDATA[" ++ (text ++ codes "]]");
  last = 62;
  first_low = omega arith;
  last_low = omega arith;
  begins = s.1;
  ends = s.1 ∙ ap (λ l. codes "<![CDATA[" ++ l) (sym (append_assoc text (codes "]]") (62 ∷ [])));
}

section_text : (text b : List ℕ) → CDSect text b → is_text b ≡ true → is_text text ≡ true
section_text text b s h =
    let opened : Bounded (codes "<![CDATA[") =
    record { first = 60; more = codes "![CDATA["; front = codes "<![CDATA"; last = 91; first_low = omega arith; last_low = omega arith; begins = refl; ends = refl } in
    let inner = (cut_behind (codes "<![CDATA[") (text ++ codes "]]>") opened (sym (ap is_text s.1) ∙ h)).1 in
    (cut_text text (codes "]]>") inner (omega arith)).0

pub piece_bounded : (text b : List ℕ) → Piece text b → Bounded b
piece_bounded text b (reference _ _ r) = reference_bounded text b r
piece_bounded text b (section _ _ raw s is) = section_bounded raw b s
piece_bounded text b (comment _ _ c is) = comment_bounded b c
piece_bounded text b (instruction _ _ p is) = instruction_bounded b p

-- what a piece stands for is a text
pub piece_text : (text b : List ℕ) → Piece text b → is_text b ≡ true → is_text text ≡ true
piece_text text b (reference _ _ r) h = reference_text text b r
piece_text text b (section _ _ raw s is) h = ap is_text is ∙ line_ends_text raw (section_text raw b s h)
piece_text text b (comment _ _ c is) h = ap is_text is
piece_text text b (instruction _ _ p is) h = ap is_text is
