-- Each state has a completion: bytes with which a document ends.
use Rattle.std.proofs.Common.{◌≡◌, ◌⊎◌, inl, inr, ℕ, zero, suc, ◌+◌, ◌*◌, ◌≤◌, ◌<◌, Bool, true, false, cond, ◌&&◌, ◌||◌, ◌==◌, List, [], ◌∷◌, ◌++◌, codes, map, length, Some, None, refl, sym, ap, ◌∙◌, subst, append_assoc, append-nil, arith, length-append}
use Rattle.std.specs.List.{list_all}
use Rattle.std.specs.Char.{to_ascii_lowercase}
use Rattle.std.specs.Str.{bytes_eq}
use Rattle.std.proofs.lemmas.Bool.{false≢true, and_parts, and_from, or_cases, or_left, or_right, eqb-true, cases_lt, cases_Bool, false_from_ne_true}
use Rattle.std.proofs.lemmas.Bool.Decides.{nat_tests}
use Rattle.std.proofs.lemmas.Slice.Eq.{bytes_eq-Decides}
use Rattle.pn_text.specs.Characters.{is_within, is_character, utf8_of, is_text}
use Rattle.pn_tree.specs.Building.{with_text, with_attr}
use Rattle.pn_tree.specs.Elements.{attr_value}
use Rattle.pn_tree.specs.declared.element.Attr.{Attr}
use Rattle.pn_tree.specs.declared.element.Element.{Element}
use Rattle.pn_text.proofs.TextLemmas.{is_text-append, is_text-ascii}
use Rattle.pn_markup.specs.Bytes.{is_quote, begins_with, Name, line_ends_behind}
use Rattle.pn_markup.specs.Misc.{nothing, is_xml}
use Rattle.pn_markup.specs.References.{is_digit, Entity, lt, gt, amp, apos, quot, entity_text, number_behind, entity}
use Rattle.pn_markup.specs.Tags.{AttValue, Eq, named, none, run}
use Rattle.pn_markup.specs.Declaration.{is_version, is_encoding, is_standalone, are_digits}
use Rattle.pn_scan.specs.State.{Nesting, before, within, behind, Holder, of_content, of_value, Part, version, encoding, standalone, Stage, all_due, from_encoding, from_standalone, none_due, Brackets, no_bracket, one_bracket, two_brackets, State, at_start, outside, at_end, in_run, at_markup, at_bang, in_comment, in_target, in_instruction, in_section, in_name, in_tag, in_attribute, before_equals, behind_equals, in_value, at_reference, in_entity, at_number, in_number, due, in_end, in_declaration, before_part_equals, behind_part_equals, in_part}
use Rattle.pn_scan.specs.Rest.{Rest, SpaceOr, Body, Resumed, Held, closes_empty, begun, a_comment, an_end, a_tag, bang_comment, names_instruction, DeclarationMore, closes, one_part, is_part_value, stage_behind, may_end, ValueMore, last_run}
use Rattle.pn_scan.specs.NextState.{is_entity_front, is_part_front}
use Rattle.pn_scan.specs.Viable.{IsViable, AreTexts, OfNesting, OfHolder, MaybeName, OfNumber}
use Rattle.pn_scan.proofs.Spans.{all_append_right, name_more}
use Rattle.pn_scan.proofs.RunLaws.{over_comes}
use Rattle.pn_utf8.proofs.CharacterLemmas.{character_in}
use Rattle.pn_scan.proofs.ReferenceLaws.{full_name, begins_rest}
use Rattle.pn_scan.proofs.ClosingLemmas.{Some-tree, closings, closings_text, closings_name, marked_all, behind_closes, body_closes, nesting_closing, nesting_text, resumed_closes, tag_closes}
use Rattle.pn_scan.proofs.PartLemmas.{lower_append}

-- bytes that complete a state, at an offset, behind the open bytes p
pub record Completes (s : State) (at : ℕ) (p : List ℕ) : Type 0 where
  pub c : List ℕ
  pub is_text : is_text (p ++ c) ≡ true
  pub rest : (N : ℕ) → at + length c ≡ N → Some-tree (λ t. Rest s N t c)

long : (a b : List ℕ) (N at : ℕ) → at + length (a ++ b) ≡ N → length b ≤ N
long a b N at h = omega (arith, h, length-append a b)

long_in : (a b d : List ℕ) (N at : ℕ) → at + length (a ++ (b ++ d)) ≡ N → length d ≤ N
long_in a b d N at h = omega (arith, h, length-append a (b ++ d), length-append b d)

below : (a b : List ℕ) (N : ℕ) → length (a ++ b) ≤ N → length b ≤ N
below a b N h = omega (arith, h, length-append a b)

quote_text : (quote : ℕ) → is_quote quote ≡ true → is_text (quote ∷ []) ≡ true
quote_text quote h = is_text-ascii (quote ∷ []) (and_from (is_within 32 126 quote) true (printable quote h) refl)
  where
    printable : (q : ℕ) → is_quote q ≡ true → is_within 32 126 q ≡ true
    printable q h = grind (arith, nat_tests)

-- attributes

-- a list that is longer than the names of all attributes
longest : List Attr → ℕ
longest [] = 0
longest (a ∷ more) = length a.name + longest more

letters : ℕ → List ℕ
letters zero = []
letters (suc n) = 97 ∷ letters n

length_letters : (n : ℕ) → length (letters n) ≡ n
unfolding letters
length_letters zero = refl
length_letters (suc n) = ap suc (length_letters n)

no_such : (name : List ℕ) (attrs : List Attr) → longest attrs < length name → attr_value name attrs ≡ None
unfolding longest
no_such name [] h = refl
no_such name (a ∷ more) h =
    let rest = no_such name more (omega arith) in
    ap (λ b. cond b (Some a.value) (attr_value name more)) (false_from_ne_true (bytes_eq a.name name) (λ e. shorter (ap length ((bytes_eq-Decides a.name name).0 e)))) ∙ rest
  where
    shorter : length a.name ≡ length name → ⊥
    shorter e = omega arith

letters_text : (n : ℕ) → is_text (letters n) ≡ true
unfolding letters
letters_text zero = refl
letters_text (suc n) = is_text-append (97 ∷ []) (letters n) refl (letters_text n)

letters_name : (name : List ℕ) (n : ℕ) → Name name → Name (name ++ letters n)
unfolding letters
letters_name name zero h = subst Name (sym (append-nil name)) h
letters_name [] (suc n) h = absurd (false≢true h)
letters_name (y ∷ ys) (suc n) h = subst Name (append_assoc (y ∷ ys) (97 ∷ []) (letters n)) (letters_name ((y ∷ ys) ++ (97 ∷ [])) n (name_more y ys 97 h refl))

empty_value : (quote : ℕ) → is_quote quote ≡ true → AttValue [] (quote ∷ quote ∷ [])
empty_value quote h = record { quote = quote; text = []; quoted = h; spells = run [] [] [] refl refl; whole = refl }

equals_sign : Eq (codes "=")
equals_sign = ([], [], refl, refl, refl)

-- tags

module _ (levels : ℕ) (outer : List Element) where
  tag_text : AreTexts outer → is_text (codes "/>" ++ closings outer) ≡ true
  tag_text v = is_text-append (codes "/>") (closings outer) refl (closings_text outer v)

  of_name : (at begin : ℕ) (name : List ℕ) → AreTexts outer → Name name → Completes (in_name levels outer begin name) at []
  of_name at begin name v n =
      record {
        c = codes "/>" ++ closings outer;
        is_text = tag_text v;
        rest = λ N h. let r = tag_closes levels outer (named (name ++ []) begin) false N (long (codes "/>") (closings outer) N at h) in
            (r.0, record { more = []; rest = codes "/>" ++ closings outer; is_name = subst Name (sym (append-nil name)) n; goes_on = r.1; whole = refl });
      }

  of_tag : (at : ℕ) (e : Element) (spaced : Bool) → AreTexts outer → Completes (in_tag levels outer e spaced) at []
  of_tag at e spaced v =
      record { c = codes "/>" ++ closings outer; is_text = tag_text v; rest = λ N h. tag_closes levels outer e spaced N (long (codes "/>") (closings outer) N at h) }

  of_attribute : (at : ℕ) (e : Element) (name : List ℕ) → AreTexts outer → Name name → Completes (in_attribute levels outer e name) at []
  of_attribute at e name v n =
      let extra = letters (suc (longest e.attrs)) in
      let tail = codes "/>" ++ closings outer in
      record {
        c = extra ++ (codes "=" ++ (codes "\"\"" ++ tail));
        is_text = is_text-append extra (codes "=\"\"" ++ tail) (letters_text (suc (longest e.attrs))) (is_text-append (codes "=\"\"") tail refl (tag_text v));
        rest = λ N h. let r = tag_closes levels outer (with_attr (name ++ extra) [] e) false N (long_in extra (codes "=\"\"/>") (closings outer) N at h) in (
          r.0,
          record {
            more = extra;
            equals = codes "=";
            value = [];
            quoted = codes "\"\"";
            rest = tail;
            is_name = letters_name name (suc (longest e.attrs)) n;
            is_new = no_such (name ++ extra) e.attrs (omega (arith, length-append name extra, length_letters (suc (longest e.attrs))));
            is_equals = equals_sign;
            is_value = empty_value 34 refl;
            goes_on = r.1;
            whole = refl;
          },
        );
      }

  of_before : (at : ℕ) (e : Element) (name : List ℕ) → AreTexts outer → Completes (before_equals levels outer e name) at []
  of_before at e name v =
      let tail = codes "/>" ++ closings outer in
      record {
        c = codes "=" ++ (codes "\"\"" ++ tail);
        is_text = is_text-append (codes "=\"\"") tail refl (tag_text v);
        rest = λ N h. let r = tag_closes levels outer (with_attr name [] e) false N (long (codes "=\"\"/>") (closings outer) N at h) in
            (r.0, record { equals = codes "="; value = []; quoted = codes "\"\""; rest = tail; is_equals = equals_sign; is_value = empty_value 34 refl; goes_on = r.1; whole = refl });
      }

  of_behind : (at : ℕ) (e : Element) (name : List ℕ) → AreTexts outer → Completes (behind_equals levels outer e name) at []
  of_behind at e name v =
      let tail = codes "/>" ++ closings outer in
      record {
        c = codes "\"\"" ++ tail;
        is_text = is_text-append (codes "\"\"") tail refl (tag_text v);
        rest = λ N h. let r = tag_closes levels outer (with_attr name [] e) false N (long (codes "\"\"/>") (closings outer) N at h) in
            (r.0, record { space = []; value = []; quoted = codes "\"\""; rest = tail; is_space = refl; is_value = empty_value 34 refl; goes_on = r.1; whole = refl });
      }

  value_more : (e : Element) (name : List ℕ) (quote : ℕ) (value : List ℕ) (cr : Bool) (N : ℕ) → length (closings outer) ≤ N
      → Some-tree (λ t. ValueMore N t levels outer e name quote value cr (quote ∷ (codes "/>" ++ closings outer)))
  value_more e name quote value cr N h =
      let r = tag_closes levels outer (with_attr name value e) false N h in
      (r.0, record { complete = value; b = []; rest = codes "/>" ++ closings outer; spells = last_run refl (sym (append-nil value)); goes_on = r.1; whole = refl })

  of_in_value : (at : ℕ) (e : Element) (name : List ℕ) (quote : ℕ) (value : List ℕ) (cr : Bool) → AreTexts outer → is_quote quote ≡ true → Completes (in_value levels outer e name quote value cr) at []
  of_in_value at e name quote value cr v q =
      record {
        c = quote ∷ (codes "/>" ++ closings outer);
        is_text = is_text-append (quote ∷ []) (codes "/>" ++ closings outer) (quote_text quote q) (tag_text v);
        rest = λ N h. value_more e name quote value cr N (long (quote ∷ codes "/>") (closings outer) N at h);
      }

-- references

abbrev holder_closing : Holder → List ℕ
holder_closing (of_content levels e outer) = closings (e ∷ outer)
holder_closing (of_value levels outer e name quote value) = quote ∷ (codes "/>" ++ closings outer)

holder_text : (holder : Holder) → OfHolder holder → is_text (holder_closing holder) ≡ true
holder_text (of_content levels e outer) v = closings_text (e ∷ outer) v
holder_text (of_value levels outer e name quote value) v =
    is_text-append (quote ∷ []) (codes "/>" ++ closings outer) (quote_text quote v.0.quoted) (tag_text levels outer v.0.texts.1)

held_closes : (holder : Holder) (text : List ℕ) (N : ℕ) → length (holder_closing holder) ≤ N → Some-tree (λ t. Held N t holder text (holder_closing holder))
held_closes (of_content levels e outer) text N h =
    subst (λ l. Some-tree (λ t. Resumed N t (within levels (with_text text e) outer) l)) (closings_name text e outer)
    (resumed_closes (within levels (with_text text e) outer) N (subst (λ l. length l ≤ N) (sym (closings_name text e outer)) h))
held_closes (of_value levels outer e name quote value) text N h = value_more levels outer e name quote (value ++ text) false N (below (quote ∷ codes "/>") (closings outer) N h)

-- numbers

record Digits (base n : ℕ) (any : Bool) : Type 0 where
  digits : List ℕ
  is_text : is_text digits ≡ true
  first : any ≡ false → digits ≡ [] → ⊥
  are : list_all (is_digit base) digits ≡ true
  character : is_character (number_behind base n digits) ≡ true

pub no_list : (x : ℕ) (xs : List ℕ) → x ∷ xs ≡ [] → ⊥
no_list x xs h = cc

small_digits : (base n : ℕ) (any : Bool) → (base ≡ 10) ⊎ (base ≡ 16) → n < 32 → Digits base n any
small_digits base n any (inl e) h =
    let up : (n * base + 9) * base + 9 ≡ (n * 10 + 9) * 10 + 9 = ap (λ b. (n * b + 9) * b + 9) e in
    record {
      digits = codes "99";
      is_text = refl;
      first = λ a b. no_list 57 (57 ∷ []) b;
      are = subst (λ b. list_all (is_digit b) (codes "99") ≡ true) (sym e) refl;
      character = character_in ((n * base + 9) * base + 9) (inl (omega (arith, up), omega (arith, up)));
    }
small_digits base n any (inr e) h =
    let up : (n * base + 9) * base + 9 ≡ (n * 16 + 9) * 16 + 9 = ap (λ b. (n * b + 9) * b + 9) e in
    record {
      digits = codes "99";
      is_text = refl;
      first = λ a b. no_list 57 (57 ∷ []) b;
      are = subst (λ b. list_all (is_digit b) (codes "99") ≡ true) (sym e) refl;
      character = character_in ((n * base + 9) * base + 9) (inl (omega (arith, up), omega (arith, up)));
    }

-- a number from 32 on that is no character is a surrogate, U+FFFE or U+FFFF
forbidden : (n : ℕ) → 32 ≤ n → n ≤ 0x10_FFFF → is_character n ≡ false → (0xD800 ≤ n) × (n ≤ 0xFFFF)
forbidden n h k no_character = (low (cases_lt n 0xD800), high (cases_lt n 0x1_0000))
  where
    low : (n < 0xD800) ⊎ (0xD800 ≤ n) → 0xD800 ≤ n
    low (inl l) = absurd (false≢true (sym no_character ∙ character_in n (inl (h, omega arith))))
    low (inr l) = l

    high : (n < 0x1_0000) ⊎ (0x1_0000 ≤ n) → n ≤ 0xFFFF
    high (inl l) = omega arith
    high (inr l) = absurd (false≢true (sym no_character ∙ character_in n (inr (inr (l, k)))))

big_digits : (base n : ℕ) (any : Bool) → (base ≡ 10) ⊎ (base ≡ 16) → 0xD800 ≤ n → n ≤ 0xFFFF → Digits base n any
big_digits base n any (inl e) h k =
    let up : n * base + 0 ≡ n * 10 = ap (λ b. n * b + 0) e ∙ omega arith in
    record {
      digits = codes "0";
      is_text = refl;
      first = λ a b. no_list 48 [] b;
      are = subst (λ b. list_all (is_digit b) (codes "0") ≡ true) (sym e) refl;
      character = character_in (n * base + 0) (inr (inr (omega (arith, up), omega (arith, up))));
    }
big_digits base n any (inr e) h k =
    let up : n * base + 0 ≡ n * 16 = ap (λ b. n * b + 0) e ∙ omega arith in
    record {
      digits = codes "0";
      is_text = refl;
      first = λ a b. no_list 48 [] b;
      are = subst (λ b. list_all (is_digit b) (codes "0") ≡ true) (sym e) refl;
      character = character_in (n * base + 0) (inr (inr (omega (arith, up), omega (arith, up))));
    }

some_digits : (base n : ℕ) (any : Bool) → OfNumber base n any → Digits base n any
some_digits base n any o = go (cases_lt n 32) (cases_Bool (is_character n))
  where
    go : (n < 32) ⊎ (32 ≤ n) → (is_character n ≡ true) ⊎ (is_character n ≡ false) → Digits base n any
    go (inl h) k = small_digits base n any o.is_base h
    go (inr h) (inl k) = record { digits = []; is_text = refl; first = λ a b. absurd (let z : n ≡ 0 = o.none a in omega arith); are = refl; character = k }
    go (inr h) (inr k) = let f = forbidden n h o.small k in big_digits base n any o.is_base f.0 f.1

of_number : (holder : Holder) (at base n : ℕ) (any : Bool) → OfHolder holder → OfNumber base n any → Completes (in_number holder base n any) at []
of_number holder at base n any v o =
    let d = some_digits base n any o in
    record {
      c = d.digits ++ (codes ";" ++ holder_closing holder);
      is_text = is_text-append d.digits (codes ";" ++ holder_closing holder) d.is_text (is_text-append (codes ";") (holder_closing holder) refl (holder_text holder v));
      rest = λ N h. let r = held_closes holder (utf8_of (number_behind base n d.digits)) N (long_in d.digits (codes ";") (holder_closing holder) N at h) in
          (r.0, record { digits = d.digits; rest = holder_closing holder; first = d.first; are_digits = d.are; character = d.character; goes_on = r.1; whole = refl });
    }

of_at_number : (holder : Holder) (at : ℕ) → OfHolder holder → Completes (at_number holder) at []
of_at_number holder at v =
    record {
      c = codes "9;" ++ holder_closing holder;
      is_text = is_text-append (codes "9;") (holder_closing holder) refl (holder_text holder v);
      rest = λ N h. let r = held_closes holder (utf8_of 9) N (long (codes "9;") (holder_closing holder) N at h) in
          (r.0, inl (record { digits = codes "9"; rest = holder_closing holder; first = λ a b. no_list 57 [] b; are_digits = refl; character = refl; goes_on = r.1; whole = refl }));
    }

of_reference : (holder : Holder) (at : ℕ) → OfHolder holder → Completes (at_reference holder) at []
of_reference holder at v =
    record {
      c = codes "lt;" ++ holder_closing holder;
      is_text = is_text-append (codes "lt;") (holder_closing holder) refl (holder_text holder v);
      rest = λ N h. let r = held_closes holder (codes "<") N (long (codes "lt;") (holder_closing holder) N at h) in
          (r.0, (codes "<", codes "&lt;", holder_closing holder, entity (codes "<") (codes "&lt;") lt refl refl, r.1, refl));
    }

-- the rest of an entity's name
record EntityRest (part : List ℕ) : Type 0 where
  of : Entity
  left : List ℕ
  is : part ++ left ≡ full_name of
  text : is_text left ≡ true

entity_printable : (e : Entity) → list_all (is_within 32 126) (full_name e) ≡ true
entity_printable lt = refl
entity_printable gt = refl
entity_printable amp = refl
entity_printable apos = refl
entity_printable quot = refl

entity_rest : (part : List ℕ) → is_entity_front part ≡ true → EntityRest part
entity_rest part h = go1 (or_cases (begins_with part (codes "lt;")) (begins_with part (codes "gt;") || (begins_with part (codes "amp;") || (begins_with part (codes "apos;") || begins_with part (codes "quot;")))) h)
  where
    one : (e : Entity) → begins_with part (full_name e) ≡ true → EntityRest part
    one e k =
        let r = begins_rest part (full_name e) k in
        record {
          of = e;
          left = r.0;
          is = r.1;
          text = is_text-ascii r.0 (all_append_right (is_within 32 126) part r.0 (subst (λ l. list_all (is_within 32 126) l ≡ true) (sym r.1) (entity_printable e)));
        }

    go4 : (begins_with part (codes "apos;") ≡ true) ⊎ (begins_with part (codes "quot;") ≡ true) → EntityRest part
    go4 (inl k) = one apos k
    go4 (inr k) = one quot k

    go3 : (begins_with part (codes "amp;") ≡ true) ⊎ ((begins_with part (codes "apos;") || begins_with part (codes "quot;")) ≡ true) → EntityRest part
    go3 (inl k) = one amp k
    go3 (inr k) = go4 (or_cases (begins_with part (codes "apos;")) (begins_with part (codes "quot;")) k)

    go2 : (begins_with part (codes "gt;") ≡ true) ⊎ ((begins_with part (codes "amp;") || (begins_with part (codes "apos;") || begins_with part (codes "quot;"))) ≡ true) → EntityRest part
    go2 (inl k) = one gt k
    go2 (inr k) = go3 (or_cases (begins_with part (codes "amp;")) (begins_with part (codes "apos;") || begins_with part (codes "quot;")) k)

    go1 : (begins_with part (codes "lt;") ≡ true) ⊎ ((begins_with part (codes "gt;") || (begins_with part (codes "amp;") || (begins_with part (codes "apos;") || begins_with part (codes "quot;")))) ≡ true) → EntityRest part
    go1 (inl k) = one lt k
    go1 (inr k) = go2 (or_cases (begins_with part (codes "gt;")) (begins_with part (codes "amp;") || (begins_with part (codes "apos;") || begins_with part (codes "quot;"))) k)

of_entity : (holder : Holder) (at : ℕ) (part : List ℕ) → OfHolder holder → is_entity_front part ≡ true → Completes (in_entity holder part) at []
of_entity holder at part v front =
    let e = entity_rest part front in
    record {
      c = e.left ++ holder_closing holder;
      is_text = is_text-append e.left (holder_closing holder) e.text (holder_text holder v);
      rest = λ N h. let r = held_closes holder (entity_text e.of) N (long e.left (holder_closing holder) N at h) in
          (r.0, record { entity = e.of; left = e.left; rest = holder_closing holder; name_is = e.is; goes_on = r.1; whole = refl });
    }

-- the declaration

ended : (N : ℕ) (t : Element) (p : Part) → Body N t (codes "<a/>") → DeclarationMore (Body N t) (stage_behind p) false (codes "?><a/>")
ended N t p b = closes (stage_behind p) false (codes "?><a/>") [] (codes "<a/>") (may p) refl b refl
  where
    may : (p : Part) → may_end (stage_behind p) ≡ true
    may version = refl
    may encoding = refl
    may standalone = refl

-- what completes a value
record PartRest (p : Part) (value : List ℕ) : Type 0 where
  more : List ℕ
  good : is_part_value p (value ++ more) ≡ true
  text : is_text more ≡ true

two_words : (v w b : List ℕ) → (begins_with b v || begins_with b w) ≡ true → list_all (is_within 32 126) v ≡ true → list_all (is_within 32 126) w ≡ true
    → (more : List ℕ) × ((b ++ more ≡ v) ⊎ (b ++ more ≡ w)) × (is_text more ≡ true)
two_words v w b h i j = go (or_cases (begins_with b v) (begins_with b w) h)
  where
    go : (begins_with b v ≡ true) ⊎ (begins_with b w ≡ true) → (more : List ℕ) × ((b ++ more ≡ v) ⊎ (b ++ more ≡ w)) × (is_text more ≡ true)
    go (inl k) = let r = begins_rest b v k in (r.0, inl r.1, is_text-ascii r.0 (all_append_right (is_within 32 126) b r.0 (subst (λ l. list_all (is_within 32 126) l ≡ true) (sym r.1) i)))
    go (inr k) = let r = begins_rest b w k in (r.0, inr r.1, is_text-ascii r.0 (all_append_right (is_within 32 126) b r.0 (subst (λ l. list_all (is_within 32 126) l ≡ true) (sym r.1) j)))

-- small letters stay
lower_suffix : (a b w : List ℕ) → map to_ascii_lowercase w ≡ w → a ++ b ≡ w → map to_ascii_lowercase b ≡ b
lower_suffix a b w h e = go a b (subst (λ l. map to_ascii_lowercase l ≡ l) (sym e) h)
  where
    go : (a b : List ℕ) → map to_ascii_lowercase (a ++ b) ≡ a ++ b → map to_ascii_lowercase b ≡ b
    go [] b h = h
    go (x ∷ a) b h = go a b cc

part_rest : (p : Part) (value : List ℕ) → is_part_front p value ≡ true → PartRest p value
part_rest version [] h = record { more = codes "1.0"; good = refl; text = refl }
part_rest version (a ∷ []) h = record { more = codes ".0"; good = subst (λ y. is_version (y ∷ codes ".0") ≡ true) (sym (eqb-true a 49 h)) refl; text = refl }
part_rest version (a ∷ b ∷ ds) h =
    let both = and_parts ((a == 49) && (b == 46)) (list_all (is_within 48 57) ds) h in
    let two = and_parts (a == 49) (b == 46) both.0 in
    let front : bytes_eq (a ∷ b ∷ []) (codes "1.") ≡ true = and_from (a == 49) ((b == 46) && true) two.0 (and_from (b == 46) true two.1 refl) in
    record { more = codes "0"; good = and_from (bytes_eq (a ∷ b ∷ []) (codes "1.")) (are_digits (ds ++ codes "0")) front (digits ds both.1); text = refl }
  where
    all : (ds : List ℕ) → list_all (is_within 48 57) ds ≡ true → list_all (is_within 48 57) (ds ++ codes "0") ≡ true
    all [] h = refl
    all (d ∷ ds) h = let q = and_parts (is_within 48 57 d) (list_all (is_within 48 57) ds) h in and_from (is_within 48 57 d) (list_all (is_within 48 57) (ds ++ codes "0")) q.0 (all ds q.1)

    digits : (ds : List ℕ) → list_all (is_within 48 57) ds ≡ true → are_digits (ds ++ codes "0") ≡ true
    digits [] h = refl
    digits (d ∷ ds) h = all (d ∷ ds) h
part_rest encoding value h =
    let r = two_words (codes "utf-8") (codes "us-ascii") (map to_ascii_lowercase value) h refl refl in record { more = r.0; good = go r.0 r.1; text = r.2 }
  where
    is_it : (more w : List ℕ) → map to_ascii_lowercase w ≡ w → map to_ascii_lowercase value ++ more ≡ w → map to_ascii_lowercase (value ++ more) ≡ w
    is_it more w k e = lower_append value more ∙ ap (λ l. map to_ascii_lowercase value ++ l) (lower_suffix (map to_ascii_lowercase value) more w k e) ∙ e

    go : (more : List ℕ) → (map to_ascii_lowercase value ++ more ≡ codes "utf-8") ⊎ (map to_ascii_lowercase value ++ more ≡ codes "us-ascii") → is_encoding (value ++ more) ≡ true
    go more (inl e) =
        or_left (bytes_eq (map to_ascii_lowercase (value ++ more)) (codes "utf-8")) (bytes_eq (map to_ascii_lowercase (value ++ more)) (codes "us-ascii"))
        ((bytes_eq-Decides (map to_ascii_lowercase (value ++ more)) (codes "utf-8")).1 (is_it more (codes "utf-8") refl e))
    go more (inr e) =
        or_right (bytes_eq (map to_ascii_lowercase (value ++ more)) (codes "utf-8")) (bytes_eq (map to_ascii_lowercase (value ++ more)) (codes "us-ascii"))
        ((bytes_eq-Decides (map to_ascii_lowercase (value ++ more)) (codes "us-ascii")).1 (is_it more (codes "us-ascii") refl e))
part_rest standalone value h =
    let r = two_words (codes "yes") (codes "no") value h refl refl in record { more = r.0; good = go r.0 r.1; text = r.2 }
  where
    go : (more : List ℕ) → (value ++ more ≡ codes "yes") ⊎ (value ++ more ≡ codes "no") → is_standalone (value ++ more) ≡ true
    go more (inl e) = or_left (bytes_eq (value ++ more) (codes "yes")) (bytes_eq (value ++ more) (codes "no")) ((bytes_eq-Decides (value ++ more) (codes "yes")).1 e)
    go more (inr e) = or_right (bytes_eq (value ++ more) (codes "yes")) (bytes_eq (value ++ more) (codes "no")) ((bytes_eq-Decides (value ++ more) (codes "no")).1 e)

of_part : (p : Part) (at quote : ℕ) (value : List ℕ) → is_quote quote ≡ true → is_part_front p value ≡ true → Completes (in_part p quote value) at []
of_part p at quote value q front =
    let r = part_rest p value front in
    record {
      c = r.more ++ (quote ∷ codes "?><a/>");
      is_text = is_text-append r.more (quote ∷ codes "?><a/>") r.text (is_text-append (quote ∷ []) (codes "?><a/>") (quote_text quote q) refl);
      rest = λ N h. let b = body_closes N (long_in r.more (quote ∷ codes "?>") (codes "<a/>") N at h) in
          (b.0, record { more = r.more; rest = codes "?><a/>"; good = r.good; goes_on = ended N b.0 p b.1; whole = refl });
    }

abbrev part_word : Part → List ℕ
part_word version = codes "1.0"
part_word encoding = codes "utf-8"
part_word standalone = codes "yes"

part_word_good : (p : Part) → is_part_value p (part_word p) ≡ true
part_word_good version = refl
part_word_good encoding = refl
part_word_good standalone = refl

part_word_text : (p : Part) → is_text (part_word p ++ codes "\"?><a/>") ≡ true
part_word_text version = refl
part_word_text encoding = refl
part_word_text standalone = refl

of_behind_part : (p : Part) (at : ℕ) → Completes (behind_part_equals p) at []
of_behind_part p at =
    record {
      c = codes "\"" ++ (part_word p ++ codes "\"?><a/>");
      is_text = is_text-append (codes "\"") (part_word p ++ codes "\"?><a/>") refl (part_word_text p);
      rest = λ N h. let b = body_closes N (long_in (codes "\"" ++ part_word p) (codes "\"?>") (codes "<a/>") N at h) in
          (b.0, record { space = []; value = part_word p; quote = 34; rest = codes "?><a/>"; is_space = refl; quoted = refl; good = part_word_good p; goes_on = ended N b.0 p b.1; whole = refl });
    }

of_before_part : (p : Part) (at : ℕ) → Completes (before_part_equals p) at []
of_before_part p at =
    record {
      c = codes "=\"" ++ (part_word p ++ codes "\"?><a/>");
      is_text = is_text-append (codes "=\"") (part_word p ++ codes "\"?><a/>") refl (part_word_text p);
      rest = λ N h. let b = body_closes N (long_in (codes "=\"" ++ part_word p) (codes "\"?>") (codes "<a/>") N at h) in
          (b.0, record { equals = codes "="; value = part_word p; quote = 34; rest = codes "?><a/>"; is_equals = equals_sign; quoted = refl; good = part_word_good p; goes_on = ended N b.0 p b.1; whole = refl });
    }

of_declaration : (stage : Stage) (at : ℕ) (spaced : Bool) → Completes (in_declaration stage spaced) at []
of_declaration all_due at spaced =
    record {
      c = codes " version=\"1.0\"?><a/>";
      is_text = refl;
      rest = λ N h. let b = body_closes N (long (codes " version=\"1.0\"?>") (codes "<a/>") N at h) in
          (b.0, one_part all_due spaced (codes " version=\"1.0\"?><a/>") version (codes " ") (codes "=") (codes "1.0") 34 (codes "?><a/>") refl (one_space spaced) equals_sign refl refl (ended N b.0 version b.1) refl);
    }
  where
    one_space : (spaced : Bool) → SpaceOr spaced (codes " ")
    one_space true = refl
    one_space false = refl
of_declaration from_encoding at spaced =
    record {
      c = codes "?><a/>";
      is_text = refl;
      rest = λ N h. let b = body_closes N (long (codes "?>") (codes "<a/>") N at h) in (b.0, closes from_encoding spaced (codes "?><a/>") [] (codes "<a/>") refl refl b.1 refl);
    }
of_declaration from_standalone at spaced =
    record {
      c = codes "?><a/>";
      is_text = refl;
      rest = λ N h. let b = body_closes N (long (codes "?>") (codes "<a/>") N at h) in (b.0, closes from_standalone spaced (codes "?><a/>") [] (codes "<a/>") refl refl b.1 refl);
    }
of_declaration none_due at spaced =
    record {
      c = codes "?><a/>";
      is_text = refl;
      rest = λ N h. let b = body_closes N (long (codes "?>") (codes "<a/>") N at h) in (b.0, closes none_due spaced (codes "?><a/>") [] (codes "<a/>") refl refl b.1 refl);
    }

-- pieces of content

of_run : (at levels : ℕ) (e : Element) (outer : List Element) (text : List ℕ) (b : Brackets) (cr : Bool) → AreTexts (e ∷ outer) → Completes (in_run levels e outer text b cr) at []
of_run at levels e outer text b cr v =
    record {
      c = closings (e ∷ outer);
      is_text = closings_text (e ∷ outer) v;
      rest = λ N h. let r = marked_all outer levels (with_text text e) N (subst (λ l. length l ≤ N) (sym (closings_name text e outer)) (omega (arith, h))) in
          (r.0, subst (Rest (in_run levels e outer text b cr) N r.0) (closings_name text e outer) (over_comes levels e outer text b cr N r.0 (closings (with_text text e ∷ outer)) r.1));
    }

of_comment : (at : ℕ) (nesting : Nesting) (dash : Bool) → OfNesting nesting → Completes (in_comment nesting dash) at []
of_comment at nesting true v =
    record {
      c = codes "->" ++ nesting_closing nesting;
      is_text = is_text-append (codes "->") (nesting_closing nesting) refl (nesting_text nesting v);
      rest = λ N h. let r = resumed_closes nesting N (long (codes "->") (nesting_closing nesting) N at h) in
          (r.0, record { text = []; rest = 62 ∷ nesting_closing nesting; good = refl; goes_on = (nesting_closing nesting, r.1, refl); whole = refl });
    }
of_comment at nesting false v =
    record {
      c = codes "-->" ++ nesting_closing nesting;
      is_text = is_text-append (codes "-->") (nesting_closing nesting) refl (nesting_text nesting v);
      rest = λ N h. let r = resumed_closes nesting N (long (codes "-->") (nesting_closing nesting) N at h) in
          (r.0, record { text = []; rest = 62 ∷ nesting_closing nesting; good = refl; goes_on = (nesting_closing nesting, r.1, refl); whole = refl });
    }

of_bang : (at : ℕ) (nesting : Nesting) → OfNesting nesting → Completes (at_bang nesting) at []
of_bang at nesting v =
    record {
      c = codes "---->" ++ nesting_closing nesting;
      is_text = is_text-append (codes "---->") (nesting_closing nesting) refl (nesting_text nesting v);
      rest = λ N h. let r = resumed_closes nesting N (long (codes "---->") (nesting_closing nesting) N at h) in
          (r.0, bang_comment (codes "-->" ++ nesting_closing nesting) (record { text = []; rest = 62 ∷ nesting_closing nesting; good = refl; goes_on = (nesting_closing nesting, r.1, refl); whole = refl }) refl);
    }

of_instruction : (at : ℕ) (nesting : Nesting) (question : Bool) → OfNesting nesting → Completes (in_instruction nesting question) at []
of_instruction at nesting true v =
    record {
      c = codes ">" ++ nesting_closing nesting;
      is_text = is_text-append (codes ">") (nesting_closing nesting) refl (nesting_text nesting v);
      rest = λ N h. let r = resumed_closes nesting N (long (codes ">") (nesting_closing nesting) N at h) in
          (r.0, record { text = []; rest = nesting_closing nesting; good = refl; goes_on = r.1; whole = refl });
    }
of_instruction at nesting false v =
    record {
      c = codes "?>" ++ nesting_closing nesting;
      is_text = is_text-append (codes "?>") (nesting_closing nesting) refl (nesting_text nesting v);
      rest = λ N h. let r = resumed_closes nesting N (long (codes "?>") (nesting_closing nesting) N at h) in
          (r.0, record { text = []; rest = nesting_closing nesting; good = refl; goes_on = r.1; whole = refl });
    }

section_rest : (levels : ℕ) (e : Element) (outer : List Element) (text : List ℕ) (cr : Bool) (N : ℕ) → length (closings (e ∷ outer)) ≤ N
    → Some-tree (λ t. Resumed N t (within levels (with_text (text ++ line_ends_behind cr []) e) outer) (closings (e ∷ outer)))
section_rest levels e outer text cr N h =
    let nesting = within levels (with_text (text ++ line_ends_behind cr []) e) outer in
    let same = closings_name (text ++ line_ends_behind cr []) e outer in
    subst (λ l. Some-tree (λ t. Resumed N t nesting l)) same (resumed_closes nesting N (subst (λ l. length l ≤ N) (sym same) h))

of_section : (at levels : ℕ) (e : Element) (outer : List Element) (text : List ℕ) (b : Brackets) (cr : Bool) → AreTexts (e ∷ outer) → Completes (in_section levels e outer text b cr) at []
of_section at levels e outer text no_bracket cr v =
    record {
      c = codes "]]>" ++ closings (e ∷ outer);
      is_text = is_text-append (codes "]]>") (closings (e ∷ outer)) refl (closings_text (e ∷ outer) v);
      rest = λ N h. let r = section_rest levels e outer text cr N (long (codes "]]>") (closings (e ∷ outer)) N at h) in
          (r.0, record { text = []; rest = closings (e ∷ outer); good = refl; goes_on = r.1; whole = refl });
    }
of_section at levels e outer text one_bracket cr v =
    record {
      c = codes "]>" ++ closings (e ∷ outer);
      is_text = is_text-append (codes "]>") (closings (e ∷ outer)) refl (closings_text (e ∷ outer) v);
      rest = λ N h. let r = section_rest levels e outer text cr N (long (codes "]>") (closings (e ∷ outer)) N at h) in
          (r.0, record { text = []; rest = closings (e ∷ outer); good = refl; goes_on = r.1; whole = refl });
    }
of_section at levels e outer text two_brackets cr v =
    record {
      c = codes ">" ++ closings (e ∷ outer);
      is_text = is_text-append (codes ">") (closings (e ∷ outer)) refl (closings_text (e ∷ outer) v);
      rest = λ N h. let r = section_rest levels e outer text cr N (long (codes ">") (closings (e ∷ outer)) N at h) in
          (r.0, record { text = []; rest = closings (e ∷ outer); good = refl; goes_on = r.1; whole = refl });
    }

-- no name that ends in `a` is `xml`
not_xml : (name : List ℕ) → is_xml (name ++ codes "a") ≡ false
not_xml name = false_from_ne_true (is_xml (name ++ codes "a")) (λ h. go (map to_ascii_lowercase name) (sym (lower_append name (codes "a")) ∙ (bytes_eq-Decides (map to_ascii_lowercase (name ++ codes "a")) (codes "xml")).0 h))
  where
    last : ◌≡◌ {A = ℕ} 97 108 → ⊥
    last e = omega arith

    go : (l : List ℕ) → l ++ codes "a" ≡ codes "xml" → ⊥
    go [] e = no_list 109 (108 ∷ []) cc
    go (x ∷ []) e = no_list 108 [] cc
    go (x ∷ y ∷ []) e = last cc
    go (x ∷ y ∷ z ∷ l) e = nothing l cc
      where
        nothing : (l : List ℕ) → l ++ codes "a" ≡ [] → ⊥
        nothing [] e = no_list 97 [] e
        nothing (w ∷ l) e = no_list w (l ++ codes "a") e

of_target : (at : ℕ) (first : Bool) (nesting : Nesting) (name p : List ℕ) → OfNesting nesting → MaybeName name p → Completes (in_target first nesting name) at []
of_target at first nesting name p v m =
    record {
      c = codes "a?>" ++ nesting_closing nesting;
      is_text = is_text-append (codes "a?>") (nesting_closing nesting) refl (nesting_text nesting v);
      rest = λ N h. let r = resumed_closes nesting N (long (codes "a?>") (nesting_closing nesting) N at h) in
          (r.0, names_instruction (codes "a") [] (nesting_closing nesting) (is_name name m) (not_xml name) refl r.1 refl);
    }
  where
    is_name : (name : List ℕ) → MaybeName name p → Name (name ++ codes "a")
    is_name [] m = refl
    is_name (n ∷ ns) m = name_more n ns 97 m refl

of_markup : (at : ℕ) (first : Bool) (nesting : Nesting) (begin : ℕ) → OfNesting nesting → at ≡ suc begin → Completes (at_markup first nesting begin) at []
of_markup at first before begin v i =
    record {
      c = codes "a/>";
      is_text = refl;
      rest = λ N h. let e = named (codes "a") begin in (
        e,
        (
          omega (arith, i, h),
          begun (a_tag before (codes "<a/>") 255 [] e (codes "<a") (codes "/>") refl
              (record { name = codes "a"; attributes = []; is_name = refl; are_attributes = none e e [] refl refl; whole = refl }) (closes_empty [] (refl, nothing [] refl) refl) refl),
        ),
      );
    }
of_markup at first (within levels e outer) begin v i =
    let c = codes "/" ++ (e.name ++ (codes ">" ++ closings outer)) in
    record {
      c = c;
      is_text = is_text-append (codes "/") (e.name ++ (codes ">" ++ closings outer)) refl (is_text-append e.name (codes ">" ++ closings outer) v.0 (is_text-append (codes ">") (closings outer) refl (closings_text outer v.1)));
      rest = λ N h. let r = behind_closes outer (suc levels) e N (long_in (codes "/" ++ e.name) (codes ">") (closings outer) N at (ap (λ l. at + length l) (append_assoc (codes "/") e.name (codes ">" ++ closings outer)) ∙ h)) in (
        r.0,
        (
          omega (arith, i, h),
          begun (an_end (within levels e outer) (60 ∷ c) levels e outer (codes "</" ++ (e.name ++ codes ">")) (closings outer) refl ([], refl, refl) r.1
              (ap (λ l. codes "</" ++ l) (sym (append_assoc e.name (codes ">") (closings outer))))),
        ),
      );
    }
of_markup at first (behind root) begin v i =
    record {
      c = codes "!---->";
      is_text = refl;
      rest = λ N h. (root, (omega (arith, i, h), begun (a_comment (behind root) (codes "<!---->") (codes "<!---->") [] ([], refl, refl) (refl, nothing [] refl) refl)));
    }

-- a state with no open bytes

whole_nesting : (N at : ℕ) → at + 4 ≡ N → 4 ≤ N
whole_nesting N at h = omega arith

pub completes : (s : State) (at : ℕ) → IsViable s at [] → Completes s at []
completes at_start at v =
    record { c = codes "<a/>"; is_text = refl; rest = λ N h. let b = body_closes N (whole_nesting N at h) in (b.0, ([], codes "<a/>", tt, ([], codes "<a/>", tt, b.1, refl), refl)) }
completes (outside true) at v = record { c = codes "<a/>"; is_text = refl; rest = λ N h. let b = body_closes N (whole_nesting N at h) in (b.0, ([], codes "<a/>", tt, b.1, refl)) }
completes (outside false) at v = record { c = codes "<a/>"; is_text = refl; rest = λ N h. body_closes N (whole_nesting N at h) }
completes (at_end root) at v = record { c = []; is_text = refl; rest = λ N h. (root, (refl, nothing [] refl)) }
completes (in_run levels e outer text b cr) at v = of_run at levels e outer text b cr v.0
completes (at_markup first nesting begin) at v = of_markup at first nesting begin v.0 v.2
completes (at_bang nesting) at v = of_bang at nesting v.0
completes (in_comment nesting dash) at v = of_comment at nesting dash v
completes (in_target first nesting name) at v = of_target at first nesting name [] v.0 v.1
completes (in_instruction nesting question) at v = of_instruction at nesting question v
completes (in_section levels e outer text b cr) at v = of_section at levels e outer text b cr v.0
completes (in_name levels outer begin name) at v = of_name levels outer at begin name v.0 v.1
completes (in_tag levels outer e spaced) at v = of_tag levels outer at e spaced v.0.1
completes (in_attribute levels outer e name) at v = of_attribute levels outer at e name v.0.1 v.1
completes (before_equals levels outer e name) at v = of_before levels outer at e name v.0.1
completes (behind_equals levels outer e name) at v = of_behind levels outer at e name v.0.1
completes (in_value levels outer e name quote value cr) at v = of_in_value levels outer at e name quote value cr v.0.texts.1 v.0.quoted
completes (at_reference holder) at v = of_reference holder at v.0
completes (in_entity holder part) at v = of_entity holder at part v.0 v.3
completes (at_number holder) at v = of_at_number holder at v.0
completes (in_number holder base n any) at v = of_number holder at base n any v.0 v.2
completes (due left s) at v =
    let r = completes s (at + length left) (v.2 (at + length left)) in
    record {
      c = left ++ r.c;
      is_text = is_text-append left r.c v.1 r.is_text;
      rest = λ N h. let q = r.rest N (omega (arith, h, length-append left r.c)) in (q.0, (r.c, q.1, refl));
    }
completes (in_end levels e outer) at v =
    record {
      c = codes ">" ++ closings outer;
      is_text = is_text-append (codes ">") (closings outer) refl (closings_text outer v.0);
      rest = λ N h. let r = behind_closes outer (suc levels) e N (long (codes ">") (closings outer) N at h) in (r.0, ([], closings outer, refl, r.1, refl));
    }
completes (in_declaration stage spaced) at v = of_declaration stage at spaced
completes (before_part_equals part) at v = of_before_part part at
completes (behind_part_equals part) at v = of_behind_part part at
completes (in_part part quote value) at v = of_part part at quote value v.1 v.2
