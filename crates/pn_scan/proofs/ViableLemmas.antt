-- What holds of a state holds of the next.
use Rattle.std.proofs.Common.{◌≡◌, ◌⊎◌, inl, inr, ℕ, zero, suc, ◌+◌, ◌*◌, ◌≤◌, ◌<◌, nat_lt, nat_le, Bool, true, false, cond, ◌&&◌, ◌||◌, ◌==◌, List, [], ◌∷◌, ◌++◌, codes, Option, Some, None, is_none, refl, sym, ◌∙◌, subst, append-nil, arith}
use Rattle.std.specs.List.{list_all}
use Rattle.std.specs.Char.{digit_value}
use Rattle.std.specs.Str.{bytes_eq}
use Rattle.std.proofs.lemmas.Bool.{false≢true, cond_both, and_parts, and_from, or_cases, eqb-true, ltb-true, leb-true}
use Rattle.std.proofs.lemmas.Bool.Decides.{nat_tests}
use Rattle.pn_text.specs.Characters.{is_name_start, is_name_part, is_character, utf8_of, is_text}
use Rattle.pn_tree.specs.Building.{with_text, with_attr}
use Rattle.pn_tree.specs.Elements.{attr_value}
use Rattle.pn_tree.specs.declared.element.Element.{Element}
use Rattle.pn_text.proofs.TextLemmas.{is_text-append, is_text-character}
use Rattle.pn_markup.specs.Bytes.{is_space, is_quote, begins_with, Name}
use Rattle.pn_markup.specs.Misc.{is_xml}
use Rattle.pn_markup.specs.References.{Entity, entity_text, is_digit}
use Rattle.pn_markup.specs.Tags.{named}
use Rattle.pn_scan.specs.State.{Nesting, before, within, behind, Holder, of_content, of_value, Part, version, encoding, standalone, Stage, all_due, Brackets, no_bracket, one_bracket, two_brackets, State, at_start, outside, at_end, in_run, at_markup, at_bang, in_comment, in_target, in_instruction, in_section, in_name, in_tag, in_attribute, before_equals, behind_equals, in_value, at_reference, in_entity, at_number, in_number, due, in_end, in_declaration, before_part_equals, behind_part_equals, in_part, behind_element, behind_piece, behind_reference, room_at}
use Rattle.pn_scan.specs.Rest.{brackets, may_come, may_end, stage_behind, is_part_value}
use Rattle.pn_scan.specs.NextState.{next_state, goes_due, next_outside, line_text, space_text, are_two, brackets_behind, next_in_run, end_begins, name_begins, next_at_markup, section_begins, next_at_bang, next_in_comment, is_before, next_in_target, next_in_instruction, bracket_in, cr_behind, next_in_section, next_in_tag, next_before_equals, next_behind_equals, next_in_value, entity_of, is_entity_front, entity_found, next_in_entity, next_in_number, next_due, part_begins, next_in_declaration, is_part_front, next_in_part}
use Rattle.pn_utf8.specs.Characters.{open_behind, AreOpen, Cut}
use Rattle.pn_scan.specs.Viable.{IsViable, AreTexts, OfNesting, OfName, OfValue, OfHolder, MaybeName, AreWhole, OfNumber}
use Rattle.pn_scan.proofs.Spans.{all_first, all_append_right, name_more}
use Rattle.pn_scan.proofs.PieceLemmas.{some_is}
use Rattle.pn_scan.proofs.PartLemmas.{begins_all, front_ascii}
use Rattle.pn_scan.proofs.ReferenceLaws.{full-entity_of, front_true}
use Rattle.pn_utf8.proofs.TextLemmas.{text_goes, cut_next, cut_text, text_cut, ascii_alone, open_text, open_still}
use Rattle.pn_scan.proofs.ElementLemmas.{name_kept}
use Rattle.pn_markup.proofs.CutLemmas.{entity_is_text}

-- what holds of the state that comes next, if one does
abbrev pub Keeps : Option State → ℕ → List ℕ → Type 0
Keeps None at p = Unit {0}
Keeps (Some s) at p = IsViable s at p

keep_if : (b : Bool) (o q : Option State) (at : ℕ) (p : List ℕ) → (b ≡ true → Keeps o at p) → (b ≡ false → Keeps q at p) → Keeps (cond b o q) at p
keep_if b o q at p f g = cond_both b o q (λ r. Keeps r at p) f g

no_text : Cut [] []
no_text = ([], refl, refl)

-- behind a piece of content, an element, a reference

behind_piece_keeps : (nesting : Nesting) → OfNesting nesting → (n : ℕ) → IsViable (behind_piece nesting) n []
behind_piece_keeps before v n = refl
behind_piece_keeps (within levels e outer) v n = (v, no_text)
behind_piece_keeps (behind root) v n = refl

behind_element_keeps : (levels : ℕ) (outer : List Element) (e : Element) → AreTexts outer → (n : ℕ) → IsViable (behind_element levels outer e) n []
behind_element_keeps levels [] e v n = refl
behind_element_keeps levels (p ∷ ps) e v n = (v, no_text)

with_text_keeps : (text : List ℕ) (e : Element) (outer : List Element) → AreTexts (e ∷ outer) → AreTexts (with_text text e ∷ outer)
with_text_keeps text e outer v = (subst (λ l. is_text l ≡ true) (sym (name_kept text e)) v.0, v.1)

behind_reference_keeps : (holder : Holder) (text : List ℕ) → OfHolder holder → is_text text ≡ true → (n : ℕ) → IsViable (behind_reference holder text) n []
behind_reference_keeps (of_content levels e outer) text v h n = (with_text_keeps text e outer v, no_text)
behind_reference_keeps (of_value levels outer e name quote value) text v h n = (v.0, text_cut (value ++ text) (is_text-append value text v.1 h))

goes_due_keeps : (left : List ℕ) (s : State) (at : ℕ) (p : List ℕ) → AreOpen p → is_text (p ++ left) ≡ true → ((n : ℕ) → IsViable s n []) → IsViable (goes_due left s) at p
goes_due_keeps [] s at p o h f = subst (IsViable s at) (sym (open_text p o (subst (λ l. is_text l ≡ true) (append-nil p) h))) (f at)
goes_due_keeps (b ∷ bs) s at p o h f = ((λ e. absurd cc), h, f)

due_keeps : (b : ℕ) (bs : List ℕ) (s : State) (at : ℕ) (p : List ℕ) → p ≡ [] → is_text (b ∷ bs) ≡ true → ((n : ℕ) → IsViable s n []) → IsViable (due (b ∷ bs) s) at p
due_keeps b bs s at p e h f = ((λ k. absurd cc), subst (λ l. is_text (l ++ (b ∷ bs)) ≡ true) (sym e) h, f)

-- bytes of ASCII

space_ascii : (x : ℕ) → is_space x ≡ true → x < 0x80
space_ascii x h = grind (arith, nat_tests)

quote_ascii : (x : ℕ) → is_quote x ≡ true → x < 0x80
quote_ascii x h = grind (arith, nat_tests)

other_ascii : (x : ℕ) → is_name_part x ≡ false → x < 0x80
other_ascii x h = grind (arith, nat_tests)

digit_ascii : (base x : ℕ) → base ≤ 16 → is_digit base x ≡ true → x < 0x80
digit_ascii base x b h = grind (arith, nat_tests)

entity_ascii : (part : List ℕ) (x : ℕ) → is_entity_front (part ++ (x ∷ [])) ≡ true → x < 0x80
entity_ascii part x h =
    ltb-true x 0x80 (all_first (λ y. nat_lt y 0x80) x [] (all_append_right (λ y. nat_lt y 0x80) part (x ∷ []) (one_of (part ++ (x ∷ [])) h)))
  where
    one_of : (q : List ℕ) → is_entity_front q ≡ true → list_all (λ y. nat_lt y 0x80) q ≡ true
    one_of q h = go1 (or_cases (begins_with q (codes "lt;")) (begins_with q (codes "gt;") || (begins_with q (codes "amp;") || (begins_with q (codes "apos;") || begins_with q (codes "quot;")))) h)
      where
        one : (word : List ℕ) → list_all (λ y. nat_lt y 0x80) word ≡ true → begins_with q word ≡ true → list_all (λ y. nat_lt y 0x80) q ≡ true
        one word i k = begins_all (λ y. nat_lt y 0x80) q word i k

        go4 : (begins_with q (codes "apos;") ≡ true) ⊎ (begins_with q (codes "quot;") ≡ true) → list_all (λ y. nat_lt y 0x80) q ≡ true
        go4 (inl k) = one (codes "apos;") refl k
        go4 (inr k) = one (codes "quot;") refl k

        go3 : (begins_with q (codes "amp;") ≡ true) ⊎ ((begins_with q (codes "apos;") || begins_with q (codes "quot;")) ≡ true) → list_all (λ y. nat_lt y 0x80) q ≡ true
        go3 (inl k) = one (codes "amp;") refl k
        go3 (inr k) = go4 (or_cases (begins_with q (codes "apos;")) (begins_with q (codes "quot;")) k)

        go2 : (begins_with q (codes "gt;") ≡ true) ⊎ ((begins_with q (codes "amp;") || (begins_with q (codes "apos;") || begins_with q (codes "quot;"))) ≡ true) → list_all (λ y. nat_lt y 0x80) q ≡ true
        go2 (inl k) = one (codes "gt;") refl k
        go2 (inr k) = go3 (or_cases (begins_with q (codes "amp;")) (begins_with q (codes "apos;") || begins_with q (codes "quot;")) k)

        go1 : (begins_with q (codes "lt;") ≡ true) ⊎ ((begins_with q (codes "gt;") || (begins_with q (codes "amp;") || (begins_with q (codes "apos;") || begins_with q (codes "quot;")))) ≡ true)
            → list_all (λ y. nat_lt y 0x80) q ≡ true
        go1 (inl k) = one (codes "lt;") refl k
        go1 (inr k) = go2 (or_cases (begins_with q (codes "gt;")) (begins_with q (codes "amp;") || (begins_with q (codes "apos;") || begins_with q (codes "quot;"))) k)

module _ (at : ℕ) (p : List ℕ) (x : ℕ) (o : List ℕ) (taken : open_behind p x ≡ Some o) (is_open : AreOpen p) where
  -- at a byte of ASCII nothing is open before and behind it
  ascii : (k : ℕ) → (x == k) ≡ true → nat_lt k 0x80 ≡ true → o ≡ []
  ascii k h l = (ascii_alone p x o (let e : x ≡ k = eqb-true x k h in let b : k < 0x80 = ltb-true k 0x80 l in omega arith) taken).1

  ascii_before : (k : ℕ) → (x == k) ≡ true → nat_lt k 0x80 ≡ true → p ≡ []
  ascii_before k h l = (ascii_alone p x o (let e : x ≡ k = eqb-true x k h in let b : k < 0x80 = ltb-true k 0x80 l in omega arith) taken).0

  closed : x < 0x80 → o ≡ []
  closed h = (ascii_alone p x o h taken).1

  -- a byte of a run, and of a value

  cut_same : (b : List ℕ) → x < 0x80 → Cut b p → Cut b o
  cut_same b h c = let a = ascii_alone p x o h taken in subst (Cut b) (a.0 ∙ sym a.1) c

  cut_more : (b more : List ℕ) → x < 0x80 → is_text more ≡ true → Cut b p → Cut (b ++ more) o
  cut_more b more h m c =
      let a = ascii_alone p x o h taken in subst (Cut (b ++ more)) (sym a.1) (text_cut (b ++ more) (is_text-append b more (cut_text b (subst (Cut b) a.0 c)) m))

  line_keeps : (cr : Bool) (b : List ℕ) → Cut b p → Cut (b ++ line_text cr x) o
  line_keeps cr b c = go (x == 13) refl ((x == 10) && cr) refl
    where
      go : (s : Bool) → (x == 13) ≡ s → (t : Bool) → ((x == 10) && cr) ≡ t → Cut (b ++ cond s (10 ∷ []) (cond t [] (x ∷ []))) o
      go true h t k = cut_more b (10 ∷ []) (let e : x ≡ 13 = eqb-true x 13 h in omega arith) refl c
      go false h true k = cut_more b [] (let e : x ≡ 10 = eqb-true x 10 (and_parts (x == 10) cr k).0 in omega arith) refl c
      go false h false k = cut_next b p x o taken c

  space_keeps : (cr : Bool) (b : List ℕ) → Cut b p → Cut (b ++ space_text cr x) o
  space_keeps cr b c = go (x == 13) refl ((x == 10) && cr) refl (is_space x) refl
    where
      go : (s : Bool) → (x == 13) ≡ s → (t : Bool) → ((x == 10) && cr) ≡ t → (u : Bool) → is_space x ≡ u → Cut (b ++ cond s (32 ∷ []) (cond t [] (cond u 32 x ∷ []))) o
      go true h t k u l = cut_more b (32 ∷ []) (let e : x ≡ 13 = eqb-true x 13 h in omega arith) refl c
      go false h true k u l = cut_more b [] (let e : x ≡ 10 = eqb-true x 10 (and_parts (x == 10) cr k).0 in omega arith) refl c
      go false h false k true l = cut_more b (32 ∷ []) (space_ascii x l) refl c
      go false h false k false l = cut_next b p x o taken c

  -- the first byte of a name
  begins_name : is_name_start x ≡ true → p ≡ [] → Name (x ∷ []) × Cut (x ∷ []) o
  begins_name h e = (and_from (is_name_start x) true h refl, cut_next [] p x o taken (subst (Cut []) (sym e) no_text))

  -- one more byte of a name
  name_goes : (name : List ℕ) → Name name → is_name_part x ≡ true → Name (name ++ (x ∷ []))
  name_goes [] n h = absurd (false≢true n)
  name_goes (y ∷ ys) n h = name_more y ys x n h

  keep_outside : (first : Bool) → Keeps (next_outside first at x) (suc at) o
  keep_outside first =
      keep_if (is_space x) (Some (outside false)) (cond (x == 60) (Some (at_markup first before at)) None) (suc at) o
      (λ h. closed (space_ascii x h))
      (λ h. keep_if (x == 60) (Some (at_markup first before at)) None (suc at) o (λ k. (tt, ascii 60 k refl, refl)) (λ k. tt))

  keep_run : (levels : ℕ) (e : Element) (outer : List Element) (text : List ℕ) (b : Brackets) (cr : Bool) → AreTexts (e ∷ outer) → Cut text p → Keeps (next_in_run levels e outer text b cr at x) (suc at) o
  keep_run levels e outer text b cr v c =
      let markup = Some (at_markup false (within levels (with_text text e) outer) at) in
      let ref = Some (at_reference (of_content levels (with_text text e) outer)) in
      let more = Some (in_run levels e outer (text ++ line_text cr x) (brackets_behind b x) (x == 13)) in
      keep_if (x == 60) markup (cond (x == 38) ref (cond ((x == 62) && are_two b) None more)) (suc at) o
      (λ h. (with_text_keeps text e outer v, ascii 60 h refl, refl))
      (λ h. keep_if (x == 38) ref (cond ((x == 62) && are_two b) None more) (suc at) o
      (λ k. (with_text_keeps text e outer v, ascii 38 k refl))
      (λ k. keep_if ((x == 62) && are_two b) None more (suc at) o (λ l. tt) (λ l. (v, line_keeps cr text c))))

  keep_end_begins : (nesting : Nesting) → OfNesting nesting → o ≡ [] → Keeps (end_begins nesting) (suc at) o
  keep_end_begins before v e = tt
  keep_end_begins (behind root) v e = tt
  keep_end_begins (within levels f outer) v e =
      goes_due_keeps f.name (in_end levels f outer) (suc at) o (subst AreOpen (sym e) tt) (subst (λ l. is_text (l ++ f.name) ≡ true) (sym e) v.0) (λ n. (v.1, refl))

  keep_name_begins : (nesting : Nesting) (begin : ℕ) → OfNesting nesting → is_name_start x ≡ true → p ≡ [] → Keeps (name_begins (room_at nesting) begin x) (suc at) o
  keep_name_begins before begin v h e = let b = begins_name h e in (tt, b.0, b.1)
  keep_name_begins (within zero f outer) begin v h e = tt
  keep_name_begins (within (suc levels) f outer) begin v h e = let b = begins_name h e in (v, b.0, b.1)
  keep_name_begins (behind root) begin v h e = tt

  keep_markup : (first : Bool) (nesting : Nesting) (begin : ℕ) → OfNesting nesting → p ≡ [] → Keeps (next_at_markup first nesting begin x) (suc at) o
  keep_markup first nesting begin v e =
      let name = cond (is_name_start x) (name_begins (room_at nesting) begin x) None in
      keep_if (x == 33) (Some (at_bang nesting)) (cond (x == 63) (Some (in_target first nesting [])) (cond (x == 47) (end_begins nesting) name)) (suc at) o
      (λ h. (v, ascii 33 h refl))
      (λ h. keep_if (x == 63) (Some (in_target first nesting [])) (cond (x == 47) (end_begins nesting) name) (suc at) o
      (λ k. (v, ascii 63 k refl))
      (λ k. keep_if (x == 47) (end_begins nesting) name (suc at) o
      (λ l. keep_end_begins nesting v (ascii 47 l refl))
      (λ l. keep_if (is_name_start x) (name_begins (room_at nesting) begin x) None (suc at) o (λ m. keep_name_begins nesting begin v m e) (λ m. tt))))

  keep_section_begins : (nesting : Nesting) → OfNesting nesting → o ≡ [] → Keeps (section_begins nesting) (suc at) o
  keep_section_begins before v e = tt
  keep_section_begins (behind root) v e = tt
  keep_section_begins (within levels f outer) v e = due_keeps 67 (codes "DATA[") (in_section levels f outer [] no_bracket false) (suc at) o e refl (λ n. (v, no_text, tt))

  keep_bang : (nesting : Nesting) → OfNesting nesting → Keeps (next_at_bang nesting x) (suc at) o
  keep_bang nesting v =
      keep_if (x == 45) (Some (due (codes "-") (in_comment nesting false))) (cond (x == 91) (section_begins nesting) None) (suc at) o
      (λ h. due_keeps 45 [] (in_comment nesting false) (suc at) o (ascii 45 h refl) refl (λ n. v))
      (λ h. keep_if (x == 91) (section_begins nesting) None (suc at) o (λ k. keep_section_begins nesting v (ascii 91 k refl)) (λ k. tt))

  keep_comment : (nesting : Nesting) (dash : Bool) → OfNesting nesting → Keeps (next_in_comment nesting dash x) (suc at) o
  keep_comment nesting true v =
      keep_if (x == 45) (Some (due (codes ">") (behind_piece nesting))) (Some (in_comment nesting false)) (suc at) o
      (λ h. due_keeps 62 [] (behind_piece nesting) (suc at) o (ascii 45 h refl) refl (behind_piece_keeps nesting v)) (λ h. v)
  keep_comment nesting false v = keep_if (x == 45) (Some (in_comment nesting true)) (Some (in_comment nesting false)) (suc at) o (λ h. v) (λ h. v)

  keep_target : (first : Bool) (nesting : Nesting) (name : List ℕ) → OfNesting nesting → MaybeName name p → Keeps (next_in_target first nesting name x) (suc at) o
  keep_target first nesting [] v m =
      keep_if (is_name_start x) (Some (in_target first nesting (x ∷ []))) None (suc at) o (λ h. (v, (begins_name h m).0)) (λ h. tt)
  keep_target first nesting (n ∷ ns) v m =
      let name = n ∷ ns in
      let closed_so = due (codes ">") (behind_piece nesting) in
      let others = cond (is_xml name) None (cond (is_space x) (Some (in_instruction nesting false)) (cond (x == 63) (Some closed_so) None)) in
      let declares = is_space x && (first && (is_before nesting && bytes_eq name (codes "xml"))) in
      keep_if (is_name_part x) (Some (in_target first nesting (name ++ (x ∷ [])))) (cond declares (Some (in_declaration all_due true)) others) (suc at) o
      (λ h. (v, name_more n ns x m h))
      (λ h. keep_if declares (Some (in_declaration all_due true)) others (suc at) o
      (λ k. closed (space_ascii x (and_parts (is_space x) (first && (is_before nesting && bytes_eq name (codes "xml"))) k).0))
      (λ k. keep_if (is_xml name) None (cond (is_space x) (Some (in_instruction nesting false)) (cond (x == 63) (Some closed_so) None)) (suc at) o
      (λ l. tt)
      (λ l. keep_if (is_space x) (Some (in_instruction nesting false)) (cond (x == 63) (Some closed_so) None) (suc at) o
      (λ s. v)
      (λ s. keep_if (x == 63) (Some closed_so) None (suc at) o
      (λ q. due_keeps 62 [] (behind_piece nesting) (suc at) o (ascii 63 q refl) refl (behind_piece_keeps nesting v)) (λ q. tt)))))

  keep_instruction : (nesting : Nesting) (question : Bool) → OfNesting nesting → Keeps (next_in_instruction nesting question x) (suc at) o
  keep_instruction nesting true v =
      keep_if (x == 62) (Some (behind_piece nesting)) (cond (x == 63) (Some (in_instruction nesting true)) (Some (in_instruction nesting false))) (suc at) o
      (λ h. subst (IsViable (behind_piece nesting) (suc at)) (sym (ascii 62 h refl)) (behind_piece_keeps nesting v (suc at)))
      (λ h. keep_if (x == 63) (Some (in_instruction nesting true)) (Some (in_instruction nesting false)) (suc at) o (λ k. v) (λ k. v))
  keep_instruction nesting false v = keep_if (x == 63) (Some (in_instruction nesting true)) (Some (in_instruction nesting false)) (suc at) o (λ h. v) (λ h. v)

  keep_bracket : (levels : ℕ) (e : Element) (outer : List Element) (text : List ℕ) (b : Brackets) (cr : Bool) → AreTexts (e ∷ outer) → Cut text p → (x == 93) ≡ true
      → IsViable (bracket_in levels e outer text b cr) (suc at) o
  keep_bracket levels e outer text no_bracket cr v c h = (v, cut_same text (let i : x ≡ 93 = eqb-true x 93 h in omega arith) c, ascii 93 h refl)
  keep_bracket levels e outer text one_bracket cr v c h = (v, cut_same text (let i : x ≡ 93 = eqb-true x 93 h in omega arith) c, ascii 93 h refl)
  keep_bracket levels e outer text two_brackets cr v c h = (v, cut_more text (93 ∷ []) (let i : x ≡ 93 = eqb-true x 93 h in omega arith) refl c, ascii 93 h refl)

  cut_brackets : (text : List ℕ) (b : Brackets) → Cut text p → AreWhole b p → Cut (text ++ brackets b) p
  cut_brackets text no_bracket c w = subst (λ l. Cut l p) (sym (append-nil text)) c
  cut_brackets text one_bracket c w = subst (Cut (text ++ codes "]")) (sym w) (text_cut (text ++ codes "]") (is_text-append text (codes "]") (cut_text text (subst (Cut text) w c)) refl))
  cut_brackets text two_brackets c w = subst (Cut (text ++ codes "]]")) (sym w) (text_cut (text ++ codes "]]") (is_text-append text (codes "]]") (cut_text text (subst (Cut text) w c)) refl))

  keep_section : (levels : ℕ) (e : Element) (outer : List Element) (text : List ℕ) (b : Brackets) (cr : Bool) → AreTexts (e ∷ outer) → Cut text p → AreWhole b p
      → Keeps (next_in_section levels e outer text b cr x) (suc at) o
  keep_section levels e outer text b cr v c w =
      let ended = Some (behind_piece (within levels (with_text text e) outer)) in
      let more = Some (in_section levels e outer ((text ++ brackets b) ++ line_text (cr_behind b cr) x) no_bracket (x == 13)) in
      keep_if (x == 93) (Some (bracket_in levels e outer text b cr)) (cond ((x == 62) && are_two b) ended more) (suc at) o
      (λ h. keep_bracket levels e outer text b cr v c h)
      (λ h. keep_if ((x == 62) && are_two b) ended more (suc at) o
      (λ k. (with_text_keeps text e outer v, subst (Cut []) (sym (ascii 62 (and_parts (x == 62) (are_two b) k).0 refl)) no_text))
      (λ k. (v, line_keeps (cr_behind b cr) (text ++ brackets b) (cut_brackets text b c w), tt)))

  keep_tag : (levels : ℕ) (outer : List Element) (e : Element) (spaced : Bool) → AreTexts (e ∷ outer) → p ≡ [] → Keeps (next_in_tag levels outer e spaced x) (suc at) o
  keep_tag levels outer e spaced v q =
      let slash = Some (due (codes ">") (behind_element (suc levels) outer e)) in
      let begins = Some (in_attribute levels outer e (x ∷ [])) in
      keep_if (is_space x) (Some (in_tag levels outer e true)) (cond (x == 47) slash (cond (x == 62) (Some (in_run levels e outer [] no_bracket false)) (cond (spaced && is_name_start x) begins None))) (suc at) o
      (λ h. (v, closed (space_ascii x h)))
      (λ h. keep_if (x == 47) slash (cond (x == 62) (Some (in_run levels e outer [] no_bracket false)) (cond (spaced && is_name_start x) begins None)) (suc at) o
      (λ k. due_keeps 62 [] (behind_element (suc levels) outer e) (suc at) o (ascii 47 k refl) refl (behind_element_keeps (suc levels) outer e v.1))
      (λ k. keep_if (x == 62) (Some (in_run levels e outer [] no_bracket false)) (cond (spaced && is_name_start x) begins None) (suc at) o
      (λ l. (v, subst (Cut []) (sym (ascii 62 l refl)) no_text))
      (λ l. keep_if (spaced && is_name_start x) begins None (suc at) o
      (λ m. let b = begins_name (and_parts spaced (is_name_start x) m).1 q in (v, b.0, b.1)) (λ m. tt))))

  keep_name : (levels : ℕ) (outer : List Element) (begin : ℕ) (name : List ℕ) → AreTexts outer → Name name → Cut name p → Keeps (next_state (in_name levels outer begin name) at x) (suc at) o
  keep_name levels outer begin name v n c =
      keep_if (is_name_part x) (Some (in_name levels outer begin (name ++ (x ∷ [])))) (next_in_tag levels outer (named name begin) false x) (suc at) o
      (λ h. (v, name_goes name n h, cut_next name p x o taken c))
      (λ h. let q = (ascii_alone p x o (other_ascii x h) taken).0 in keep_tag levels outer (named name begin) false (cut_text name (subst (Cut name) q c), v) q)

  keep_equals : (levels : ℕ) (outer : List Element) (e : Element) (name : List ℕ) → AreTexts (e ∷ outer) → OfName e name → Keeps (next_before_equals levels outer e name x) (suc at) o
  keep_equals levels outer e name v n =
      keep_if (is_space x) (Some (before_equals levels outer e name)) (cond (x == 61) (Some (behind_equals levels outer e name)) None) (suc at) o
      (λ h. (v, n, closed (space_ascii x h)))
      (λ h. keep_if (x == 61) (Some (behind_equals levels outer e name)) None (suc at) o (λ k. (v, n, ascii 61 k refl)) (λ k. tt))

  none_true : {A : Type 0} (q : Option A) → is_none q ≡ true → q ≡ None
  none_true None h = refl
  none_true (Some a) h = absurd (false≢true h)

  keep_attribute : (levels : ℕ) (outer : List Element) (e : Element) (name : List ℕ) → AreTexts (e ∷ outer) → Name name → Cut name p → Keeps (next_state (in_attribute levels outer e name) at x) (suc at) o
  keep_attribute levels outer e name v n c =
      keep_if (is_name_part x) (Some (in_attribute levels outer e (name ++ (x ∷ [])))) (cond (is_none (attr_value name e.attrs)) (next_before_equals levels outer e name x) None) (suc at) o
      (λ h. (v, name_goes name n h, cut_next name p x o taken c))
      (λ h. keep_if (is_none (attr_value name e.attrs)) (next_before_equals levels outer e name x) None (suc at) o
      (λ k. let q = (ascii_alone p x o (other_ascii x h) taken).0 in
      keep_equals levels outer e name v (record { is_name = n; is_text = cut_text name (subst (Cut name) q c); is_new = none_true (attr_value name e.attrs) k }))
      (λ k. tt))

  keep_quote : (levels : ℕ) (outer : List Element) (e : Element) (name : List ℕ) → AreTexts (e ∷ outer) → OfName e name → Keeps (next_behind_equals levels outer e name x) (suc at) o
  keep_quote levels outer e name v n =
      keep_if (is_space x) (Some (behind_equals levels outer e name)) (cond (is_quote x) (Some (in_value levels outer e name x [] false)) None) (suc at) o
      (λ h. (v, n, closed (space_ascii x h)))
      (λ h. keep_if (is_quote x) (Some (in_value levels outer e name x [] false)) None (suc at) o
      (λ k. (record { texts = v; attribute = n; quoted = k }, subst (Cut []) (sym (closed (quote_ascii x k))) no_text)) (λ k. tt))

  keep_value : (levels : ℕ) (outer : List Element) (e : Element) (name : List ℕ) (quote : ℕ) (value : List ℕ) (cr : Bool) → OfValue outer e name quote → Cut value p
      → Keeps (next_in_value levels outer e name quote value cr x) (suc at) o
  keep_value levels outer e name quote value cr v c =
      let tag = Some (in_tag levels outer (with_attr name value e) false) in
      let ref = Some (at_reference (of_value levels outer e name quote value)) in
      let more = Some (in_value levels outer e name quote (value ++ space_text cr x) (x == 13)) in
      keep_if (x == quote) tag (cond (x == 60) None (cond (x == 38) ref more)) (suc at) o
      (λ h. (v.texts, closed (quote_ascii x (subst (λ y. is_quote y ≡ true) (sym (eqb-true x quote h)) v.quoted))))
      (λ h. keep_if (x == 60) None (cond (x == 38) ref more) (suc at) o (λ k. tt)
      (λ k. keep_if (x == 38) ref more (suc at) o
      (λ l. ((v, cut_text value (subst (Cut value) (ascii_before 38 l refl) c)), ascii 38 l refl))
      (λ l. (v, space_keeps cr value c))))

  keep_entity : (holder : Holder) (part : List ℕ) → OfHolder holder → Keeps (next_in_entity holder part x) (suc at) o
  keep_entity holder part v = go (entity_of (part ++ (x ∷ []))) refl
    where
      go : (q : Option Entity) → entity_of (part ++ (x ∷ [])) ≡ q → Keeps (entity_found holder (part ++ (x ∷ [])) q) (suc at) o
      go (Some e) h =
          let front = front_true (part ++ (x ∷ [])) e [] (append-nil (part ++ (x ∷ [])) ∙ full-entity_of (part ++ (x ∷ [])) e h) in
          subst (IsViable (behind_reference holder (entity_text e)) (suc at)) (sym (closed (entity_ascii part x front))) (behind_reference_keeps holder (entity_text e) v (entity_is_text e) (suc at))
      go None h =
          keep_if (is_entity_front (part ++ (x ∷ []))) (Some (in_entity holder (part ++ (x ∷ [])))) None (suc at) o
          (λ k. (v, closed (entity_ascii part x k), h, k)) (λ k. tt)

  keep_number : (holder : Holder) (base n : ℕ) (any : Bool) → OfHolder holder → OfNumber base n any → Keeps (next_in_number holder base n any x) (suc at) o
  keep_number holder base n any v m =
      let next = n * base + digit_value x in
      let done = Some (behind_reference holder (utf8_of n)) in
      keep_if (is_digit base x) (cond (nat_le next 0x10_FFFF) (Some (in_number holder base next true)) None) (cond ((x == 59) && (any && is_character n)) done None) (suc at) o
      (λ h. keep_if (nat_le next 0x10_FFFF) (Some (in_number holder base next true)) None (suc at) o
      (λ k. (v, closed (digit_ascii base x (bound m.is_base) h), record { is_base = m.is_base; small = leb-true next 0x10_FFFF k; none = λ e. absurd (false≢true (sym e)) })) (λ k. tt))
      (λ h. keep_if ((x == 59) && (any && is_character n)) done None (suc at) o
      (λ k. let a = and_parts (x == 59) (any && is_character n) k in
      subst (IsViable (behind_reference holder (utf8_of n)) (suc at)) (sym (ascii 59 a.0 refl)) (behind_reference_keeps holder (utf8_of n) v (is_text-character n (and_parts any (is_character n) a.1).1) (suc at)))
      (λ k. tt))
    where
      bound : (base ≡ 10) ⊎ (base ≡ 16) → base ≤ 16
      bound (inl h) = omega arith
      bound (inr h) = omega arith

  keep_due : (left : List ℕ) (s : State) → is_text (p ++ left) ≡ true → ((n : ℕ) → IsViable s n []) → Keeps (next_due left s x) (suc at) o
  keep_due [] s h f = tt
  keep_due (b ∷ bs) s h f =
      keep_if (b == x) (Some (goes_due bs s)) None (suc at) o
      (λ k. let n = text_goes p x bs is_open (subst (λ y. is_text (p ++ (y ∷ bs)) ≡ true) (eqb-true b x k) h) in
      let same : n.open_bytes ≡ o = some_is n.open_bytes o (sym n.is ∙ taken) in
      goes_due_keeps bs s (suc at) o (open_still p x o taken) (subst (λ l. is_text (l ++ bs) ≡ true) same n.rest) f)
      (λ k. tt)

  keep_part_begins : (stage : Stage) → Keeps (part_begins stage x) (suc at) o
  keep_part_begins stage =
      let v = Some (due (codes "ersion") (before_part_equals version)) in
      let e = Some (due (codes "ncoding") (before_part_equals encoding)) in
      let l = Some (due (codes "tandalone") (before_part_equals standalone)) in
      keep_if ((x == 118) && may_come stage version) v (cond ((x == 101) && may_come stage encoding) e (cond ((x == 115) && may_come stage standalone) l None)) (suc at) o
      (λ h. due_keeps 101 (codes "rsion") (before_part_equals version) (suc at) o (ascii 118 (and_parts (x == 118) (may_come stage version) h).0 refl) refl (λ n. refl))
      (λ h. keep_if ((x == 101) && may_come stage encoding) e (cond ((x == 115) && may_come stage standalone) l None) (suc at) o
      (λ k. due_keeps 110 (codes "coding") (before_part_equals encoding) (suc at) o (ascii 101 (and_parts (x == 101) (may_come stage encoding) k).0 refl) refl (λ n. refl))
      (λ k. keep_if ((x == 115) && may_come stage standalone) l None (suc at) o
      (λ m. due_keeps 116 (codes "andalone") (before_part_equals standalone) (suc at) o (ascii 115 (and_parts (x == 115) (may_come stage standalone) m).0 refl) refl (λ n. refl))
      (λ m. tt)))

  keep_declaration : (stage : Stage) (spaced : Bool) → Keeps (next_in_declaration stage spaced x) (suc at) o
  keep_declaration stage spaced =
      let ended = Some (due (codes ">") (outside false)) in
      keep_if (is_space x) (Some (in_declaration stage true)) (cond ((x == 63) && may_end stage) ended (cond spaced (part_begins stage x) None)) (suc at) o
      (λ h. closed (space_ascii x h))
      (λ h. keep_if ((x == 63) && may_end stage) ended (cond spaced (part_begins stage x) None) (suc at) o
      (λ k. due_keeps 62 [] (outside false) (suc at) o (ascii 63 (and_parts (x == 63) (may_end stage) k).0 refl) refl (λ n. refl))
      (λ k. keep_if spaced (part_begins stage x) None (suc at) o (λ l. keep_part_begins stage) (λ l. tt)))

  keep_part : (q : Part) (quote : ℕ) (value : List ℕ) → is_quote quote ≡ true → Keeps (next_in_part q quote value x) (suc at) o
  keep_part q quote value v =
      let ended = cond (is_part_value q value) (Some (in_declaration (stage_behind q) false)) None in
      let more = Some (in_part q quote (value ++ (x ∷ []))) in
      keep_if (x == quote) ended (cond (is_part_front q (value ++ (x ∷ []))) more None) (suc at) o
      (λ h. keep_if (is_part_value q value) (Some (in_declaration (stage_behind q) false)) None (suc at) o
      (λ k. closed (quote_ascii x (subst (λ y. is_quote y ≡ true) (sym (eqb-true x quote h)) v))) (λ k. tt))
      (λ h. keep_if (is_part_front q (value ++ (x ∷ []))) more None (suc at) o
      (λ k. (closed (ltb-true x 0x80 (front_ascii q value x k)), v, k)) (λ k. tt))

  keep_start : p ≡ [] → Keeps (next_state at_start at x) (suc at) o
  keep_start e =
      keep_if (x == 0xEF) (Some (due (0xBB ∷ 0xBF ∷ []) (outside true))) (next_outside true at x) (suc at) o
      (λ h. ((λ k. absurd cc), subst (λ l. is_text (l ++ (0xBB ∷ 0xBF ∷ [])) ≡ true) (some_is (0xEF ∷ []) o (open_is (eqb-true x 0xEF h))) refl, (λ n. refl)))
      (λ h. keep_outside true)
    where
      open_is : x ≡ 0xEF → Some (0xEF ∷ []) ≡ Some o
      open_is i = subst (λ y. open_behind [] y ≡ Some o) i (subst (λ q. open_behind q x ≡ Some o) e taken)

  pub keeps : (s : State) → IsViable s at p → Keeps (next_state s at x) (suc at) o
  keeps at_start v = keep_start v
  keeps (outside first) v = keep_outside first
  keeps (at_end root) v =
      keep_if (is_space x) (Some (at_end root)) (cond (x == 60) (Some (at_markup false (behind root) at)) None) (suc at) o
      (λ h. closed (space_ascii x h))
      (λ h. keep_if (x == 60) (Some (at_markup false (behind root) at)) None (suc at) o (λ k. (tt, ascii 60 k refl, refl)) (λ k. tt))
  keeps (in_run levels e outer text b cr) v = keep_run levels e outer text b cr v.0 v.1
  keeps (at_markup first nesting begin) v = keep_markup first nesting begin v.0 v.1
  keeps (at_bang nesting) v = keep_bang nesting v.0
  keeps (in_comment nesting dash) v = keep_comment nesting dash v
  keeps (in_target first nesting name) v = keep_target first nesting name v.0 v.1
  keeps (in_instruction nesting question) v = keep_instruction nesting question v
  keeps (in_section levels e outer text b cr) v = keep_section levels e outer text b cr v.0 v.1 v.2
  keeps (in_name levels outer begin name) v = keep_name levels outer begin name v.0 v.1 v.2
  keeps (in_tag levels outer e spaced) v = keep_tag levels outer e spaced v.0 v.1
  keeps (in_attribute levels outer e name) v = keep_attribute levels outer e name v.0 v.1 v.2
  keeps (before_equals levels outer e name) v = keep_equals levels outer e name v.0 v.1
  keeps (behind_equals levels outer e name) v = keep_quote levels outer e name v.0 v.1
  keeps (in_value levels outer e name quote value cr) v = keep_value levels outer e name quote value cr v.0 v.1
  keeps (at_reference holder) v =
      keep_if (x == 35) (Some (at_number holder)) (next_in_entity holder [] x) (suc at) o (λ h. (v.0, ascii 35 h refl)) (λ h. keep_entity holder [] v.0)
  keeps (in_entity holder part) v = keep_entity holder part v.0
  keeps (at_number holder) v =
      keep_if (x == 120) (Some (in_number holder 16 0 false)) (next_in_number holder 10 0 false x) (suc at) o
      (λ h. (v.0, ascii 120 h refl, record { is_base = inr refl; small = omega arith; none = λ e. refl }))
      (λ h. keep_number holder 10 0 false v.0 (record { is_base = inl refl; small = omega arith; none = λ e. refl }))
  keeps (in_number holder base n any) v = keep_number holder base n any v.0 v.2
  keeps (due left s) v = keep_due left s v.1 v.2
  keeps (in_end levels e outer) v =
      keep_if (is_space x) (Some (in_end levels e outer)) (cond (x == 62) (Some (behind_element (suc levels) outer e)) None) (suc at) o
      (λ h. (v.0, closed (space_ascii x h)))
      (λ h. keep_if (x == 62) (Some (behind_element (suc levels) outer e)) None (suc at) o
      (λ k. subst (IsViable (behind_element (suc levels) outer e) (suc at)) (sym (ascii 62 k refl)) (behind_element_keeps (suc levels) outer e v.0 (suc at))) (λ k. tt))
  keeps (in_declaration stage spaced) v = keep_declaration stage spaced
  keeps (before_part_equals q) v =
      keep_if (is_space x) (Some (before_part_equals q)) (cond (x == 61) (Some (behind_part_equals q)) None) (suc at) o
      (λ h. closed (space_ascii x h))
      (λ h. keep_if (x == 61) (Some (behind_part_equals q)) None (suc at) o (λ k. ascii 61 k refl) (λ k. tt))
  keeps (behind_part_equals q) v =
      keep_if (is_space x) (Some (behind_part_equals q)) (cond (is_quote x) (Some (in_part q x [])) None) (suc at) o
      (λ h. closed (space_ascii x h))
      (λ h. keep_if (is_quote x) (Some (in_part q x [])) None (suc at) o (λ k. (closed (quote_ascii x k), k, front_none q)) (λ k. tt))
    where
      front_none : (q : Part) → is_part_front q [] ≡ true
      front_none version = refl
      front_none encoding = refl
      front_none standalone = refl
  keeps (in_part q quote value) v = keep_part q quote value v.1
