-- Texts between quotation marks, byte by byte.
use Rattle.std.proofs.Common.{◌≡◌, ◌⊎◌, inl, inr, ℕ, suc, ◌+◌, ◌-◌, ◌/◌, ◌%◌, ◌<◌, ◌≤◌, nat_lt, Bool, true, false, List, [], ◌∷◌, ◌++◌, if◌then◌else◌, Some, None, length, take, drop, get_or, codes, refl, sym, ap, ◌∙◌, subst, append_assoc, append-nil, arith}
use Rattle.std.specs.Fmt.{digit_glyph}
use Rattle.std.specs.List.{Contains, list_all, slice_get}
use Rattle.std.proofs.lemmas.Bool.{false≢true, cases_lt, ltb-true}
use Rattle.std.proofs.lemmas.Bool.Decides.{nat_tests}
use Rattle.std.proofs.lemmas.Grind.{flat_map-append}
use Rattle.std.proofs.lemmas.List.{take-append-drop}
use Rattle.pn_facts.proofs.Contained.{contains_first, contains_one}
use Rattle.pn_facts.proofs.Lists.{all_append, drop_got, take_got}
use Rattle.pn_facts.proofs.Truths.{and_left, and_right, and_both}
use Rattle.pn_lines.specs.Escapes.{escape, escaped, is_line_byte, is_plain, percent_escape}
use Rattle.pn_lines.proofs.ByteLemmas.{plain_stays, other_escapes}
use Rattle.pn_lines.proofs.TextLemmas.{escape_is_clean, escaped_is_clean, escaped_small, escaped_tells, fronts_tell}
use Rattle.pn_text.specs.Characters.{is_character, is_text}
use Rattle.pn_text.proofs.TextLemmas.{is_text-append}
use Rattle.pn_utf8.specs.Characters.{AreOpen, Cut, is_begun, is_whole, open_behind}
use Rattle.pn_utf8.specs.Open.{open_bytes}
use Rattle.pn_utf8.specs.declared.characters.Open.{Open}
use Rattle.pn_utf8.specs.declared.characters.Open.TheVariants as opens
use Rattle.pn_utf8.proofs.TextLemmas.{ascii_alone, cut_next, cut_text, fill, open_cases, open_still, open_text, text_goes, text_rest, whole_text}
use Rattle.pn_words.specs.Languages.{Broken, Closed, Continues, IsRead, Only, Then}
use Rattle.pn_words.proofs.ClosedLemmas.{closed_broken, closed_found}
use Rattle.pn_words.proofs.PieceLemmas.{closed_some}
use Rattle.pn_words.proofs.ThenLemmas.{first_broken}
use Rattle.pn_words.proofs.WayLemmas.{onward, renamed, then_continues}
use Rattle.pn_mode_text.specs.Quoted.{BeginsEscape, Comes, IsEnded, IsQuoted, IsStanding, ComesOf, escape_of, open_of}
use Rattle.pn_mode_text.specs.declared.quoted.Inside.{Inside}
use Rattle.pn_mode_text.specs.declared.quoted.Inside.TheVariants as insides
use Rattle.pn_mode_text.specs.declared.quoted.Turn.TheVariants as turns
use Rattle.pn_mode_text.proofs.UnescapedLemmas.{behind, escaped_next}

-- how a byte may stand
escape_cases : (y : ℕ) → ((is_plain y ≡ true) × (escape y ≡ y ∷ [])) ⊎ ((is_plain y ≡ false) × (escape y ≡ percent_escape y))
escape_cases y = by (is_plain y) refl
  where
    by : (p : Bool) → is_plain y ≡ p → ((is_plain y ≡ true) × (escape y ≡ y ∷ [])) ⊎ ((is_plain y ≡ false) × (escape y ≡ percent_escape y))
    by true e = inl (e, plain_stays y e)
    by false e = inr (e, other_escapes y e)

-- a byte that stands as it is begins no other byte's escape
plain_front : (x y : ℕ) (r c : List ℕ) → is_plain x ≡ true → escape y ++ r ≡ x ∷ c → y ≡ x
plain_front x y r c is e = (fronts_tell y x r c (e ∙ ap (λ l. l ++ c) (sym (plain_stays x is)))).0

pub none_is_some : {X : Type 0} (x : X) → None ≡ Some x → ⊥
none_is_some x e = absurd cc

first_same : (x y : ℕ) (xs ys : List ℕ) → x ∷ xs ≡ y ∷ ys → x ≡ y
first_same x y xs ys e = ap (λ l. get_or l 0 0) e

not_plain : (x y : ℕ) → x ≡ y → is_plain x ≡ true → is_plain y ≡ false → ⊥
not_plain x y e h k = false≢true (sym k ∙ ap is_plain (sym e) ∙ h)

-- no text goes on by this byte, which stands as it is
pub plain_stops : (o : Open) (x : ℕ) → AreOpen (open_bytes o) → is_plain x ≡ true → open_behind (open_bytes o) x ≡ None → (c : List ℕ)
    → Comes (insides.Text o) (x ∷ c) → ⊥
plain_stops o x begun is none c h = by h.0 h.1 h.2
  where
    by : (t : List ℕ) → is_text (open_bytes o ++ t) ≡ true → escaped t ++ codes "\"" ≡ x ∷ c → ⊥
    by [] text e = not_plain x 34 (sym (first_same 34 x [] c e)) is refl
    by (y ∷ t) text e =
        let same = plain_front x y (escaped t ++ codes "\"") c is (sym (append_assoc (escape y) (escaped t) (codes "\"")) ∙ e) in
        let f = text_goes (open_bytes o) y t begun text in
        none_is_some f.open_bytes (sym none ∙ ap (open_behind (open_bytes o)) (sym same) ∙ f.is)

-- nor by this one, which does not, and neither begins an escape nor ends the text
pub other_stops : (o : Open) (x : ℕ) → AreOpen (open_bytes o) → is_plain x ≡ false → (open_bytes o ≡ [] → x ≡ 34 → ⊥) → (open_bytes o ≡ [] → x ≡ 37 → ⊥)
    → (c : List ℕ) → Comes (insides.Text o) (x ∷ c) → ⊥
other_stops o x begun is no_end no_escape c h = by h.0 h.1 h.2
  where
    by : (t : List ℕ) → is_text (open_bytes o ++ t) ≡ true → escaped t ++ codes "\"" ≡ x ∷ c → ⊥
    by [] text e = no_end (open_text (open_bytes o) begun (subst (λ l. is_text l ≡ true) (append-nil (open_bytes o)) text)) (sym (first_same 34 x [] c e))
    by (y ∷ t) text e = step (escape_cases y)
      where
        from : (w : List ℕ) → escape y ≡ w → w ++ (escaped t ++ codes "\"") ≡ x ∷ c
        from w is = ap (λ l. l ++ (escaped t ++ codes "\"")) (sym is) ∙ sym (append_assoc (escape y) (escaped t) (codes "\"")) ∙ e

        step : ((is_plain y ≡ true) × (escape y ≡ y ∷ [])) ⊎ ((is_plain y ≡ false) × (escape y ≡ percent_escape y)) → ⊥
        step (inl h) = not_plain y x (ap (λ l. get_or l 0 0) (from (y ∷ []) h.1)) h.0 is
        step (inr h) =
            let f = text_goes (open_bytes o) y t begun text in
            no_escape (ascii_alone (open_bytes o) y f.open_bytes (escaped_small y h.0) f.is).0 (sym (ap (λ l. get_or l 0 0) (from (percent_escape y) h.1)))

-- a character is begun
pub some_begun : (o : Open)
    → ((a : ℕ) × (o ≡ opens.One a)) ⊎ (((a : ℕ) × (b : ℕ) × (o ≡ opens.Two a b)) ⊎ ((a : ℕ) × (b : ℕ) × (c : ℕ) × (o ≡ opens.Three a b c)))
    → open_bytes o ≡ [] → ⊥
some_begun o (inl w) e = let clash : w.0 ∷ [] ≡ [] = sym (ap open_bytes w.1) ∙ e in absurd cc
some_begun o (inr (inl w)) e = let clash : w.0 ∷ w.1 ∷ [] ≡ [] = sym (ap open_bytes w.2) ∙ e in absurd cc
some_begun o (inr (inr w)) e = let clash : w.0 ∷ w.1 ∷ w.2 ∷ [] ≡ [] = sym (ap open_bytes w.3) ∙ e in absurd cc

-- the byte that is escaped behind `%`, alone a text
record Escaped (c : List ℕ) : Type 0 where
  byte : ℕ
  rest : List ℕ
  first : List ℕ
  goes : open_behind [] byte ≡ Some first
  other : is_plain byte ≡ false
  is : escape byte ≡ percent_escape byte
  cut : percent_escape byte ++ rest ≡ 37 ∷ c

escaped_byte : (t c : List ℕ) → is_text t ≡ true → escaped t ++ codes "\"" ≡ 37 ∷ c → Escaped c
escaped_byte [] c text e = let clash : 34 ≡ 37 = first_same 34 37 [] c e in absurd (omega (arith, clash))
escaped_byte (y ∷ t) c text e = step (escape_cases y)
  where
    from : (w : List ℕ) → escape y ≡ w → w ++ (escaped t ++ codes "\"") ≡ 37 ∷ c
    from w is = ap (λ l. l ++ (escaped t ++ codes "\"")) (sym is) ∙ sym (append_assoc (escape y) (escaped t) (codes "\"")) ∙ e

    step : ((is_plain y ≡ true) × (escape y ≡ y ∷ [])) ⊎ ((is_plain y ≡ false) × (escape y ≡ percent_escape y)) → Escaped c
    step (inl h) = absurd (not_plain y 37 (ap (λ l. get_or l 0 0) (from (y ∷ []) h.1)) h.0 refl)
    step (inr h) =
        let f = text_goes [] y t tt text in
        record { byte = y; rest = escaped t ++ codes "\""; first = f.open_bytes; goes = f.is; other = h.0; is = h.1; cut = from (percent_escape y) h.1 }

-- behind `%` the first digit of an escape comes
pub first_begins : (x : ℕ) (c : List ℕ) → Comes insides.Percent (x ∷ c) → BeginsEscape x
first_begins x c h =
    let f = escaped_byte h.0 (x ∷ c) h.1 h.2 in
    let digit : digit_glyph true (f.byte / 16) ≡ x = ap (λ l. get_or l 1 0) f.cut in
    let low = digit_glyph true (f.byte % 16) in
    (f.byte, low, whole f.byte f.first f.goes (escaped_small f.byte f.other), f.is ∙ ap (λ d. 37 ∷ d ∷ low ∷ []) digit)
  where
    whole : (y : ℕ) (o : List ℕ) → open_behind [] y ≡ Some o → y < 128 → is_whole (y ∷ []) ≡ true
    whole y o goes small = step (open_cases [] y o goes)
      where
        step : ((is_whole (y ∷ []) ≡ true) × (o ≡ [])) ⊎ ((is_begun (y ∷ []) ≡ true) × (o ≡ y ∷ [])) → is_whole (y ∷ []) ≡ true
        step (inl h) = h.0
        step (inr h) = let both : [] ≡ y ∷ [] = sym (ascii_alone [] y o small goes).1 ∙ h.1 in absurd cc

-- and behind that the last one of an escape
pub last_escape : (high x : ℕ) (c : List ℕ) → Comes (insides.Digit high) (x ∷ c)
    → (y : ℕ) × (o : List ℕ) × (escape y ≡ 37 ∷ high ∷ x ∷ []) × (open_behind [] y ≡ Some o)
last_escape high x c h =
    let f = escaped_byte h.0 (high ∷ x ∷ c) h.1 h.2 in
    let first : digit_glyph true (f.byte / 16) ≡ high = ap (λ l. get_or l 1 0) f.cut in
    let last : digit_glyph true (f.byte % 16) ≡ x = ap (λ l. get_or l 2 0) f.cut in
    (f.byte, f.first, f.is ∙ (λ i. 37 ∷ first i ∷ last i ∷ []), f.goes)

-- which digits begin an escape

pub zero_begins_escape : (h : ℕ) → h ≡ 48 → BeginsEscape h
zero_begins_escape h e = subst BeginsEscape (sym e) (9, 57, refl, refl)

pub high_begins_escape : (h : ℕ) → 50 ≤ h → h ≤ 55 → BeginsEscape h
high_begins_escape h low high = by (cases_lt h 51) (cases_lt h 52) (cases_lt h 53) (cases_lt h 54) (cases_lt h 55)
  where
    by : (h < 51) ⊎ (51 ≤ h) → (h < 52) ⊎ (52 ≤ h) → (h < 53) ⊎ (53 ≤ h) → (h < 54) ⊎ (54 ≤ h) → (h < 55) ⊎ (55 ≤ h) → BeginsEscape h
    by (inl a) b c d e = let is : 50 ≡ h = omega (arith, low, a) in subst BeginsEscape is (32, 48, refl, refl)
    by (inr a) (inl b) c d e = let is : 51 ≡ h = omega (arith, a, b) in subst BeginsEscape is (58, 65, refl, refl)
    by (inr a) (inr b) (inl c) d e = let is : 52 ≡ h = omega (arith, b, c) in subst BeginsEscape is (64, 48, refl, refl)
    by (inr a) (inr b) (inr c) (inl d) e = let is : 53 ≡ h = omega (arith, c, d) in subst BeginsEscape is (91, 66, refl, refl)
    by (inr a) (inr b) (inr c) (inr d) (inl e) = let is : 54 ≡ h = omega (arith, d, e) in subst BeginsEscape is (96, 48, refl, refl)
    by (inr a) (inr b) (inr c) (inr d) (inr e) = let is : 55 ≡ h = omega (arith, e, high) in subst BeginsEscape is (123, 66, refl, refl)

pub digit_begins : (h : ℕ) → BeginsEscape h → (h ≡ 48) ⊎ ((50 ≤ h) × (h ≤ 55))
digit_begins h (x, low, whole, is) = step (escape_cases x)
  where
    small : x < 128
    small = ltb-true x 128 (and_left (nat_lt x 128) (is_character x) whole)

    no_control : 16 ≤ x → 32 ≤ x
    no_control le = let c = and_right (nat_lt x 128) (is_character x) whole in grind (arith, nat_tests)

    step : ((is_plain x ≡ true) × (escape x ≡ x ∷ [])) ⊎ ((is_plain x ≡ false) × (escape x ≡ percent_escape x)) → (h ≡ 48) ⊎ ((50 ≤ h) × (h ≤ 55))
    step (inl k) = let clash : 1 ≡ 3 = ap length (sym k.1 ∙ is) in absurd (omega (arith, clash))
    step (inr k) = by (cases_lt x 16) (glyph (x / 16) (omega (arith, small)) ∙ ap (λ l. get_or l 1 0) (sym k.1 ∙ is))
      where
        glyph : (d : ℕ) → d < 8 → 48 + d ≡ digit_glyph true d
        glyph d lt = go (nat_lt d 10) refl
          where
            go : (low : Bool) → nat_lt d 10 ≡ low → 48 + d ≡ (if low then 48 + d else 55 + d)
            go true e = refl
            go false e = grind (arith, nat_tests)

        by : (x < 16) ⊎ (16 ≤ x) → 48 + x / 16 ≡ h → (h ≡ 48) ⊎ ((50 ≤ h) × (h ≤ 55))
        by (inl lt) e = inl (omega (arith, lt, e))
        by (inr le) e = let more = no_control le in inr (omega (arith, more, e), omega (arith, small, e))

-- open bytes of a character go on to a text
filled : (p : List ℕ) → AreOpen p → (t : List ℕ) × (is_text (p ++ t) ≡ true)
filled [] begun = ([], refl)
filled (b ∷ p) begun = let f = fill b p begun in (f.more, whole_text ((b ∷ p) ++ f.more) f.is)

-- where some text goes on, something comes
completes : (s : Inside) → IsStanding s → (c : List ℕ) × Comes s c
completes (insides.Text o) h = let f = filled (open_bytes o) h in (escaped f.0 ++ codes "\"", (f.0, f.1, refl))
completes insides.Percent h = (50 ∷ 48 ∷ 34 ∷ [], (32 ∷ [], refl, refl))
completes (insides.Digit high) h =
    (h.1 ∷ 34 ∷ [], (h.0 ∷ [], whole_text (h.0 ∷ []) h.2, ap (λ l. l ++ codes "\"") (append-nil (escape h.0) ∙ h.3)))

escape_clean : (s : Inside) → IsStanding s → list_all is_line_byte (escape_of s) ≡ true
escape_clean (insides.Text o) h = refl
escape_clean insides.Percent h = refl
escape_clean (insides.Digit high) h =
    let all = subst (λ l. list_all is_line_byte l ≡ true) h.3 (escape_is_clean h.0) in
    and_both (is_line_byte high) true (and_left (is_line_byte high) (list_all is_line_byte (h.1 ∷ [])) all) refl

-- so many bytes were read, which are those of a text, and more of an escape
pub record IsInside (text b : List ℕ) (at : ℕ) (s : Inside) : Type 0 where
  pub within : at ≤ length b
  pub standing : IsStanding s
  pub cut : Cut text (open_of s)
  pub taken : take at b ≡ escaped text ++ escape_of s

pub starts : (b : List ℕ) (at : ℕ) (o : Open) → at ≡ 0 → open_bytes o ≡ [] → IsInside [] b at (insides.Text o)
starts b at o e none = record {
  within = omega (arith, e);
  standing = subst AreOpen (sym none) tt;
  cut = ([], refl, sym none);
  taken = ap (λ n. take n b) e;
}

pub more_of_escape : (text b : List ℕ) (at x : ℕ) (s next : Inside) → IsInside text b at s → at < length b → slice_get b at ≡ Some x
    → ComesOf s x (turns.Within next) → IsInside text b (at + 1) next
more_of_escape text b at x s next h lt got turn = record {
  within = omega (arith, lt);
  standing = turn.2;
  cut = subst (Cut text) (sym turn.0) h.cut;
  taken = take_got b at x got ∙ ap (λ l. l ++ x ∷ []) h.taken ∙ append_assoc (escaped text) (escape_of s) (x ∷ []) ∙ ap (λ l. escaped text ++ l) (sym turn.1);
}

pub more_of_text : (text b : List ℕ) (at x y : ℕ) (s : Inside) (o : Open) → IsInside text b at s → at < length b → slice_get b at ≡ Some x
    → ComesOf s x (turns.Byte y o) → IsInside (text ++ y ∷ []) b (at + 1) (insides.Text o)
more_of_text text b at x y s o h lt got turn = record {
  within = omega (arith, lt);
  standing = open_still (open_of s) y (open_bytes o) turn.1;
  cut = cut_next text (open_of s) y (open_bytes o) turn.1 h.cut;
  taken = take_got b at x got
      ∙ ap (λ l. l ++ x ∷ []) h.taken
      ∙ append_assoc (escaped text) (escape_of s) (x ∷ [])
      ∙ ap (λ l. escaped text ++ l) (sym turn.0)
      ∙ sym (escaped_next text y)
      ∙ sym (append-nil (escaped (text ++ y ∷ [])));
}

-- a text, escaped, with any mark behind it
abbrev IsEscapedText : List ℕ → List ℕ → Type 0
IsEscapedText t w = (is_text t ≡ true) × (w ≡ escaped t)

ended_is : (b : List ℕ) → Continues IsEnded b (Closed IsEscapedText (34 ∷ [])) b (λ p. p.0)
ended_is b = renamed IsEnded (Closed IsEscapedText (34 ∷ [])) (λ p. p.0) b
    (λ p w h. (h.1.0, h.3 ∙ (λ i. h.1.1 i ++ contains_one 34 p.1 h.2 i ∷ [])))
    (λ t w h. ((t, 34), refl, (escaped t, (h.0, refl), contains_first 34 [], h.1)))

no_mark : (c : ℕ) → Contains (34 ∷ []) c → is_line_byte c ≡ false
no_mark c h = ap is_line_byte (contains_one 34 c h)

-- the quotation mark behind the text
pub text_ends : (text b : List ℕ) (at x : ℕ) (s : Inside) → IsInside text b at s → slice_get b at ≡ Some x → ComesOf s x turns.End
    → IsRead IsEnded b text (drop (at + 1) b)
text_ends text b at x s h got turn =
    (ended_is b).found (text, 34) (drop (at + 1) b)
    (closed_found is_line_byte IsEscapedText (34 ∷ []) (λ v t k. subst (λ l. list_all is_line_byte l ≡ true) (sym k.1) (escaped_is_clean v)) no_mark
    (λ u v t k l. escaped_tells u v (sym k.1 ∙ l.1))
    b text (escaped text) 34 (drop (at + 1) b) (cut_text text (subst (Cut text) turn.0 h.cut), refl) (contains_first 34 []) cut)
  where
    cut : b ≡ escaped text ++ 34 ∷ drop (at + 1) b
    cut = sym (take-append-drop at b)
        ∙ ap (λ l. l ++ drop at b) (h.taken ∙ ap (λ l. escaped text ++ l) turn.1 ∙ append-nil (escaped text))
        ∙ ap (λ l. escaped text ++ l) (drop_got b at x got ∙ ap (λ y. y ∷ drop (at + 1) b) turn.2)

-- no text goes on by the byte, or there is none
pub text_stops : (text b : List ℕ) (at : ℕ) (s : Inside) → IsInside text b at s → (at < length b → (x : ℕ) × (slice_get b at ≡ Some x) × ComesOf s x turns.Stop)
    → Broken IsEnded b (length b - at)
text_stops text b at s h stop =
    (ended_is b).broken (length b - at) (closed_broken is_line_byte IsEscapedText (34 ∷ []) no_mark b at h.within all (inr reach) none)
  where
    all : list_all is_line_byte (take at b) ≡ true
    all =
        subst (λ l. list_all is_line_byte l ≡ true) (sym h.taken)
        (all_append is_line_byte (escaped text) (escape_of s) (escaped_is_clean text) (escape_clean s h.standing))

    -- what goes on behind the bytes of the character goes on behind the text
    goes : (t : List ℕ) → is_text (open_of s ++ t) ≡ true → is_text (text ++ t) ≡ true
    goes t is =
        subst (λ l. is_text l ≡ true) (sym (append_assoc h.cut.0 (open_of s) t) ∙ ap (λ l. l ++ t) (sym h.cut.2))
        (is_text-append h.cut.0 (open_of s ++ t) h.cut.1 is)

    back : (t : List ℕ) → is_text (text ++ t) ≡ true → is_text (open_of s ++ t) ≡ true
    back t is = text_rest h.cut.0 (open_of s ++ t) h.cut.1 (subst (λ l. is_text l ≡ true) (ap (λ l. l ++ t) h.cut.2 ∙ append_assoc h.cut.0 (open_of s) t) is)

    reach : (p : List ℕ × ℕ) × (rest : List ℕ) × Closed IsEscapedText (34 ∷ []) p (take at b ++ rest)
    reach =
        let c = completes s h.standing in
        let t = c.1.0 in (
          (text ++ t, 34),
          c.0,
          (
            escaped (text ++ t),
            (goes t c.1.1, refl),
            contains_first 34 [],
            ap (λ l. l ++ c.0) h.taken
                ∙ append_assoc (escaped text) (escape_of s) c.0
                ∙ ap (λ l. escaped text ++ l) (sym c.1.2)
                ∙ sym (append_assoc (escaped text) (escaped t) (34 ∷ []))
                ∙ ap (λ l. l ++ 34 ∷ []) (sym (flat_map-append escape text t)),
          ),
        )

    none : (p : List ℕ × ℕ) (rest : List ℕ) → at < length b → Closed IsEscapedText (34 ∷ []) p (take (suc at) b ++ rest) → ⊥
    none p rest lt k =
        let x = stop lt in
        let next : suc at ≡ at + 1 = omega arith in
        let word : escaped p.0 ++ 34 ∷ [] ≡ escaped text ++ (escape_of s ++ x.0 ∷ rest) =
        (λ i. sym k.1.1 i ++ sym (contains_one 34 p.1 k.2) i ∷ [])
        ∙ sym k.3
        ∙ ap (λ n. take n b ++ rest) next
        ∙ ap (λ l. l ++ rest) (take_got b at x.0 x.1 ∙ ap (λ l. l ++ x.0 ∷ []) h.taken ∙ append_assoc (escaped text) (escape_of s) (x.0 ∷ []))
        ∙ append_assoc (escaped text) (escape_of s ++ x.0 ∷ []) rest
        ∙ ap (λ l. escaped text ++ l) (append_assoc (escape_of s) (x.0 ∷ []) rest) in
        let w = behind text p.0 (escape_of s ++ x.0 ∷ rest) [] 34 refl (sym word) in
        x.2 rest (w.more, back w.more (subst (λ l. is_text l ≡ true) w.whole k.1.0), sym w.rest)

-- a quotation mark, then the text and the quotation mark behind it
quoted_is : (marks b : List ℕ) → Continues (Closed IsQuoted marks) b (Then (Only (34 ∷ [])) (λ u. Closed IsEnded marks)) b (λ p. p.1)
quoted_is marks b = renamed (Closed IsQuoted marks) (Then (Only (34 ∷ [])) (λ u. Closed IsEnded marks)) (λ p. p.1) b to from
  where
    to : (p : Unit {0} × (List ℕ × ℕ)) (w : List ℕ) → Then (Only (34 ∷ [])) (λ u. Closed IsEnded marks) p w → Closed IsQuoted marks p.1 w
    to p w h = (34 ∷ h.3.0, (h.3.1.0, ap (λ l. 34 ∷ l) h.3.1.1), h.3.2, h.4 ∙ (λ i. h.2 i ++ h.3.3 i))

    from : (v : List ℕ × ℕ) (w : List ℕ) → Closed IsQuoted marks v w
        → (p : Unit {0} × (List ℕ × ℕ)) × (v ≡ p.1) × Then (Only (34 ∷ [])) (λ u. Closed IsEnded marks) p w
    from v w h = (
      (tt, v),
      refl,
      (34 ∷ [], (escaped v.0 ++ 34 ∷ []) ++ v.1 ∷ [], refl, (escaped v.0 ++ 34 ∷ [], (h.1.0, refl), h.2, refl), h.3 ∙ ap (λ l. l ++ v.1 ∷ []) h.1.1),
    )

pub behind_quote : (marks b c : List ℕ) → 0 < length marks → IsRead (Only (34 ∷ [])) b tt c
    → Continues (Closed IsQuoted marks) b (Closed IsEnded marks) c (λ p. p)
behind_quote marks b c some f =
    onward (Closed IsQuoted marks) b (Then (Only (34 ∷ [])) (λ u. Closed IsEnded marks)) b (λ p. p.1)
    (Closed IsEnded marks) c (λ p. (tt, p)) (quoted_is marks b)
    (then_continues (Only (34 ∷ [])) (λ u. Closed IsEnded marks) b tt c (λ u. closed_some IsEnded marks some [] (34 ∷ []) (refl, refl)) f)

pub no_quote : (marks b : List ℕ) (left : ℕ) → 0 < length marks → Broken (Only (34 ∷ [])) b left → Broken (Closed IsQuoted marks) b left
no_quote marks b left some f =
    (quoted_is marks b).broken left
    (first_broken (Only (34 ∷ [])) (λ u. Closed IsEnded marks) b left (λ u. closed_some IsEnded marks some [] (34 ∷ []) (refl, refl)) f)
