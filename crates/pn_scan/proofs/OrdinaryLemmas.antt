-- Bytes that stand for themselves, many at once.
use Rattle.std.proofs.Common.{◌≡◌, ◌⊎◌, inl, inr, ℕ, zero, suc, add-zero, add-one, ◌+◌, ◌-◌, ◌≤◌, Bool, true, false, cond, nat_lt, ◌==◌, ◌&&◌, ◌||◌, List, [], ◌∷◌, ◌++◌, length, length-drop, take, drop, Some, None, refl, sym, ap, ◌∙◌, subst, append_assoc, append-nil, length-append, length-take, arith}
use Rattle.std.specs.List.{list_all, prefix_len, slice_get}
use Rattle.std.proofs.lemmas.List.{take-append-drop, take-take, drop-take}
use Rattle.std.proofs.lemmas.Bool.{false≢true, eqb-true, and_parts, and_from, or_left, or_right}
use Rattle.std.proofs.lemmas.Bool.Decides.{nat_tests}
use Rattle.pn_text.specs.Characters.{is_character, is_name_part, is_text}
use Rattle.pn_text.proofs.TextLemmas.{is_text-append}
use Rattle.pn_tree.specs.declared.element.Element.{Element}
use Rattle.pn_outside.specs.declared.limits.TheConstants.{BYTES}
use Rattle.pn_markup.specs.Bytes.{is_space, is_quote}
use Rattle.pn_markup.specs.Tags.{named}
use Rattle.pn_scan.specs.State.{State, Nesting, no_bracket, at_start, outside, at_end, in_run, at_markup, at_bang, in_comment, in_target, in_instruction, in_section, in_name, in_tag, in_attribute, before_equals, behind_equals, in_value, at_reference, in_entity, at_number, in_number, due, in_end, in_declaration, before_part_equals, behind_part_equals, in_part}
use Rattle.pn_scan.specs.NextState.{next_state, goes_due, next_in_run, next_in_section, next_in_value, next_in_tag, line_text, space_text}
use Rattle.pn_utf8.specs.Characters.{is_whole}
use Rattle.pn_scan.specs.Viable.{IsViable}
use Rattle.pn_scan.specs.Nestings.{nesting_of, levels_of, inner_of, outer_of, levels_for, outer_for}
use Rattle.pn_scan.specs.Contexts.{state_of, end_of, end_state, Admits}
use Rattle.pn_utf8.specs.Open.{open_bytes}
use Rattle.pn_scan.specs.Fed.{Fed}
use Rattle.pn_scan.specs.Reading.{IsReading}
use Rattle.pn_scan.specs.Ordinary.{is_ascii, is_ordinary_text, is_ordinary_name, is_ordinary_value, is_ordinary_but, is_high, or_high, ordinary_text, ordinary_value, ordinary_but, ordinary_space, is_ordinary, behind_ordinary, IsSlice}
use Rattle.pn_scan.specs.declared.open_tree.OpenTree.{OpenTree}
use Rattle.pn_scan.specs.declared.context.Brackets.{Brackets}
use Rattle.pn_scan.specs.declared.context.Brackets.TheVariants.{Zero, One, Two}
use Rattle.pn_scan.specs.declared.context.Context.{Context}
use Rattle.pn_scan.specs.declared.context.Kept.{Kept}
use Rattle.pn_scan.specs.declared.context.Context.TheVariants as contexts
use Rattle.pn_utf8.specs.declared.characters.Open.{Open}
use Rattle.pn_scan.proofs.NextStateLemmas.{if_true, if_false, end_some}
use Rattle.pn_scan.proofs.Tools.{head_is, tail_is, no_head}
use Rattle.pn_scan.proofs.FedLemmas.{fed_more}
use Rattle.pn_utf8.proofs.TextLemmas.{whole_text, text_goes, open_text}
use Rattle.pn_scan.proofs.ReadingLemmas.{take_whole}
use Rattle.pn_facts.proofs.Lists.{front_passes, list_all_each, all_append, take_got}

-- kinds of bytes

text_ascii : (x : ℕ) → is_ordinary_text x ≡ true → is_ascii x ≡ true
text_ascii x h = grind (arith, nat_tests)

name_ascii : (x : ℕ) → is_ordinary_name x ≡ true → is_ascii x ≡ true
name_ascii x h = grind (arith, nat_tests)

value_ascii : (quote x : ℕ) → is_ordinary_value quote x ≡ true → is_ascii x ≡ true
value_ascii quote x h = grind (arith, nat_tests)

but_ascii : (mark x : ℕ) → is_ordinary_but mark x ≡ true → is_ascii x ≡ true
but_ascii mark x h = grind (arith, nat_tests)

not_mark : (mark x : ℕ) → nat_lt mark 0x80 ≡ true → or_high (is_ordinary_but mark) x ≡ true → (x == mark) ≡ false
not_mark mark x low h = grind (arith, nat_tests)

ascii_low : (x : ℕ) → is_ascii x ≡ true → (nat_lt x 0x80 && is_character x) ≡ true
ascii_low x h = grind (arith, nat_tests)

space_low : (x : ℕ) → is_space x ≡ true → (nat_lt x 0x80 && is_character x) ≡ true
space_low x h = grind (arith, nat_tests)

-- slices

low_text : (xs : List ℕ) → list_all (λ x. nat_lt x 0x80 && is_character x) xs ≡ true → is_text xs ≡ true
low_text [] h = refl
low_text (x ∷ xs) h =
    let both = and_parts (nat_lt x 0x80 && is_character x) (list_all (λ y. nat_lt y 0x80 && is_character y) xs) h in is_text-append (x ∷ []) xs (whole_text (x ∷ []) both.0) (low_text xs both.1)

pub no_slice : (p : ℕ → Bool) (xs : List ℕ) → IsSlice p (take 0 xs)
no_slice p xs = record { whole = refl; ordinary = refl }

-- bytes of ASCII
low_slice : (p : ℕ → Bool) → ((x : ℕ) → p x ≡ true → is_ascii x ≡ true) → (xs : List ℕ) (n : ℕ) → n ≡ prefix_len p xs → IsSlice (or_high p) (take n xs)
low_slice p ascii xs n is =
    let all : list_all p (take n xs) ≡ true = subst (λ k. list_all p (take k xs) ≡ true) (sym is) (front_passes p xs) in
    record {
      whole = low_text (take n xs) (list_all_each p (λ x. nat_lt x 0x80 && is_character x) (λ x h. ascii_low x (ascii x h)) (take n xs) all);
      ordinary = list_all_each p (or_high p) (λ x h. or_right (is_high x) (p x) h) (take n xs) all;
    }

pub space_slice : (spaced : Bool) (xs : List ℕ) (n : ℕ) → spaced ≡ true → n ≡ prefix_len is_space xs → IsSlice (ordinary_space spaced) (take n xs)
space_slice false xs n e is = absurd (false≢true e)
space_slice true xs n e is =
    let all : list_all is_space (take n xs) ≡ true = subst (λ k. list_all is_space (take k xs) ≡ true) (sym is) (front_passes is_space xs) in
    record { whole = low_text (take n xs) (list_all_each is_space (λ x. nat_lt x 0x80 && is_character x) space_low (take n xs) all); ordinary = all }

front_all : (p : ℕ → Bool) (xs : List ℕ) (n : ℕ) → list_all p xs ≡ true → list_all p (take n xs) ≡ true
front_all p [] zero h = refl
front_all p [] (suc n) h = refl
front_all p (x ∷ xs) zero h = refl
front_all p (x ∷ xs) (suc n) h = let both = and_parts (p x) (list_all p xs) h in and_from (p x) (list_all p (take n xs)) both.0 (front_all p xs n both.1)

-- the whole characters of bytes that pass
pub wide_slice : (p : ℕ → Bool) (xs : List ℕ) (n m : ℕ) → n ≡ prefix_len p xs → m ≤ length (take n xs) → is_text (take m (take n xs)) ≡ true → IsSlice p (take m xs)
wide_slice p xs n m is le whole =
    let all : list_all p (take n xs) ≡ true = subst (λ k. list_all p (take k xs) ≡ true) (sym is) (front_passes p xs) in
    let same : take m (take n xs) ≡ take m xs = take-take m n xs (omega (arith, length-take n xs)) in
    record { whole = subst (λ l. is_text l ≡ true) same whole; ordinary = subst (λ l. list_all p l ≡ true) same (front_all p (take n xs) m all) }

rest_whole : (bs : List ℕ) (at n : ℕ) → n ≡ length bs - at → take n (drop at bs) ≡ drop at bs
rest_whole bs at n e = take_whole (drop at bs) n (e ∙ sym (length-drop at bs))

pub within_on : (bs : List ℕ) (at m n : ℕ) → m ≡ length bs - at → at ≤ length bs → n ≤ length (take m (drop at bs)) → at + n ≤ length bs
within_on bs at m n e h k = omega (arith, ap length (rest_whole bs at m e), length-drop at bs)

take_on : (bs : List ℕ) (at n : ℕ) → take at bs ++ take n (drop at bs) ≡ take (at + n) bs
take_on bs at n =
    ap (λ l. l ++ take n (drop at bs)) (sym (take-take at (at + n) bs (omega arith))) ∙ ap (λ l. take at (take (at + n) bs) ++ l) (sym (drop-take at n bs))
    ∙ take-append-drop at (take (at + n) bs)

high_each : (p : ℕ → Bool) (xs : List ℕ) → list_all is_high xs ≡ true → list_all (or_high p) xs ≡ true
high_each p xs h = list_all_each is_high (or_high p) (λ x k. or_left (is_high x) (p x) k) xs h

-- characters past ASCII behind bytes that pass
pub high_slice : (p : ℕ → Bool) (xs : List ℕ) (n m k : ℕ) → k ≡ length xs - n → IsSlice is_high (take m (take k (drop n xs))) → IsSlice (or_high p) (take n xs) → IsSlice (or_high p) (take (n + m) xs)
high_slice p xs n m k e high low =
    let l = take m (drop n xs) in
    let h : IsSlice is_high l = subst (λ d. IsSlice is_high (take m d)) (rest_whole xs n k e) high in
    subst (IsSlice (or_high p)) (take_on xs n m)
    (record { whole = is_text-append (take n xs) l low.whole h.whole; ordinary = all_append (or_high p) (take n xs) l low.ordinary (high_each p l h.ordinary) })

-- the bytes of ASCII that pass, and more behind them
abbrev pub Grows : List ℕ → ℕ → ℕ → Type 0
Grows xs n m = (passes : ℕ → Bool) → IsSlice (or_high passes) (take n xs) → IsSlice (or_high passes) (take m xs)

pub text_slice : (b : Brackets) (cr : Bool) (xs : List ℕ) (n m : ℕ) → b ≡ Zero → cr ≡ false → n ≡ prefix_len is_ordinary_text xs → Grows xs n m → IsSlice (ordinary_text b cr) (take m xs)
text_slice b cr xs n m e f is grows = subst (λ a. IsSlice (ordinary_text a cr) (take m xs)) (sym e)
    (subst (λ c. IsSlice (ordinary_text Zero c) (take m xs)) (sym f) (grows is_ordinary_text (low_slice is_ordinary_text text_ascii xs n is)))

pub name_slice : (xs : List ℕ) (n m : ℕ) → n ≡ prefix_len is_ordinary_name xs → Grows xs n m → IsSlice (or_high is_ordinary_name) (take m xs)
name_slice xs n m is grows = grows is_ordinary_name (low_slice is_ordinary_name name_ascii xs n is)

pub value_slice : (quote : ℕ) (cr : Bool) (xs : List ℕ) (n m : ℕ) → cr ≡ false → n ≡ prefix_len (is_ordinary_value quote) xs → Grows xs n m → IsSlice (ordinary_value quote cr) (take m xs)
value_slice quote cr xs n m e is grows =
    subst (λ c. IsSlice (ordinary_value quote c) (take m xs)) (sym e) (grows (is_ordinary_value quote) (low_slice (is_ordinary_value quote) (value_ascii quote) xs n is))

pub but_slice : (mark : ℕ) (behind : Bool) (xs : List ℕ) (n m : ℕ) → behind ≡ false → n ≡ prefix_len (is_ordinary_but mark) xs → Grows xs n m → IsSlice (ordinary_but mark behind) (take m xs)
but_slice mark behind xs n m e is grows =
    subst (λ c. IsSlice (ordinary_but mark c) (take m xs)) (sym e) (grows (is_ordinary_but mark) (low_slice (is_ordinary_but mark) (but_ascii mark) xs n is))

-- one more character
whole_on : (xs : List ℕ) (at n : ℕ) → is_text (take at xs) ≡ true → is_whole (take n (drop at xs)) ≡ true → is_text (take (at + n) xs) ≡ true
whole_on xs at n h w = subst (λ l. is_text l ≡ true) (take_on xs at n) (is_text-append (take at xs) (take n (drop at xs)) h (whole_text (take n (drop at xs)) w))

pub whole_next : (xs : List ℕ) (at n m : ℕ) → m ≡ length xs - at → is_text (take at xs) ≡ true → (n ≡ 0 → ⊥) → (n ≡ 0) ⊎ (is_whole (take n (take m (drop at xs))) ≡ true) → is_text (take (at + n) xs) ≡ true
whole_next xs at n m e h ne (inl z) = absurd (ne z)
whole_next xs at n m e h ne (inr w) = whole_on xs at n h (subst (λ l. is_whole (take n l) ≡ true) (rest_whole xs at m e) w)

-- what each makes of a state

line_ordinary : (x : ℕ) → (x == 13) ≡ false → line_text false x ≡ x ∷ []
line_ordinary x h = if_false (x == 13) (10 ∷ []) (cond ((x == 10) && false) [] (x ∷ [])) h ∙ go (x == 10)
  where
    go : (b : Bool) → cond (b && false) [] (x ∷ []) ≡ x ∷ []
    go true = refl
    go false = refl

run_next : (levels : ℕ) (e : Element) (outer : List Element) (text : List ℕ) (at x : ℕ) → or_high is_ordinary_text x ≡ true
    → next_in_run levels e outer text no_bracket false at x ≡ Some (in_run levels e outer (text ++ (x ∷ [])) no_bracket false)
run_next levels e outer text at x h =
    let e60 : (x == 60) ≡ false = grind (arith, nat_tests) in
    let e38 : (x == 38) ≡ false = grind (arith, nat_tests) in
    let e62 : (x == 62) ≡ false = grind (arith, nat_tests) in
    let e93 : (x == 93) ≡ false = grind (arith, nat_tests) in
    let e13 : (x == 13) ≡ false = grind (arith, nat_tests) in
    rw (e60, e38, e62, line_ordinary x e13, e93, e13) refl

section_next : (levels : ℕ) (e : Element) (outer : List Element) (text : List ℕ) (x : ℕ) → or_high is_ordinary_text x ≡ true
    → next_in_section levels e outer text no_bracket false x ≡ Some (in_section levels e outer (text ++ (x ∷ [])) no_bracket false)
section_next levels e outer text x h =
    let e93 : (x == 93) ≡ false = grind (arith, nat_tests) in
    let e62 : (x == 62) ≡ false = grind (arith, nat_tests) in
    let e13 : (x == 13) ≡ false = grind (arith, nat_tests) in
    rw (e93, e62, line_ordinary x e13, e13, append-nil text) refl

name_part : (x : ℕ) → or_high is_ordinary_name x ≡ true → is_name_part x ≡ true
name_part x h = grind (arith, nat_tests)

name_next : (levels : ℕ) (outer : List Element) (begin : ℕ) (name : List ℕ) (at x : ℕ) → or_high is_ordinary_name x ≡ true
    → next_state (in_name levels outer begin name) at x ≡ Some (in_name levels outer begin (name ++ (x ∷ [])))
name_next levels outer begin name at x h =
    if_true (is_name_part x) (Some (in_name levels outer begin (name ++ (x ∷ [])))) (next_in_tag levels outer (named name begin) false x) (name_part x h)

attribute_next : (levels : ℕ) (outer : List Element) (e : Element) (name : List ℕ) (at x : ℕ) → or_high is_ordinary_name x ≡ true
    → next_state (in_attribute levels outer e name) at x ≡ Some (in_attribute levels outer e (name ++ (x ∷ [])))
attribute_next levels outer e name at x h =
    let part : is_name_part x ≡ true = name_part x h in
    rw part refl

not_return : (quote x : ℕ) → or_high (is_ordinary_value quote) x ≡ true → (x == 13) ≡ false
not_return quote x h = grind (arith, nat_tests)

no_other_space : (quote x : ℕ) → or_high (is_ordinary_value quote) x ≡ true → ((x == 9) || ((x == 10) || (x == 13))) ≡ false
no_other_space quote x h = grind (arith, nat_tests)

value_next : (levels : ℕ) (outer : List Element) (e : Element) (name : List ℕ) (quote : ℕ) (value : List ℕ) (x : ℕ) → is_quote quote ≡ true → or_high (is_ordinary_value quote) x ≡ true
    → next_in_value levels outer e name quote value false x ≡ Some (in_value levels outer e name quote (value ++ (x ∷ [])) false)
value_next levels outer e name quote value x q h =
    let same : (x == quote) ≡ false = grind (arith, nat_tests) in
    let e60 : (x == 60) ≡ false = grind (arith, nat_tests) in
    let e38 : (x == 38) ≡ false = grind (arith, nat_tests) in
    let e13 : (x == 13) ≡ false = grind (arith, nat_tests) in
    let text : space_text false x ≡ x ∷ [] = space_ordinary in
    rw (same, e60, e38, text, e13) refl
  where
    go : (a b c : Bool) → a ≡ false → (y : ℕ) → cond c 32 x ≡ y → cond a (32 ∷ []) (cond (b && false) [] (cond c 32 x ∷ [])) ≡ y ∷ []
    go true b c h y e = absurd (false≢true (sym h))
    go false true c h y e = ap (λ z. z ∷ []) e
    go false false c h y e = ap (λ z. z ∷ []) e

    as_it_is : (b c : Bool) → (x == 32) ≡ b → c ≡ false → cond (b || c) 32 x ≡ x
    as_it_is true c e h = sym (eqb-true x 32 e)
    as_it_is false true e h = absurd (false≢true (sym h))
    as_it_is false false e h = refl

    space_ordinary : space_text false x ≡ x ∷ []
    space_ordinary = go (x == 13) (x == 10) (is_space x) (not_return quote x h) x (as_it_is (x == 32) ((x == 9) || ((x == 10) || (x == 13))) refl (no_other_space quote x h))

space_next : (levels : ℕ) (outer : List Element) (e : Element) (x : ℕ) → is_space x ≡ true → next_in_tag levels outer e true x ≡ Some (in_tag levels outer e true)
space_next levels outer e x h = rw h refl

-- a byte that stands for itself in a context

ordinary_next : (m : Context) (k : Kept) (p : Nesting) (ys o : List ℕ) (at x : ℕ) → IsViable (behind_ordinary (state_of p k m) ys) at o → is_ordinary m x ≡ true → next_state (behind_ordinary (state_of p k m) ys) at x ≡ Some (behind_ordinary (state_of p k m) (ys ++ (x ∷ [])))
ordinary_next contexts.Start k p ys o at x v h = absurd (false≢true h)
ordinary_next contexts.First k p ys o at x v h = absurd (false≢true h)
ordinary_next contexts.Between k p ys o at x v h = absurd (false≢true h)
ordinary_next (contexts.Run Zero false) k p ys o at x v h = run_next (levels_of p) (inner_of p) (outer_of p) (k.text.items ++ ys) at x h ∙ ap (λ l. Some (in_run (levels_of p) (inner_of p) (outer_of p) l no_bracket false)) (append_assoc k.text.items ys (x ∷ []))
ordinary_next (contexts.Run Zero true) k p ys o at x v h = absurd (false≢true h)
ordinary_next (contexts.Run One cr) k p ys o at x v h = absurd (false≢true h)
ordinary_next (contexts.Run Two cr) k p ys o at x v h = absurd (false≢true h)
ordinary_next (contexts.Markup first begin) k p ys o at x v h = absurd (false≢true h)
ordinary_next contexts.Bang k p ys o at x v h = absurd (false≢true h)
ordinary_next (contexts.Comment true) k p ys o at x v h = absurd (false≢true h)
ordinary_next (contexts.Comment false) k p ys o at x v h = if_false (x == 45) (Some (in_comment p true)) (Some (in_comment p false)) (not_mark 45 x refl h)
ordinary_next (contexts.Target first) k p ys o at x v h = absurd (false≢true h)
ordinary_next (contexts.Instruction true) k p ys o at x v h = absurd (false≢true h)
ordinary_next (contexts.Instruction false) k p ys o at x v h = if_false (x == 63) (Some (in_instruction p true)) (Some (in_instruction p false)) (not_mark 63 x refl h)
ordinary_next (contexts.Section Zero false) k p ys o at x v h = section_next (levels_of p) (inner_of p) (outer_of p) (k.text.items ++ ys) x h ∙ ap (λ l. Some (in_section (levels_of p) (inner_of p) (outer_of p) l no_bracket false)) (append_assoc k.text.items ys (x ∷ []))
ordinary_next (contexts.Section Zero true) k p ys o at x v h = absurd (false≢true h)
ordinary_next (contexts.Section One cr) k p ys o at x v h = absurd (false≢true h)
ordinary_next (contexts.Section Two cr) k p ys o at x v h = absurd (false≢true h)
ordinary_next (contexts.Name begin) k p ys o at x v h = name_next (levels_for p) (outer_for p) begin (k.name.items ++ ys) at x h ∙ ap (λ l. Some (in_name (levels_for p) (outer_for p) begin l)) (append_assoc k.name.items ys (x ∷ []))
ordinary_next (contexts.Tag true) k p ys o at x v h = space_next (levels_of p) (outer_of p) (inner_of p) x h
ordinary_next (contexts.Tag false) k p ys o at x v h = absurd (false≢true h)
ordinary_next contexts.Attribute k p ys o at x v h = attribute_next (levels_of p) (outer_of p) (inner_of p) (k.name.items ++ ys) at x h ∙ ap (λ l. Some (in_attribute (levels_of p) (outer_of p) (inner_of p) l)) (append_assoc k.name.items ys (x ∷ []))
ordinary_next contexts.BeforeEquals k p ys o at x v h = absurd (false≢true h)
ordinary_next contexts.BehindEquals k p ys o at x v h = absurd (false≢true h)
ordinary_next (contexts.Value quote true) k p ys o at x v h = absurd (false≢true h)
ordinary_next (contexts.Value quote false) k p ys o at x v h = value_next (levels_of p) (outer_of p) (inner_of p) k.name.items quote (k.text.items ++ ys) x v.0.quoted h ∙ ap (λ l. Some (in_value (levels_of p) (outer_of p) (inner_of p) k.name.items quote l false)) (append_assoc k.text.items ys (x ∷ []))
ordinary_next (contexts.Reference holder) k p ys o at x v h = absurd (false≢true h)
ordinary_next (contexts.Entity holder) k p ys o at x v h = absurd (false≢true h)
ordinary_next (contexts.NumberSign holder) k p ys o at x v h = absurd (false≢true h)
ordinary_next (contexts.Number holder base number any) k p ys o at x v h = absurd (false≢true h)
ordinary_next (contexts.Due word read next) k p ys o at x v h = absurd (false≢true h)
ordinary_next (contexts.EndName read) k p ys o at x v h = absurd (false≢true h)
ordinary_next (contexts.Declaration stage spaced) k p ys o at x v h = absurd (false≢true h)
ordinary_next (contexts.BeforePartEquals part) k p ys o at x v h = absurd (false≢true h)
ordinary_next (contexts.BehindPartEquals part) k p ys o at x v h = absurd (false≢true h)
ordinary_next (contexts.PartValue part quote) k p ys o at x v h = absurd (false≢true h)

pub behind_none : (s : State) → behind_ordinary s [] ≡ s
behind_none at_start = refl
behind_none (outside first) = refl
behind_none (at_end root) = refl
behind_none (in_run levels e outer text b cr) = ap (λ l. in_run levels e outer l b cr) (append-nil text)
behind_none (at_markup first nesting begin) = refl
behind_none (at_bang nesting) = refl
behind_none (in_comment nesting dash) = refl
behind_none (in_target first nesting name) = refl
behind_none (in_instruction nesting question) = refl
behind_none (in_section levels e outer text b cr) = ap (λ l. in_section levels e outer l b cr) (append-nil text)
behind_none (in_name levels outer begin name) = ap (λ l. in_name levels outer begin l) (append-nil name)
behind_none (in_tag levels outer e spaced) = refl
behind_none (in_attribute levels outer e name) = ap (λ l. in_attribute levels outer e l) (append-nil name)
behind_none (before_equals levels outer e name) = refl
behind_none (behind_equals levels outer e name) = refl
behind_none (in_value levels outer e name quote value cr) = ap (λ l. in_value levels outer e name quote l cr) (append-nil value)
behind_none (at_reference holder) = refl
behind_none (in_entity holder part) = refl
behind_none (at_number holder) = refl
behind_none (in_number holder base n any) = refl
behind_none (due left s) = refl
behind_none (in_end levels e outer) = refl
behind_none (in_declaration stage spaced) = refl
behind_none (before_part_equals part) = refl
behind_none (behind_part_equals part) = refl
behind_none (in_part part quote value) = refl

fed_next : (m : Context) (k : Kept) (p : Nesting) (b ys o xs : List ℕ) → Fed (behind_ordinary (state_of p k m) ys) o (b ++ ys) → list_all (is_ordinary m) xs ≡ true → is_text (o ++ xs) ≡ true
    → Fed (behind_ordinary (state_of p k m) (ys ++ xs)) [] (b ++ (ys ++ xs))
fed_next m k p b ys o [] f h t =
    let none : o ≡ [] = open_text o f.is_open (subst (λ l. is_text l ≡ true) (append-nil o) t) in
    subst (λ l. Fed (behind_ordinary (state_of p k m) l) [] (b ++ l)) (sym (append-nil ys)) (subst (λ q. Fed (behind_ordinary (state_of p k m) ys) q (b ++ ys)) none f)
fed_next m k p b ys o (x ∷ xs) f h t =
    let s = state_of p k m in
    let both = and_parts (is_ordinary m x) (list_all (is_ordinary m) xs) h in
    let c = text_goes o x xs f.is_open t in
    let one = fed_more (behind_ordinary s ys) o (b ++ ys) x c.open_bytes (behind_ordinary s (ys ++ (x ∷ []))) f c.is (ordinary_next m k p ys o (length (b ++ ys)) x f.viable both.0) in
    let more = fed_next m k p b (ys ++ (x ∷ [])) c.open_bytes xs (subst (Fed (behind_ordinary s (ys ++ (x ∷ []))) c.open_bytes) (append_assoc b ys (x ∷ [])) one) both.1 c.rest in
    subst (λ l. Fed (behind_ordinary s l) [] (b ++ l)) (append_assoc ys (x ∷ []) xs) more

fed_ordinary : (m : Context) (k : Kept) (p : Nesting) (b xs : List ℕ) → Fed (state_of p k m) [] b → IsSlice (is_ordinary m) xs → Fed (behind_ordinary (state_of p k m) xs) [] (b ++ xs)
fed_ordinary m k p b xs f h =
    fed_next m k p b [] [] xs (subst (λ s. Fed s [] (b ++ [])) (sym (behind_none (state_of p k m))) (subst (Fed (state_of p k m) []) (sym (append-nil b)) f)) h.ordinary h.whole

-- bytes that stand for themselves were taken
pub ordinary_more : (tree : OpenTree) (kept kept2 : Kept) (context : Context) (opened : Open) (count count2 : ℕ) (b xs : List ℕ) → IsReading tree kept context opened count b → open_bytes opened ≡ []
    → IsSlice (is_ordinary context) xs → state_of (nesting_of tree) kept2 context ≡ behind_ordinary (state_of (nesting_of tree) kept context) xs → count2 ≡ count + length xs
    → count2 ≤ BYTES → IsReading tree kept2 context opened count2 (b ++ xs)
ordinary_more tree kept kept2 context opened count count2 b xs r none ordinary state counted within =
    let p = nesting_of tree in
    let was : count ≡ length b = r.counted in
    record {
      belongs = r.belongs;
      fits = r.fits;
      fed =
          subst (λ o. Fed (state_of p kept2 context) o (b ++ xs)) (sym none)
          (subst (λ s. Fed s [] (b ++ xs)) (sym state) (fed_ordinary context kept p b xs (subst (λ o. Fed (state_of p kept context) o b) none r.fed) ordinary));
      counted = omega (arith, length-append b xs);
      within = omega (arith, length-append b xs);
    }

-- a context that is the same state
pub same_state : (tree : OpenTree) (kept kept2 : Kept) (context context2 : Context) (opened : Open) (count : ℕ) (b : List ℕ) → IsReading tree kept context opened count b
    → state_of (nesting_of tree) kept2 context2 ≡ state_of (nesting_of tree) kept context → Admits (nesting_of tree) context2 → IsReading tree kept2 context2 opened count b
same_state tree kept kept2 context context2 opened count b r state fits = record {
  belongs = r.belongs;
  fits = fits;
  fed = subst (λ s. Fed s (open_bytes opened) b) (sym state) r.fed;
  counted = r.counted;
  within = r.within;
}

take_size : (l : List ℕ) (n : ℕ) → n ≤ length l → length (take n l) ≡ n
take_size l n h = omega (arith, length-take n l)

record Front (n room : ℕ) (piece front : List ℕ) : Type 0 where
  pub same : take n front ≡ take n piece
  pub size : length (take n piece) ≡ n
  pub within : n ≤ room

front_facts : (n room : ℕ) (piece front : List ℕ) → front ≡ take room piece → n ≤ length front → Front n room piece front
front_facts n room piece front is le =
    let size : length front ≤ room = omega (arith, ap length is, length-take room piece) in
    let within : n ≤ room = omega arith in
    let same : take n front ≡ take n piece = ap (take n) is ∙ take-take n room piece within in
    record { same = same; size = ap length (sym same) ∙ take_size front n le; within = within }

-- the front of a piece, as far as there is room, in the context that was begun
pub ordinary_read : (tree : OpenTree) (kept kept2 kept3 : Kept) (context begun : Context) (opened : Open) (count room n : ℕ) (b piece front : List ℕ) → IsReading tree kept context opened count b → open_bytes opened ≡ []
    → state_of (nesting_of tree) kept2 begun ≡ state_of (nesting_of tree) kept context → Admits (nesting_of tree) begun → room ≡ BYTES - count → front ≡ take room piece → n ≤ length front
    → IsSlice (is_ordinary begun) (take n front) → state_of (nesting_of tree) kept3 begun ≡ behind_ordinary (state_of (nesting_of tree) kept2 begun) (take n front)
    → IsReading tree kept3 begun opened (count + n) (b ++ take n piece)
ordinary_read tree kept kept2 kept3 context begun opened count room n b piece front r none state fits roomy is le slice behind =
    let f = front_facts n room piece front is le in
    let was : count ≡ length b = r.counted in
    let held : length b ≤ BYTES = r.within in
    let within : n ≤ room = f.within in
    ordinary_more tree kept2 kept3 begun opened count (count + n) b (take n piece) (same_state tree kept kept2 context begun opened count b r state fits) none
    (subst (IsSlice (is_ordinary begun)) f.same slice) (behind ∙ ap (behind_ordinary (state_of (nesting_of tree) kept2 begun)) f.same) (ap (λ k. count + k) (sym f.size)) (omega arith)

-- a piece, and what is left of it

pub piece_on : (b bs : List ℕ) (at m n : ℕ) → m ≡ length bs - at → (b ++ take at bs) ++ take n (take m (drop at bs)) ≡ b ++ take (at + n) bs
piece_on b bs at m n e =
    append_assoc b (take at bs) (take n (take m (drop at bs))) ∙ ap (λ l. b ++ l) (ap (λ l. take at bs ++ take n l) (rest_whole bs at m e) ∙ take_on bs at n)

-- the name of an end tag

drop_next : (l : List ℕ) (i x : ℕ) (t : List ℕ) → drop i l ≡ x ∷ t → (slice_get l i ≡ Some x) × (drop (suc i) l ≡ t)
drop_next [] zero x t h = absurd (no_head x t h)
drop_next [] (suc i) x t h = absurd (no_head x t h)
drop_next (y ∷ ys) zero x t h = (ap Some (head_is y x ys t h), tail_is y x ys t h)
drop_next (y ∷ ys) (suc i) x t h = drop_next ys i x t h

itself : (x : ℕ) → (x == x) ≡ true
itself x = grind (arith, nat_tests)

fed_name : (p : Nesting) (read : ℕ) (b o xs rest : List ℕ) → Fed (end_of p read) o b → drop read (inner_of p).name ≡ xs ++ rest → is_text (o ++ xs) ≡ true
    → Fed (end_of p (read + length xs)) [] (b ++ xs)
fed_name p read b o [] rest f is h =
    let none : o ≡ [] = open_text o f.is_open (subst (λ l. is_text l ≡ true) (append-nil o) h) in
    subst (λ l. Fed (end_of p (read + 0)) [] l) (sym (append-nil b)) (subst (λ n. Fed (end_of p n) [] b) (sym (add-zero read)) (subst (λ q. Fed (end_of p read) q b) none f))
fed_name p read b o (x ∷ xs) rest f is h =
    let next = drop_next (inner_of p).name read x (xs ++ rest) is in
    let goes : next_state (end_of p read) (length b) x ≡ Some (end_of p (read + 1)) =
    end_some p read x (length b) x next.0 ∙ if_true (x == x) (Some (end_of p (read + 1))) None (itself x)
    in
    let c = text_goes o x xs f.is_open h in
    let one = fed_more (end_of p read) o b x c.open_bytes (end_of p (read + 1)) f c.is goes in
    let more = fed_name p (read + 1) (b ++ (x ∷ [])) c.open_bytes xs rest one (rw add-one next.1) c.rest in
    let sum : (read + 1) + length xs ≡ read + suc (length xs) = omega arith in
    subst (λ n. Fed (end_of p n) [] (b ++ (x ∷ xs))) sum (subst (Fed (end_of p ((read + 1) + length xs)) []) (append_assoc b (x ∷ []) xs) more)

due_text : (left : List ℕ) (p : Nesting) (at : ℕ) → IsViable (goes_due left (end_state p)) at [] → is_text left ≡ true
due_text [] p at v = refl
due_text (l ∷ ls) p at v = v.1

-- what is due of the name of an end tag, where no character is begun
pub name_text : (tree : OpenTree) (kept : Kept) (context : Context) (opened : Open) (count read : ℕ) (b : List ℕ) → IsReading tree kept context opened count b → open_bytes opened ≡ []
    → context ≡ contexts.EndName read → is_text (drop read (inner_of (nesting_of tree)).name) ≡ true
name_text tree kept context opened count read b r none m =
    let p = nesting_of tree in
    let v : IsViable (end_of p read) (length b) [] = subst (λ s. IsViable s (length b) []) (ap (state_of p kept) m) (subst (IsViable (state_of p kept context) (length b)) none r.fed.viable) in
    due_text (drop read (inner_of p).name) p (length b) v

pub name_read : (tree : OpenTree) (kept : Kept) (context : Context) (opened : Open) (count room read n : ℕ) (b piece front : List ℕ) → IsReading tree kept context opened count b → open_bytes opened ≡ []
    → context ≡ contexts.EndName read → room ≡ BYTES - count → front ≡ take room piece → n ≤ length front → take n front ≡ take n (drop read (inner_of (nesting_of tree)).name)
    → is_text (take n front) ≡ true → IsReading tree kept (contexts.EndName (read + n)) opened (count + n) (b ++ take n piece)
name_read tree kept context opened count room read n b piece front r none m roomy is le same text =
    let p = nesting_of tree in
    let wanted = drop read (inner_of p).name in
    let facts = front_facts n room piece front is le in
    let xs = take n piece in
    let whole : wanted ≡ xs ++ drop n wanted = sym (take-append-drop n wanted) ∙ ap (λ l. l ++ drop n wanted) (sym same ∙ facts.same) in
    let f : Fed (end_of p read) [] b = subst (λ s. Fed s [] b) (ap (state_of p kept) m) (subst (λ o. Fed (state_of p kept context) o b) none r.fed) in
    let was : count ≡ length b = r.counted in
    let held : length b ≤ BYTES = r.within in
    let many : length xs ≡ n = facts.size in
    let fits : n ≤ room = facts.within in
    record {
      belongs = r.belongs;
      fits = subst (Admits p) m r.fits;
      fed =
          subst (λ o. Fed (end_of p (read + n)) o (b ++ xs)) (sym none)
          (subst (λ k. Fed (end_of p (read + k)) [] (b ++ xs)) many (fed_name p read b [] xs (drop n wanted) f whole (subst (λ l. is_text l ≡ true) facts.same text)));
      counted = omega (arith, length-append b xs);
      within = omega (arith, length-append b xs);
    }
