-- Mode words: a number in front, or none.
use Rattle.std.proofs.Common.{◌≡◌, ◌⊎◌, inl, inr, ℕ, ◌+◌, ◌-◌, ◌<◌, ◌≤◌, ◌==◌, ◌||◌, not, Bool, true, false, List, [], ◌∷◌, ◌++◌, codes, decimal, length, min, append-nil, append_assoc, refl, sym, ap, ◌∙◌, subst, arith}
use Rattle.std.specs.declared.result.Result.TheVariants.{Err}
use Rattle.std.specs.Char.{is_ascii, is_ascii_digit}
use Rattle.std.specs.Int.{is_in_range}
use Rattle.std.specs.List.{list_all}
use Rattle.std.proofs.lemmas.Bool.{false≢true}
use Rattle.pn_facts.proofs.Contained.{contains_first, contains_one}
use Rattle.pn_facts.proofs.Lists.{list_all_each}
use Rattle.pn_lines.proofs.TextLemmas.{escaped_is_clean}
use Rattle.pn_lines.specs.Escapes.{escaped, is_line_byte}
use Rattle.pn_net.specs.declared.flat.Flat.{Flat}
use Rattle.pn_net.specs.declared.mode.Mode.{Mode}
use Rattle.pn_words.proofs.ClosedLemmas.{marked}
use Rattle.pn_words.proofs.DigitLemmas.{are_digits}
use Rattle.pn_words.proofs.SameLemmas.{apart_both, apart_falls, length_both, same_next}
use Rattle.pn_words.proofs.PlaceLemmas.{bad_place, more_broken}
use Rattle.pn_words.proofs.ThenLemmas.{first_broken, then_broken_at, then_found}
use Rattle.pn_words.proofs.WayLemmas.{broken_least, broken_second, first_found, renamed, second_found}
use Rattle.pn_words.specs.Languages.{Apart, Broken, Closed, Continues, Either, IsBadPlace, IsRead, Then, same}
use Rattle.pn_words.specs.Numbers.{Decimal}
use Rattle.pn_mode_text.specs.ModeReadings.{IsAssignedText, IsNearer, IsToldBreak, IsWord}
use Rattle.pn_mode_text.specs.Readings.{ReadsOr}
use Rattle.pn_mode_text.specs.declared.reading.ReadFault.{ReadFault}
use Rattle.pn_mode_text.specs.declared.words.ModeTextFault.{ModeTextFault}
use Rattle.pn_mode_text.specs.declared.words.ModeTextFault.TheVariants as told
use Rattle.pn_mode_text.specs.declared.reading.ReadFault.TheVariants as faults
use Rattle.pn_mode_text.specs.Texts.{IsModeText}
use Rattle.pn_mode_text.specs.Words.{IsCountedText, IsModeWord}
use Rattle.pn_mode_text.proofs.AssignedLemmas.{begins_with_id}

-- a number of times in front, and `*`
abbrev IsCount : ℕ × ℕ → List ℕ → Type 0
IsCount = Closed (Decimal 1 9223372036854775807) (42 ∷ [])

abbrev CountThenMode : Flat → (ℕ × ℕ) × Mode → List ℕ → Type 0
CountThenMode f = Then IsCount (λ p. IsAssignedText f)

-- the text alone
abbrev Alone : Flat → ℕ × Mode → List ℕ → Type 0
Alone f p w = (p.0 ≡ 1) × IsAssignedText f p.1 w

-- the text behind a number and `*`
abbrev BehindCount : Flat → ℕ × Mode → List ℕ → Type 0
BehindCount f p w = CountThenMode f ((p.0, 42), p.1) w

word_text : (count : ℕ) (text : List ℕ) → (decimal count ++ 42 ∷ []) ++ text ≡ decimal count ++ (codes "*" ++ text)
word_text count text = append_assoc (decimal count) (42 ∷ []) text

-- ---- the two ways

alone_is : (f : Flat) (b : List ℕ) → Continues (Alone f) b (IsAssignedText f) b (λ mode. (1, mode))
alone_is f b = renamed (Alone f) (IsAssignedText f) (λ mode. (1, mode)) b (λ mode w h. (refl, h)) (λ p w h. (p.1, (λ i. (h.0 i, p.1)), h.1))

counted_is : (f : Flat) (b : List ℕ) → Continues (BehindCount f) b (CountThenMode f) b (λ q. (q.0.0, q.1))
counted_is f b = renamed (BehindCount f) (CountThenMode f) (λ q. (q.0.0, q.1)) b to (λ p w h. (((p.0, 42), p.1), refl, h))
  where
    to : (q : (ℕ × ℕ) × Mode) (w : List ℕ) → CountThenMode f q w → BehindCount f (q.0.0, q.1) w
    to q w (a, c, (t, is, mark, a_is), mode, cut) = (a, c, (t, is, contains_first 42 [], a_is ∙ ap (λ m. t ++ m ∷ []) (contains_one 42 q.0.1 mark)), mode, cut)

word_is : (f : Flat) (b : List ℕ) → Continues (IsWord f) b (Either (Alone f) (BehindCount f)) b (λ p. p)
word_is f b = renamed (IsWord f) (Either (Alone f) (BehindCount f)) (λ p. p) b to from
  where
    to : (p : ℕ × Mode) (w : List ℕ) → Either (Alone f) (BehindCount f) p w → IsWord f p w
    to p w (inl (one, (assigned, text))) = record { assigned = assigned; text = w; is_text = text; is_word = inl (one, refl) }
    to p w (inr (a, c, (t, (low, high, is), mark, a_is), (assigned, text), cut)) = record {
      assigned = assigned;
      text = c;
      is_text = text;
      is_word = inr (omega (arith, low), high, cut ∙ ap (λ l. l ++ c) (a_is ∙ ap (λ l. l ++ 42 ∷ []) is) ∙ word_text p.0 c);
    }

    from : (p : ℕ × Mode) (w : List ℕ) → IsWord f p w → (q : ℕ × Mode) × (p ≡ q) × Either (Alone f) (BehindCount f) q w
    from p w h = (p, refl, by h.is_word)
      where
        by : IsCountedText p.0 h.text w → Either (Alone f) (BehindCount f) p w
        by (inl (one, is)) = inl (one, (h.assigned, subst (IsModeText f p.1) (sym is) h.is_text))
        by (inr (low, high, is)) =
            inr (decimal p.0 ++ 42 ∷ [], h.text, (decimal p.0, (omega (arith, low), high, refl), contains_first 42 [], refl), (h.assigned, h.is_text), is ∙ sym (word_text p.0 h.text))

-- ---- they are apart

digit_is : (b : ℕ) → is_ascii_digit b ≡ true → is_line_byte b ≡ true
digit_is b is = ap (λ t. (((t || is_in_range 65 90 b) || is_in_range 97 122 b) || (((b == 95) || ((b == 45) || (b == 46))) || not (is_ascii b))) || (b == 37)) is

count_clean : (n : ℕ) → n ≤ 9223372036854775807 → list_all is_line_byte (decimal n) ≡ true
count_clean n le = list_all_each is_ascii_digit is_line_byte digit_is (decimal n) (are_digits n (omega (arith, le)))

alone_apart : (f : Flat) (p : ℕ × Mode) (w : List ℕ) (q : ℕ × ℕ) (x : List ℕ) → Alone f p w → IsCount q x → Apart w x × Apart x w
alone_apart f p w q x h (t, (low, high, is), mark, x_is) =
    let id = begins_with_id f p.1 w h.1 in
    let plain : list_all is_line_byte t ≡ true = subst (λ l. list_all is_line_byte l ≡ true) (sym is) (count_clean q.0 high) in
    let other : is_line_byte q.1 ≡ false = ap is_line_byte (contains_one 42 q.1 mark) in
    let clean = escaped_is_clean id.0 in (
      one (escaped id.0) id.1 id.2 (marked is_line_byte (escaped id.0) 91 t q.1 clean refl plain other),
      two (escaped id.0) id.1 id.2 (marked is_line_byte t q.1 (escaped id.0) 91 plain other clean refl),
    )
  where
    differ : (m : ℕ) → m ≡ 42 → m ≡ 91 → ⊥
    differ m e k = let n : 42 ≡ 91 = sym e ∙ k in omega (arith, n)

    one : (e rest : List ℕ) → w ≡ (e ++ 91 ∷ []) ++ rest → ((e ≡ t) × (91 ≡ q.1)) ⊎ Apart (e ++ 91 ∷ []) (t ++ q.1 ∷ []) → Apart w x
    one e rest w_is (inl (same, mark_is)) = absurd (differ q.1 (contains_one 42 q.1 mark) (sym mark_is))
    one e rest w_is (inr apart) =
        subst (λ l. Apart l x) (sym w_is) (subst (Apart ((e ++ 91 ∷ []) ++ rest)) (append-nil (t ++ q.1 ∷ []) ∙ sym x_is) (apart_both (e ++ 91 ∷ []) (t ++ q.1 ∷ []) rest [] apart))

    two : (e rest : List ℕ) → w ≡ (e ++ 91 ∷ []) ++ rest → ((t ≡ e) × (q.1 ≡ 91)) ⊎ Apart (t ++ q.1 ∷ []) (e ++ 91 ∷ []) → Apart x w
    two e rest w_is (inl (same, mark_is)) = absurd (differ q.1 (contains_one 42 q.1 mark) mark_is)
    two e rest w_is (inr apart) =
        subst (Apart x) (sym w_is) (subst (λ l. Apart l ((e ++ 91 ∷ []) ++ rest)) (append-nil (t ++ q.1 ∷ []) ∙ sym x_is) (apart_both (t ++ q.1 ∷ []) (e ++ 91 ∷ []) [] rest apart))

first_apart : (f : Flat) (p : ℕ × Mode) (w : List ℕ) (q : ℕ × Mode) (x : List ℕ) → Alone f p w → BehindCount f q x → Apart w x
first_apart f p w q x h (a, c, count, mode, cut) =
    subst (Apart w) (sym cut) (subst (λ l. Apart l (a ++ c)) (append-nil w) (apart_both w a [] c (alone_apart f p w (q.0, 42) a h count).0))

second_apart : (f : Flat) (p : ℕ × Mode) (w : List ℕ) (q : ℕ × Mode) (x : List ℕ) → Alone f p w → BehindCount f q x → Apart x w
second_apart f p w q x h (a, c, count, mode, cut) =
    subst (λ l. Apart l w) (sym cut) (subst (Apart (a ++ c)) (append-nil w) (apart_both a w c [] (alone_apart f p w (q.0, 42) a h count).1))

-- ---- what is read

-- a number was read: the mode behind it decides
pub counted_goes_on : (f : Flat) (b : List ℕ) (n m : ℕ) (c : List ℕ) → (mode : Mode) × (w : List ℕ) × IsAssignedText f mode w → IsRead IsCount b (n, m) c
    → Continues (IsWord f) b (IsAssignedText f) c (λ mode. (n, mode))
counted_goes_on f b n m c some read = record { found = λ mode rest h. found mode rest h; broken = λ left h. broken left h }
  where
    found : (mode : Mode) (rest : List ℕ) → IsRead (IsAssignedText f) c mode rest → IsRead (IsWord f) b (n, mode) rest
    found mode rest h =
        let both = (counted_is f b).found ((n, m), mode) rest (then_found IsCount (λ p. IsAssignedText f) b (n, m) c mode rest read h) in
        (word_is f b).found (n, mode) rest (second_found (Alone f) (BehindCount f) b (n, mode) rest both (λ u w k. first_apart f u w (n, mode) both.word k both.is_word))

    broken : (left : ℕ) → Broken (IsAssignedText f) c left → Broken (IsWord f) b left
    broken left h =
        (word_is f b).broken left
        (broken_second (Alone f) (BehindCount f) b left ((counted_is f b).broken left (then_broken_at IsCount (λ p. IsAssignedText f) b (n, m) c left some read h))
        (λ u w k. apart_falls w read.word c b left (alone_apart f u w (n, m) read.word k read.is_word).0 read.cut h.within))

-- a text without a number was read
pub alone_found : (f : Flat) (b : List ℕ) (mode : Mode) (rest : List ℕ) → IsRead (IsAssignedText f) b mode rest → IsRead (IsWord f) b (1, mode) rest
alone_found f b mode rest h =
    let alone = (alone_is f b).found mode rest h in
    (word_is f b).found (1, mode) rest (first_found (Alone f) (BehindCount f) b (1, mode) rest alone (λ u w k. second_apart f (1, mode) alone.word u w alone.is_word k))

-- neither a number nor a text was read
pub both_broken : (f : Flat) (b : List ℕ) (left less : ℕ) → (mode : Mode) × (w : List ℕ) × IsAssignedText f mode w → Broken (IsAssignedText f) b left → Broken IsCount b less
    → Broken (IsWord f) b (min left less)
both_broken f b left less some h k =
    (word_is f b).broken (min left less)
    (broken_least (Alone f) (BehindCount f) b left less ((alone_is f b).broken left h) ((counted_is f b).broken less (first_broken IsCount (λ p. IsAssignedText f) b less (λ p. some) k)))

pub some_there : {A : Type 0} (xs ys : List A) (empty : Bool) → (xs ≡ [] → empty ≡ true) → empty ≡ false → xs ≡ ys → 0 < length ys
some_there [] ys empty none some same = absurd (false≢true (sym some ∙ none refl))
some_there (x ∷ xs) ys empty none some same = let n = ap length same in omega (arith, n)

-- without a transition there is no mode word
pub no_words : (f : Flat) (b : List ℕ) → length f.transitions ≡ 0 → Broken (IsWord f) b (length b)
no_words f b none = record { within = omega arith; reach = inl refl; only = λ p w h. absurd (omega (arith, h.assigned.1.within, none)) }

pub nearer_broken : {T S : Type 0} (f : Flat) (b : List ℕ) (less : ℕ) (value : T → Mode) (rest : T → List ℕ) (to : S → ℕ × Mode) (behind : S → List ℕ) (e r : ReadFault)
    → (mode : Mode) × (w : List ℕ) × IsAssignedText f mode w → Broken IsCount b less → IsNearer e less r → ReadsOr (IsAssignedText f) b value rest (Err e) → ReadsOr (IsWord f) b to behind (Err r)
nearer_broken f b less value rest to behind (faults.Memory e) r some k is h = subst (λ x. ReadsOr (IsWord f) b to behind (Err x)) (sym is) tt
nearer_broken f b less value rest to behind (faults.Broken left) r some k is h = subst (λ x. ReadsOr (IsWord f) b to behind (Err x)) (sym is) (both_broken f b left less some h k)

-- ---- the whole word

-- all bytes are a word, which is that of no other number and mode
pub whole_word : (f : Flat) (b : List ℕ) (p : ℕ × Mode) (rest : List ℕ) → length rest ≡ 0 → IsRead (IsWord f) b p rest → IsModeWord f b p.0 p.1
whole_word f b p [] none read = subst (IsWord f p) (sym (read.cut ∙ append-nil read.word)) read.is_word
whole_word f b p (x ∷ rest) none read = absurd (omega (arith, none))

all_same : (w : List ℕ) → length w ≤ same w w
all_same [] = omega arith
all_same (y ∷ w) = let h = all_same w in let e = same_next y w w in omega (arith, h, e)

no_apart : (w b : List ℕ) → b ≡ w → Apart b w → ⊥
no_apart w b is apart = let s = all_same w in let e : same b w ≡ same w w = ap (λ l. same l w) is in omega (arith, s, e, apart.second)

pub only_word : (f : Flat) (b : List ℕ) (p : ℕ × Mode) (rest : List ℕ) → length rest ≡ 0 → IsRead (IsWord f) b p rest → (q : ℕ) (m : Mode) → IsModeWord f b q m → (q ≡ p.0) × (m ≡ p.1)
only_word f b p (x ∷ rest) none read q m h = absurd (omega (arith, none))
only_word f b p [] none read q m h = by (read.only (q, m) b h)
  where
    by : (((q, m) ≡ p) × (b ≡ read.word)) ⊎ Apart b read.word → (q ≡ p.0) × (m ≡ p.1)
    by (inl (same, is)) = (ap (λ x. x.0) same, ap (λ x. x.1) same)
    by (inr apart) = absurd (no_apart read.word b (read.cut ∙ append-nil read.word) apart)

-- a word and more bytes are no word
pub no_more : (f : Flat) (b : List ℕ) (p : ℕ × Mode) (rest : List ℕ) → 0 < length rest → IsRead (IsWord f) b p rest → (q : ℕ) (m : Mode) → IsModeWord f b q m → ⊥
no_more f b p rest some read q m h = by (read.only (q, m) b h)
  where
    n : length b ≡ length read.word + length rest
    n = ap length read.cut ∙ length_both read.word rest

    by : (((q, m) ≡ p) × (b ≡ read.word)) ⊎ Apart b read.word → ⊥
    by (inl (same, is)) = let e = ap length is in omega (arith, n, e, some)
    by (inr apart) =
        let falls = apart_falls b read.word rest b (length rest) apart read.cut (omega arith) in let s = all_same b in omega (arith, falls.short, s)

pub more_place : (f : Flat) (b : List ℕ) (p : ℕ × Mode) (rest : List ℕ) → 0 < length rest → IsRead (IsWord f) b p rest → IsBadPlace (IsWord f) b (length b - length rest)
more_place f b p [] some read = absurd (omega (arith, some))
more_place f b p (x ∷ rest) some read = more_broken (IsWord f) b p x rest read

pub rest_within : (f : Flat) (b : List ℕ) (p : ℕ × Mode) (rest : List ℕ) → IsRead (IsWord f) b p rest → length rest ≤ length b
rest_within f b p rest read = let n = ap length read.cut ∙ length_both read.word rest in omega (arith, n)

pub none_broken_word : (f : Flat) (b : List ℕ) (left : ℕ) → Broken (IsWord f) b left → (q : ℕ) (m : Mode) → IsModeWord f b q m → ⊥
none_broken_word f b left h q m is = let falls = h.only (q, m) b is in let s = all_same b in omega (arith, falls.short, s)

-- what is told of a break says where it is, and that there is no word
pub told_place : {T : Type 0} (f : Flat) (b : List ℕ) (value : T → ℕ × Mode) (rest : T → List ℕ) (e : ReadFault) (r : ModeTextFault) (n k : ℕ) → n ≡ length b → IsToldBreak e n r → r ≡ told.BadMode k
    → ReadsOr (IsWord f) b value rest (Err e) → IsBadPlace (IsWord f) b k
told_place f b value rest (faults.Memory e) r n k many is bad h = absurd cc
told_place f b value rest (faults.Broken left) r n k many is bad h =
    let same : n - min left n ≡ k = cc in
    let within = h.within in
    let place : length b - left ≡ k = omega (arith, same, many, within) in subst (IsBadPlace (IsWord f) b) place (bad_place (IsWord f) b left h)

pub told_none : {T : Type 0} (f : Flat) (b : List ℕ) (value : T → ℕ × Mode) (rest : T → List ℕ) (e : ReadFault) (r : ModeTextFault) (n k : ℕ) → IsToldBreak e n r → r ≡ told.BadMode k
    → ReadsOr (IsWord f) b value rest (Err e) → (q : ℕ) (m : Mode) → IsModeWord f b q m → ⊥
told_none f b value rest (faults.Memory e) r n k is bad h = absurd cc
told_none f b value rest (faults.Broken left) r n k is bad h = none_broken_word f b left h
