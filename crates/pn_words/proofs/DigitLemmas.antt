-- What comes of one more byte behind the digits of a number.
use Rattle.std.proofs.Common.{◌≡◌, ◌⊎◌, inl, inr, ℕ, suc, ◌+◌, ◌*◌, ◌-◌, ◌^◌, ◌%◌, ◌<◌, ◌≤◌, Bool, true, false, not, List, [], ◌∷◌, ◌++◌, length, take, drop, get_or, Some, decimal, ltb, refl, sym, ap, ◌∙◌, subst, append_assoc, arith}
use Rattle.std.specs.Char.{is_ascii_digit}
use Rattle.std.specs.List.{Contains, list_all, slice_get}
use Rattle.std.proofs.lemmas.Bool.{false≢true}
use Rattle.std.proofs.lemmas.Bool.Decides.{nat_tests}
use Rattle.std.proofs.lemmas.List.{append_cancel_left, take-append-drop}
use Rattle.std.proofs.lemmas.Fmt.{decimal_digit, decimal_by_steps_wide, first_decimal}
use Rattle.pn_facts.proofs.Lists.{all_append, list_all_get, take_got, drop_got}
use Rattle.pn_facts.proofs.Contained.{contains_first}
use Rattle.pn_facts.proofs.Truths.{and_left, and_right}
use Rattle.pn_words.specs.Languages.{IsRead, Broken, Closed}
use Rattle.pn_words.specs.Numbers.{Begins, Decimal, HasBegun, is_no_digit}
use Rattle.pn_words.specs.Turns.{so_far}
use Rattle.pn_words.proofs.ClosedLemmas.{closed_found, closed_broken}
use Rattle.pn_words.proofs.NumberLemmas.{split_last, same_before, some_digits, same_number, one_more_digit, begins_within}

pub are_digits : (n : ℕ) → n < 10 ^ 64 → list_all is_ascii_digit (decimal n) ≡ true
are_digits n h = decimal_by_steps_wide (λ m ds. list_all is_ascii_digit ds ≡ true) one more n h
  where
    digit : (d : ℕ) → d < 10 → list_all is_ascii_digit ((48 + d) ∷ []) ≡ true
    digit d lt = grind (arith, nat_tests)

    one : (d : ℕ) → d < 10 → list_all is_ascii_digit ((48 + d) ∷ []) ≡ true
    one d lt = digit d lt

    more : (m : ℕ) (ds : List ℕ) → 10 ≤ m → list_all is_ascii_digit ds ≡ true → list_all is_ascii_digit (ds ++ (48 + m % 10) ∷ []) ≡ true
    more m ds ge h = all_append is_ascii_digit ds ((48 + m % 10) ∷ []) h (digit (m % 10) (omega arith))

same_end : (xs ys : List ℕ) (x y : ℕ) → xs ++ x ∷ [] ≡ ys ++ y ∷ [] → x ≡ y
same_end xs ys x y e =
    let h : x ∷ [] ≡ y ∷ [] = append_cancel_left ys (x ∷ []) (y ∷ []) (ap (λ l. l ++ x ∷ []) (sym (same_before xs ys x y e)) ∙ e) in cc

-- a byte of a text with a mark behind it is the mark, or one of the text
ending : (t a rest : List ℕ) (c x : ℕ) → t ++ c ∷ [] ≡ a ++ x ∷ rest → ((rest ≡ []) × (t ≡ a) × (c ≡ x)) ⊎ ((more : List ℕ) × (t ≡ a ++ x ∷ more))
ending t a [] c x e = inl (refl, same_before t a c x e, same_end t a c x e)
ending t a (y ∷ ys) c x e =
    let s = split_last y ys in
    inr (s.0, same_before t (a ++ x ∷ s.0) c s.1 (e ∙ ap (λ l. a ++ x ∷ l) s.2 ∙ sym (append_assoc a (x ∷ s.0) (s.1 ∷ []))))

is_no_mark : (marks : List ℕ) → list_all is_no_digit marks ≡ true → (c : ℕ) → Contains marks c → is_ascii_digit c ≡ false
is_no_mark marks h c k =
    let e : is_no_digit c ≡ true = subst (λ x. is_no_digit x ≡ true) k.2 (list_all_get is_no_digit marks k.0 c k.1 h) in by (is_ascii_digit c) e
  where
    by : (t : Bool) → not t ≡ true → t ≡ false
    by false e = refl
    by true e = absurd (false≢true e)

passes_inside : (p : ℕ → Bool) (a : List ℕ) (x : ℕ) (more : List ℕ) → list_all p (a ++ x ∷ more) ≡ true → p x ≡ true
passes_inside p [] x more h = and_left (p x) (list_all p more) h
passes_inside p (y ∷ a) x more h = passes_inside p a x more (and_right (p y) (list_all p (a ++ x ∷ more)) h)

wide : (n high : ℕ) → n ≤ high → high < 2 ^ 64 → n < 10 ^ 64
wide n high le h = omega (arith, le, h)

no_both : (x c : ℕ) → c ≡ x → is_ascii_digit c ≡ false → is_ascii_digit x ≡ true → ⊥
no_both x c e f t = false≢true (sym f ∙ ap is_ascii_digit e ∙ t)

pub zero_stops : (low high : ℕ) (marks : List ℕ) (m x : ℕ) → m ≡ 0 → list_all is_no_digit marks ≡ true → high < 2 ^ 64 → is_ascii_digit x ≡ true
    → (p : ℕ × ℕ) (rest : List ℕ) → Closed (Decimal low high) marks p (so_far false m ++ x ∷ rest) → ⊥
zero_stops low high marks m x zeros clean hh digit p rest h =
    by (ending h.0 (decimal m) rest p.1 x (sym h.3)) (is_no_mark marks clean p.1 h.2)
  where
    first : decimal m ≡ 48 ∷ []
    first = ap decimal zeros ∙ decimal_digit 0 (omega arith)

    inside : (more : List ℕ) → h.0 ≡ decimal m ++ x ∷ more → ⊥
    inside more e =
        let text : decimal p.0 ≡ 48 ∷ x ∷ more = sym h.1.2 ∙ e ∙ ap (λ l. l ++ x ∷ more) first in
        let n = p.0 in
        none p.0 h.1.1 text (ltb 0 p.0) refl
      where
        none : (n : ℕ) → n ≤ high → decimal n ≡ 48 ∷ x ∷ more → (t : Bool) → ltb 0 n ≡ t → ⊥
        none n le e true lt =
            let f = first_decimal n (grind (arith, nat_tests)) (omega (arith, le, hh)) in
            let g : get_or (decimal n) 0 0 ≡ 48 = ap (λ l. get_or l 0 0) e in omega (arith, f, g)
        none n le e false ge =
            let z : n ≡ 0 = grind (arith, nat_tests) in
            let a = ap length (sym (ap decimal z ∙ decimal_digit 0 (omega arith)) ∙ e) in omega (arith, a)

    by : ((rest ≡ []) × (h.0 ≡ decimal m) × (p.1 ≡ x)) ⊎ ((more : List ℕ) × (h.0 ≡ decimal m ++ x ∷ more)) → is_ascii_digit p.1 ≡ false → ⊥
    by (inl e) f = no_both x p.1 e.2 f digit
    by (inr e) f = inside e.0 e.1

pub digit_begins : (low high : ℕ) (marks : List ℕ) (first : Bool) (m x next : ℕ) → so_far first m ++ x ∷ [] ≡ decimal next → list_all is_no_digit marks ≡ true
    → is_ascii_digit x ≡ true → (p : ℕ × ℕ) (rest : List ℕ) → Closed (Decimal low high) marks p (so_far first m ++ x ∷ rest) → Begins low high next
digit_begins low high marks first m x next is clean digit p rest h =
    by (ending h.0 (so_far first m) rest p.1 x (sym h.3)) (is_no_mark marks clean p.1 h.2)
  where
    by : ((rest ≡ []) × (h.0 ≡ so_far first m) × (p.1 ≡ x)) ⊎ ((more : List ℕ) × (h.0 ≡ so_far first m ++ x ∷ more)) → is_ascii_digit p.1 ≡ false → Begins low high next
    by (inl e) f = absurd (no_both x p.1 e.2 f digit)
    by (inr e) f =
        (p.0, e.0, h.1.0, h.1.1, sym h.1.2 ∙ e.1 ∙ sym (append_assoc (so_far first m) (x ∷ []) e.0) ∙ ap (λ l. l ++ e.0) is)

pub other_stops : (low high : ℕ) (marks : List ℕ) (first : Bool) (m x : ℕ) → m < 2 ^ 64 → high < 2 ^ 64 → is_ascii_digit x ≡ false
    → (first ≡ false → low ≤ m → Contains marks x → ⊥) → (p : ℕ × ℕ) (rest : List ℕ) → Closed (Decimal low high) marks p (so_far first m ++ x ∷ rest) → ⊥
other_stops low high marks first m x hm hh other none p rest h = by first refl (ending h.0 (so_far first m) rest p.1 x (sym h.3))
  where
    n-wide : p.0 < 10 ^ 64
    n-wide = wide p.0 high h.1.1 hh

    inside : (a more : List ℕ) → h.0 ≡ a ++ x ∷ more → ⊥
    inside a more e = false≢true (sym other ∙ passes_inside is_ascii_digit a x more (subst (λ l. list_all is_ascii_digit l ≡ true) (sym h.1.2 ∙ e) (are_digits p.0 n-wide)))

    by : (b : Bool) → first ≡ b → ((rest ≡ []) × (h.0 ≡ so_far b m) × (p.1 ≡ x)) ⊎ ((more : List ℕ) × (h.0 ≡ so_far b m ++ x ∷ more)) → ⊥
    by true f (inl e) = let a = ap length (sym h.1.2 ∙ e.1) in let s = some_digits p.0 n-wide in omega (arith, a, s)
    by false f (inl e) =
        let same : p.0 ≡ m = same_number p.0 m n-wide (omega (arith, hm)) (sym h.1.2 ∙ e.1) in
        let low_is = h.1.0 in none f (omega (arith, low_is, same)) (subst (Contains marks) e.2 h.2)
    by true f (inr e) = inside [] e.0 e.1
    by false f (inr e) = inside (decimal m) e.0 e.1

digit_value : (x : ℕ) → is_ascii_digit x ≡ true → (48 ≤ x) × (x ≤ 57)
digit_value x h = (grind (arith, nat_tests), grind (arith, nat_tests))

pub next_digits : (low high : ℕ) (first : Bool) (m x : ℕ) → HasBegun low high first m → (first ≡ false → 0 < m) → is_ascii_digit x ≡ true → m < 2 ^ 64
    → so_far first m ++ x ∷ [] ≡ decimal (m * 10 + (x - 48))
next_digits low high true m x begun pos digit hm =
    let d = digit_value x digit in
    let value : m * 10 + (x - 48) ≡ x - 48 = omega (arith, begun) in
    let back : 48 + (x - 48) ≡ x = omega (arith, d.0) in
    ap (λ y. y ∷ []) (sym back) ∙ sym (decimal_digit (x - 48) (omega (arith, d.0, d.1))) ∙ ap decimal (sym value)
next_digits low high false m x begun pos digit hm =
    let d = digit_value x digit in
    let back : 48 + (x - 48) ≡ x = omega (arith, d.0) in
    ap (λ y. decimal m ++ y ∷ []) (sym back) ∙ sym (one_more_digit m (x - 48) (pos refl) (omega (arith, d.0, d.1)) hm)

-- behind the digits of a number no number of the language goes on
pub number_stops : (low high : ℕ) (marks b : List ℕ) (at : ℕ) (first : Bool) (m x : ℕ) → 0 < length marks → list_all is_no_digit marks ≡ true → high < 2 ^ 64 → m < 2 ^ 64
    → (first ≡ true → at ≡ 0) → HasBegun low high first m → take at b ≡ so_far first m → at ≤ length b
    → (at < length b → (slice_get b at ≡ Some x) × ((p : ℕ × ℕ) (rest : List ℕ) → Closed (Decimal low high) marks p (so_far first m ++ x ∷ rest) → ⊥))
    → Broken (Closed (Decimal low high) marks) b (length b - at)
number_stops low high marks b at first m x some clean hh hm zeros begun is le stop =
    closed_broken is_ascii_digit (Decimal low high) marks (is_no_mark marks clean) b at le (digits first is) (reach first zeros begun is) none
  where
    digits : (f : Bool) → take at b ≡ so_far f m → list_all is_ascii_digit (take at b) ≡ true
    digits true e = subst (λ l. list_all is_ascii_digit l ≡ true) (sym e) refl
    digits false e = subst (λ l. list_all is_ascii_digit l ≡ true) (sym e) (are_digits m (omega (arith, hm)))

    mark : (ms : List ℕ) → 0 < length ms → (c : ℕ) × Contains ms c
    mark [] h = absurd (omega (arith, h))
    mark (c ∷ ms) h = (c, contains_first c ms)

    reach : (f : Bool) → (f ≡ true → at ≡ 0) → HasBegun low high f m → take at b ≡ so_far f m → (at ≡ 0) ⊎ ((p : ℕ × ℕ) × (rest : List ℕ) × Closed (Decimal low high) marks p (take at b ++ rest))
    reach true z h e = inl (z refl)
    reach false z h e =
        let c = mark marks some in
        inr ((h.0, c.0), h.1 ++ c.0 ∷ [], (decimal h.0, (h.2, h.3, refl), c.1, ap (λ l. l ++ (h.1 ++ c.0 ∷ [])) e ∙ sym (append_assoc (decimal m) h.1 (c.0 ∷ [])) ∙ ap (λ l. l ++ c.0 ∷ []) (sym h.4)))

    none : (p : ℕ × ℕ) (rest : List ℕ) → at < length b → Closed (Decimal low high) marks p (take (suc at) b ++ rest) → ⊥
    none p rest lt h =
        let s = stop lt in
        let n : at + 1 ≡ suc at = omega arith in
        let t : take (suc at) b ++ rest ≡ so_far first m ++ x ∷ rest =
        ap (λ k. take k b ++ rest) (sym n) ∙ ap (λ l. l ++ rest) (take_got b at x s.0) ∙ append_assoc (take at b) (x ∷ []) rest ∙ ap (λ l. l ++ x ∷ rest) is in
        s.1 p rest (subst (Closed (Decimal low high) marks p) t h)

one_number : (low high : ℕ) → high < 2 ^ 64 → (u v : ℕ) (t : List ℕ) → Decimal low high u t → Decimal low high v t → u ≡ v
one_number low high hh u v t h k = same_number u v (wide u high h.1 hh) (wide v high k.1 hh) (sym h.2 ∙ k.2)

-- a mark stands behind the digits of a number of the language
pub number_ends : (low high : ℕ) (marks b : List ℕ) (at m x : ℕ) → list_all is_no_digit marks ≡ true → high < 2 ^ 64 → m < 2 ^ 64
    → Begins low high m → take at b ≡ decimal m → low ≤ m → Contains marks x → slice_get b at ≡ Some x → IsRead (Closed (Decimal low high) marks) b (m, x) (drop (at + 1) b)
number_ends low high marks b at m x clean hh hm begun is le mark got =
    closed_found is_ascii_digit (Decimal low high) marks (λ v t h. subst (λ l. list_all is_ascii_digit l ≡ true) (sym h.2) (are_digits v (wide v high h.1 hh)))
    (is_no_mark marks clean) (one_number low high hh) b m (decimal m) x (drop (at + 1) b) (le, begins_within low high m hh (omega (arith, hm)) begun, refl) mark
    (sym (take-append-drop at b) ∙ (λ i. is i ++ drop_got b at x got i))

pub zero_stops_first : (low high : ℕ) (marks : List ℕ) (first : Bool) (m x : ℕ) → first ≡ false → m ≡ 0 → list_all is_no_digit marks ≡ true → high < 2 ^ 64 → is_ascii_digit x ≡ true
    → (p : ℕ × ℕ) (rest : List ℕ) → Closed (Decimal low high) marks p (so_far first m ++ x ∷ rest) → ⊥
zero_stops_first low high marks true m x not zeros clean hh digit = absurd (false≢true (sym not))
zero_stops_first low high marks false m x not zeros clean hh digit = zero_stops low high marks m x zeros clean hh digit
