-- What is written for numbers, values and characters that were read is text.
use Rattle.std.proofs.Common.{◌≡◌, ℕ, ℤ, pos, zero, suc, ◌<◌, ◌≤◌, ◌^◌, ◌-◌, Bool, true, false, cond, ◌&&◌, ◌==◌, List, [], ◌∷◌, Option, Some, None, IfSome, refl, arith}
use Rattle.std.specs.Prelude.{neg_ℤ}
use Rattle.std.specs.List.{list_all}
use Rattle.std.specs.Option.{option_map, unwrap_or}
use Rattle.std.specs.Char.{is_ascii_digit}
use Rattle.std.specs.Fmt.{decimal, signed_decimal}
use Rattle.std.specs.Option.{is_none}
use Rattle.std.specs.Str.{all_ascii_digits, bytes_eq}
use Rattle.std.proofs.lemmas.Bool.Decides.{nat_tests}
use Rattle.std.proofs.lemmas.Fmt.{digits_decimal}
use Rattle.std.proofs.lemmas.Str.Parse.{numerals_by_value, tells_all_ascii_digits}
use Rattle.pn_facts.proofs.Lists.{list_all_each}
use Rattle.pn_facts.proofs.Truths.{and_left, and_right}
use Rattle.pn_text.specs.Characters.{is_name, is_text, is_within}
use Rattle.pn_text.proofs.TextLemmas.{is_text-append, is_text-ascii}
use Rattle.pn_tree.specs.Elements.{are_attrs, attr_value, is_kid, is_kid_layer}
use Rattle.pn_tree.specs.declared.element.Attr.{Attr}
use Rattle.pn_tree.specs.declared.element.Element.{Element}
use Rattle.pn_tree.specs.declared.element.Child.{Child}
use Rattle.pn_tree.specs.declared.element.Child.TheOpen as layer
use Rattle.pn_tree.specs.declared.element.Child.TheViews.{out-Child}
use Rattle.pn_shape.specs.Faults.{layer_text, own_text}
use Rattle.pn_round_trip.proofs.NumberLemmas.{numeral_within}
use Rattle.pn_shape.specs.Numbers.{behind_space, count_in, number_in, numeral_in, signed_in}

-- numbers

abbrev IsPrintable : List ℕ → Type 0
IsPrintable bs = list_all (is_within 32 126) bs ≡ true

decimal_printable : (n : ℕ) → n < 2 ^ 64 → IsPrintable (decimal n)
decimal_printable n less = list_all_each is_ascii_digit (is_within 32 126) (λ c is. grind (arith, nat_tests)) (decimal n) (digits_decimal (numerals_by_value (λ ds. all_ascii_digits ds ≡ true) tells_all_ascii_digits) n less)

if_numeral : (most : ℕ) (bs : List ℕ) → IfSome (numeral_in most bs) (λ n. n ≤ most)
if_numeral most bs = by (numeral_in most bs) refl
  where
    by : (o : Option ℕ) → numeral_in most bs ≡ o → IfSome o (λ n. n ≤ most)
    by None is = tt
    by (Some n) is = numeral_within most n bs is

pub if_mapped : {X Y : Type 0} (P : X → Type 0) (Q : Y → Type 0) (f : X → Y) → ((x : X) → P x → Q (f x)) → (o : Option X) → IfSome o P → IfSome (option_map f o) Q
if_mapped P Q f step None h = tt
if_mapped P Q f step (Some x) h = step x h

pub if_unwrapped : {X : Type 0} (P : X → Type 0) (o : Option X) (d : X) → IfSome o P → P d → P (unwrap_or o d)
if_unwrapped P None d h other = other
if_unwrapped P (Some x) d h other = h

abbrev IsShort : ℤ → Type 0
IsShort z = IsPrintable (signed_decimal z)

negative_short : (n : ℕ) → n ≤ 2 ^ 63 → IsShort (neg_ℤ (pos n))
negative_short zero le = decimal_printable 0 (omega arith)
negative_short (suc n) le = decimal_printable (suc n) (omega arith)

signed_short : (bs : List ℕ) → IfSome (signed_in bs) IsShort
signed_short [] = tt
signed_short (b ∷ bs) = step (b == 45)
  where
    step : (minus : Bool) → IfSome (cond minus (option_map (λ n. neg_ℤ (pos n)) (numeral_in (2 ^ 63) bs)) (option_map pos (numeral_in (2 ^ 63 - 1) (b ∷ bs)))) IsShort
    step true = if_mapped (λ n. n ≤ 2 ^ 63) IsShort (λ n. neg_ℤ (pos n)) negative_short (numeral_in (2 ^ 63) bs) (if_numeral (2 ^ 63) bs)
    step false = if_mapped (λ n. n ≤ 2 ^ 63 - 1) IsShort pos (λ n le. decimal_printable n (omega arith)) (numeral_in (2 ^ 63 - 1) (b ∷ bs)) (if_numeral (2 ^ 63 - 1) (b ∷ bs))

-- the whole number that was read in a value
pub number_text : (v : List ℕ) → is_text (signed_decimal (unwrap_or (number_in v) (pos 0))) ≡ true
number_text v = is_text-ascii (signed_decimal (unwrap_or (number_in v) (pos 0))) (if_unwrapped IsShort (number_in v) (pos 0) (signed_short (behind_space v)) (decimal_printable 0 (omega arith)))

pub zero_text : is_text (signed_decimal (pos 0)) ≡ true
zero_text = is_text-ascii (decimal 0) (decimal_printable 0 (omega arith))

-- the number of tokens that was read
pub count_text : (v : List ℕ) → is_text (decimal (unwrap_or (count_in v) 0)) ≡ true
count_text v =
    let within = if_unwrapped (λ n. n ≤ 2 ^ 63 - 1) (count_in v) 0 (if_numeral (2 ^ 63 - 1) (behind_space v)) (omega arith) in
    is_text-ascii (decimal (unwrap_or (count_in v) 0)) (decimal_printable (unwrap_or (count_in v) 0) (omega (arith, within)))

-- values of attributes

pub value_text : (name : List ℕ) (attrs : List Attr) → are_attrs attrs ≡ true → IfSome (attr_value name attrs) (λ v. is_text v ≡ true)
value_text name [] are = tt
value_text name (a ∷ more) are = step (bytes_eq a.name name) (value_text name more last)
  where
    absent : Bool
    absent = is_none (attr_value a.name more)

    rest : (is_text a.value && (absent && are_attrs more)) ≡ true
    rest = and_right (is_name a.name) (is_text a.value && (absent && are_attrs more)) are

    last : are_attrs more ≡ true
    last = and_right absent (are_attrs more) (and_right (is_text a.value) (absent && are_attrs more) rest)

    step : (same : Bool) → IfSome (attr_value name more) (λ v. is_text v ≡ true) → IfSome (cond same (Some a.value) (attr_value name more)) (λ v. is_text v ≡ true)
    step true h = and_left (is_text a.value) (absent && are_attrs more) rest
    step false h = h

pub given_text : (name : List ℕ) (attrs : List Attr) → are_attrs attrs ≡ true → is_text (unwrap_or (attr_value name attrs) []) ≡ true
given_text name attrs are = if_unwrapped (λ v. is_text v ≡ true) (attr_value name attrs) [] (value_text name attrs are) refl

-- the characters that stand in an element itself, joined

layer_is_text : (test : Element → Bool) (l : layer.Child-F Child Element) → is_kid_layer test l ≡ true → is_text (layer_text l) ≡ true
layer_is_text test (layer.Element e) is = refl
layer_is_text test (layer.Text []) is = refl
layer_is_text test (layer.Text (b ∷ bs)) is = is

pub joined_text : (test : Element → Bool) (ks : List Child) → list_all (is_kid test) ks ≡ true → is_text (own_text ks) ≡ true
joined_text test [] all = refl
joined_text test (c ∷ ks) all =
    is_text-append (layer_text (out-Child c)) (own_text ks) (layer_is_text test (out-Child c) (and_left (is_kid test c) (list_all (is_kid test) ks) all))
    (joined_text test ks (and_right (is_kid test c) (list_all (is_kid test) ks) all))
