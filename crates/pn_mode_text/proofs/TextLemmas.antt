-- The texts of values, by the variants of their sorts.
use Rattle.std.proofs.Common.{◌≡◌, ℕ, zero, suc, true, List, [], ◌∷◌, codes, map, ℤ, nat_lt, slice_index, slice_get, IsSome, sym, refl, ap, ◌∙◌, subst, arith}
use Rattle.std.proofs.lemmas.Bool.Decides.{nat_tests}
use Rattle.std.proofs.lemmas.Option.{slice_get-get_or}
use Rattle.std.specs.Option.{option_and_then}
use Rattle.pn_carriers.proofs.ValueLemmas.{out-const}
use Rattle.pn_carriers.specs.Members.{is_constant}
use Rattle.pn_names.specs.Names.{IsConstant, constant_ids, widths_of}
use Rattle.pn_syntax.specs.declared.declaration.Declaration.{Declaration}
use Rattle.pn_values.specs.declared.sort.Sort.{Sort}
use Rattle.pn_values.specs.declared.sort.Sort.TheFolds.{fold-roll-Sort}
use Rattle.pn_values.specs.declared.sort.Sort.TheOpen as layer
use Rattle.pn_values.specs.declared.sort.Sort.TheVariants as sorts
use Rattle.pn_values.specs.declared.sort.Sort.TheVariants.{rolls-Dot, rolls-Bool, rolls-Enumeration, rolls-Partition, rolls-Range, rolls-Product, rolls-Integer, rolls-Natural, rolls-Positive, rolls-Text, rolls-List}
use Rattle.pn_values.specs.declared.value.Value.{Value}
use Rattle.pn_values.specs.declared.value.Value.TheOpen as value_layer
use Rattle.pn_values.specs.declared.value.Value.TheVariants as values
use Rattle.pn_values.specs.declared.value.Value.TheVariants.{rolls-List as rolls-list-value, rolls-Text as rolls-text-value}
use Rattle.pn_values.specs.declared.value.Value.TheViews.{out-Value, out-roll-Value}
use Rattle.pn_mode_text.specs.Texts.{constant_text, list_text, number_text, quoted_text, truth_word, tuple_text, value_text, value_text_layer}

pub text-dot : (items : List Declaration) (v : Value) → value_text items sorts.Dot v ≡ codes "dot"
text-dot items v =
    ap (λ s. value_text items s v) (sym rolls-Dot)
    ∙ ap (λ (text : Value → List ℕ). text v) (fold-roll-Sort (Value → List ℕ) (λ sort v. value_text_layer items sort (out-Value v)) layer.Dot)

pub text-bool : (items : List Declaration) (v : Value) → value_text items sorts.Bool v ≡ truth_word (out-Value v)
text-bool items v =
    ap (λ s. value_text items s v) (sym rolls-Bool)
    ∙ ap (λ (text : Value → List ℕ). text v) (fold-roll-Sort (Value → List ℕ) (λ sort v. value_text_layer items sort (out-Value v)) layer.Bool)

pub text-enumeration : (items : List Declaration) (place : ℕ) (v : Value) → value_text items (sorts.Enumeration place) v ≡ constant_text items place (out-Value v)
text-enumeration items place v =
    ap (λ s. value_text items s v) (sym (rolls-Enumeration place))
    ∙ ap (λ (text : Value → List ℕ). text v) (fold-roll-Sort (Value → List ℕ) (λ sort v. value_text_layer items sort (out-Value v)) (layer.Enumeration place))

pub text-partition : (items : List Declaration) (place : ℕ) (v : Value) → value_text items (sorts.Partition place) v ≡ constant_text items place (out-Value v)
text-partition items place v =
    ap (λ s. value_text items s v) (sym (rolls-Partition place))
    ∙ ap (λ (text : Value → List ℕ). text v) (fold-roll-Sort (Value → List ℕ) (λ sort v. value_text_layer items sort (out-Value v)) (layer.Partition place))

pub text-range : (items : List Declaration) (start end : ℤ) (v : Value) → value_text items (sorts.Range start end) v ≡ number_text (out-Value v)
text-range items start end v =
    ap (λ s. value_text items s v) (sym (rolls-Range start end))
    ∙ ap (λ (text : Value → List ℕ). text v) (fold-roll-Sort (Value → List ℕ) (λ sort v. value_text_layer items sort (out-Value v)) (layer.Range start end))

pub text-product : (items : List Declaration) (parts : List Sort) (v : Value) → value_text items (sorts.Product parts) v ≡ tuple_text (map (value_text items) parts) (out-Value v)
text-product items parts v =
    ap (λ s. value_text items s v) (sym (rolls-Product parts))
    ∙ ap (λ (text : Value → List ℕ). text v) (fold-roll-Sort (Value → List ℕ) (λ sort v. value_text_layer items sort (out-Value v)) (layer.Product parts))

pub text-integer : (items : List Declaration) (v : Value) → value_text items sorts.Integer v ≡ number_text (out-Value v)
text-integer items v =
    ap (λ s. value_text items s v) (sym rolls-Integer)
    ∙ ap (λ (text : Value → List ℕ). text v) (fold-roll-Sort (Value → List ℕ) (λ sort v. value_text_layer items sort (out-Value v)) layer.Integer)

pub text-natural : (items : List Declaration) (v : Value) → value_text items sorts.Natural v ≡ number_text (out-Value v)
text-natural items v =
    ap (λ s. value_text items s v) (sym rolls-Natural)
    ∙ ap (λ (text : Value → List ℕ). text v) (fold-roll-Sort (Value → List ℕ) (λ sort v. value_text_layer items sort (out-Value v)) layer.Natural)

pub text-positive : (items : List Declaration) (v : Value) → value_text items sorts.Positive v ≡ number_text (out-Value v)
text-positive items v =
    ap (λ s. value_text items s v) (sym rolls-Positive)
    ∙ ap (λ (text : Value → List ℕ). text v) (fold-roll-Sort (Value → List ℕ) (λ sort v. value_text_layer items sort (out-Value v)) layer.Positive)

pub text-text : (items : List Declaration) (v : Value) → value_text items sorts.Text v ≡ quoted_text (out-Value v)
text-text items v =
    ap (λ s. value_text items s v) (sym rolls-Text)
    ∙ ap (λ (text : Value → List ℕ). text v) (fold-roll-Sort (Value → List ℕ) (λ sort v. value_text_layer items sort (out-Value v)) layer.Text)

pub text-list : (items : List Declaration) (item : Sort) (v : Value) → value_text items (sorts.List item) v ≡ list_text (value_text items item) (out-Value v)
text-list items item v =
    ap (λ s. value_text items s v) (sym (rolls-List item))
    ∙ ap (λ (text : Value → List ℕ). text v) (fold-roll-Sort (Value → List ℕ) (λ sort v. value_text_layer items sort (out-Value v)) (layer.List item))

-- a constant below the width of its declaration is declared
constant_stands : (items : List Declaration) (place c : ℕ) → nat_lt c (slice_index (widths_of items) place) ≡ true → IsSome (option_and_then (λ d. slice_get (constant_ids d) c) (slice_get items place))
constant_stands [] place c is = absurd (grind (arith, nat_tests))
constant_stands (d ∷ ds) zero c is = subst IsSome (sym (slice_get-get_or (constant_ids d) c [] (grind (arith, nat_tests)))) refl
constant_stands (d ∷ ds) (suc place) c is = constant_stands ds place c is

pub constant_declared : (items : List Declaration) (place c : ℕ) (v : Value) → v ≡ values.Const c → is_constant (slice_index (widths_of items) place) (out-Value v) ≡ true
    → IsConstant items (record { declaration = place; index = c })
constant_declared items place c v is member =
    let w = slice_index (widths_of items) place in
    constant_stands items place c (sym (ap (λ u. is_constant w (out-Value u)) is ∙ ap (is_constant w) (out-const c)) ∙ member)
