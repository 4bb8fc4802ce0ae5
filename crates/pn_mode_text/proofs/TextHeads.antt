-- No text of a value begins with `]`.
use Rattle.std.proofs.Common.{◌≡◌, ℕ, zero, suc, ◌+◌, ◌/◌, ◌%◌, ◌==◌, nat_lt, Bool, true, false, cond, ℤ, pos, negsuc, List, [], ◌∷◌, ◌++◌, codes, decimal, Some, refl, sym, ap, ◌∙◌, subst, arith}
use Rattle.std.specs.Fmt.{digit_glyph, digits, digits_onto, signed_decimal}
use Rattle.std.proofs.lemmas.Bool.{false≢true}
use Rattle.std.proofs.lemmas.Bool.Decides.{nat_tests}
use Rattle.pn_carriers.proofs.ValueLemmas.{constant_is, out-const}
use Rattle.pn_carriers.specs.Carriers.{width_of}
use Rattle.pn_carriers.specs.Members.{IsMember, least_number, greatest_number}
use Rattle.pn_facts.proofs.Lists.{got}
use Rattle.pn_lines.specs.Escapes.{escaped, is_plain, percent_escape}
use Rattle.pn_names.specs.Names.{widths_of}
use Rattle.pn_syntax.specs.declared.declaration.Declaration.{Declaration}
use Rattle.pn_values.specs.declared.sort.Sort.{Sort}
use Rattle.pn_values.specs.declared.sort.Sort.TheOpen as sort_layer
use Rattle.pn_values.specs.declared.sort.Sort.TheVariants.{rolls-Dot, rolls-Bool, rolls-Enumeration, rolls-Partition, rolls-Range, rolls-Product, rolls-Integer, rolls-Natural, rolls-Positive, rolls-Text, rolls-List}
use Rattle.pn_values.specs.declared.sort.Sort.TheViews.{out-Sort, roll-Sort, roll-out-Sort}
use Rattle.pn_values.specs.declared.value.Value.{Value}
use Rattle.pn_values.specs.declared.value.Value.TheViews.{out-Value}
use Rattle.pn_words.proofs.PlaceLemmas.{equal_from}
use Rattle.pn_mode_text.specs.Readings.{IsConstantText, ids_at}
use Rattle.pn_mode_text.specs.Texts.{constant_text, id_text, value_text}
use Rattle.pn_mode_text.specs.ValueReadings.{HaveIds, IsNumberText, IsTruthText}
use Rattle.pn_mode_text.proofs.IdLemmas.{id_at, width_is}
use Rattle.pn_mode_text.proofs.SortReadings.{dot_alike, enumeration_alike, integer_alike, list_alike, natural_alike, partition_alike, positive_alike, range_alike, text_alike, truth_alike, tuple_alike}

-- the list is not empty, and begins with another byte than `]`
abbrev pub BeginsOtherwise : List ℕ → Type 0
BeginsOtherwise t = (x : ℕ) × (rest : List ℕ) × (t ≡ x ∷ rest) × ((x == 93) ≡ false)

glyph_other : (n : ℕ) → (digit_glyph false (n % 10) == 93) ≡ false
glyph_other n = by (nat_lt (n % 10) 10) refl
  where
    by : (t : Bool) → nat_lt (n % 10) 10 ≡ t → (cond t (48 + n % 10) (87 + n % 10) == 93) ≡ false
    by true e = grind (arith, nat_tests)
    by false e = absurd (grind (arith, nat_tests))

onto_head : (k n : ℕ) (acc : List ℕ) → BeginsOtherwise acc → BeginsOtherwise (digits_onto k 10 false n acc)
onto_head zero n acc h = h
onto_head (suc k) n acc h = by ((n / 10) == 0) (onto_head k (n / 10) (digit_glyph false (n % 10) ∷ acc) (digit_glyph false (n % 10), acc, refl, glyph_other n))
  where
    by : (t : Bool) → BeginsOtherwise (digits_onto k 10 false (n / 10) (digit_glyph false (n % 10) ∷ acc))
        → BeginsOtherwise (cond t (digit_glyph false (n % 10) ∷ acc) (digits_onto k 10 false (n / 10) (digit_glyph false (n % 10) ∷ acc)))
    by true more = (digit_glyph false (n % 10), acc, refl, glyph_other n)
    by false more = more

first_head : (n : ℕ) → BeginsOtherwise (digits_onto 64 10 false n [])
first_head n = by ((n / 10) == 0) (onto_head 63 (n / 10) (digit_glyph false (n % 10) ∷ []) (digit_glyph false (n % 10), [], refl, glyph_other n))
  where
    by : (t : Bool) → BeginsOtherwise (digits_onto 63 10 false (n / 10) (digit_glyph false (n % 10) ∷ []))
        → BeginsOtherwise (cond t (digit_glyph false (n % 10) ∷ []) (digits_onto 63 10 false (n / 10) (digit_glyph false (n % 10) ∷ [])))
    by true more = (digit_glyph false (n % 10), [], refl, glyph_other n)
    by false more = more

decimal_is : (n : ℕ) → digits_onto 64 10 false n [] ≡ decimal n
unfolding digits
decimal_is n = refl

number_head : (z : ℤ) → BeginsOtherwise (signed_decimal z)
number_head (pos n) = subst BeginsOtherwise (decimal_is n) (first_head n)
number_head (negsuc n) = (45, decimal (suc n), refl, refl)

escaped_head : (id : List ℕ) → (id ≡ [] → ⊥) → BeginsOtherwise (escaped id)
escaped_head [] some = absurd (some refl)
escaped_head (b ∷ id) some = by (is_plain b) refl
  where
    other : (t : Bool) → (b == 93) ≡ t → is_plain b ≡ true → t ≡ false
    other true e plain = absurd (false≢true (sym (ap is_plain (equal_from b 93 e)) ∙ plain))
    other false e plain = refl

    by : (t : Bool) → is_plain b ≡ t → BeginsOtherwise (cond t (b ∷ []) (percent_escape b) ++ escaped id)
    by true e = (b, escaped id, refl, other (b == 93) refl e)
    by false e = (37, _, refl, refl)

module _ (items : List Declaration) (named : HaveIds items) where
  constant_head : (place : ℕ) (v : Value) (t : List ℕ) → IsConstantText items place v t → BeginsOtherwise t
  constant_head place v t h =
      let c = constant_is (width_of (widths_of items) place) v h.0 in
      let id = got (ids_at items place) c.0 (omega (arith, c.1, width_is items place)) in
      let told = sym (id_at items place c.0) ∙ id.1 in
      let text : t ≡ escaped id.0 = h.1 ∙ ap (λ (u : Value). constant_text items place (out-Value u)) c.2 ∙ ap (constant_text items place) (out-const c.0) ∙ ap id_text told in
      subst BeginsOtherwise (sym text) (escaped_head id.0 (λ none. named place c.0 (told ∙ ap Some none)))

  whole_head : (low high : ℤ) (v : Value) (t : List ℕ) → IsNumberText low high v t → BeginsOtherwise t
  whole_head low high v t h = subst BeginsOtherwise (sym h.2.2) (number_head h.0)

  truth_head : (v : Value) (t : List ℕ) → IsTruthText v t → BeginsOtherwise t
  truth_head v t (false, is, text) = (102, codes "alse", text, refl)
  truth_head v t (true, is, text) = (116, codes "rue", text, refl)

  head_at : (s : Sort) (x : sort_layer.Sort-F Sort) → roll-Sort x ≡ s → (v : Value) → IsMember (widths_of items) v s → BeginsOtherwise (value_text items s v)
  head_at s sort_layer.Dot e v m = (100, codes "ot", ((dot_alike items s (sym e ∙ rolls-Dot)).from v (value_text items s v) (m, refl)).1, refl)
  head_at s sort_layer.Bool e v m = truth_head v (value_text items s v) ((truth_alike items s (sym e ∙ rolls-Bool)).from v (value_text items s v) (m, refl))
  head_at s (sort_layer.Enumeration place) e v m = constant_head place v (value_text items s v) ((enumeration_alike items s place (sym e ∙ rolls-Enumeration place)).from v (value_text items s v) (m, refl))
  head_at s (sort_layer.Partition place) e v m = constant_head place v (value_text items s v) ((partition_alike items s place (sym e ∙ rolls-Partition place)).from v (value_text items s v) (m, refl))
  head_at s (sort_layer.Range low high) e v m = whole_head low high v (value_text items s v) ((range_alike items s low high (sym e ∙ rolls-Range low high)).from v (value_text items s v) (m, refl))
  head_at s (sort_layer.Product parts) e v m = let h = (tuple_alike items s parts (sym e ∙ rolls-Product parts)).from v (value_text items s v) (m, refl) in (40, h.2, h.3, refl)
  head_at s sort_layer.Integer e v m = whole_head least_number greatest_number v (value_text items s v) ((integer_alike items s (sym e ∙ rolls-Integer)).from v (value_text items s v) (m, refl))
  head_at s sort_layer.Natural e v m = whole_head (pos 0) greatest_number v (value_text items s v) ((natural_alike items s (sym e ∙ rolls-Natural)).from v (value_text items s v) (m, refl))
  head_at s sort_layer.Positive e v m = whole_head (pos 1) greatest_number v (value_text items s v) ((positive_alike items s (sym e ∙ rolls-Positive)).from v (value_text items s v) (m, refl))
  head_at s sort_layer.Text e v m = let h = (text_alike items s (sym e ∙ rolls-Text)).from v (value_text items s v) (m, refl) in (34, escaped h.0 ++ codes "\"", h.2.1, refl)
  head_at s (sort_layer.List item) e v m = let h = (list_alike items s item (sym e ∙ rolls-List item)).from v (value_text items s v) (m, refl) in (91, h.2, h.3, refl)

  -- the text of a value begins with another byte than `]`
  pub value_head : (s : Sort) (v : Value) → IsMember (widths_of items) v s → BeginsOtherwise (value_text items s v)
  value_head s v m = head_at s (out-Sort s) (roll-out-Sort s) v m
