-- The values of a sort that can be split, by their places.
use Rattle.std.proofs.Common.{◌≡◌, ℕ, zero, suc, ◌<◌, ◌≤◌, Bool, true, false, ◌&&◌, List, [], ◌∷◌, map, length, get_or, cond, eqb, ℤ, pos, ◌+ℤ◌, ◌-ℤ◌, nat_abs, int_le, Option, Some, None, IfSome, refl, ap, sym, ◌∙◌, subst, arith}
use Rattle.std.specs.List.{slice_get, range_with_len}
use Rattle.std.specs.Option.{option_and_then, option_map}
use Rattle.std.specs.Ordering.{int_eq}
use Rattle.std.proofs.lemmas.Bool.Decides.{nat_tests}
use Rattle.std.proofs.lemmas.List.{length-map, get_or_past}
use Rattle.std.proofs.lemmas.List.FromFn.{length-map-range_with_len}
use Rattle.std.proofs.lemmas.Option.{none-some, same_Some, slice_get_within, slice_get_read, option_and_then_some}
use Rattle.pn_syntax.specs.declared.declaration.Declaration.{Declaration}
use Rattle.pn_syntax.specs.declared.declaration.ConstExpr.{ConstExpr}
use Rattle.pn_syntax.specs.declared.declaration.ConstExpr.TheVariants as exprs
use Rattle.pn_values.specs.declared.constant_ref.ConstantRef.{ConstantRef}
use Rattle.pn_values.specs.declared.sort.Sort.{Sort}
use Rattle.pn_values.specs.declared.sort.Sort.TheOpen as layer
use Rattle.pn_values.specs.declared.sort.Sort.TheVariants as sorts
use Rattle.pn_values.specs.declared.sort.Sort.TheVariants.{rolls-Enumeration, rolls-Range}
use Rattle.pn_values.specs.declared.sort.Sort.TheViews.{out-Sort, roll-Sort, roll-out-Sort}
use Rattle.pn_values.specs.declared.value.Value.{Value}
use Rattle.pn_values.specs.declared.value.Value.TheVariants as values
use Rattle.pn_values.specs.declared.value.Value.TheViews.{out-Value}
use Rattle.pn_carriers.specs.Carriers.{width_of, count_between, carrier}
use Rattle.pn_carriers.specs.Members.{is_member, is_constant, is_between, IsMember}
use Rattle.pn_carriers.proofs.LayerLemmas.{carrier-enumeration, carrier-range, member-enumeration, member-range}
use Rattle.pn_carriers.proofs.NumberLemmas.{within, far, between, same_step}
use Rattle.pn_carriers.proofs.SizeLemmas.{length_constants, length_numbers}
use Rattle.pn_carriers.proofs.ValueLemmas.{constant_is, number_is, out-const, out-int, same_constant, same_number}
use Rattle.pn_ids.specs.Names.{named_in}
use Rattle.pn_names.specs.declared.Declared.TheVariants as declared
use Rattle.pn_names.specs.Names.{constant_ids, names_of, constant_named, widths_of}
use Rattle.pn_partitions.specs.Partitions.{is_splittable_layer, is_splittable, value_in, value_layer, listed_value}
use Rattle.pn_partitions.specs.Tables.{place_within, place_layer, place_of}
use Rattle.pn_names.proofs.DeclaredLemmas.{constant_is as names_constant, found_declared}

-- what a sort that can be split is to its partitions: its values in order, and where the listed ones stand
pub record IsBase (items : List Declaration) (base : Sort) (size : ℕ) (value : ℕ → Value) : Type 0 where
  pub carrier_is : carrier (widths_of items) base ≡ map value (range_with_len 0 size)
  pub distinct : (i j : ℕ) → value i ≡ value j → i ≡ j
  pub members : (v : Value) → IsMember (widths_of items) v base → (k : ℕ) × (k < size) × (v ≡ value k)
  pub each : (k : ℕ) → k < size → IsMember (widths_of items) (value k) base
  pub listed : (c : ConstExpr) → listed_value items base c ≡ option_map value (place_of (names_of items) base c)
  pub within : (c : ConstExpr) → IfSome (place_of (names_of items) base c) (λ k. k < size)

pub enumeration_is : (base : Sort) (n : ℕ) → out-Sort base ≡ layer.Enumeration n → base ≡ sorts.Enumeration n
enumeration_is base n is = sym (roll-out-Sort base) ∙ ap roll-Sort is ∙ rolls-Enumeration n

pub range_is : (base : Sort) (first last : ℤ) → out-Sort base ≡ layer.Range first last → base ≡ sorts.Range first last
range_is base first last is = sym (roll-out-Sort base) ∙ ap roll-Sort is ∙ rolls-Range first last

int_members : (first last : ℤ) (v : Value) → is_between first last (out-Value v) ≡ true → (k : ℕ) × (k < count_between first last) × (v ≡ values.Int (first +ℤ pos k))
int_members first last v h =
    let z = number_is first last v h in
    (nat_abs (z.0 -ℤ first), within first last z.0 z.1, z.2 ∙ ap values.Int (sym (far first last z.0 z.1)))

const_in : (n : ℕ) (c : ConstantRef) (test : Bool) → cond test (Some (values.Const c.index)) None ≡ option_map values.Const (cond test (Some c.index) None)
const_in n c true = refl
const_in n c false = refl

named_listed : (n : ℕ) (m : Option ConstantRef) → option_and_then (value_in n) m ≡ option_map values.Const (option_and_then (place_within n) m)
named_listed n None = refl
named_listed n (Some c) = const_in n c (eqb c.declaration n)

slice_index_map : (f : Declaration → ℕ) (items : List Declaration) (p : ℕ) (d : Declaration) → slice_get items p ≡ Some d → width_of (map f items) p ≡ f d
slice_index_map f [] p d h = absurd (none-some d h)
slice_index_map f (x ∷ items) zero d h = ap f (same_Some x d h)
slice_index_map f (x ∷ items) (suc p) d h = slice_index_map f items p d h

-- a constant that is named is one of its declaration
constant_within : (items : List Declaration) (id : List ℕ) (c : ConstantRef) → constant_named items id ≡ Some c → c.index < width_of (widths_of items) c.declaration
constant_within items id c h =
    let is = found_declared items id (declared.Constant c) (names_constant (named_in (names_of items) id) c h) in
    option_and_then_some (λ (d : Declaration). slice_get (constant_ids d) c.index) (slice_get items c.declaration) id is
    (λ d there at. omega (arith, slice_index_map (λ (d : Declaration). length (constant_ids d)) items c.declaration d there, slice_get_within (constant_ids d) c.index id at))

constant_place : (n width : ℕ) (c : ConstantRef) (test : Bool) → eqb c.declaration n ≡ test → (c.declaration ≡ n → c.index < width) → IfSome (cond test (Some c.index) None) (λ k. k < width)
constant_place n width c true is h = h (grind (arith, nat_tests))
constant_place n width c false is h = tt

named_within : (items : List Declaration) (n : ℕ) (id : List ℕ) (m : Option ConstantRef) → constant_named items id ≡ m → IfSome (option_and_then (place_within n) m) (λ k. k < width_of (widths_of items) n)
named_within items n id None is = tt
named_within items n id (Some c) is =
    constant_place n (width_of (widths_of items) n) c (eqb c.declaration n) refl (λ same. subst (λ (p : ℕ). c.index < width_of (widths_of items) p) same (constant_within items id c is))

module _ (items : List Declaration) (base : Sort) where
  enumeration_listed : (n : ℕ) (c : ConstExpr) → value_layer items (layer.Enumeration n) c ≡ option_map values.Const (place_layer (names_of items) (layer.Enumeration n) c)
  enumeration_listed n (exprs.Named id at) = named_listed n (constant_named items id)
  enumeration_listed n (exprs.Range value start end at) = refl

  enumeration_within : (n : ℕ) (c : ConstExpr) → IfSome (place_layer (names_of items) (layer.Enumeration n) c) (λ k. k < width_of (widths_of items) n)
  enumeration_within n (exprs.Named id at) = named_within items n id (constant_named items id) refl
  enumeration_within n (exprs.Range value start end at) = tt

  enumeration_base : (n : ℕ) → out-Sort base ≡ layer.Enumeration n → IsBase items base (width_of (widths_of items) n) values.Const
  enumeration_base n is =
      let same = enumeration_is base n is in
      record {
        carrier_is = ap (carrier (widths_of items)) same ∙ carrier-enumeration (widths_of items) n;
        distinct = same_constant;
        members = λ v h. constant_is (width_of (widths_of items) n) v (sym (ap (λ b. is_member (widths_of items) b v) same ∙ member-enumeration (widths_of items) n v) ∙ h);
        each = λ k h. ap (λ b. is_member (widths_of items) b (values.Const k)) same ∙ member-enumeration (widths_of items) n (values.Const k)
            ∙ ap (is_constant (width_of (widths_of items) n)) (out-const k) ∙ grind (arith, nat_tests);
        listed = λ c. ap (λ l. value_layer items l c) is ∙ enumeration_listed n c ∙ ap (λ l. option_map values.Const (place_layer (names_of items) l c)) (sym is);
        within = λ c. subst (λ (l : layer.Sort-F Sort). IfSome (place_layer (names_of items) l c) (λ k. k < width_of (widths_of items) n)) (sym is) (enumeration_within n c);
      }

  range_test : (first last z : ℤ) (a b c : Bool) → (int_le first z && int_le z last) ≡ c → cond (a && (b && c)) (Some (values.Int z)) None ≡ option_map (λ k. values.Int (first +ℤ pos k)) (cond (a && (b && c)) (Some (nat_abs (z -ℤ first))) None)
  range_test first last z true true true is = ap (λ y. Some (values.Int y)) (sym (far first last z is))
  range_test first last z true true false is = refl
  range_test first last z true false c is = refl
  range_test first last z false b c is = refl

  range_listed : (first last : ℤ) (c : ConstExpr) → value_layer items (layer.Range first last) c ≡ option_map (λ k. values.Int (first +ℤ pos k)) (place_layer (names_of items) (layer.Range first last) c)
  range_listed first last (exprs.Named id at) = refl
  range_listed first last (exprs.Range z start end at) = range_test first last z (int_eq start first) (int_eq end last) (int_le first z && int_le z last) refl

  test_within : (first last z : ℤ) (a b c : Bool) → (int_le first z && int_le z last) ≡ c → IfSome (cond (a && (b && c)) (Some (nat_abs (z -ℤ first))) None) (λ k. k < count_between first last)
  test_within first last z true true true is = within first last z is
  test_within first last z true true false is = tt
  test_within first last z true false c is = tt
  test_within first last z false b c is = tt

  range_within : (first last : ℤ) (c : ConstExpr) → IfSome (place_layer (names_of items) (layer.Range first last) c) (λ k. k < count_between first last)
  range_within first last (exprs.Named id at) = tt
  range_within first last (exprs.Range z start end at) = test_within first last z (int_eq start first) (int_eq end last) (int_le first z && int_le z last) refl

  range_base : (first last : ℤ) → out-Sort base ≡ layer.Range first last → IsBase items base (count_between first last) (λ k. values.Int (first +ℤ pos k))
  range_base first last is =
      let same = range_is base first last is in
      record {
        carrier_is = ap (carrier (widths_of items)) same ∙ carrier-range (widths_of items) first last;
        distinct = λ i j h. same_step first i j (same_number (first +ℤ pos i) (first +ℤ pos j) h);
        members = λ v h. int_members first last v (sym (ap (λ b. is_member (widths_of items) b v) same ∙ member-range (widths_of items) first last v) ∙ h);
        each = λ k h. ap (λ b. is_member (widths_of items) b (values.Int (first +ℤ pos k))) same ∙ member-range (widths_of items) first last (values.Int (first +ℤ pos k))
            ∙ ap (is_between first last) (out-int (first +ℤ pos k)) ∙ between first last k h;
        listed = λ c. ap (λ l. value_layer items l c) is ∙ range_listed first last c ∙ ap (λ l. option_map (λ k. values.Int (first +ℤ pos k)) (place_layer (names_of items) l c)) (sym is);
        within = λ c. subst (λ (l : layer.Sort-F Sort). IfSome (place_layer (names_of items) l c) (λ k. k < count_between first last)) (sym is) (range_within first last c);
      }

  base_at : (l : layer.Sort-F Sort) → out-Sort base ≡ l → is_splittable_layer l ≡ true → (size : ℕ) × (value : ℕ → Value) × IsBase items base size value
  base_at (layer.Enumeration n) is h = (width_of (widths_of items) n, values.Const, enumeration_base n is)
  base_at (layer.Range first last) is h = (count_between first last, λ k. values.Int (first +ℤ pos k), range_base first last is)
  base_at layer.Dot is h = cc
  base_at layer.Bool is h = cc
  base_at (layer.Partition place) is h = cc
  base_at (layer.Product parts) is h = cc
  base_at layer.Integer is h = cc
  base_at layer.Natural is h = cc
  base_at layer.Positive is h = cc
  base_at layer.Text is h = cc
  base_at (layer.List part) is h = cc

  -- a sort that can be split has its values in order
  pub base_found : is_splittable base ≡ true → (size : ℕ) × (value : ℕ → Value) × IsBase items base size value
  base_found h = base_at (out-Sort base) refl h

-- the number of values is what the carrier says
pub base_size : (items : List Declaration) (base : Sort) (size : ℕ) (value : ℕ → Value) → IsBase items base size value → length (carrier (widths_of items) base) ≡ size
base_size items base size value is = ap length is.carrier_is ∙ length-map-range_with_len value 0 size

-- how many values an enumeration has
pub enumeration_size : (items : List Declaration) (base : Sort) (n : ℕ) (d : Declaration) → base ≡ sorts.Enumeration n → n < length items → d ≡ get_or items n d → length (carrier (widths_of items) base) ≡ length (constant_ids d)
enumeration_size items base n d is lt at =
    ap (λ b. length (carrier (widths_of items) b)) is ∙ ap length (carrier-enumeration (widths_of items) n) ∙ length_constants (width_of (widths_of items) n)
    ∙ slice_index_map (λ (d : Declaration). length (constant_ids d)) items n d (slice_get_read items (length items) n d refl lt at)

pub no_enumeration : (items : List Declaration) (base : Sort) (n : ℕ) → base ≡ sorts.Enumeration n → length items ≤ n → length (carrier (widths_of items) base) ≡ 0
no_enumeration items base n is past =
    ap (λ b. length (carrier (widths_of items) b)) is ∙ ap length (carrier-enumeration (widths_of items) n) ∙ length_constants (width_of (widths_of items) n)
    ∙ get_or_past (widths_of items) n 0 (omega (arith, length-map items (λ (d : Declaration). length (constant_ids d))))

-- how many values a range has
pub range_size : (items : List Declaration) (base : Sort) (first last : ℤ) → base ≡ sorts.Range first last → length (carrier (widths_of items) base) ≡ count_between first last
range_size items base first last is = ap (λ b. length (carrier (widths_of items) b)) is ∙ ap length (carrier-range (widths_of items) first last) ∙ length_numbers first last
