-- The sorts and tables of declarations that have no fault.
use Rattle.std.proofs.Common.{◌≡◌, ◌<◌, ◌≤◌, ◌^◌, ℕ, zero, suc, true, List, [], ◌∷◌, length, refl, sym, ap, ◌∙◌, subst, Option, Some, None, slice_get, slice_index, IsSome, true≢false, arith}
use Rattle.std.specs.Option.{option_and_then}
use Rattle.std.proofs.lemmas.Option.{slice_get_within}
use Rattle.std.specs.List.{AllByRecursion}
use Rattle.pn_syntax.specs.declared.declaration.Declaration.{Declaration}
use Rattle.pn_syntax.specs.declared.declaration.Declaration.TheVariants as declarations
use Rattle.pn_values.specs.declared.sort.Sort.{Sort}
use Rattle.pn_syntax.specs.declared.sort_expr.SortExpr.{SortExpr}
use Rattle.pn_values.specs.declared.value.Value.{Value}
use Rattle.std.proofs.Common.{leb-true}
use Rattle.pn_values.specs.declared.sort.Sort.TheOpen as layer
use Rattle.pn_values.specs.declared.sort.Sort.TheViews.{out-Sort}
use Rattle.pn_carriers.specs.Carriers.{carrier, count_between, is_finite}
use Rattle.pn_carriers.proofs.SizeLemmas.{length_constants, length_numbers}
use Rattle.pn_carriers.proofs.LayerLemmas.{carrier-enumeration, carrier-range, finite-enumeration, finite-range}
use Rattle.pn_partitions.proofs.BaseLemmas.{enumeration_is, range_is}
use Rattle.pn_names.specs.Names.{AreNumbered, constant_ids, widths_of, variables_of, variable_places_of, variable_at, variable_of, Variable}
use Rattle.pn_partitions.specs.Partitions.{is_splittable, is_splittable_layer}
use Rattle.pn_names.proofs.DeclaredLemmas.{variable_declared}
use Rattle.pn_resolve.specs.Meaning.{Resolves}
use Rattle.pn_resolve.specs.Standing.{base_of, elements_of}
use Rattle.pn_sorts.specs.Kept.{asked_of, sort_kept}
use Rattle.pn_sorts.specs.declared.kept.Kept.{Kept}
use Rattle.pn_sorts.specs.Standing.{IsFaultless}
use Rattle.pn_sorts.specs.Keeping.{HasSort, HasTable, IsResolved}
use Rattle.pn_sorts.specs.Lookups.{IsBaseSort, IsPartOf, IsVariableSort, base_expr}

base_is_asked : (d : Declaration) (e : SortExpr) → base_of d ≡ Some e → asked_of d ≡ Some e
base_is_asked (declarations.Named id name body at) e h = cc
base_is_asked (declarations.Variable id name sort at) e h = cc
base_is_asked (declarations.Partition id name sort elements at) e h = h

-- a partition with its base sort
pub record BaseAt (items : List Declaration) (named : List (Option Sort)) (sorts : List Kept) (place : ℕ) : Type 0 where
  pub declaration : Declaration
  pub expr : SortExpr
  pub stands : slice_get items place ≡ Some declaration
  pub is_base : base_of declaration ≡ Some expr
  pub has : HasSort items named sorts place expr

pub base_at : (items : List Declaration) (named : List (Option Sort)) (sorts : List Kept) (tables : List (Option (List ℕ))) (place : ℕ) → IsResolved items named sorts tables → IsFaultless items → IsSome (base_expr items place) → BaseAt items named sorts place
base_at items named sorts tables place resolved faultless some = by (slice_get items place) refl some
  where
    within : (d : Declaration) (o : Option SortExpr) → slice_get items place ≡ Some d → base_of d ≡ o → IsSome o → BaseAt items named sorts place
    within d None there is some = absurd (true≢false (sym some))
    within d (Some e) there is some = record { declaration = d; expr = e; stands = there; is_base = is; has = resolved.each place d e faultless there (base_is_asked d e is) }

    by : (o : Option Declaration) → slice_get items place ≡ o → IsSome (option_and_then base_of o) → BaseAt items named sorts place
    by None there some = absurd (true≢false (sym some))
    by (Some d) there some = within d (base_of d) there refl some

pub is_base_sort : (items : List Declaration) (named : List (Option Sort)) (sorts : List Kept) (place : ℕ) (s : Sort) → (b : BaseAt items named sorts place) → sort_kept named sorts place ≡ Some s → IsBaseSort items place s
is_base_sort items named sorts place s b there =
    let same : b.has.sort ≡ s = both_some b.has.sort s (sym b.has.stands ∙ there) in
    (b.expr, ap (option_and_then base_of) b.stands ∙ b.is_base, subst (Resolves items b.expr) same b.has.resolves)
  where
    both_some : (x y : Sort) → Some x ≡ Some y → x ≡ y
    both_some x y e = cc

pub sort_stands : (items : List Declaration) (named : List (Option Sort)) (sorts : List Kept) (place : ℕ) → BaseAt items named sorts place → IsSome (sort_kept named sorts place)
sort_stands items named sorts place b = subst IsSome (sym b.has.stands) refl

-- a variable with its sort
pub record VariableAt (items : List Declaration) (named : List (Option Sort)) (sorts : List Kept) (v place : ℕ) : Type 0 where
  pub variable : Variable
  pub stands : slice_get (variables_of items) v ≡ Some variable
  pub has : HasSort items named sorts place variable.sort

not_past : {A : Type 0} (xs : List A) (i : ℕ) → i < length xs → slice_get xs i ≡ None → ⊥
not_past [] i small e = omega arith
not_past (x ∷ xs) zero small e = cc
not_past (x ∷ xs) (suc i) small e = not_past xs i (omega arith) e

variable_is_asked : (d : Declaration) (x : Variable) → variable_of d ≡ Some x → asked_of d ≡ Some x.sort
variable_is_asked (declarations.Named id name body at) x h = cc
variable_is_asked (declarations.Variable id name sort at) x h = cc
variable_is_asked (declarations.Partition id name sort elements at) x h = cc

pub variable_with : (items : List Declaration) (named : List (Option Sort)) (sorts : List Kept) (tables : List (Option (List ℕ))) (v place : ℕ) → IsResolved items named sorts tables → IsFaultless items → v < length (variables_of items)
    → slice_get (variable_places_of items) v ≡ Some place → VariableAt items named sorts v place
variable_with items named sorts tables v place resolved faultless small at = by (slice_get (variables_of items) v) refl
  where
    declared : slice_get (variables_of items) v ≡ option_and_then variable_of (slice_get items place)
    declared = variable_declared items v ∙ ap (option_and_then (variable_at items)) at

    found : (x : Variable) (d : Option Declaration) → slice_get (variables_of items) v ≡ Some x → slice_get items place ≡ d → option_and_then variable_of d ≡ Some x → VariableAt items named sorts v place
    found x None is there h = cc
    found x (Some d) is there h = record { variable = x; stands = is; has = resolved.each place d x.sort faultless there (variable_is_asked d x h) }

    by : (o : Option Variable) → slice_get (variables_of items) v ≡ o → VariableAt items named sorts v place
    by None e = absurd (not_past (variables_of items) v small e)
    by (Some x) e = found x (slice_get items place) e refl (sym declared ∙ e)

pub variable_sort_stands : (items : List Declaration) (named : List (Option Sort)) (sorts : List Kept) (v place : ℕ) → VariableAt items named sorts v place → IsSome (sort_kept named sorts place)
variable_sort_stands items named sorts v place x = subst IsSome (sym x.has.stands) refl

both_some : (x y : Sort) → Some x ≡ Some y → x ≡ y
both_some x y e = cc

pub is_variable_sort : (items : List Declaration) (named : List (Option Sort)) (sorts : List Kept) (v place : ℕ) (s : Sort) → (x : VariableAt items named sorts v place) → sort_kept named sorts place ≡ Some s → IsVariableSort items v s
is_variable_sort items named sorts v place s x there = (x.variable, x.stands, subst (Resolves items x.variable.sort) (both_some x.has.sort s (sym x.has.stands ∙ there)) x.has.resolves)

-- a number below the width of each declaration
width_fits : (ds : List Declaration) (place : ℕ) → AllByRecursion (λ d. length (constant_ids d) < 2 ^ 32) ds → slice_index (widths_of ds) place < 2 ^ 32
width_fits [] place all = omega arith
width_fits (d ∷ ds) zero all = all.0
width_fits (d ∷ ds) (suc place) all = width_fits ds place all.1

-- whether it is finite and how many values it has, by the layer of a sort
small_layer : (items : List Declaration) (s : Sort) (l : layer.Sort-F Sort) → AreNumbered items → out-Sort s ≡ l → is_splittable_layer l ≡ true → (is_finite s ≡ true) × (length (carrier (widths_of items) s) < 2 ^ 64)
small_layer items s (layer.Enumeration place) numbered is ok =
    let same = enumeration_is s place is in
    let count : length (carrier (widths_of items) s) ≡ slice_index (widths_of items) place =
    ap (λ b. length (carrier (widths_of items) b)) same ∙ ap length (carrier-enumeration (widths_of items) place) ∙ length_constants (slice_index (widths_of items) place) in
    let fits = width_fits items place numbered.constants in
    (ap is_finite same ∙ finite-enumeration place, omega arith)
small_layer items s (layer.Range start end) numbered is ok =
    let same = range_is s start end is in
    let count : length (carrier (widths_of items) s) ≡ count_between start end =
    ap (λ b. length (carrier (widths_of items) b)) same ∙ ap length (carrier-range (widths_of items) start end) ∙ length_numbers start end in
    let few : count_between start end ≤ 1048576 = leb-true (count_between start end) 1048576 ok in
    (ap is_finite same ∙ finite-range start end, omega arith)
small_layer items s layer.Dot numbered is ok = cc
small_layer items s layer.Bool numbered is ok = cc
small_layer items s (layer.Partition place) numbered is ok = cc
small_layer items s (layer.Product parts) numbered is ok = cc
small_layer items s layer.Integer numbered is ok = cc
small_layer items s layer.Natural numbered is ok = cc
small_layer items s layer.Positive numbered is ok = cc
small_layer items s layer.Text numbered is ok = cc
small_layer items s (layer.List part) numbered is ok = cc

-- a sort that can be split is finite and has few values
pub splittable_is_small : (items : List Declaration) (s : Sort) → AreNumbered items → is_splittable s ≡ true → (is_finite s ≡ true) × (length (carrier (widths_of items) s) < 2 ^ 64)
splittable_is_small items s numbered ok = small_layer items s (out-Sort s) numbered refl ok

-- the table of a partition, by the sort that stands for it
pub table_at : (items : List Declaration) (named : List (Option Sort)) (sorts : List Kept) (tables : List (Option (List ℕ))) (place : ℕ) (s : Sort) → IsResolved items named sorts tables → IsFaultless items → (b : BaseAt items named sorts place)
    → sort_kept named sorts place ≡ Some s → HasTable items tables place b.declaration s
table_at items named sorts tables place s resolved faultless b there =
    resolved.split place b.declaration b.expr s faultless b.stands b.is_base (subst (Resolves items b.expr) (both_some b.has.sort s (sym b.has.stands ∙ there)) b.has.resolves)

-- the entry for a value is there
pub entry_there : (items : List Declaration) (tables : List (Option (List ℕ))) (place k : ℕ) (d : Declaration) (s : Sort) (v : Value) → HasTable items tables place d s → slice_get (carrier (widths_of items) s) k ≡ Some v
    → (table : List ℕ) × (slice_get tables place ≡ Some (Some table)) × (k < length table)
entry_there items tables place k d s v has at = (has.table, has.stands, subst (λ n. k < n) (sym has.parts.size) (slice_get_within (carrier (widths_of items) s) k v at))

entry_is : (tables : List (Option (List ℕ))) (place k n : ℕ) (table : List ℕ) → slice_get tables place ≡ Some (Some table) → option_and_then (λ t. option_and_then (λ l. slice_get l k) t) (slice_get tables place) ≡ Some n → slice_get table k ≡ Some n
entry_is tables place k n table there h = ap (option_and_then (λ t. option_and_then (λ l. slice_get l k) t)) (sym there) ∙ h

pub is_part_of : (items : List Declaration) (named : List (Option Sort)) (sorts : List Kept) (tables : List (Option (List ℕ))) (place k n : ℕ) (s : Sort) (v : Value) → (b : BaseAt items named sorts place) → IsBaseSort items place s
    → HasTable items tables place b.declaration s → slice_get (carrier (widths_of items) s) k ≡ Some v → option_and_then (λ t. option_and_then (λ l. slice_get l k) t) (slice_get tables place) ≡ Some n → IsPartOf items place v n
is_part_of items named sorts tables place k n s v b base has at entry =
    let listed = has.parts.lists k v at in
    let number = entry_is tables place k n has.table has.stands entry in (
      s,
      listed.0,
      base,
      ap (option_and_then (λ d. slice_get (elements_of d) n)) b.stands ∙ ap (option_and_then (slice_get (elements_of b.declaration))) (sym number) ∙ listed.1,
      listed.2,
    )
