-- How declarations are settled one after another.
use Rattle.std.proofs.Common.{◌≡◌, ◌<◌, ◌+◌, ◌⊎◌, ◌^◌, ℕ, zero, suc, true, List, [], ◌∷◌, ◌++◌, length, take, get_or, refl, sym, ap, ◌∙◌, subst, inl, inr, Contains, Option, Some, None, slice_get, arith, add-one, codes, Result, Err}
use Rattle.std.proofs.Math.Seq.{take-suc}
use Rattle.std.proofs.lemmas.List.Elements.{Contains-append_cases}
use Rattle.pn_syntax.specs.declared.declaration.Declaration.{Declaration}
use Rattle.pn_syntax.specs.declared.declaration.ConstExpr.{ConstExpr}
use Rattle.pn_syntax.specs.declared.declaration.PartElement.{PartElement}
use Rattle.pn_values.specs.declared.sort.Sort.{Sort}
use Rattle.pn_values.specs.declared.sort.Sort.TheOpen as layer
use Rattle.pn_values.specs.declared.sort.Sort.TheViews.{out-Sort, roll-Sort, roll-out-Sort}
use Rattle.pn_values.specs.declared.sort.Sort.TheFolds.{fold-roll-Sort}
use Rattle.pn_syntax.specs.declared.sort_expr.SortExpr.{SortExpr}
use Rattle.pn_values.specs.Sizes.{depth_of, depth_step, nodes_of, nodes_step}
use Rattle.pn_partitions.specs.Partitions.{IsPartTable, Splits, is_splittable, is_splittable_layer}
use Rattle.pn_resolve.specs.Meaning.{Resolves}
use Rattle.pn_resolve.specs.Standing.{itself, unknown_sort, HasEmptyRange, IsBig, IsNameOf, at_of_constant, base_of, elements_of, expr_of}
use Rattle.pn_sorts.specs.Kept.{asked_of, sort_of_kept}
use Rattle.pn_sorts.specs.declared.kept.Kept.{Kept}
use Rattle.pn_sorts.specs.Standing.{IsBadPartition}
use Rattle.pn_faults.specs.declared.fault.Fault.{Fault}
use Rattle.pn_faults.specs.Least.{lower}
use Rattle.pn_faults.specs.Standing.{IsLeastOf}
use Rattle.pn_resolve.proofs.Meanings.{resolves_once}
use Rattle.pn_faults.proofs.WalkLemmas.{least_of_both, least_alike, keeps_alike}
use Rattle.pn_faults.specs.Walks.{KeepsLeast}
use Rattle.pn_resolve.specs.Tables.{IsExtent}
use Rattle.pn_resolve.specs.declared.extent.Extent.{Extent}
use Rattle.pn_resolve.specs.declared.extent.Extent.TheVariants.{NoSort, TooBig, Fits}
use Rattle.pn_sorts.specs.Settling.{AreSettled, IsKnown, IsBadFault, IsBadIn, IsBadlyDivided, IsSortEntry, IsSortEntryIn, IsParting, IsPartingTable, IsTableEntry, ListEmptyRange}
use Rattle.pn_faults.specs.Order.{fault_at}
use Rattle.pn_faults.specs.declared.reason.Reason.TheVariants as reasons
use Rattle.pn_names.specs.Names.{at_of, constant_ids, element_id, id_of}
use Rattle.std.specs.List.{AllByRecursion}
use Rattle.std.proofs.lemmas.List.{length-map, length-append}
use Rattle.std.proofs.lemmas.Option.{get_or_from_slice_get, slice_get_read, slice_get_within}
use Rattle.pn_sorts.specs.Keeping.{HasSort, HasTable, PartsKeep, IsResolved}
use Rattle.pn_faults.specs.declared.fault.Refusal.{Refusal}
use Rattle.pn_faults.specs.declared.fault.Refusal.TheVariants as refusals
use Rattle.pn_names.specs.declared.Declared.{Declared}
use Rattle.pn_ids.specs.Names.{named_in}
use Rattle.pn_names.specs.Names.{AreNumbered, names_of, sort_place, variable_places_of, widths_of}
use Rattle.pn_syntax.specs.declared.sort_expr.SortNode.TheVariants as nodes
use Rattle.std.specs.Option.{option_and_then}
use Rattle.pn_resolve.specs.Tables.{Entries, IsTable}
use Rattle.pn_names.proofs.DeclaredLemmas.{slice_get_at, slice_get_left}
use Rattle.pn_syntax.specs.declared.declaration.Declaration.TheVariants as declarations
use Rattle.pn_sorts.specs.Standing.{IsFaultless, Stands}
use Rattle.pn_sorts.specs.Standing.Stands.{besides, bad_partition}
use Rattle.pn_resolve.specs.Standing.StandsBesides.{constant_range, in_sort}
use Rattle.pn_sorts.specs.declared.settle.Parting.TheVariants as partings

single : {A : Type 0} (x y : A) → Contains (y ∷ []) x → x ≡ y
single x y (zero, small, at) = sym at
single x y (suc k, small, at) = absurd (omega (arith, small))

-- one more element that lists no empty range
pub list_more : (es : List PartElement) (i : ℕ) (e : PartElement) → i < length es → e ≡ get_or es i e → (ListEmptyRange (take i es) → ⊥) → ((c : ConstExpr) × Contains e.values c × HasEmptyRange c → ⊥)
    → ListEmptyRange (take (i + 1) es) → ⊥
list_more es i e small at none own found = by (Contains-append_cases (take i es) (e ∷ []) found.0 (subst (λ l. Contains l found.0) split found.2))
  where
    split : take (i + 1) es ≡ take i es ++ e ∷ []
    split = ap (λ n. take n es) (add-one i) ∙ take-suc es i e small ∙ ap (λ x. take i es ++ x ∷ []) (sym at)

    by : Contains (take i es) found.0 ⊎ Contains (e ∷ []) found.0 → ⊥
    by (inl h) = none (found.0, found.1, h, found.3, found.4)
    by (inr h) = own (found.1, subst (λ x. Contains x.values found.1) (single found.0 e h) found.3, found.4)

small_alone : (s : Sort) (l : layer.Sort-F Sort) → out-Sort s ≡ l → depth_of (roll-Sort l) ≡ 1 → nodes_of (roll-Sort l) ≡ 1 → IsBig s → ⊥
small_alone s l is depth nodes (inl deep) = let one : depth_of s ≡ 1 = ap depth_of (sym (roll-out-Sort s) ∙ ap roll-Sort is) ∙ depth in omega (arith, deep)
small_alone s l is depth nodes (inr many) = let one : nodes_of s ≡ 1 = ap nodes_of (sym (roll-out-Sort s) ∙ ap roll-Sort is) ∙ nodes in omega (arith, many)

-- a sort that is big can't be split
big_layer : (s : Sort) (l : layer.Sort-F Sort) → out-Sort s ≡ l → is_splittable_layer l ≡ true → IsBig s → ⊥
big_layer s (layer.Enumeration place) is ok big = small_alone s (layer.Enumeration place) is (fold-roll-Sort ℕ depth_step (layer.Enumeration place)) (fold-roll-Sort ℕ nodes_step (layer.Enumeration place)) big
big_layer s (layer.Range start end) is ok big = small_alone s (layer.Range start end) is (fold-roll-Sort ℕ depth_step (layer.Range start end)) (fold-roll-Sort ℕ nodes_step (layer.Range start end)) big
big_layer s layer.Dot is ok big = cc
big_layer s layer.Bool is ok big = cc
big_layer s (layer.Partition place) is ok big = cc
big_layer s (layer.Product parts) is ok big = cc
big_layer s layer.Integer is ok big = cc
big_layer s layer.Natural is ok big = cc
big_layer s layer.Positive is ok big = cc
big_layer s layer.Text is ok big = cc
big_layer s (layer.List part) is ok big = cc

pub big_not_split : (s : Sort) → IsBig s → is_splittable s ≡ true → ⊥
big_not_split s big ok = big_layer s (out-Sort s) refl ok big

-- a base sort that has an extent, but none within the limits, is not split
pub bad_extent : (items : List Declaration) (e : SortExpr) (elements : List PartElement) (x : Extent) → IsExtent items e x → (x ≡ NoSort → ⊥) → ((s : Sort) → Resolves items e s → IsBig s)
    → (base : Sort) × Resolves items e base × (Splits items base elements → ⊥)
bad_extent items e elements NoSort is some big = absurd (some refl)
bad_extent items e elements TooBig is some big = (is.0, is.1, λ splits. big_not_split is.0 is.2 splits.splittable)
bad_extent items e elements (Fits depth nodes) is some big = absurd (is.2 (big is.0 is.1))

pub not_bad_unasked : (items : List Declaration) (e : SortExpr) (elements : List PartElement) → IsParting items e elements partings.Unasked → IsBadlyDivided items e elements → ⊥
not_bad_unasked items e elements (inl empty) bad = bad.0 empty
not_bad_unasked items e elements (inr none) bad = none bad.1 bad.2

pub not_bad_split : (items : List Declaration) (e : SortExpr) (elements : List PartElement) (table : List ℕ) → IsParting items e elements (partings.Splits table) → IsBadlyDivided items e elements → ⊥
not_bad_split items e elements table split bad = bad.3 (subst (λ s. Splits items s elements) (resolves_once items e split.0 bad.1 split.1 bad.2) split.2)

pub same_some : {A : Type 0} (x y : A) → Some x ≡ Some y → x ≡ y
same_some x y e = cc

-- a partition as it is declared
pub record IsPartitionOf (d : Declaration) (e : SortExpr) (elements : List PartElement) (id : List ℕ) (at : ℕ) : Type 0 where
  pub base : base_of d ≡ Some e
  pub parts : elements_of d ≡ elements
  pub named : id_of d ≡ id
  pub stands : at_of d ≡ at

to_bad : (items : List Declaration) (d : Declaration) (e : SortExpr) (elements : List PartElement) (id : List ℕ) (at : ℕ) → IsPartitionOf d e elements id at → IsBadlyDivided items e elements → IsBadPartition items d
to_bad items d e elements id at is bad = record {
  expr = e;
  is_base = is.base;
  base = bad.1;
  resolves = bad.2;
  ranges = λ c listed empty. bad.0 (listed.0, c, subst (λ l. Contains l listed.0) is.parts listed.1, listed.2, empty);
  is_bad = λ splits. bad.3 (subst (Splits items bad.1) is.parts splits);
}

from_bad : (items : List Declaration) (d : Declaration) (e : SortExpr) (elements : List PartElement) (id : List ℕ) (at : ℕ) → IsPartitionOf d e elements id at → IsBadPartition items d → IsBadlyDivided items e elements
from_bad items d e elements id at is bad =
    let same : bad.expr ≡ e = same_some bad.expr e (sym bad.is_base ∙ is.base) in (
      λ found. bad.ranges found.1 (found.0, subst (λ l. Contains l found.0) (sym is.parts) found.2, found.3) found.4,
      bad.base,
      subst (λ x. Resolves items x bad.base) same bad.resolves,
      λ splits. bad.is_bad (subst (Splits items bad.base) (sym is.parts) splits),
    )

-- the least fault that a partition keeps
pub partition_keeps : (items : List Declaration) (d : Declaration) (e : SortExpr) (elements : List PartElement) (id : List ℕ) (at : ℕ) (old new : Option Fault) → IsPartitionOf d e elements id at
    → KeepsLeast (IsBadFault items e elements id at) old new → KeepsLeast (IsBadIn items d) old new
partition_keeps items d e elements id at old new is keeps =
    let place : fault_at reasons.BadPartition at id ≡ fault_at reasons.BadPartition (at_of d) (id_of d) =
    ap (λ n. fault_at reasons.BadPartition n id) (sym is.stands) ∙ ap (λ (l : List ℕ). fault_at reasons.BadPartition (at_of d) l) (sym is.named) in
    keeps_alike (IsBadFault items e elements id at) (IsBadIn items d) old new (λ f q. (to_bad items d e elements id at is q.0, q.1 ∙ place)) (λ f q. (from_bad items d e elements id at is q.0, q.1 ∙ sym place)) keeps

-- the table that a partition gets
pub partition_table : (items : List Declaration) (d : Declaration) (e : SortExpr) (elements : List PartElement) (id : List ℕ) (at : ℕ) (base : Option Sort) (o : Option (List ℕ)) → IsPartitionOf d e elements id at
    → Contains items d → IsSortEntry items e base → IsPartingTable items e elements o → IsTableEntry items e (elements_of d) o
partition_table items d e elements id at base (Some table) is there entry parts = subst (λ l. IsTableEntry items e l (Some table)) (sym is.parts) parts
partition_table items d e elements id at base None is there entry (inl bad) =
    let f = fault_at reasons.BadPartition (at_of d) (id_of d) in (f, bad_partition f d there (to_bad items d e elements id at is bad) refl)
partition_table items d e elements id at base None is there entry (inr (inl empty)) =
    let f = fault_at reasons.EmptyRange (at_of_constant empty.1) (codes "finiteintrange") in
    (f, besides f (constant_range f d empty.1 there (empty.0, subst (λ l. Contains l empty.0) (sym is.parts) empty.2, empty.3) empty.4 refl))
partition_table items d e elements id at None None is there entry (inr (inr none)) = entry
partition_table items d e elements id at (Some s) None is there entry (inr (inr none)) = absurd (none s entry)

-- a name, by the table of names
pub is_name : (items : List Declaration) (names : List (List ℕ × Declared)) (table : Entries) (e : SortExpr) (name : List ℕ) (place : ℕ) → IsTable items names table → e.node ≡ nodes.User name
    → option_and_then sort_place (named_in names name) ≡ Some place → IsNameOf items place e
is_name items names table e name place t node is = (name, node, ap (λ n. option_and_then sort_place (named_in n name)) (sym t.are_names) ∙ is)

-- a name that is not there
pub is_no_name : (items : List Declaration) (names : List (List ℕ × Declared)) (table : Entries) (e : SortExpr) (name : List ℕ) → IsTable items names table → e.node ≡ nodes.User name
    → option_and_then sort_place (named_in names name) ≡ None → IsSortEntryIn items e None
is_no_name items names table e name t node is =
    let f = fault_at reasons.UnknownSort e.at name in
    (f, inl (e, itself e e refl, unknown_sort e f name node (ap (λ n. option_and_then sort_place (named_in n name)) (sym t.are_names) ∙ is) refl))

asked_is_expr : (d : Declaration) (e : SortExpr) → asked_of d ≡ Some e → expr_of d ≡ Some e
asked_is_expr (declarations.Named id name body at) e h = cc
asked_is_expr (declarations.Variable id name sort at) e h = h
asked_is_expr (declarations.Partition id name sort elements at) e h = h

entry_stands : (items : List Declaration) (d : Declaration) (e : SortExpr) (o : Option Sort) → Contains items d → expr_of d ≡ Some e → IsSortEntryIn items e o → IsSortEntry items e o
entry_stands items d e None there is (f, inl inside) = (f, besides f (in_sort f d e there is inside))
entry_stands items d e None there is (f, inr beside) = (f, besides f beside)
entry_stands items d e (Some s) there is entry = entry

-- the sort of an expression, by the expression that the declaration has
pub entry_of : (items : List Declaration) (d : Declaration) (e x : SortExpr) (o : Option Sort) → Contains items d → asked_of d ≡ Some x → asked_of d ≡ Some e → IsSortEntryIn items x o → IsSortEntry items e o
entry_of items d e x o there is has entry =
    let same : x ≡ e = same_some x e (sym is ∙ has) in
    entry_stands items d e o there (asked_is_expr d e has) (subst (λ y. IsSortEntryIn items y o) same entry)

few_parts : (d : Declaration) → length (constant_ids d) < 2 ^ 32 → length (elements_of d) < 2 ^ 32
few_parts (declarations.Named id name body at) few = omega arith
few_parts (declarations.Variable id name sort at) few = omega arith
few_parts (declarations.Partition id name sort elements at) few = subst (λ n. n < 2 ^ 32) (length-map elements element_id) few

-- the elements of each declaration are numbered by 32 bits
pub elements_few : (ds : List Declaration) (i : ℕ) (d x : Declaration) → AllByRecursion (λ y. length (constant_ids y) < 2 ^ 32) ds → i < length ds → d ≡ get_or ds i x → length (elements_of d) < 2 ^ 32
elements_few [] i d x all small at = absurd (omega (arith, small))
elements_few (y ∷ ds) zero d x all small at = few_parts d (subst (λ z. length (constant_ids z) < 2 ^ 32) (sym at) all.0)
elements_few (y ∷ ds) (suc i) d x all small at = elements_few ds i d x all.1 (omega (arith, small)) at

at_place : {A : Type 0} (xs : List A) (i : ℕ) (x d y : A) → i < length xs → x ≡ get_or xs i d → slice_get xs i ≡ Some y → y ≡ x
at_place [] i x d y small at got = cc
at_place (z ∷ xs) zero x d y small at got = cc
at_place (z ∷ xs) (suc i) x d y small at got = at_place xs i x d y (omega (arith, small)) at got

last_stands : {A : Type 0} (xs ys : List A) (x : A) (i : ℕ) → length xs ≡ i → ys ≡ xs ++ x ∷ [] → slice_get ys i ≡ Some x
last_stands xs ys x i n is = ap (λ l. slice_get l i) is ∙ ap (slice_get (xs ++ x ∷ [])) (sym n) ∙ slice_get_at xs x []

still_stands : {A : Type 0} (xs ys : List A) (x : A) (k : ℕ) (o : A) → ys ≡ xs ++ x ∷ [] → slice_get xs k ≡ Some o → slice_get ys k ≡ Some o
still_stands xs ys x k o is at = ap (λ l. slice_get l k) is ∙ slice_get_left xs (x ∷ []) k o at

one_longer : {A : Type 0} (xs ys : List A) (x : A) (i : ℕ) → length xs ≡ i → ys ≡ xs ++ x ∷ [] → length ys ≡ i + 1
one_longer xs ys x i n is = ap length is ∙ length-append xs (x ∷ []) ∙ ap (λ m. m + 1) n

either_place : (k i : ℕ) → k < i + 1 → (k < i) ⊎ (k ≡ i)
either_place zero zero small = inr refl
either_place zero (suc i) small = inl (omega arith)
either_place (suc k) zero small = absurd (omega (arith, small))
either_place (suc k) (suc i) small = elim (either_place k i (omega (arith, small))) [ inl a ↦ inl (omega (arith, a)) | inr b ↦ inr (ap suc b) ]

-- one more declaration is settled
pub settled_more : (items : List Declaration) (named : List (Option Sort)) (i : ℕ) (item : Declaration) (sorts new_sorts : List Kept) (tables new_tables : List (Option (List ℕ))) (s : Kept) (t : Option (List ℕ)) → AreSettled items named i sorts tables
    → i < length items → item ≡ get_or items i item → new_sorts ≡ sorts ++ s ∷ [] → new_tables ≡ tables ++ t ∷ []
    → ((e : SortExpr) → asked_of item ≡ Some e → IsSortEntry items e (sort_of_kept named s)) → ((e : SortExpr) → base_of item ≡ Some e → IsTableEntry items e (elements_of item) t) → AreSettled items named (i + 1) new_sorts new_tables
settled_more items named i item sorts new_sorts tables new_tables s t so_far small at more_sorts more_tables own own_table = record {
  sorts_to = one_longer sorts new_sorts s i so_far.sorts_to more_sorts;
  tables_to = one_longer tables new_tables t i so_far.tables_to more_tables;
  each = λ k d e within there has. elim (either_place k i within) [
    | inl before ↦ let old = so_far.each k d e before there has in (old.0, still_stands sorts new_sorts s k old.0 more_sorts old.1, old.2)
    | inr here ↦ let same = at_place items i item item d small at (ap (slice_get items) (sym here) ∙ there) in
        (s, ap (slice_get new_sorts) here ∙ last_stands sorts new_sorts s i so_far.sorts_to more_sorts, own e (ap asked_of (sym same) ∙ has))
  ];
  split = λ k d e within there has. elim (either_place k i within) [
    | inl before ↦ let old = so_far.split k d e before there has in (old.0, still_stands tables new_tables t k old.0 more_tables old.1, old.2)
    | inr here ↦ let same = at_place items i item item d small at (ap (slice_get items) (sym here) ∙ there) in
        (t, ap (slice_get new_tables) here ∙ last_stands tables new_tables t i so_far.tables_to more_tables, subst (λ x. IsTableEntry items e (elements_of x) t) (sym same) (own_table e (ap base_of (sym same) ∙ has)))
  ];
}

-- the least fault that is known, with one more declaration
pub least_more : (items : List Declaration) (i : ℕ) (item : Declaration) (old new : Option Fault) → i < length items → item ≡ get_or items i item → IsLeastOf (IsKnown items i) old → KeepsLeast (IsBadIn items item) old new
    → IsLeastOf (IsKnown items (i + 1)) new
least_more items i item old new small at least keeps = subst (IsLeastOf (IsKnown items (i + 1))) (sym keeps.is_lower)
    (least_alike (λ f. IsKnown items i f ⊎ IsBadIn items item f) (IsKnown items (i + 1)) (lower old keeps.own) to from (least_of_both (IsKnown items i) (IsBadIn items item) old keeps.own least keeps.is_least))
  where
    to : (f : Fault) → IsKnown items i f ⊎ IsBadIn items item f → IsKnown items (i + 1) f
    to f (inl (inl stands)) = inl stands
    to f (inl (inr before)) = inr (before.0, before.1, omega (arith, before.2), before.3, before.4)
    to f (inr bad) = inr (i, item, omega arith, slice_get_read items (length items) i item refl small at, bad)

    from : (f : Fault) → IsKnown items (i + 1) f → IsKnown items i f ⊎ IsBadIn items item f
    from f (inl stands) = inl (inl stands)
    from f (inr before) = elim (either_place before.0 i before.2) [
      | inl earlier ↦ inl (inr (before.0, before.1, earlier, before.3, before.4))
      | inr here ↦ inr (subst (λ d. IsBadIn items d f) (at_place items i item item before.1 small at (ap (slice_get items) (sym here) ∙ before.3)) before.4)
    ]

-- where the declarations have no fault, what is settled is all that is wanted
pub all_resolved : (items : List Declaration) (named : List (Option Sort)) (sorts : List Kept) (tables : List (Option (List ℕ))) → AreSettled items named (length items) sorts tables → IsResolved items named sorts tables
all_resolved items named sorts tables settled = record {
  each = λ place d e faultless there has. let got = settled.each place d e (slice_get_within items place d there) there has in sort_of place e faultless got.0 got.1 (sort_of_kept named got.0) refl got.2;
  split = λ place d e base faultless there has resolves.
      let got = settled.split place d e (slice_get_within items place d there) there has in table_of place d e base faultless resolves got.0 got.1 got.2;
}
  where
    sort_of : (place : ℕ) (e : SortExpr) → IsFaultless items → (k : Kept) → slice_get sorts place ≡ Some k → (o : Option Sort) → sort_of_kept named k ≡ o → IsSortEntry items e o → HasSort items named sorts place e
    sort_of place e faultless k at None is entry = absurd (faultless entry.0 entry.1)
    sort_of place e faultless k at (Some s) is entry = record { sort = s; stands = ap (option_and_then (sort_of_kept named)) at ∙ is; resolves = entry }

    table_of : (place : ℕ) (d : Declaration) (e : SortExpr) (base : Sort) → IsFaultless items → Resolves items e base → (o : Option (List ℕ)) → slice_get tables place ≡ Some o → IsTableEntry items e (elements_of d) o
        → HasTable items tables place d base
    table_of place d e base faultless resolves None at entry = absurd (faultless entry.0 entry.1)
    table_of place d e base faultless resolves (Some t) at entry =
        let same = resolves_once items e entry.0 base entry.1 resolves in
        record {
          table = t;
          stands = at;
          splits = subst (λ s. Splits items s (elements_of d)) same entry.2;
          parts = subst (λ s. IsPartTable items s (elements_of d) t) same entry.3;
        }

-- the faults that are known in the end are those that stand
pub all_known : (items : List Declaration) (o : Option Fault) → IsLeastOf (IsKnown items (length items)) o → IsLeastOf (Stands items) o
all_known items o least = least_alike (IsKnown items (length items)) (Stands items) o to from least
  where
    to : (f : Fault) → IsKnown items (length items) f → Stands items f
    to f (inl s) = besides f s
    to f (inr bad) = bad_partition f bad.1 (bad.0, bad.2, get_or_from_slice_get items bad.0 bad.1 bad.1 bad.3) bad.4.0 bad.4.1

    from : (f : Fault) → Stands items f → IsKnown items (length items) f
    from f (besides g s) = inl s
    from f (bad_partition g d c bad is) = inr (c.0, d, c.1, slice_get_read items (length items) c.0 d refl c.1 (sym c.2), (bad, is))

abbrev refused_with : Refusal → Result Sort Refusal
refused_with r = Err r

pub same_refusal : (f g : Fault) → refused_with (refusals.Fault f) ≡ refused_with (refusals.Fault g) → f ≡ g
same_refusal f g e = cc

pub same_error : (r s : Refusal) → refused_with r ≡ refused_with s → r ≡ s
same_error r s e = cc

-- what the parts keep, from what was settled
pub all_kept : (items kept : List Declaration) (index : List (List ℕ × Declared)) (table : Entries) (widths variables : List ℕ) (sorts : List Kept) (tables : List (Option (List ℕ))) (fault : Option Fault) → kept ≡ items
    → AreNumbered items → index ≡ names_of items → widths ≡ widths_of items → variables ≡ variable_places_of items → IsTable items index table → AreSettled items table.sorts (length items) sorts tables
    → IsLeastOf (IsKnown items (length items)) fault → PartsKeep kept index table widths variables sorts tables fault
all_kept items kept index table widths variables sorts tables fault same numbered names counts places entries settled least =
    subst (λ l. PartsKeep l index table widths variables sorts tables fault) (sym same) (record {
      indexed = record { numbered = numbered; names = names; counts = counts; places = places };
      entries = entries;
      resolved = all_resolved items table.sorts sorts tables settled;
      least = all_known items fault least;
    })
