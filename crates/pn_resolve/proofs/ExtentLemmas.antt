-- The extents of sorts, and what is told of the extent of an expression.
use Rattle.std.proofs.Common.{◌≡◌, ◌⊎◌, inl, inr, ℕ, suc, ◌+◌, ◌<◌, ◌≤◌, max, nat_le, Bool, true, false, cond, List, [], ◌∷◌, map, sum, Option, Some, None, int_lt, codes, ℤ, refl, sym, ap, ◌∙◌, arith}
use Rattle.std.specs.List.{Contains}
use Rattle.std.specs.Option.{option_map}
use Rattle.std.proofs.lemmas.Bool.Decides.{nat_tests}
use Rattle.std.proofs.lemmas.List.Sums.{sum_by-cons}
use Rattle.pn_faults.specs.Order.{fault_at}
use Rattle.pn_faults.specs.declared.reason.Reason.TheVariants as reasons
use Rattle.pn_values.specs.Sizes.{greatest, depth_step, depth_of, nodes_step, nodes_of}
use Rattle.pn_values.specs.declared.sort.Sort.{Sort}
use Rattle.pn_values.specs.declared.sort.Sort.TheOpen as sort_layer
use Rattle.pn_values.specs.declared.sort.Sort.TheVariants as sorts
use Rattle.pn_values.specs.declared.sort.Sort.TheVariants.{rolls-Dot, rolls-Bool, rolls-Range, rolls-Product, rolls-Integer, rolls-Natural, rolls-Positive, rolls-Text, rolls-List, rolls-Enumeration, rolls-Partition}
use Rattle.pn_values.specs.declared.sort.Sort.TheViews.{roll-Sort}
use Rattle.pn_values.specs.declared.sort.Sort.TheFolds.{fold-roll-Sort}
use Rattle.pn_syntax.specs.declared.sort_expr.SortExpr.{SortExpr}
use Rattle.pn_syntax.specs.declared.sort_expr.SortNode.TheOpen as layer
use Rattle.pn_syntax.specs.declared.sort_expr.SortNode.TheViews.{out-SortNode}
use Rattle.pn_resolve.specs.declared.TheConstants.{MAX_DEPTH, MAX_NODES}
use Rattle.pn_resolve.specs.declared.extent.Extent.{Extent}
use Rattle.pn_resolve.specs.declared.extent.Extent.TheVariants.{NoSort, TooBig, Fits}
use Rattle.pn_resolve.specs.Extents.{measured, extent_of, beside, all_beside, around}
use Rattle.pn_resolve.specs.Meaning.{range_sort, all_sorts, sort_with}
use Rattle.pn_resolve.specs.Standing.{IsBig}
use Rattle.pn_resolve.specs.Telling.{told_extent, told_range, told_name, told, single}
use Rattle.pn_facts.proofs.Contained.{contains_nil, contains_first, contains_next, contains_cases}
use Rattle.pn_resolve.proofs.Expressions.{NodeLayer, IsIn, expr_ind, sort_at, told_at, NamesIn, names_in_part, name_itself}

pub fits_is : (d n : ℕ) → d ≤ MAX_DEPTH → n ≤ MAX_NODES → measured d n ≡ Fits d n
fits_is d n a b = grind (arith, nat_tests)

pub big_is : (d n : ℕ) → (MAX_DEPTH < d) ⊎ (MAX_NODES < n) → measured d n ≡ TooBig
big_is d n (inl a) = grind (arith, nat_tests)
big_is d n (inr b) = grind (arith, nat_tests)

at_tests : {P : Type 0} (d n : ℕ) (a b : Bool) → nat_le d MAX_DEPTH ≡ a → nat_le n MAX_NODES ≡ b → (d ≤ MAX_DEPTH → n ≤ MAX_NODES → P) → ((MAX_DEPTH < d) ⊎ (MAX_NODES < n) → P) → P
at_tests d n true true p q fits big = fits (grind (arith, nat_tests)) (grind (arith, nat_tests))
at_tests d n true false p q fits big = big (inr (grind (arith, nat_tests)))
at_tests d n false b p q fits big = big (inl (grind (arith, nat_tests)))

-- within the limits or above one of them
pub by_limits : {P : Type 0} (d n : ℕ) → (d ≤ MAX_DEPTH → n ≤ MAX_NODES → P) → ((MAX_DEPTH < d) ⊎ (MAX_NODES < n) → P) → P
by_limits d n fits big = at_tests d n (nat_le d MAX_DEPTH) (nat_le n MAX_NODES) refl refl fits big

big_more : (d n d' n' : ℕ) → d ≤ d' → n ≤ n' → (MAX_DEPTH < d) ⊎ (MAX_NODES < n) → (MAX_DEPTH < d') ⊎ (MAX_NODES < n')
big_more d n d' n' a b (inl x) = inl (omega arith)
big_more d n d' n' a b (inr x) = inr (omega arith)

around_measured : (d n : ℕ) → around (measured d n) ≡ measured (suc d) (suc n)
around_measured d n = by_limits d n
    (λ (a : d ≤ MAX_DEPTH) (b : n ≤ MAX_NODES). ap around (fits_is d n a b))
    (λ (o : (MAX_DEPTH < d) ⊎ (MAX_NODES < n)). ap around (big_is d n o) ∙ sym (big_is (suc d) (suc n) (big_more d n (suc d) (suc n) (omega arith) (omega arith) o)))

beside_big : (d n : ℕ) → beside TooBig (measured d n) ≡ TooBig
beside_big d n = by_limits d n (λ (a : d ≤ MAX_DEPTH) (b : n ≤ MAX_NODES). ap (beside TooBig) (fits_is d n a b)) (λ (o : (MAX_DEPTH < d) ⊎ (MAX_NODES < n)). ap (beside TooBig) (big_is d n o))

beside_measured : (d n d' n' : ℕ) → beside (measured d n) (measured d' n') ≡ measured (max d d') (n + n')
beside_measured d n d' n' = by_limits d n
    (λ (a : d ≤ MAX_DEPTH) (b : n ≤ MAX_NODES). by_limits d' n'
    (λ (a' : d' ≤ MAX_DEPTH) (b' : n' ≤ MAX_NODES). ap (λ x. beside x (measured d' n')) (fits_is d n a b) ∙ ap (beside (Fits d n)) (fits_is d' n' a' b'))
    (λ (o : (MAX_DEPTH < d') ⊎ (MAX_NODES < n')). ap (λ x. beside x (measured d' n')) (fits_is d n a b) ∙ ap (beside (Fits d n)) (big_is d' n' o) ∙ sym (big_is (max d d') (n + n') (big_more d' n' (max d d') (n + n') (omega arith) (omega arith) o))))
    (λ (o : (MAX_DEPTH < d) ⊎ (MAX_NODES < n)). ap (λ x. beside x (measured d' n')) (big_is d n o) ∙ beside_big d' n' ∙ sym (big_is (max d d') (n + n') (big_more d n (max d d') (n + n') (omega arith) (omega arith) o)))

beside_none : (x : Extent) → beside x NoSort ≡ NoSort
beside_none NoSort = refl
beside_none TooBig = refl
beside_none (Fits d n) = refl

all_none : (xs : List Extent) → all_beside NoSort xs ≡ NoSort
all_none [] = refl
all_none (x ∷ xs) = all_none xs

sum-cons : (n : ℕ) (ns : List ℕ) → sum (n ∷ ns) ≡ n + sum ns
sum-cons n ns = sum_by-cons (λ x. x) n ns

-- the extent of sorts side by side, and others
abbrev total_of : ℕ → ℕ → Option (List Sort) → Extent
total_of d n None = NoSort
total_of d n (Some ss) = measured (max d (greatest (map depth_of ss))) (n + sum (map nodes_of ss))

all_beside_is : (os : List (Option Sort)) (d n : ℕ) → all_beside (measured d n) (map extent_of os) ≡ total_of d n (all_sorts os)
all_beside_is [] d n = let a : d ≡ max d 0 = omega arith in let b : n ≡ n + 0 = omega arith in ap (λ x. measured x n) a ∙ ap (measured (max d 0)) b
all_beside_is (None ∷ os) d n = ap (λ x. all_beside x (map extent_of os)) (beside_none (measured d n)) ∙ all_none (map extent_of os)
all_beside_is (Some s ∷ os) d n =
    ap (λ x. all_beside x (map extent_of os)) (beside_measured d n (depth_of s) (nodes_of s)) ∙ all_beside_is os (max d (depth_of s)) (n + nodes_of s) ∙ step (all_sorts os)
  where
    step : (o : Option (List Sort)) → total_of (max d (depth_of s)) (n + nodes_of s) o ≡ total_of d n (option_map (λ more. s ∷ more) o)
    step None = refl
    step (Some ss) =
        let c = sum-cons (nodes_of s) (map nodes_of ss) in
        let a : max (max d (depth_of s)) (greatest (map depth_of ss)) ≡ max d (max (depth_of s) (greatest (map depth_of ss))) = omega arith in
        let b : n + nodes_of s + sum (map nodes_of ss) ≡ n + sum (map nodes_of (s ∷ ss)) = omega (arith, c) in
        ap (λ x. measured x (n + nodes_of s + sum (map nodes_of ss))) a ∙ ap (measured (max d (greatest (map depth_of (s ∷ ss))))) b

pub depth_product : (ss : List Sort) → depth_of (sorts.Product ss) ≡ suc (greatest (map depth_of ss))
depth_product ss = ap depth_of (sym (rolls-Product ss)) ∙ fold-roll-Sort ℕ depth_step (sort_layer.Product ss)

pub nodes_product : (ss : List Sort) → nodes_of (sorts.Product ss) ≡ suc (sum (map nodes_of ss))
nodes_product ss = ap nodes_of (sym (rolls-Product ss)) ∙ fold-roll-Sort ℕ nodes_step (sort_layer.Product ss)

pub depth_list : (s : Sort) → depth_of (sorts.List s) ≡ suc (depth_of s)
depth_list s = ap depth_of (sym (rolls-List s)) ∙ fold-roll-Sort ℕ depth_step (sort_layer.List s)

pub nodes_list : (s : Sort) → nodes_of (sorts.List s) ≡ suc (nodes_of s)
nodes_list s = ap nodes_of (sym (rolls-List s)) ∙ fold-roll-Sort ℕ nodes_step (sort_layer.List s)

single_is : (l : sort_layer.Sort-F Sort) (s : Sort) → roll-Sort l ≡ s → depth_of (roll-Sort l) ≡ 1 → nodes_of (roll-Sort l) ≡ 1 → Fits 1 1 ≡ extent_of (Some s)
single_is l s is d n = ap (λ x. measured x 1) (sym d) ∙ ap (measured (depth_of (roll-Sort l))) (sym n) ∙ ap (λ x. extent_of (Some x)) is

pub single_dot : Fits 1 1 ≡ extent_of (Some sorts.Dot)
single_dot = single_is sort_layer.Dot sorts.Dot rolls-Dot (fold-roll-Sort ℕ depth_step sort_layer.Dot) (fold-roll-Sort ℕ nodes_step sort_layer.Dot)

pub single_bool : Fits 1 1 ≡ extent_of (Some sorts.Bool)
single_bool = single_is sort_layer.Bool sorts.Bool rolls-Bool (fold-roll-Sort ℕ depth_step sort_layer.Bool) (fold-roll-Sort ℕ nodes_step sort_layer.Bool)

pub single_range : (start end : ℤ) → Fits 1 1 ≡ extent_of (Some (sorts.Range start end))
single_range start end = single_is (sort_layer.Range start end) (sorts.Range start end) (rolls-Range start end) (fold-roll-Sort ℕ depth_step (sort_layer.Range start end)) (fold-roll-Sort ℕ nodes_step (sort_layer.Range start end))

pub single_integer : Fits 1 1 ≡ extent_of (Some sorts.Integer)
single_integer = single_is sort_layer.Integer sorts.Integer rolls-Integer (fold-roll-Sort ℕ depth_step sort_layer.Integer) (fold-roll-Sort ℕ nodes_step sort_layer.Integer)

pub single_natural : Fits 1 1 ≡ extent_of (Some sorts.Natural)
single_natural = single_is sort_layer.Natural sorts.Natural rolls-Natural (fold-roll-Sort ℕ depth_step sort_layer.Natural) (fold-roll-Sort ℕ nodes_step sort_layer.Natural)

pub single_positive : Fits 1 1 ≡ extent_of (Some sorts.Positive)
single_positive = single_is sort_layer.Positive sorts.Positive rolls-Positive (fold-roll-Sort ℕ depth_step sort_layer.Positive) (fold-roll-Sort ℕ nodes_step sort_layer.Positive)

pub single_text : Fits 1 1 ≡ extent_of (Some sorts.Text)
single_text = single_is sort_layer.Text sorts.Text rolls-Text (fold-roll-Sort ℕ depth_step sort_layer.Text) (fold-roll-Sort ℕ nodes_step sort_layer.Text)

pub single_enumeration : (n : ℕ) → Fits 1 1 ≡ extent_of (Some (sorts.Enumeration n))
single_enumeration n = single_is (sort_layer.Enumeration n) (sorts.Enumeration n) (rolls-Enumeration n) (fold-roll-Sort ℕ depth_step (sort_layer.Enumeration n)) (fold-roll-Sort ℕ nodes_step (sort_layer.Enumeration n))

pub single_partition : (n : ℕ) → Fits 1 1 ≡ extent_of (Some (sorts.Partition n))
single_partition n = single_is (sort_layer.Partition n) (sorts.Partition n) (rolls-Partition n) (fold-roll-Sort ℕ depth_step (sort_layer.Partition n)) (fold-roll-Sort ℕ nodes_step (sort_layer.Partition n))

-- the extent that is known of a name, none where it names nothing
abbrev pub name_extent : Option Extent → Extent
name_extent None = NoSort
name_extent (Some x) = x

name_told : (at : ℕ) (name : List ℕ) (o : Option Extent) → (told_name at name o).extent ≡ name_extent o
name_told at name None = refl
name_told at name (Some x) = refl

range_told : (at : ℕ) (start end : ℤ) → (told_range at start end).extent ≡ extent_of (range_sort start end)
range_told at start end = step (int_lt end start)
  where
    step : (b : Bool) → told_extent (cond b (record { extent = NoSort; faults = fault_at reasons.EmptyRange at (codes "finiteintrange") ∷ [] }) single) ≡ extent_of (cond b None (Some (sorts.Range start end)))
    step true = refl
    step false = single_range start end

-- where the known extents are those of what the names mean, the extent that is told is that of the sort
module _ (known : List ℕ → Option Extent) (m : List ℕ → Option Sort) where
  abbrev KnowsName : List ℕ → Type 0
  KnowsName name = name_extent (known name) ≡ extent_of (m name)

  abbrev KnowsExtent : SortExpr → Type 0
  KnowsExtent e = (told known e).extent ≡ extent_of (sort_with m e)

  abbrev IsRight : SortExpr → Type 0
  IsRight e = NamesIn KnowsName e → KnowsExtent e

  all_right : (ps : List SortExpr) → ((p : SortExpr) → Contains ps p → KnowsExtent p) → map told_extent (map (told known) ps) ≡ map extent_of (map (sort_with m) ps)
  all_right [] have = refl
  all_right (p ∷ ps) have = ap (λ x. x ∷ map told_extent (map (told known) ps)) (have p (contains_first p ps)) ∙ ap (λ xs. extent_of (sort_with m p) ∷ xs) (all_right ps (λ q c. have q (contains_next p ps q c)))

  around_total : (o : Option (List Sort)) → around (total_of 0 0 o) ≡ extent_of (option_map sorts.Product o)
  around_total None = refl
  around_total (Some ss) =
      let a : suc (max 0 (greatest (map depth_of ss))) ≡ depth_of (sorts.Product ss) = omega (arith, depth_product ss) in
      let b : suc (0 + sum (map nodes_of ss)) ≡ nodes_of (sorts.Product ss) = omega (arith, nodes_product ss) in
      around_measured (max 0 (greatest (map depth_of ss))) (0 + sum (map nodes_of ss)) ∙ ap (λ x. measured x (suc (0 + sum (map nodes_of ss)))) a ∙ ap (measured (depth_of (sorts.Product ss))) b

  around_one : (o : Option Sort) → around (extent_of o) ≡ extent_of (option_map sorts.List o)
  around_one None = refl
  around_one (Some s) = around_measured (depth_of s) (nodes_of s) ∙ ap (λ x. measured x (suc (nodes_of s))) (sym (depth_list s)) ∙ ap (measured (depth_of (sorts.List s))) (sym (nodes_list s))

  right_step : (l : NodeLayer) (e : SortExpr) → out-SortNode e.node ≡ l → ((p : SortExpr) → IsIn l p → IsRight p) → IsRight e
  right_step layer.Dot e at have names = ap told_extent (told_at known e layer.Dot at) ∙ single_dot ∙ sym (ap extent_of (sort_at m e layer.Dot at))
  right_step layer.Bool e at have names = ap told_extent (told_at known e layer.Bool at) ∙ single_bool ∙ sym (ap extent_of (sort_at m e layer.Bool at))
  right_step (layer.Range start end) e at have names = ap told_extent (told_at known e (layer.Range start end) at) ∙ range_told e.at start end ∙ sym (ap extent_of (sort_at m e (layer.Range start end) at))
  right_step (layer.Product parts) e at have names =
      ap told_extent (told_at known e (layer.Product parts) at)
      ∙ ap (λ xs. around (all_beside (Fits 0 0) xs)) (all_right parts (λ p c. have p c (names_in_part KnowsName (layer.Product parts) e p at c names)))
      ∙ ap around (all_beside_is (map (sort_with m) parts) 0 0)
      ∙ around_total (all_sorts (map (sort_with m) parts))
      ∙ sym (ap extent_of (sort_at m e (layer.Product parts) at))
  right_step (layer.User name) e at have names = ap told_extent (told_at known e (layer.User name) at) ∙ name_told e.at name (known name) ∙ name_itself KnowsName e name at names ∙ sym (ap extent_of (sort_at m e (layer.User name) at))
  right_step layer.Integer e at have names = ap told_extent (told_at known e layer.Integer at) ∙ single_integer ∙ sym (ap extent_of (sort_at m e layer.Integer at))
  right_step layer.Natural e at have names = ap told_extent (told_at known e layer.Natural at) ∙ single_natural ∙ sym (ap extent_of (sort_at m e layer.Natural at))
  right_step layer.Positive e at have names = ap told_extent (told_at known e layer.Positive at) ∙ single_positive ∙ sym (ap extent_of (sort_at m e layer.Positive at))
  right_step layer.Text e at have names = ap told_extent (told_at known e layer.Text at) ∙ single_text ∙ sym (ap extent_of (sort_at m e layer.Text at))
  right_step (layer.List part) e at have names =
      ap told_extent (told_at known e (layer.List part) at) ∙ ap around (have part refl (names_in_part KnowsName (layer.List part) e part at refl names)) ∙ around_one (sort_with m part) ∙ sym (ap extent_of (sort_at m e (layer.List part) at))

  pub extent_is_right : (e : SortExpr) → NamesIn KnowsName e → (told known e).extent ≡ extent_of (sort_with m e)
  extent_is_right e names = expr_ind IsRight right_step e names

-- what an extent tells
pub measured_not_none : (d n : ℕ) → measured d n ≡ NoSort → ⊥
measured_not_none d n h = by_limits d n (λ (a : d ≤ MAX_DEPTH) (b : n ≤ MAX_NODES). let e : Fits d n ≡ NoSort = sym (fits_is d n a b) ∙ h in absurd cc) (λ (o : (MAX_DEPTH < d) ⊎ (MAX_NODES < n)). let e : TooBig ≡ NoSort = sym (big_is d n o) ∙ h in absurd cc)

pub none_told : (o : Option Sort) → extent_of o ≡ NoSort → o ≡ None
none_told None h = refl
none_told (Some s) h = absurd (measured_not_none (depth_of s) (nodes_of s) h)

pub big_told : (o : Option Sort) → extent_of o ≡ TooBig → (s : Sort) × (o ≡ Some s) × IsBig s
big_told None h = absurd cc
big_told (Some s) h = (
  s,
  refl,
  by_limits (depth_of s) (nodes_of s)
      (λ (a : depth_of s ≤ MAX_DEPTH) (b : nodes_of s ≤ MAX_NODES). let e : Fits (depth_of s) (nodes_of s) ≡ TooBig = sym (fits_is (depth_of s) (nodes_of s) a b) ∙ h in absurd cc)
      (λ (o : (MAX_DEPTH < depth_of s) ⊎ (MAX_NODES < nodes_of s)). o),
)

-- a sort within the limits
pub record IsSmall (s : Sort) : Type 0 where
  pub depth : depth_of s ≤ MAX_DEPTH
  pub nodes : nodes_of s ≤ MAX_NODES

pub record FitsIn (o : Option Sort) (depth nodes : ℕ) : Type 0 where
  pub sort : Sort
  pub is : o ≡ Some sort
  pub small : IsSmall sort
  pub has_depth : depth ≡ depth_of sort
  pub has_nodes : nodes ≡ nodes_of sort

pub fits_told : (o : Option Sort) (d n : ℕ) → extent_of o ≡ Fits d n → FitsIn o d n
fits_told None d n h = absurd cc
fits_told (Some s) d n h = by_limits (depth_of s) (nodes_of s)
    (λ (a : depth_of s ≤ MAX_DEPTH) (b : nodes_of s ≤ MAX_NODES). let e : Fits (depth_of s) (nodes_of s) ≡ Fits d n = sym (fits_is (depth_of s) (nodes_of s) a b) ∙ h in
    record { sort = s; is = refl; small = record { depth = a; nodes = b }; has_depth = cc; has_nodes = cc })
    (λ (o : (MAX_DEPTH < depth_of s) ⊎ (MAX_NODES < nodes_of s)). let e : TooBig ≡ Fits d n = sym (big_is (depth_of s) (nodes_of s) o) ∙ h in absurd cc)

pub small_not_big : (s : Sort) → IsSmall s → IsBig s → ⊥
small_not_big s small (inl a) = omega (arith, small.depth)
small_not_big s small (inr b) = omega (arith, small.nodes)

pub big_extent : (s : Sort) → IsBig s → extent_of (Some s) ≡ TooBig
big_extent s big = big_is (depth_of s) (nodes_of s) big

part_depth : (ss : List Sort) (s : Sort) → Contains ss s → depth_of s ≤ greatest (map depth_of ss)
part_depth [] s c = absurd (contains_nil s c)
part_depth (t ∷ ss) s c = step (contains_cases t ss s c) (part_depth ss s)
  where
    step : (t ≡ s) ⊎ Contains ss s → (Contains ss s → depth_of s ≤ greatest (map depth_of ss)) → depth_of s ≤ max (depth_of t) (greatest (map depth_of ss))
    step (inl e) more = omega (arith, ap depth_of e)
    step (inr d) more = omega (arith, more d)

part_nodes : (ss : List Sort) (s : Sort) → Contains ss s → nodes_of s ≤ sum (map nodes_of ss)
part_nodes [] s c = absurd (contains_nil s c)
part_nodes (t ∷ ss) s c = step (contains_cases t ss s c) (part_nodes ss s)
  where
    step : (t ≡ s) ⊎ Contains ss s → (Contains ss s → nodes_of s ≤ sum (map nodes_of ss)) → nodes_of s ≤ sum (map nodes_of (t ∷ ss))
    step (inl e) more = omega (arith, ap nodes_of e, sum-cons (nodes_of t) (map nodes_of ss))
    step (inr d) more = omega (arith, more d, sum-cons (nodes_of t) (map nodes_of ss))

pub small_product : (ss : List Sort) → IsSmall (sorts.Product ss) → (s : Sort) → Contains ss s → IsSmall s
small_product ss small s c = record {
  depth = omega (arith, small.depth, depth_product ss, part_depth ss s c);
  nodes = omega (arith, small.nodes, nodes_product ss, part_nodes ss s c);
}

pub small_list : (s : Sort) → IsSmall (sorts.List s) → IsSmall s
small_list s small = record {
  depth = omega (arith, small.depth, depth_list s);
  nodes = omega (arith, small.nodes, nodes_list s);
}
