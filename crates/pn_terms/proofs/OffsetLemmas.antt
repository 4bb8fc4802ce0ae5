-- Offsets have no part in the sorts of terms.
use Rattle.std.proofs.Common.{◌≡◌, ℕ, List, [], ◌∷◌, map, length, ◌&&◌, ◌||◌, ◌==◌, Option, None, Some, refl, sym, ap, ◌∙◌, subst}
use Rattle.std.specs.List.{flat_map, list_all, slice_get}
use Rattle.std.specs.Option.{option_and_then, option_map, option_to_list}
use Rattle.std.proofs.lemmas.Option.{slice_get-map}
use Rattle.pn_operators.specs.declared.op.Op.{Op}
use Rattle.pn_operators.specs.declared.op.Op.TheVariants as ops
use Rattle.pn_syntax.specs.Offsets.{declaration_without_offsets, sort_without_offsets}
use Rattle.pn_syntax.specs.declared.declaration.Declaration.{Declaration}
use Rattle.pn_syntax.specs.declared.declaration.Declaration.TheVariants as declarations
use Rattle.pn_syntax.specs.declared.declaration.SortBody.TheVariants as bodies
use Rattle.pn_syntax.specs.declared.sort_expr.SortExpr.{SortExpr}
use Rattle.pn_syntax.specs.declared.term.Term.{Term}
use Rattle.pn_syntax.specs.declared.term.TermNode.{TermNode, map-TermNode}
use Rattle.pn_syntax.specs.declared.term.TermNode.TheOpen as layer
use Rattle.pn_syntax.specs.declared.term.TermNode.TheViews.{out-TermNode, roll-TermNode, out-roll-TermNode}
use Rattle.pn_syntax.specs.declared.term.TermNode.TheFolds.{fold-Term, fold-TermNode, fold_out-Term, fold_out-TermNode, ind-Term}
use Rattle.pn_values.specs.declared.constant_ref.ConstantRef.{ConstantRef}
use Rattle.pn_values.specs.declared.sort.Sort.{Sort}
use Rattle.pn_values.specs.declared.sort.Sort.TheVariants as sorts
use Rattle.pn_values.specs.declared.sort.Sort.TheOpen as sort_layer
use Rattle.pn_values.specs.declared.sort.Sort.TheViews.{out-Sort}
use Rattle.pn_values.specs.declared.value.Value.TheVariants as values
use Rattle.pn_carriers.specs.Members.{is_member}
use Rattle.pn_carriers.specs.Sizes.{size_of}
use Rattle.pn_ids.specs.Names.{named_in}
use Rattle.pn_names.specs.Names.{Variable, constant_ref, names_of, partition_place, variable_number, variables_of, widths_of}
use Rattle.pn_resolve.specs.Standing.{base_of}
use Rattle.pn_resolve.proofs.OffsetLemmas as resolved
use Rattle.pn_resolve.proofs.Options.{mapped_some}
use Rattle.pn_sorts.specs.Lookups.{IsBaseSort, IsVariableSort, base_expr, is_cyclic, is_cyclic_in, sort_at, sort_of_constant}
use Rattle.pn_terms.specs.declared.family.Family.{Family}
use Rattle.pn_terms.specs.declared.family.Family.TheVariants as families
use Rattle.pn_terms.specs.declared.term_sort.TermSort.{TermSort}
use Rattle.pn_terms.specs.declared.term_sort.TermSort.TheVariants as terms
use Rattle.pn_syntax.specs.TermOffsets.{at_zero, layer_without_offsets, node_without_offsets, term_without_offsets}
use Rattle.pn_terms.specs.Rows.{Suit, first_of, is_basis_in, is_counted, is_in, is_indexed, is_round_layer, is_scaled, last_of}
use Rattle.pn_terms.specs.Sorts.{Gives, HasSort, HaveSorts, none, more, is_few, number_sort}
use Rattle.pn_terms.specs.Terms.{Layer, layer_of, parts_in, parts_of}
use Rattle.pn_terms.specs.Variables.{variables_in_layer, variables_in_term}

-- ---- declarations without offsets

cyclic_bare : (o : Option Declaration) → is_cyclic_in (option_map declaration_without_offsets o) ≡ is_cyclic_in o
cyclic_bare None = refl
cyclic_bare (Some (declarations.Named id name (bodies.Plain e) at)) = refl
cyclic_bare (Some (declarations.Named id name (bodies.Finite constants) at)) = refl
cyclic_bare (Some (declarations.Named id name (bodies.Cyclic constants) at)) = refl
cyclic_bare (Some (declarations.Variable id name sort at)) = refl
cyclic_bare (Some (declarations.Partition id name sort elements at)) = refl

own_sort_bare : (place : ℕ) (o : Option Declaration) → option_and_then (sort_at place) (option_map declaration_without_offsets o) ≡ option_and_then (sort_at place) o
own_sort_bare place None = refl
own_sort_bare place (Some (declarations.Named id name (bodies.Plain e) at)) = refl
own_sort_bare place (Some (declarations.Named id name (bodies.Finite constants) at)) = refl
own_sort_bare place (Some (declarations.Named id name (bodies.Cyclic constants) at)) = refl
own_sort_bare place (Some (declarations.Variable id name sort at)) = refl
own_sort_bare place (Some (declarations.Partition id name sort elements at)) = refl

base_bare : (o : Option Declaration) → option_and_then base_of (option_map declaration_without_offsets o) ≡ option_map sort_without_offsets (option_and_then base_of o)
base_bare None = refl
base_bare (Some (declarations.Named id name body at)) = refl
base_bare (Some (declarations.Variable id name sort at)) = refl
base_bare (Some (declarations.Partition id name sort elements at)) = refl

abbrev bare_variable : Variable → Variable
bare_variable v = record { id = v.id; sort = sort_without_offsets v.sort }

variables_bare : (ds : List Declaration) → variables_of (map declaration_without_offsets ds) ≡ map bare_variable (variables_of ds)
variables_bare [] = refl
variables_bare (declarations.Named id name body at ∷ ds) = variables_bare ds
variables_bare (declarations.Variable id name sort at ∷ ds) = ap (λ vs. bare_variable (record { id = id; sort = sort }) ∷ vs) (variables_bare ds)
variables_bare (declarations.Partition id name sort elements at ∷ ds) = variables_bare ds

-- ---- terms without offsets

abbrev bare_node : TermNode → TermNode
bare_node = fold-TermNode TermNode Term node_without_offsets at_zero

abbrev bare_layer : Layer → Layer
bare_layer l = layer_without_offsets (map-TermNode TermNode Term TermNode Term bare_node term_without_offsets l)

layer_bare : (e : Term) → layer_of (term_without_offsets e) ≡ bare_layer (layer_of e)
layer_bare e =
    ap layer_of (fold_out-Term TermNode Term node_without_offsets at_zero e)
    ∙ ap out-TermNode (fold_out-TermNode TermNode Term node_without_offsets at_zero e.node)
    ∙ out-roll-TermNode (bare_layer (layer_of e))

parts_bare : (l : Layer) → parts_in (bare_layer l) ≡ map term_without_offsets (parts_in l)
parts_bare (layer.Variable name) = refl
parts_bare (layer.UserOp name) = refl
parts_bare (layer.Bool truth) = refl
parts_bare (layer.Number value sort) = refl
parts_bare (layer.RangeConst value start end) = refl
parts_bare (layer.Text text) = refl
parts_bare (layer.All e) = refl
parts_bare (layer.Empty e) = refl
parts_bare (layer.EmptyList e) = refl
parts_bare (layer.PartitionOf name arg) = refl
parts_bare (layer.Apply op args) = refl

-- terms that are equal but for offsets: their layers, and their parts
layers_alike : (e other : Term) → term_without_offsets e ≡ term_without_offsets other → bare_layer (layer_of e) ≡ bare_layer (layer_of other)
layers_alike e other alike = sym (layer_bare e) ∙ ap layer_of alike ∙ layer_bare other

pub parts_alike : (e other : Term) → term_without_offsets e ≡ term_without_offsets other → map term_without_offsets (parts_of e) ≡ map term_without_offsets (parts_of other)
parts_alike e other alike = sym (parts_bare (layer_of e)) ∙ ap parts_in (layers_alike e other alike) ∙ parts_bare (layer_of other)

-- the first layer is the second without offsets, but for the parts
abbrev IsBareOf : Layer → Layer → Type 0
IsBareOf (layer.Variable name) m = m ≡ layer.Variable name
IsBareOf (layer.UserOp name) m = m ≡ layer.UserOp name
IsBareOf (layer.Bool truth) m = m ≡ layer.Bool truth
IsBareOf (layer.Number value sort) m = m ≡ layer.Number value sort
IsBareOf (layer.RangeConst value start end) m = m ≡ layer.RangeConst value start end
IsBareOf (layer.Text text) m = m ≡ layer.Text text
IsBareOf (layer.All e) m = (x : SortExpr) × (m ≡ layer.All x) × (e ≡ sort_without_offsets x)
IsBareOf (layer.Empty e) m = (x : SortExpr) × (m ≡ layer.Empty x) × (e ≡ sort_without_offsets x)
IsBareOf (layer.EmptyList e) m = (x : SortExpr) × (m ≡ layer.EmptyList x) × (e ≡ sort_without_offsets x)
IsBareOf (layer.PartitionOf name arg) m = (x : Term) × (m ≡ layer.PartitionOf name x)
IsBareOf (layer.Apply op args) m = (xs : List Term) × (m ≡ layer.Apply op xs)

bare_of_itself : (m : Layer) → IsBareOf (bare_layer m) m
bare_of_itself (layer.Variable name) = refl
bare_of_itself (layer.UserOp name) = refl
bare_of_itself (layer.Bool truth) = refl
bare_of_itself (layer.Number value sort) = refl
bare_of_itself (layer.RangeConst value start end) = refl
bare_of_itself (layer.Text text) = refl
bare_of_itself (layer.All e) = (e, refl, refl)
bare_of_itself (layer.Empty e) = (e, refl, refl)
bare_of_itself (layer.EmptyList e) = (e, refl, refl)
bare_of_itself (layer.PartitionOf name arg) = (arg, refl)
bare_of_itself (layer.Apply op args) = (args, refl)

-- ---- in declarations that are equal but for offsets

module _ (items others : List Declaration) (same : map declaration_without_offsets items ≡ map declaration_without_offsets others) where
  names_same : names_of items ≡ names_of others
  names_same = sym (resolved.names_bare 0 0 items) ∙ ap names_of same ∙ resolved.names_bare 0 0 others

  widths_same : widths_of items ≡ widths_of others
  widths_same = sym (resolved.widths_bare items) ∙ ap widths_of same ∙ resolved.widths_bare others

  -- what a place has without offsets
  place_same : (place : ℕ) → option_map declaration_without_offsets (slice_get items place) ≡ option_map declaration_without_offsets (slice_get others place)
  place_same place = sym (slice_get-map declaration_without_offsets items place) ∙ ap (λ ds. slice_get ds place) same ∙ slice_get-map declaration_without_offsets others place

  cyclic_same : (place : ℕ) → is_cyclic items place ≡ is_cyclic others place
  cyclic_same place = sym (cyclic_bare (slice_get items place)) ∙ ap is_cyclic_in (place_same place) ∙ cyclic_bare (slice_get others place)

  constant_same : (c : ConstantRef) → sort_of_constant items c ≡ sort_of_constant others c
  constant_same c =
      sym (own_sort_bare c.declaration (slice_get items c.declaration))
      ∙ ap (option_and_then (sort_at c.declaration)) (place_same c.declaration)
      ∙ own_sort_bare c.declaration (slice_get others c.declaration)

  base_same : (place : ℕ) → option_map sort_without_offsets (base_expr items place) ≡ option_map sort_without_offsets (base_expr others place)
  base_same place = sym (base_bare (slice_get items place)) ∙ ap (option_and_then base_of) (place_same place) ∙ base_bare (slice_get others place)

  variable_same : (v : ℕ) → option_map bare_variable (slice_get (variables_of items) v) ≡ option_map bare_variable (slice_get (variables_of others) v)
  variable_same v =
      sym (slice_get-map bare_variable (variables_of items) v)
      ∙ ap (λ vs. slice_get vs v) (sym (variables_bare items) ∙ ap variables_of same ∙ variables_bare others)
      ∙ slice_get-map bare_variable (variables_of others) v

  base_moved : (place : ℕ) (s : Sort) → IsBaseSort items place s → IsBaseSort others place s
  base_moved place s (e, is, has) =
      let found = mapped_some sort_without_offsets (base_expr others place) (sort_without_offsets e) (sym (base_same place) ∙ ap (option_map sort_without_offsets) is) in
      (found.0, found.1, resolved.offsets_aside items others e found.0 s same (sym found.2) has)

  variable_moved : (v : ℕ) (s : Sort) → IsVariableSort items v s → IsVariableSort others v s
  variable_moved v s (x, is, has) =
      let found = mapped_some bare_variable (slice_get (variables_of others) v) (bare_variable x) (sym (variable_same v) ∙ ap (option_map bare_variable) is) in
      (found.0, found.1, resolved.offsets_aside items others x.sort found.0.sort s same (ap (λ (y : Variable). y.sort) (sym found.2)) has)

  -- ---- sorts that fit operators

  round_same : (l : sort_layer.Sort-F Sort) → is_round_layer items l ≡ is_round_layer others l
  round_same sort_layer.Dot = refl
  round_same sort_layer.Bool = refl
  round_same (sort_layer.Enumeration place) = cyclic_same place
  round_same (sort_layer.Partition place) = refl
  round_same (sort_layer.Range start end) = refl
  round_same (sort_layer.Product parts) = refl
  round_same sort_layer.Integer = refl
  round_same sort_layer.Natural = refl
  round_same sort_layer.Positive = refl
  round_same sort_layer.Text = refl
  round_same (sort_layer.List item) = refl

  basis_in_same : (family : Family) (s : Sort) → is_basis_in items family s ≡ is_basis_in others family s
  basis_in_same families.Truths s = refl
  basis_in_same families.Integers s = refl
  basis_in_same families.Rounds s = round_same (out-Sort s)
  basis_in_same families.Ordered s = refl
  basis_in_same families.Elements s = refl
  basis_in_same families.Texts s = refl
  basis_in_same families.Lists s = refl
  basis_in_same families.Basis s = refl
  basis_in_same families.Bags s = refl

  in_same : (family : Family) (t : TermSort) → is_in items family t ≡ is_in others family t
  in_same family (terms.Basis s) = basis_in_same family s
  in_same family (terms.Bag s) = refl

  all_same : (family : Family) (ts : List TermSort) → list_all (is_in items family) ts ≡ list_all (is_in others family) ts
  all_same family ts = λ i. list_all (λ t. in_same family t i) ts

  counted_same : (ts : List TermSort) → is_counted items ts ≡ is_counted others ts
  counted_same ts = λ i. in_same families.Basis (last_of ts) i && (length ts == 1 || in_same families.Integers (first_of ts) i)

  scaled_same : (ts : List TermSort) → is_scaled items ts ≡ is_scaled others ts
  scaled_same ts = λ i. in_same families.Integers (first_of ts) i && in_same families.Bags (last_of ts) i

  indexed_same : (ts : List TermSort) → is_indexed items ts ≡ is_indexed others ts
  indexed_same ts = λ i. in_same families.Lists (first_of ts) i && in_same families.Integers (last_of ts) i

  suit_moved : (o : Op) (ts : List TermSort) → Suit items o ts → Suit others o ts
  suit_moved ops.DotConstant ts h = h
  suit_moved ops.And ts h = sym (all_same families.Truths ts) ∙ h
  suit_moved ops.Or ts h = sym (all_same families.Truths ts) ∙ h
  suit_moved ops.Not ts h = sym (all_same families.Truths ts) ∙ h
  suit_moved ops.Imply ts h = sym (all_same families.Truths ts) ∙ h
  suit_moved ops.Equality ts h = h
  suit_moved ops.Inequality ts h = h
  suit_moved ops.Successor ts h = sym (all_same families.Rounds ts) ∙ h
  suit_moved ops.Predecessor ts h = sym (all_same families.Rounds ts) ∙ h
  suit_moved ops.LessThan ts h = (sym (all_same families.Ordered ts) ∙ h.0, h.1)
  suit_moved ops.LessThanOrEqual ts h = (sym (all_same families.Ordered ts) ∙ h.0, h.1)
  suit_moved ops.GreaterThan ts h = (sym (all_same families.Ordered ts) ∙ h.0, h.1)
  suit_moved ops.GreaterThanOrEqual ts h = (sym (all_same families.Ordered ts) ∙ h.0, h.1)
  suit_moved ops.Ltp ts h = (sym (all_same families.Elements ts) ∙ h.0, h.1)
  suit_moved ops.Gtp ts h = (sym (all_same families.Elements ts) ∙ h.0, h.1)
  suit_moved ops.Tuple ts h = sym (all_same families.Basis ts) ∙ h
  suit_moved ops.NumberOf ts h = sym (counted_same ts) ∙ h
  suit_moved ops.Add ts h = (sym (all_same families.Bags ts) ∙ h.0, h.1)
  suit_moved ops.Subtract ts h = (sym (all_same families.Bags ts) ∙ h.0, h.1)
  suit_moved ops.ScalarProduct ts h = sym (scaled_same ts) ∙ h
  suit_moved ops.Addition ts h = sym (all_same families.Integers ts) ∙ h
  suit_moved ops.Subtraction ts h = sym (all_same families.Integers ts) ∙ h
  suit_moved ops.Mult ts h = sym (all_same families.Integers ts) ∙ h
  suit_moved ops.Div ts h = sym (all_same families.Integers ts) ∙ h
  suit_moved ops.Mod ts h = sym (all_same families.Integers ts) ∙ h
  suit_moved ops.Lt ts h = sym (all_same families.Integers ts) ∙ h
  suit_moved ops.Leq ts h = sym (all_same families.Integers ts) ∙ h
  suit_moved ops.Gt ts h = sym (all_same families.Integers ts) ∙ h
  suit_moved ops.Geq ts h = sym (all_same families.Integers ts) ∙ h
  suit_moved ops.Cardinality ts h = sym (all_same families.Bags ts) ∙ h
  suit_moved ops.CardinalityOf ts h = h
  suit_moved ops.Contains ts h = (sym (all_same families.Bags ts) ∙ h.0, h.1)
  suit_moved ops.StringConcatenation ts h = sym (all_same families.Texts ts) ∙ h
  suit_moved ops.StringLength ts h = sym (all_same families.Texts ts) ∙ h
  suit_moved ops.Lts ts h = sym (all_same families.Texts ts) ∙ h
  suit_moved ops.Leqs ts h = sym (all_same families.Texts ts) ∙ h
  suit_moved ops.Gts ts h = sym (all_same families.Texts ts) ∙ h
  suit_moved ops.Geqs ts h = sym (all_same families.Texts ts) ∙ h
  suit_moved ops.MakeList ts h = (sym (all_same families.Basis ts) ∙ h.0, h.1)
  suit_moved ops.ListConcatenation ts h = (sym (all_same families.Lists ts) ∙ h.0, h.1)
  suit_moved ops.ListLength ts h = sym (all_same families.Lists ts) ∙ h
  suit_moved ops.MemberAtIndex ts h = sym (indexed_same ts) ∙ h

  -- ---- layers and terms

  gives_bare : (l m : Layer) → IsBareOf (bare_layer l) m → (ts : List TermSort) (s : TermSort) → Gives items l ts s → Gives others m ts s
  gives_bare (layer.Variable name) m is ts s (v, sort, named, has, given) =
      subst (λ k. Gives others k ts s) (sym is) (v, sort, ap (λ names. option_and_then variable_number (named_in names name)) (sym names_same) ∙ named, variable_moved v sort has, given)
  gives_bare (layer.UserOp name) m is ts s (c, sort, named, has, given) =
      subst (λ k. Gives others k ts s) (sym is) (c, sort, ap (λ names. option_and_then constant_ref (named_in names name)) (sym names_same) ∙ named, sym (constant_same c) ∙ has, given)
  gives_bare (layer.Bool truth) m is ts s h = subst (λ k. Gives others k ts s) (sym is) h
  gives_bare (layer.Number value sort) m is ts s h =
      subst (λ k. Gives others k ts s) (sym is) (ap (λ widths. is_member widths (number_sort sort) (values.Int value)) (sym widths_same) ∙ h.0, h.1)
  gives_bare (layer.RangeConst value start end) m is ts s h =
      subst (λ k. Gives others k ts s) (sym is) (ap (λ widths. is_member widths (sorts.Range start end) (values.Int value)) (sym widths_same) ∙ h.0, h.1)
  gives_bare (layer.Text text) m is ts s h =
      subst (λ k. Gives others k ts s) (sym is) (ap (λ widths. is_member widths sorts.Text (values.Text text)) (sym widths_same) ∙ h.0, h.1)
  gives_bare (layer.All e) m (x, is, alike) ts s (sort, has, small, given) =
      subst (λ k. Gives others k ts s) (sym is) (sort, resolved.offsets_aside items others e x sort same alike has, ap (λ widths. is_few (size_of widths sort)) (sym widths_same) ∙ small, given)
  gives_bare (layer.Empty e) m (x, is, alike) ts s (sort, has, given) =
      subst (λ k. Gives others k ts s) (sym is) (sort, resolved.offsets_aside items others e x sort same alike has, given)
  gives_bare (layer.EmptyList e) m (x, is, alike) ts s (sort, has, given) =
      subst (λ k. Gives others k ts s) (sym is) (sort, resolved.offsets_aside items others e x sort same alike has, given)
  gives_bare (layer.PartitionOf name arg) m (x, is) ts s (p, base, named, has, fit, given) =
      subst (λ k. Gives others k ts s) (sym is) (p, base, ap (λ names. option_and_then partition_place (named_in names name)) (sym names_same) ∙ named, base_moved p base has, fit, given)
  gives_bare (layer.Apply op args) m (xs, is) ts s (fits, given) =
      subst (λ k. Gives others k ts s) (sym is) (record { number = fits.number; suit = suit_moved op ts fits.suit }, given)

  gives_moved : (l m : Layer) → bare_layer l ≡ bare_layer m → (ts : List TermSort) (s : TermSort) → Gives items l ts s → Gives others m ts s
  gives_moved l m alike = gives_bare l m (subst (λ k. IsBareOf k m) (sym alike) (bare_of_itself m))

  have_moved : (es fs : List Term) (ss : List TermSort) → map term_without_offsets es ≡ map term_without_offsets fs → HaveSorts items es ss → HaveSorts others fs ss
  have_moved es [] ss alike (none _ _ is_es is_ss) = none [] ss refl is_ss
  have_moved es (f ∷ fs) ss alike (none _ _ is_es is_ss) =
      absurd (let bad : [] ≡ term_without_offsets f ∷ map term_without_offsets fs = ap (map term_without_offsets) (sym is_es) ∙ alike in cc)
  have_moved es [] ss alike (more _ _ e rest s later ts is_es is_ss parts gives have) =
      absurd (let bad : term_without_offsets e ∷ map term_without_offsets rest ≡ [] = ap (map term_without_offsets) (sym is_es) ∙ alike in cc)
  have_moved es (f ∷ fs) ss alike (more _ _ e rest s later ts is_es is_ss parts gives have) =
      let both : term_without_offsets e ∷ map term_without_offsets rest ≡ term_without_offsets f ∷ map term_without_offsets fs = ap (map term_without_offsets) (sym is_es) ∙ alike in
      let head : term_without_offsets e ≡ term_without_offsets f = cc in
      let tail : map term_without_offsets rest ≡ map term_without_offsets fs = cc in
      more (f ∷ fs) ss f fs s later ts refl is_ss
      (have_moved (parts_of e) (parts_of f) ts (parts_alike e f head) parts)
      (gives_moved (layer_of e) (layer_of f) (layers_alike e f head) ts s gives)
      (have_moved rest fs later tail have)

-- equal but for the offsets, a term has the same sort
pub offsets_aside : (items others : List Declaration) (e other : Term) (s : TermSort) → map declaration_without_offsets items ≡ map declaration_without_offsets others
    → term_without_offsets e ≡ term_without_offsets other → HasSort items e s → HasSort others other s
offsets_aside items others e other s same alike (ts, have, gives) = (
  ts,
  have_moved items others same (parts_of e) (parts_of other) ts (parts_alike e other alike) have,
  gives_moved items others same (layer_of e) (layer_of other) (layers_alike e other alike) ts s gives,
)

-- ---- variables

module _ (items : List Declaration) where
  abbrev of_node : TermNode → List ℕ
  of_node = fold-TermNode (List ℕ) (List ℕ) (variables_in_layer items) (λ e. e.node)

  abbrev of_layer : Layer → List ℕ
  of_layer l = variables_in_layer items (map-TermNode TermNode Term (List ℕ) (List ℕ) of_node (variables_in_term items) l)

  abbrev HasSameBare : Term → Type 0
  HasSameBare e = variables_in_term items (term_without_offsets e) ≡ variables_in_term items e

  abbrev NodeHasSameBare : TermNode → Type 0
  NodeHasSameBare n = of_node (bare_node n) ≡ of_node n

  abbrev TermWithProof : Type 0
  TermWithProof = (e : Term) × HasSameBare e

  abbrev NodeWithProof : Type 0
  NodeWithProof = (n : TermNode) × NodeHasSameBare n

  abbrev plain : layer.TermNode-F NodeWithProof TermWithProof → Layer
  plain y = map-TermNode NodeWithProof TermWithProof TermNode Term (λ n. n.0) (λ e. e.0) y

  of_rolled : (l : Layer) → of_node (roll-TermNode l) ≡ of_layer l
  of_rolled l = fold_out-TermNode (List ℕ) (List ℕ) (variables_in_layer items) (λ e. e.node) (roll-TermNode l) ∙ ap of_layer (out-roll-TermNode l)

  of_args : (ys : List TermWithProof) → map (variables_in_term items) (map term_without_offsets (map (λ e. e.0) ys)) ≡ map (variables_in_term items) (map (λ e. e.0) ys)
  of_args [] = refl
  of_args (y ∷ ys) = λ i. y.1 i ∷ of_args ys i

  of_layer_bare : (y : layer.TermNode-F NodeWithProof TermWithProof) → of_layer (bare_layer (plain y)) ≡ of_layer (plain y)
  of_layer_bare (layer.Variable name) = refl
  of_layer_bare (layer.UserOp name) = refl
  of_layer_bare (layer.Bool truth) = refl
  of_layer_bare (layer.Number value sort) = refl
  of_layer_bare (layer.RangeConst value start end) = refl
  of_layer_bare (layer.Text text) = refl
  of_layer_bare (layer.All e) = refl
  of_layer_bare (layer.Empty e) = refl
  of_layer_bare (layer.EmptyList e) = refl
  of_layer_bare (layer.PartitionOf name arg) = arg.1
  of_layer_bare (layer.Apply op args) = ap (flat_map (λ vs. vs)) (of_args args)

  node_rolled : (l : Layer) → bare_node (roll-TermNode l) ≡ roll-TermNode (bare_layer l)
  node_rolled l = fold_out-TermNode TermNode Term node_without_offsets at_zero (roll-TermNode l) ∙ ap (λ k. roll-TermNode (bare_layer k)) (out-roll-TermNode l)

  node_step : (y : layer.TermNode-F NodeWithProof TermWithProof) → NodeHasSameBare (roll-TermNode (plain y))
  node_step y = ap of_node (node_rolled (plain y)) ∙ of_rolled (bare_layer (plain y)) ∙ of_layer_bare y ∙ sym (of_rolled (plain y))

  of_term : (e : Term) → variables_in_term items e ≡ of_node e.node
  of_term = fold_out-Term (List ℕ) (List ℕ) (variables_in_layer items) (λ e. e.node)

  term_step : (e : Term) → NodeHasSameBare e.node → HasSameBare e
  term_step e h =
      ap (variables_in_term items) (fold_out-Term TermNode Term node_without_offsets at_zero e)
      ∙ of_term (record { at = 0; node = bare_node e.node })
      ∙ h
      ∙ sym (of_term e)

  -- a term has the variables that it has without offsets
  variables_of_bare : (e : Term) → HasSameBare e
  variables_of_bare = ind-Term NodeHasSameBare HasSameBare
      (λ x y is. subst (λ l. NodeHasSameBare (roll-TermNode l)) is (node_step y))
      (λ x y is. subst (λ z. HasSameBare (record { at = z.at; node = z.node })) is (term_step (record { at = y.at; node = y.node.0 }) y.node.1))

-- equal but for the offsets, a term has the same variables
pub variables_aside : (items others : List Declaration) (e other : Term) → map declaration_without_offsets items ≡ map declaration_without_offsets others
    → term_without_offsets e ≡ term_without_offsets other → variables_in_term items e ≡ variables_in_term others other
variables_aside items others e other same alike =
    sym (variables_of_bare items e)
    ∙ ap (variables_in_term items) alike
    ∙ variables_of_bare items other
    ∙ (λ i. fold-Term (List ℕ) (List ℕ) (λ l. layer_same l i) (λ e. e.node) other)
  where
    layer_same : (l : layer.TermNode-F (List ℕ) (List ℕ)) → variables_in_layer items l ≡ variables_in_layer others l
    layer_same (layer.Variable name) = ap (λ names. option_to_list (option_and_then variable_number (named_in names name))) (names_same items others same)
    layer_same (layer.UserOp name) = refl
    layer_same (layer.Bool truth) = refl
    layer_same (layer.Number value sort) = refl
    layer_same (layer.RangeConst value start end) = refl
    layer_same (layer.Text text) = refl
    layer_same (layer.All e) = refl
    layer_same (layer.Empty e) = refl
    layer_same (layer.EmptyList e) = refl
    layer_same (layer.PartitionOf name arg) = refl
    layer_same (layer.Apply op args) = refl
