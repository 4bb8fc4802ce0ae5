-- How each sort is written, and that it is the sort of what is written.
use Rattle.std.proofs.Common.{◌≡◌, ◌<◌, ◌≤◌, ◌+◌, ℕ, zero, suc, ℤ, Bool, true, false, not, ◌&&◌, int_lt, nat_lt, List, [], ◌∷◌, ◌++◌, length, drop, get_or, map, Option, None, Some, cond, refl, sym, ap, ◌∙◌, subst, arith}
use Rattle.std.specs.List.{list_all, slice_get}
use Rattle.std.specs.Option.{option_and_then, option_map, unwrap_or}
use Rattle.std.proofs.lemmas.Bool.{false≢true}
use Rattle.std.proofs.lemmas.List.{append-nil, append_assoc, drop_all}
use Rattle.std.proofs.lemmas.Simd.{map-map}
use Rattle.pn_carriers.proofs.LayerLemmas.{member-product}
use Rattle.pn_carriers.specs.Members.{IsMember, is_member, is_tuple_of, pass_each}
use Rattle.pn_facts.proofs.Lists.{drop_next}
use Rattle.pn_facts.proofs.Truths.{and_left, and_right}
use Rattle.pn_ids.specs.Names.{AreDistinct}
use Rattle.pn_names.proofs.DeclaredLemmas.{declared_found}
use Rattle.pn_names.specs.Names.{id_of, names_of, sort_named, sort_place}
use Rattle.pn_names.specs.declared.Declared.TheVariants as declared
use Rattle.pn_resolve.proofs.Expressions.{sort_at}
use Rattle.pn_resolve.proofs.Meanings.{join_sorts, meaning_next}
use Rattle.pn_resolve.proofs.TableLemmas.{at_declared}
use Rattle.pn_resolve.specs.Meaning.{Resolves, all_sorts, declared_sort, meaning, node_sort, sort_at_place, sort_with}
use Rattle.pn_resolve.specs.Naming.{NamesDeclared, is_enumeration, is_partition, is_such, names_declared, names_declared_layer}
use Rattle.pn_syntax.specs.declared.declaration.Declaration.{Declaration}
use Rattle.pn_syntax.specs.declared.declaration.Declaration.TheVariants as declarations
use Rattle.pn_syntax.specs.declared.declaration.SortBody.TheVariants as bodies
use Rattle.pn_syntax.specs.declared.sort_expr.SortExpr.{SortExpr}
use Rattle.pn_syntax.specs.declared.sort_expr.SortNode.{SortNode, map-SortNode}
use Rattle.pn_syntax.specs.declared.sort_expr.SortNode.TheFolds.{fold-SortNode}
use Rattle.pn_syntax.specs.declared.sort_expr.SortNode.TheOpen as expr_layer
use Rattle.pn_syntax.specs.declared.sort_expr.SortNode.TheVariants as written
use Rattle.pn_syntax.specs.declared.sort_expr.SortNode.TheVariants.{rolls-Dot, rolls-Bool, rolls-Range, rolls-Product, rolls-User, rolls-Integer, rolls-Natural, rolls-Positive, rolls-Text, rolls-List}
use Rattle.pn_syntax.specs.declared.sort_expr.SortNode.TheViews.{out-SortNode, roll-SortNode, out-roll-SortNode}
use Rattle.pn_syntax.specs.declared.term.Term.{Term}
use Rattle.pn_values.specs.declared.sort.Sort.{Sort}
use Rattle.pn_values.specs.declared.sort.Sort.TheFolds.{fold-roll-Sort, ind-Sort, map-Sort}
use Rattle.pn_values.specs.declared.sort.Sort.TheOpen as layer
use Rattle.pn_values.specs.declared.sort.Sort.TheVariants as sorts
use Rattle.pn_values.specs.declared.sort.Sort.TheViews.{roll-Sort}
use Rattle.pn_values.specs.declared.value.Value.{Value}
use Rattle.pn_values.specs.declared.value.Value.TheViews.{out-Value}
use Rattle.pn_marked.specs.Ground.{Writing, declared_id, ground_term, is_sound, is_sound_layer, sort_of_node, sort_written, terms_of_parts, writing_layer, writing_of}

-- ---- one level at a time

module _ (items : List Declaration) where
  pub writing_at : (x : layer.Sort-F Sort) → writing_of items (roll-Sort x) ≡ writing_layer items (map-Sort Sort Writing (writing_of items) x)
  writing_at = fold-roll-Sort Writing (writing_layer items)

  pub writing_dot : writing_of items sorts.Dot ≡ writing_layer items layer.Dot
  writing_dot = ap (writing_of items) (sym sorts.rolls-Dot) ∙ writing_at layer.Dot

  pub writing_bool : writing_of items sorts.Bool ≡ writing_layer items layer.Bool
  writing_bool = ap (writing_of items) (sym sorts.rolls-Bool) ∙ writing_at layer.Bool

  pub writing_enumeration : (place : ℕ) → writing_of items (sorts.Enumeration place) ≡ writing_layer items (layer.Enumeration place)
  writing_enumeration place = ap (writing_of items) (sym (sorts.rolls-Enumeration place)) ∙ writing_at (layer.Enumeration place)

  pub writing_partition : (place : ℕ) → writing_of items (sorts.Partition place) ≡ writing_layer items (layer.Partition place)
  writing_partition place = ap (writing_of items) (sym (sorts.rolls-Partition place)) ∙ writing_at (layer.Partition place)

  pub writing_range : (start end : ℤ) → writing_of items (sorts.Range start end) ≡ writing_layer items (layer.Range start end)
  writing_range start end = ap (writing_of items) (sym (sorts.rolls-Range start end)) ∙ writing_at (layer.Range start end)

  pub writing_product : (parts : List Sort) → writing_of items (sorts.Product parts) ≡ writing_layer items (layer.Product (map (writing_of items) parts))
  writing_product parts = ap (writing_of items) (sym (sorts.rolls-Product parts)) ∙ writing_at (layer.Product parts)

  pub writing_integer : writing_of items sorts.Integer ≡ writing_layer items layer.Integer
  writing_integer = ap (writing_of items) (sym sorts.rolls-Integer) ∙ writing_at layer.Integer

  pub writing_natural : writing_of items sorts.Natural ≡ writing_layer items layer.Natural
  writing_natural = ap (writing_of items) (sym sorts.rolls-Natural) ∙ writing_at layer.Natural

  pub writing_positive : writing_of items sorts.Positive ≡ writing_layer items layer.Positive
  writing_positive = ap (writing_of items) (sym sorts.rolls-Positive) ∙ writing_at layer.Positive

  pub writing_text : writing_of items sorts.Text ≡ writing_layer items layer.Text
  writing_text = ap (writing_of items) (sym sorts.rolls-Text) ∙ writing_at layer.Text

  pub writing_list : (item : Sort) → writing_of items (sorts.List item) ≡ writing_layer items (layer.List (writing_of items item))
  writing_list item = ap (writing_of items) (sym (sorts.rolls-List item)) ∙ writing_at (layer.List item)

  -- how a product is written, by how its parts are
  pub product_written : (parts : List Sort) → sort_written items (sorts.Product parts) ≡ sort_of_node (written.Product (map (sort_written items) parts))
  product_written parts = ap (λ (w : Writing). w.sort) (writing_product parts) ∙ ap (λ es. sort_of_node (written.Product es)) (map-map (λ (w : Writing). w.sort) (writing_of items) parts)

-- ---- it is the sort of what is written

-- an expression with this layer has the sort that the layer has
by_expr : (means : List ℕ → Option Sort) (node : SortNode) (x : expr_layer.SortNode-F SortNode SortExpr) → roll-SortNode x ≡ node → (o : Option Sort)
    → node_sort means (map-SortNode SortNode SortExpr (Option Sort) (Option Sort) (fold-SortNode (Option Sort) (Option Sort) (node_sort means) (λ e. e.node)) (sort_with means) x) ≡ o
    → sort_with means (sort_of_node node) ≡ o
by_expr means node x is o h = sort_at means (sort_of_node node) x (ap out-SortNode (sym is) ∙ out-roll-SortNode x) ∙ h

not_true : (b : Bool) → not b ≡ true → b ≡ false
not_true true h = absurd (false≢true h)
not_true false h = refl

module _ (items : List Declaration) (distinct : AreDistinct (names_of items)) where
  -- what a name means where names are followed once
  abbrev once : List ℕ → Option Sort
  once = meaning items 1

  abbrev HasItsSort : Sort → Type 0
  HasItsSort s = names_declared items s ≡ true → is_sound s ≡ true → sort_with once (sort_written items s) ≡ Some s

  abbrev Kept : Type 0
  Kept = (s : Sort) × HasItsSort s

  -- a sort of this layer, which is written as this node
  by_sort : (x : layer.Sort-F Sort) → (names_declared_layer items (map-Sort Sort Bool (names_declared items) x) ≡ true → is_sound_layer (map-Sort Sort Bool is_sound x) ≡ true → sort_with once (writing_layer items (map-Sort Sort Writing (writing_of items) x)).sort ≡ Some (roll-Sort x)) → HasItsSort (roll-Sort x)
  by_sort x f names sound =
      ap (λ (w : Writing). sort_with once w.sort) (writing_at items x)
      ∙ f (sym (fold-roll-Sort Bool (names_declared_layer items) x) ∙ names) (sym (fold-roll-Sort Bool is_sound_layer x) ∙ sound)

  -- the name of a declaration that gives it this sort
  name_means : (place : ℕ) (d : Declaration) → slice_get items place ≡ Some d → sort_named items (id_of d) ≡ Some place → (s : Sort) → declared_sort (meaning items 0) place d ≡ Some s → once (declared_id items place) ≡ Some s
  name_means place d stands named s gives =
      meaning_next items 0 (declared_id items place)
      ∙ ap (λ name. option_and_then (sort_at_place items 0) (sort_named items name)) (ap (λ (o : Option Declaration). unwrap_or (option_map id_of o) []) stands)
      ∙ ap (option_and_then (sort_at_place items 0)) named
      ∙ at_declared items 0 place d stands
      ∙ gives

  enumeration_means : (place : ℕ) (o : Option Declaration) → slice_get items place ≡ o → is_such is_enumeration o ≡ true → once (declared_id items place) ≡ Some (sorts.Enumeration place)
  enumeration_means place None stands h = absurd (false≢true h)
  enumeration_means place (Some (declarations.Named id name (bodies.Plain e) at)) stands h = absurd (false≢true h)
  enumeration_means place (Some (declarations.Named id name (bodies.Finite constants) at)) stands h =
      name_means place (declarations.Named id name (bodies.Finite constants) at) stands
      (ap (option_and_then sort_place) (declared_found items distinct id (declared.Named place) (name, bodies.Finite constants, at, stands))) (sorts.Enumeration place) refl
  enumeration_means place (Some (declarations.Named id name (bodies.Cyclic constants) at)) stands h =
      name_means place (declarations.Named id name (bodies.Cyclic constants) at) stands
      (ap (option_and_then sort_place) (declared_found items distinct id (declared.Named place) (name, bodies.Cyclic constants, at, stands))) (sorts.Enumeration place) refl
  enumeration_means place (Some (declarations.Variable id name sort at)) stands h = absurd (false≢true h)
  enumeration_means place (Some (declarations.Partition id name sort elements at)) stands h = absurd (false≢true h)

  partition_means : (place : ℕ) (o : Option Declaration) → slice_get items place ≡ o → is_such is_partition o ≡ true → once (declared_id items place) ≡ Some (sorts.Partition place)
  partition_means place None stands h = absurd (false≢true h)
  partition_means place (Some (declarations.Named id name body at)) stands h = absurd (false≢true h)
  partition_means place (Some (declarations.Variable id name sort at)) stands h = absurd (false≢true h)
  partition_means place (Some (declarations.Partition id name sort elements at)) stands h =
      name_means place (declarations.Partition id name sort elements at) stands
      (ap (option_and_then sort_place) (declared_found items distinct id (declared.Partition place) (name, sort, elements, at, stands))) (sorts.Partition place) refl

  parts_have : (es : List Kept) → list_all (λ part. part) (map (names_declared items) (map (λ e. e.0) es)) ≡ true → list_all (λ part. part) (map is_sound (map (λ e. e.0) es)) ≡ true
      → all_sorts (map (sort_with once) (map (λ (w : Writing). w.sort) (map (writing_of items) (map (λ e. e.0) es)))) ≡ Some (map (λ e. e.0) es)
  parts_have [] names sound = refl
  parts_have (e ∷ es) names sound =
      join_sorts (sort_with once (sort_written items e.0)) (map (sort_with once) (map (λ (w : Writing). w.sort) (map (writing_of items) (map (λ e. e.0) es)))) e.0 (map (λ e. e.0) es)
      (e.1 (and_left (names_declared items e.0) (list_all (λ part. part) (map (names_declared items) (map (λ e. e.0) es))) names) (and_left (is_sound e.0) (list_all (λ part. part) (map is_sound (map (λ e. e.0) es))) sound))
      (parts_have es (and_right (names_declared items e.0) (list_all (λ part. part) (map (names_declared items) (map (λ e. e.0) es))) names) (and_right (is_sound e.0) (list_all (λ part. part) (map is_sound (map (λ e. e.0) es))) sound))

  step : (y : layer.Sort-F Kept) → HasItsSort (roll-Sort (map-Sort Kept Sort (λ e. e.0) y))
  step layer.Dot = by_sort layer.Dot (λ names sound. by_expr once written.Dot expr_layer.Dot rolls-Dot (Some (roll-Sort layer.Dot)) (ap Some (sym sorts.rolls-Dot)))
  step layer.Bool = by_sort layer.Bool (λ names sound. by_expr once written.Bool expr_layer.Bool rolls-Bool (Some (roll-Sort layer.Bool)) (ap Some (sym sorts.rolls-Bool)))
  step (layer.Enumeration place) = by_sort (layer.Enumeration place) (λ names sound. by_expr once (written.User (declared_id items place)) (expr_layer.User (declared_id items place)) (rolls-User (declared_id items place)) (Some (roll-Sort (layer.Enumeration place)))
      (enumeration_means place (slice_get items place) refl names ∙ ap Some (sym (sorts.rolls-Enumeration place))))
  step (layer.Partition place) = by_sort (layer.Partition place) (λ names sound. by_expr once (written.User (declared_id items place)) (expr_layer.User (declared_id items place)) (rolls-User (declared_id items place)) (Some (roll-Sort (layer.Partition place)))
      (partition_means place (slice_get items place) refl names ∙ ap Some (sym (sorts.rolls-Partition place))))
  step (layer.Range start end) = by_sort (layer.Range start end) (λ names sound. by_expr once (written.Range start end) (expr_layer.Range start end) (rolls-Range start end) (Some (roll-Sort (layer.Range start end)))
      (ap (λ b. cond b None (Some (sorts.Range start end))) (not_true (int_lt end start) sound) ∙ ap Some (sym (sorts.rolls-Range start end))))
  step (layer.Product es) = by_sort (layer.Product (map (λ e. e.0) es)) (λ names sound.
      by_expr once (written.Product (map (λ (w : Writing). w.sort) (map (writing_of items) (map (λ e. e.0) es)))) (expr_layer.Product (map (λ (w : Writing). w.sort) (map (writing_of items) (map (λ e. e.0) es))))
      (rolls-Product (map (λ (w : Writing). w.sort) (map (writing_of items) (map (λ e. e.0) es)))) (Some (roll-Sort (layer.Product (map (λ e. e.0) es))))
      (ap (option_map sorts.Product) (parts_have es names (and_right (nat_lt 0 (length (map is_sound (map (λ e. e.0) es)))) (list_all (λ part. part) (map is_sound (map (λ e. e.0) es))) sound)) ∙ ap Some (sym (sorts.rolls-Product (map (λ e. e.0) es)))))
  step layer.Integer = by_sort layer.Integer (λ names sound. by_expr once written.Integer expr_layer.Integer rolls-Integer (Some (roll-Sort layer.Integer)) (ap Some (sym sorts.rolls-Integer)))
  step layer.Natural = by_sort layer.Natural (λ names sound. by_expr once written.Natural expr_layer.Natural rolls-Natural (Some (roll-Sort layer.Natural)) (ap Some (sym sorts.rolls-Natural)))
  step layer.Positive = by_sort layer.Positive (λ names sound. by_expr once written.Positive expr_layer.Positive rolls-Positive (Some (roll-Sort layer.Positive)) (ap Some (sym sorts.rolls-Positive)))
  step layer.Text = by_sort layer.Text (λ names sound. by_expr once written.Text expr_layer.Text rolls-Text (Some (roll-Sort layer.Text)) (ap Some (sym sorts.rolls-Text)))
  step (layer.List e) = by_sort (layer.List e.0) (λ names sound. by_expr once (written.List (sort_written items e.0)) (expr_layer.List (sort_written items e.0)) (rolls-List (sort_written items e.0)) (Some (roll-Sort (layer.List e.0)))
      (ap (option_map sorts.List) (e.1 names sound) ∙ ap Some (sym (sorts.rolls-List e.0))))

  written_once : (s : Sort) → HasItsSort s
  written_once = ind-Sort HasItsSort (λ x y is. subst (λ z. HasItsSort (roll-Sort z)) is (step y))

  -- the expression that is written for a sort has that sort
  pub written_resolves : (s : Sort) → NamesDeclared items s → is_sound s ≡ true → Resolves items (sort_written items s) s
  written_resolves s names sound = (1, written_once s names sound)

-- ---- what a sort of a kind names

pub within_list : {A : Type 0} (xs : List A) (i : ℕ) (x : A) → slice_get xs i ≡ Some x → i < length xs
within_list [] i x h = absurd cc
within_list (y ∷ ys) zero x h = omega arith
within_list (y ∷ ys) (suc i) x h = let below = within_list ys i x h in omega arith

such_within : (test : Declaration → Bool) (items : List Declaration) (place : ℕ) (o : Option Declaration) → slice_get items place ≡ o → is_such test o ≡ true → place < length items
such_within test items place None is h = absurd (false≢true h)
such_within test items place (Some d) is h = within_list items place d is

all_pass : {A : Type 0} (test : A → Bool) (xs : List A) → list_all test xs ≡ list_all (λ b. b) (map test xs)
all_pass test [] = refl
all_pass test (x ∷ xs) = ap (λ b. test x && b) (all_pass test xs)

names_at : (items : List Declaration) (s : Sort) (x : layer.Sort-F Sort) → roll-Sort x ≡ s → NamesDeclared items s → names_declared_layer items (map-Sort Sort Bool (names_declared items) x) ≡ true
names_at items s x is names = sym (fold-roll-Sort Bool (names_declared_layer items) x) ∙ ap (names_declared items) is ∙ names

pub enumeration_within : (items : List Declaration) (s : Sort) (place : ℕ) → s ≡ sorts.Enumeration place → NamesDeclared items s → place < length items
enumeration_within items s place is names = such_within is_enumeration items place (slice_get items place) refl (names_at items s (layer.Enumeration place) (sorts.rolls-Enumeration place ∙ sym is) names)

pub partition_within : (items : List Declaration) (s : Sort) (place : ℕ) → s ≡ sorts.Partition place → NamesDeclared items s → place < length items
partition_within items s place is names = such_within is_partition items place (slice_get items place) refl (names_at items s (layer.Partition place) (sorts.rolls-Partition place ∙ sym is) names)

pub product_names : (items : List Declaration) (s : Sort) (parts ps : List Sort) → s ≡ sorts.Product parts → ps ≡ parts → NamesDeclared items s → list_all (names_declared items) ps ≡ true
product_names items s parts ps is same names =
    ap (list_all (names_declared items)) same ∙ all_pass (names_declared items) parts ∙ names_at items s (layer.Product parts) (sorts.rolls-Product parts ∙ sym is) names

-- ---- the parts of a tuple, one after another

pub next_part : (items : List Declaration) (parts : List Sort) (vs : List Value) (i : ℕ) (s : Sort) (v : Value) (whole made now : List Term) (e : Term) → i < length parts → s ≡ get_or parts i s → i < length vs → v ≡ get_or vs i v
    → e ≡ ground_term items s v → now ≡ made ++ e ∷ [] → made ++ terms_of_parts (map (writing_of items) (drop i parts)) (drop i vs) ≡ whole → now ++ terms_of_parts (map (writing_of items) (drop (i + 1) parts)) (drop (i + 1) vs) ≡ whole
next_part items parts vs i s v whole made now e in_parts is_s in_values is_v is_e grown before =
    let rest = terms_of_parts (map (writing_of items) (drop (i + 1) parts)) (drop (i + 1) vs) in
    ap (λ l. l ++ rest) grown
    ∙ append_assoc made (e ∷ []) rest
    ∙ ap (λ x. made ++ (x ∷ rest)) is_e
    ∙ sym (λ k. made ++ terms_of_parts (map (writing_of items) (drop_next parts i s in_parts is_s k)) (drop_next vs i v in_values is_v k))
    ∙ before

pub all_parts : (items : List Declaration) (parts : List Sort) (vs : List Value) (i : ℕ) (whole made : List Term) → length parts ≤ i → made ++ terms_of_parts (map (writing_of items) (drop i parts)) (drop i vs) ≡ whole → made ≡ whole
all_parts items parts vs i whole made le h = sym (ap (λ ps. made ++ terms_of_parts (map (writing_of items) ps) (drop i vs)) (drop_all i parts le) ∙ append-nil made) ∙ h

-- the values at a place pass the test of the sort there
pub member_there : (test : Sort → Value → Bool) (parts : List Sort) (vs : List Value) (i : ℕ) (s : Sort) (v : Value) → pass_each (map test parts) vs ≡ true → i < length parts → s ≡ get_or parts i s → v ≡ get_or vs i v → test s v ≡ true
member_there test [] vs i s v h in_parts is_s is_v = absurd (omega arith)
member_there test (p ∷ ps) [] i s v h in_parts is_s is_v = absurd (false≢true h)
member_there test (p ∷ ps) (u ∷ us) zero s v h in_parts is_s is_v = (λ k. test (is_s k) (is_v k)) ∙ and_left (test p u) (pass_each (map test ps) us) h
member_there test (p ∷ ps) (u ∷ us) (suc i) s v h in_parts is_s is_v = member_there test ps us i s v (and_right (test p u) (pass_each (map test ps) us) h) (omega arith) is_s is_v

-- a member of a product is a tuple of members of its parts
pub tuple_passes : (widths : List ℕ) (s : Sort) (parts ps : List Sort) (v : Value) → s ≡ sorts.Product parts → ps ≡ parts → IsMember widths v s → is_tuple_of (map (is_member widths) ps) (out-Value v) ≡ true
tuple_passes widths s parts ps v is same member =
    ap (λ qs. is_tuple_of (map (is_member widths) qs) (out-Value v)) same ∙ sym (member-product widths parts v) ∙ sym (ap (λ t. is_member widths t v) is) ∙ member
