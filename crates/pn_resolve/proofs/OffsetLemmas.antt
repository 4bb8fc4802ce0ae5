-- Offsets have no part in names and in sorts.
use Rattle.std.proofs.Common.{◌≡◌, ℕ, zero, suc, List, [], ◌∷◌, ◌++◌, map, Option, None, Some, length, refl, sym, ap, ◌∙◌}
use Rattle.std.specs.List.{Contains, slice_get}
use Rattle.std.specs.Option.{option_and_then, option_map}
use Rattle.std.proofs.lemmas.Option.{slice_get-map}
use Rattle.pn_syntax.specs.Offsets.{at_zero, constant_without_offset, declaration_without_offsets, element_without_offsets, sort_without_offsets}
use Rattle.pn_syntax.specs.declared.declaration.Constant.{Constant}
use Rattle.pn_syntax.specs.declared.declaration.Declaration.{Declaration}
use Rattle.pn_syntax.specs.declared.declaration.Declaration.TheVariants as declarations
use Rattle.pn_syntax.specs.declared.declaration.PartElement.{PartElement}
use Rattle.pn_syntax.specs.declared.declaration.SortBody.TheVariants as bodies
use Rattle.pn_syntax.specs.declared.sort_expr.SortExpr.{SortExpr}
use Rattle.pn_syntax.specs.declared.sort_expr.SortNode.{SortNode, map-SortNode}
use Rattle.pn_syntax.specs.declared.sort_expr.SortNode.TheOpen as layer
use Rattle.pn_syntax.specs.declared.sort_expr.SortNode.TheViews.{out-SortNode, roll-SortNode, out-roll-SortNode}
use Rattle.pn_syntax.specs.declared.sort_expr.SortNode.TheFolds.{fold-SortNode, fold_out-SortExpr, fold_out-SortNode}
use Rattle.pn_values.specs.declared.sort.Sort.{Sort}
use Rattle.pn_values.specs.declared.sort.Sort.TheVariants as sorts
use Rattle.pn_ids.specs.Names.{named_in}
use Rattle.pn_names.specs.Names.{constant_id, constant_ids, element_id, id_of, names_from, names_in, numbered, own_name, sort_named, sort_place, widths_of, with_variable}
use Rattle.pn_facts.proofs.Contained.{contains_first, contains_next}
use Rattle.pn_resolve.specs.Meaning.{all_sorts, declared_sort, meaning, sort_at_place, sort_with, Resolves}
use Rattle.pn_resolve.proofs.Expressions.{NodeLayer, IsIn, expr_ind, sort_at}
use Rattle.pn_resolve.proofs.Meanings.{meaning_next, meaning_none}

abbrev bare_node : SortNode → SortNode
bare_node = fold-SortNode SortNode SortExpr roll-SortNode at_zero

abbrev pub bare_layer : NodeLayer → NodeLayer
bare_layer = map-SortNode SortNode SortExpr SortNode SortExpr bare_node sort_without_offsets

-- what a sort expression without offsets is, by what it is with them
pub bare_out : (e : SortExpr) (l : NodeLayer) → out-SortNode e.node ≡ l → out-SortNode (sort_without_offsets e).node ≡ bare_layer l
bare_out e l is =
    ap (λ (x : SortExpr). out-SortNode x.node) (fold_out-SortExpr SortNode SortExpr roll-SortNode at_zero e)
    ∙ ap out-SortNode (fold_out-SortNode SortNode SortExpr roll-SortNode at_zero e.node)
    ∙ out-roll-SortNode (bare_layer (out-SortNode e.node))
    ∙ ap bare_layer is

module _ (m : List ℕ → Option Sort) where
  abbrev IsSameBare : SortExpr → Type 0
  IsSameBare e = sort_with m (sort_without_offsets e) ≡ sort_with m e

  parts_bare : (ps : List SortExpr) → ((p : SortExpr) → Contains ps p → IsSameBare p) → map (sort_with m) (map sort_without_offsets ps) ≡ map (sort_with m) ps
  parts_bare [] have = refl
  parts_bare (p ∷ ps) have = λ i. have p (contains_first p ps) i ∷ parts_bare ps (λ x c. have x (contains_next p ps x c)) i

  bare_step : (l : NodeLayer) (e : SortExpr) → out-SortNode e.node ≡ l → ((p : SortExpr) → IsIn l p → IsSameBare p) → IsSameBare e
  bare_step layer.Dot e at have = sort_at m (sort_without_offsets e) layer.Dot (bare_out e layer.Dot at) ∙ sym (sort_at m e layer.Dot at)
  bare_step layer.Bool e at have = sort_at m (sort_without_offsets e) layer.Bool (bare_out e layer.Bool at) ∙ sym (sort_at m e layer.Bool at)
  bare_step (layer.Range start end) e at have = sort_at m (sort_without_offsets e) (layer.Range start end) (bare_out e (layer.Range start end) at) ∙ sym (sort_at m e (layer.Range start end) at)
  bare_step (layer.Product parts) e at have =
      sort_at m (sort_without_offsets e) (layer.Product (map sort_without_offsets parts)) (bare_out e (layer.Product parts) at)
      ∙ ap (λ ss. option_map sorts.Product (all_sorts ss)) (parts_bare parts have) ∙ sym (sort_at m e (layer.Product parts) at)
  bare_step (layer.User name) e at have = sort_at m (sort_without_offsets e) (layer.User name) (bare_out e (layer.User name) at) ∙ sym (sort_at m e (layer.User name) at)
  bare_step layer.Integer e at have = sort_at m (sort_without_offsets e) layer.Integer (bare_out e layer.Integer at) ∙ sym (sort_at m e layer.Integer at)
  bare_step layer.Natural e at have = sort_at m (sort_without_offsets e) layer.Natural (bare_out e layer.Natural at) ∙ sym (sort_at m e layer.Natural at)
  bare_step layer.Positive e at have = sort_at m (sort_without_offsets e) layer.Positive (bare_out e layer.Positive at) ∙ sym (sort_at m e layer.Positive at)
  bare_step layer.Text e at have = sort_at m (sort_without_offsets e) layer.Text (bare_out e layer.Text at) ∙ sym (sort_at m e layer.Text at)
  bare_step (layer.List part) e at have =
      sort_at m (sort_without_offsets e) (layer.List (sort_without_offsets part)) (bare_out e (layer.List part) at)
      ∙ ap (option_map sorts.List) (have part refl) ∙ sym (sort_at m e (layer.List part) at)

  -- an expression has the sort that it has without offsets
  sort_bare : (e : SortExpr) → IsSameBare e
  sort_bare = expr_ind IsSameBare bare_step

  declared_bare : (place : ℕ) (d : Declaration) → declared_sort m place (declaration_without_offsets d) ≡ declared_sort m place d
  declared_bare place (declarations.Named id name (bodies.Plain e) at) = sort_bare e
  declared_bare place (declarations.Named id name (bodies.Finite constants) at) = refl
  declared_bare place (declarations.Named id name (bodies.Cyclic constants) at) = refl
  declared_bare place (declarations.Variable id name sort at) = refl
  declared_bare place (declarations.Partition id name sort elements at) = refl

  declared_in : (place : ℕ) (o : Option Declaration) → option_and_then (declared_sort m place) (option_map declaration_without_offsets o) ≡ option_and_then (declared_sort m place) o
  declared_in place None = refl
  declared_in place (Some d) = declared_bare place d

-- ---- names

constants_bare : (cs : List Constant) → map constant_id (map constant_without_offset cs) ≡ map constant_id cs
constants_bare [] = refl
constants_bare (c ∷ cs) = ap (λ ids. c.id ∷ ids) (constants_bare cs)

elements_bare : (es : List PartElement) → map element_id (map element_without_offsets es) ≡ map element_id es
elements_bare [] = refl
elements_bare (e ∷ es) = ap (λ ids. e.id ∷ ids) (elements_bare es)

pub ids_bare : (d : Declaration) → constant_ids (declaration_without_offsets d) ≡ constant_ids d
ids_bare (declarations.Named id name (bodies.Plain e) at) = refl
ids_bare (declarations.Named id name (bodies.Finite constants) at) = constants_bare constants
ids_bare (declarations.Named id name (bodies.Cyclic constants) at) = constants_bare constants
ids_bare (declarations.Variable id name sort at) = refl
ids_bare (declarations.Partition id name sort elements at) = elements_bare elements

pub widths_bare : (ds : List Declaration) → widths_of (map declaration_without_offsets ds) ≡ widths_of ds
widths_bare [] = refl
widths_bare (d ∷ ds) = λ i. length (ids_bare d i) ∷ widths_bare ds i

id_bare : (d : Declaration) → id_of (declaration_without_offsets d) ≡ id_of d
id_bare (declarations.Named id name body at) = refl
id_bare (declarations.Variable id name sort at) = refl
id_bare (declarations.Partition id name sort elements at) = refl

own_bare : (place before : ℕ) (d : Declaration) → own_name place before (declaration_without_offsets d) ≡ own_name place before d
own_bare place before (declarations.Named id name body at) = refl
own_bare place before (declarations.Variable id name sort at) = refl
own_bare place before (declarations.Partition id name sort elements at) = refl

variables_bare : (before : ℕ) (d : Declaration) → with_variable before (declaration_without_offsets d) ≡ with_variable before d
variables_bare before (declarations.Named id name body at) = refl
variables_bare before (declarations.Variable id name sort at) = refl
variables_bare before (declarations.Partition id name sort elements at) = refl

names_in_bare : (place before : ℕ) (d : Declaration) → names_in place before (declaration_without_offsets d) ≡ names_in place before d
names_in_bare place before d = λ i. (id_bare d i, own_bare place before d i) ∷ numbered place 0 (ids_bare d i)

pub names_bare : (place before : ℕ) (ds : List Declaration) → names_from place before (map declaration_without_offsets ds) ≡ names_from place before ds
names_bare place before [] = refl
names_bare place before (d ∷ ds) =
    ap (λ names. names ++ names_from (suc place) (with_variable before (declaration_without_offsets d)) (map declaration_without_offsets ds)) (names_in_bare place before d)
    ∙ ap (λ n. names_in place before d ++ names_from (suc place) n (map declaration_without_offsets ds)) (variables_bare before d)
    ∙ ap (λ names. names_in place before d ++ names) (names_bare (suc place) (with_variable before d) ds)

named_bare : (items : List Declaration) (name : List ℕ) → sort_named (map declaration_without_offsets items) name ≡ sort_named items name
named_bare items name = ap (λ names. option_and_then sort_place (named_in names name)) (names_bare 0 0 items)

-- ---- what names mean

place_bare : (items : List Declaration) (levels : ℕ) → ((name : List ℕ) → meaning (map declaration_without_offsets items) levels name ≡ meaning items levels name) → (place : ℕ)
    → sort_at_place (map declaration_without_offsets items) levels place ≡ sort_at_place items levels place
place_bare items levels same place =
    ap (option_and_then (declared_sort (meaning (map declaration_without_offsets items) levels) place)) (slice_get-map declaration_without_offsets items place)
    ∙ (λ i. option_and_then (declared_sort (λ name. same name i) place) (option_map declaration_without_offsets (slice_get items place)))
    ∙ declared_in (meaning items levels) place (slice_get items place)

meaning_bare : (items : List Declaration) (levels : ℕ) (name : List ℕ) → meaning (map declaration_without_offsets items) levels name ≡ meaning items levels name
meaning_bare items zero name = meaning_none (map declaration_without_offsets items) name ∙ sym (meaning_none items name)
meaning_bare items (suc levels) name =
    meaning_next (map declaration_without_offsets items) levels name
    ∙ ap (option_and_then (sort_at_place (map declaration_without_offsets items) levels)) (named_bare items name)
    ∙ (λ i. option_and_then (λ place. place_bare items levels (meaning_bare items levels) place i) (sort_named items name))
    ∙ sym (meaning_next items levels name)

sort_by_bare : (items : List Declaration) (levels : ℕ) (e : SortExpr) → sort_with (meaning (map declaration_without_offsets items) levels) (sort_without_offsets e) ≡ sort_with (meaning items levels) e
sort_by_bare items levels e = (λ i. sort_with (λ name. meaning_bare items levels name i) (sort_without_offsets e)) ∙ sort_bare (meaning items levels) e

-- equal but for the offsets, an expression has the same sort
pub offsets_aside : (items others : List Declaration) (one other : SortExpr) (s : Sort) → map declaration_without_offsets items ≡ map declaration_without_offsets others
    → sort_without_offsets one ≡ sort_without_offsets other → Resolves items one s → Resolves others other s
offsets_aside items others one other s same alike (levels, h) = (
  levels,
  sym (sort_by_bare others levels other)
      ∙ ap (λ ds. sort_with (meaning ds levels) (sort_without_offsets other)) (sym same)
      ∙ ap (sort_with (meaning (map declaration_without_offsets items) levels)) (sym alike)
      ∙ sort_by_bare items levels one
      ∙ h,
)
