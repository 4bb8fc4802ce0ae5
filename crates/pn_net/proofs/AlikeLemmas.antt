-- Declarations and sorts that are equal but for offsets have faults alike: where one of them has a fault, so has the other.
use Rattle.std.proofs.Common.{◌≡◌, ℕ, true, List, [], ◌∷◌, ◌++◌, map, length, is_some, codes, IsTrue, Option, Some, None, refl, sym, ap, ◌∙◌, subst}
use Rattle.std.specs.List.{Contains, list_all, slice_get}
use Rattle.std.specs.Option.{option_and_then, option_map}
use Rattle.std.proofs.lemmas.Option.{slice_get-map}
use Rattle.pn_faults.specs.declared.fault.Fault.{Fault}
use Rattle.pn_faults.specs.Order.{fault_at}
use Rattle.pn_faults.specs.declared.reason.Reason.TheVariants as reasons
use Rattle.pn_facts.proofs.Contained.{at_contains, contains_at}
use Rattle.pn_carriers.specs.Members.{IsMember}
use Rattle.pn_ids.specs.Names.{named_in}
use Rattle.pn_names.specs.Names.{at_of, constant_ref, id_of, names_from, names_of, sort_named, sort_place, widths_of}
use Rattle.pn_partitions.specs.Partitions.{IsOnce, Splits, all_values, listed_value, value_in, value_layer}
use Rattle.pn_resolve.proofs.Expressions.{NodeLayer, is_list, is_product, is_range, is_user, out_list, out_product, out_range, out_user}
use Rattle.pn_resolve.proofs.OffsetLemmas.{bare_layer, bare_out, names_bare, offsets_aside, widths_bare}
use Rattle.pn_resolve.specs.Standing.{HasEmptyRange, IsListed, IsNamedSort, IsSortPart, LeadsTo, NamesPlace, StandsAtSort, StandsBesides, StandsInSort, at_of_constant, base_of, constant_range, directly, element_name, elements_of, empty_range, expr_of, in_sort, is_named, itself, list, product, sort_cycle, sort_too_big, through, unknown_sort}
use Rattle.pn_sorts.proofs.SettleLemmas.{same_some}
use Rattle.pn_sorts.specs.Standing.{IsBadPartition, Stands, bad_partition, besides}
use Rattle.pn_syntax.specs.Offsets.{declaration_without_offsets, element_without_offsets, sort_without_offsets, value_without_offset}
use Rattle.pn_syntax.specs.declared.declaration.ConstExpr.{ConstExpr}
use Rattle.pn_syntax.specs.declared.declaration.ConstExpr.TheVariants as exprs
use Rattle.pn_syntax.specs.declared.declaration.Declaration.{Declaration}
use Rattle.pn_syntax.specs.declared.declaration.Declaration.TheVariants as declarations
use Rattle.pn_syntax.specs.declared.declaration.PartElement.{PartElement}
use Rattle.pn_syntax.specs.declared.declaration.SortBody.TheVariants as bodies
use Rattle.pn_syntax.specs.declared.sort_expr.SortExpr.{SortExpr}
use Rattle.pn_syntax.specs.declared.sort_expr.SortNode.TheOpen as layer
use Rattle.pn_syntax.specs.declared.sort_expr.SortNode.TheVariants as nodes
use Rattle.pn_syntax.specs.declared.sort_expr.SortNode.TheViews.{out-SortNode}
use Rattle.pn_values.specs.declared.sort.Sort.{Sort}
use Rattle.pn_values.specs.declared.sort.Sort.TheOpen as sort_layer
use Rattle.pn_values.specs.declared.sort.Sort.TheViews.{out-Sort}

-- ---- options and lists

pub alike_option : {X Y : Type 0} (f : X → Y) (o p : Option X) (x : X) → option_map f o ≡ option_map f p → o ≡ Some x → (y : X) × (p ≡ Some y) × (f x ≡ f y)
alike_option f o None x same is = absurd (cc (sym (ap (option_map f) is) ∙ same))
alike_option f o (Some y) x same is = (y, refl, same_some (f x) (f y) (sym (ap (option_map f) is) ∙ same))

pub alike_get : {X Y : Type 0} (f : X → Y) (xs ys : List X) (k : ℕ) (x : X) → map f xs ≡ map f ys → slice_get xs k ≡ Some x → (y : X) × (slice_get ys k ≡ Some y) × (f x ≡ f y)
alike_get f xs ys k x same is = alike_option f (slice_get xs k) (slice_get ys k) x (sym (slice_get-map f xs k) ∙ ap (λ zs. slice_get zs k) same ∙ slice_get-map f ys k) is

pub alike_contains : {X Y : Type 0} (f : X → Y) (xs ys : List X) (x : X) → map f xs ≡ map f ys → Contains xs x → (y : X) × Contains ys y × (f x ≡ f y)
alike_contains f xs ys x same has =
    let at = at_contains xs x has in
    let found = alike_get f xs ys at.0 x same at.1 in
    (found.0, contains_at ys at.0 found.0 found.1, found.2)

-- ---- sort expressions

-- what a layer is, by what it is without offsets
abbrev TellsLayer : NodeLayer → NodeLayer → Type 0
TellsLayer (layer.Product bare) l = (parts : List SortExpr) × (l ≡ layer.Product parts) × (bare ≡ map sort_without_offsets parts)
TellsLayer (layer.User name) l = l ≡ layer.User name
TellsLayer (layer.Range start end) l = l ≡ layer.Range start end
TellsLayer (layer.List bare) l = (part : SortExpr) × (l ≡ layer.List part) × (bare ≡ sort_without_offsets part)
TellsLayer layer.Dot l = Unit {0}
TellsLayer layer.Bool l = Unit {0}
TellsLayer layer.Integer l = Unit {0}
TellsLayer layer.Natural l = Unit {0}
TellsLayer layer.Positive l = Unit {0}
TellsLayer layer.Text l = Unit {0}

tells : (l : NodeLayer) → TellsLayer (bare_layer l) l
tells (layer.Product parts) = (parts, refl, refl)
tells (layer.User name) = refl
tells (layer.Range start end) = refl
tells (layer.List part) = (part, refl, refl)
tells layer.Dot = tt
tells layer.Bool = tt
tells layer.Integer = tt
tells layer.Natural = tt
tells layer.Positive = tt
tells layer.Text = tt

-- what an expression is, by another that is equal but for offsets
told : (e other : SortExpr) (l : NodeLayer) → sort_without_offsets e ≡ sort_without_offsets other → out-SortNode e.node ≡ l → TellsLayer (bare_layer l) (out-SortNode other.node)
told e other l same is = subst (λ b. TellsLayer b (out-SortNode other.node)) (sym (bare_out other (out-SortNode other.node) refl) ∙ ap (λ (x : SortExpr). out-SortNode x.node) (sym same) ∙ bare_out e l is) (tells (out-SortNode other.node))

user_alike : (e other : SortExpr) (name : List ℕ) → sort_without_offsets e ≡ sort_without_offsets other → e.node ≡ nodes.User name → other.node ≡ nodes.User name
user_alike e other name same is = is_user other.node name (told e other (layer.User name) same (out_user e.node name is))

part_alike : (e x : SortExpr) → IsSortPart e x → (other : SortExpr) → sort_without_offsets e ≡ sort_without_offsets other → (y : SortExpr) × IsSortPart other y × (sort_without_offsets x ≡ sort_without_offsets y)
part_alike e x (itself _ _ is) other same = (other, itself other other refl, ap sort_without_offsets is ∙ same)
part_alike e x (product _ _ p parts at has more) other same =
    let is = told e other (layer.Product parts) same (out_product e.node parts at) in
    let one = alike_contains sort_without_offsets parts is.0 p is.2 has in
    let rest = part_alike p x more one.0 one.2 in
    (rest.0, product other rest.0 one.0 is.0 (is_product other.node is.0 is.1) one.1 rest.1, rest.2)
part_alike e x (list _ _ p at more) other same =
    let is = told e other (layer.List p) same (out_list e.node p at) in
    let rest = part_alike p x more is.0 is.2 in
    (rest.0, list other rest.0 is.0 (is_list other.node is.0 is.1) rest.1, rest.2)

-- ---- declarations

expr_bare : (d : Declaration) → expr_of (declaration_without_offsets d) ≡ option_map sort_without_offsets (expr_of d)
expr_bare (declarations.Named id name (bodies.Plain e) at) = refl
expr_bare (declarations.Named id name (bodies.Finite constants) at) = refl
expr_bare (declarations.Named id name (bodies.Cyclic constants) at) = refl
expr_bare (declarations.Variable id name sort at) = refl
expr_bare (declarations.Partition id name sort elements at) = refl

pub base_bare : (d : Declaration) → base_of (declaration_without_offsets d) ≡ option_map sort_without_offsets (base_of d)
base_bare (declarations.Named id name body at) = refl
base_bare (declarations.Variable id name sort at) = refl
base_bare (declarations.Partition id name sort elements at) = refl

pub elements_bare : (d : Declaration) → elements_of (declaration_without_offsets d) ≡ map element_without_offsets (elements_of d)
elements_bare (declarations.Named id name body at) = refl
elements_bare (declarations.Variable id name sort at) = refl
elements_bare (declarations.Partition id name sort elements at) = refl

kind_bare : (d : Declaration) → is_named (declaration_without_offsets d) ≡ is_named d
kind_bare (declarations.Named id name body at) = refl
kind_bare (declarations.Variable id name sort at) = refl
kind_bare (declarations.Partition id name sort elements at) = refl

-- ---- what an element of a partition lists

empty_to_bare : (c : ConstExpr) → HasEmptyRange c → HasEmptyRange (value_without_offset c)
empty_to_bare (exprs.Named id at) h = h
empty_to_bare (exprs.Range value start end at) h = h

empty_from_bare : (c : ConstExpr) → HasEmptyRange (value_without_offset c) → HasEmptyRange c
empty_from_bare (exprs.Named id at) h = h
empty_from_bare (exprs.Range value start end at) h = h

empty_alike : (c other : ConstExpr) → value_without_offset c ≡ value_without_offset other → HasEmptyRange c → HasEmptyRange other
empty_alike c other same h = empty_from_bare other (subst HasEmptyRange same (empty_to_bare c h))

listed_alike : (d other : Declaration) → declaration_without_offsets d ≡ declaration_without_offsets other → (c : ConstExpr) → IsListed d c → (x : ConstExpr) × IsListed other x × (value_without_offset c ≡ value_without_offset x)
listed_alike d other same c listed =
    let one = alike_contains element_without_offsets (elements_of d) (elements_of other) listed.0 (sym (elements_bare d) ∙ ap elements_of same ∙ elements_bare other) listed.1 in
    let found = alike_contains value_without_offset listed.0.values one.0.values c (ap (λ (e : PartElement). e.values) one.2) listed.2 in
    (found.0, (one.0, one.1, found.1), found.2)

value_bare : (items : List Declaration) (l : sort_layer.Sort-F Sort) (c : ConstExpr) → value_layer items l (value_without_offset c) ≡ value_layer items l c
value_bare items (sort_layer.Enumeration place) (exprs.Named id at) = refl
value_bare items (sort_layer.Enumeration place) (exprs.Range value start end at) = refl
value_bare items (sort_layer.Range first last) (exprs.Named id at) = refl
value_bare items (sort_layer.Range first last) (exprs.Range value start end at) = refl
value_bare items sort_layer.Dot c = refl
value_bare items sort_layer.Bool c = refl
value_bare items (sort_layer.Partition place) c = refl
value_bare items (sort_layer.Product parts) c = refl
value_bare items sort_layer.Integer c = refl
value_bare items sort_layer.Natural c = refl
value_bare items sort_layer.Positive c = refl
value_bare items sort_layer.Text c = refl
value_bare items (sort_layer.List part) c = refl

module _ (items others : List Declaration) (same : map declaration_without_offsets items ≡ map declaration_without_offsets others) where
  names_alike : names_of items ≡ names_of others
  names_alike = sym (names_bare 0 0 items) ∙ ap (names_from 0 0) same ∙ names_bare 0 0 others

  widths_alike : widths_of items ≡ widths_of others
  widths_alike = sym (widths_bare items) ∙ ap widths_of same ∙ widths_bare others

  sort_named_alike : (name : List ℕ) → sort_named items name ≡ sort_named others name
  sort_named_alike name = ap (λ names. option_and_then sort_place (named_in names name)) names_alike

  value_named : (l : sort_layer.Sort-F Sort) (c : ConstExpr) → value_layer items l c ≡ value_layer others l c
  value_named (sort_layer.Enumeration place) (exprs.Named id at) = ap (λ names. option_and_then (value_in place) (option_and_then constant_ref (named_in names id))) names_alike
  value_named (sort_layer.Enumeration place) (exprs.Range value start end at) = refl
  value_named (sort_layer.Range first last) c = refl
  value_named sort_layer.Dot c = refl
  value_named sort_layer.Bool c = refl
  value_named (sort_layer.Partition place) c = refl
  value_named (sort_layer.Product parts) c = refl
  value_named sort_layer.Integer c = refl
  value_named sort_layer.Natural c = refl
  value_named sort_layer.Positive c = refl
  value_named sort_layer.Text c = refl
  value_named (sort_layer.List part) c = refl

  module _ (base : Sort) where
    constants_alike : (cs : List ConstExpr) → map (listed_value items base) (map value_without_offset cs) ≡ map (listed_value others base) cs
    constants_alike [] = refl
    constants_alike (c ∷ cs) = λ i. (value_bare items (out-Sort base) c ∙ value_named (out-Sort base) c) i ∷ constants_alike cs i

    values_to_bare : (es : List PartElement) → all_values items base (map element_without_offsets es) ≡ all_values others base es
    values_to_bare [] = refl
    values_to_bare (e ∷ es) = λ i. constants_alike e.values i ++ values_to_bare es i

  -- ---- faults of one expression

  sort_element_alike : (e other : SortExpr) (f : Fault) → sort_without_offsets e ≡ sort_without_offsets other → StandsAtSort items e f → (g : Fault) × StandsAtSort others other g
  sort_element_alike e other f alike (unknown_sort _ _ name at none is) =
      (fault_at reasons.UnknownSort other.at name, unknown_sort other _ name (user_alike e other name alike at) (sym (sort_named_alike name) ∙ none) refl)
  sort_element_alike e other f alike (sort_too_big _ _ big is) =
      (fault_at reasons.SortTooBig other.at (element_name other), sort_too_big other _ (big.0, offsets_aside items others e other big.0 same alike big.1, big.2) refl)
  sort_element_alike e other f alike (empty_range _ _ start end at empty is) =
      (fault_at reasons.EmptyRange other.at (codes "finiteintrange"), empty_range other _ start end (is_range other.node start end (told e other (layer.Range start end) alike (out_range e.node start end at))) empty refl)

  pub sort_alike : (e other : SortExpr) (f : Fault) → sort_without_offsets e ≡ sort_without_offsets other → StandsInSort items e f → (g : Fault) × StandsInSort others other g
  sort_alike e other f alike stands =
      let part = part_alike e stands.0 stands.1 other alike in
      let fault = sort_element_alike stands.0 part.0 f part.2 stands.2 in
      (fault.0, (part.0, part.1, fault.1))

  -- ---- faults of declarations

  expr_alike : (d other : Declaration) (e : SortExpr) → declaration_without_offsets d ≡ declaration_without_offsets other → expr_of d ≡ Some e → (x : SortExpr) × (expr_of other ≡ Some x) × (sort_without_offsets e ≡ sort_without_offsets x)
  expr_alike d other e alike is = alike_option sort_without_offsets (expr_of d) (expr_of other) e (sym (expr_bare d) ∙ ap expr_of alike ∙ expr_bare other) is

  names_place_alike : (from to : ℕ) → NamesPlace items from to → NamesPlace others from to
  names_place_alike from to n =
      let found = alike_get declaration_without_offsets items others from n.declaration same n.stands in
      let whole = expr_alike n.declaration found.0 n.whole found.2 n.is_sort in
      let part = part_alike n.whole n.part n.is_part whole.0 whole.2 in record {
        declaration = found.0;
        stands = found.1;
        whole = whole.0;
        is_sort = whole.1;
        part = part.0;
        is_part = part.1;
        name = n.name;
        is_user = user_alike n.part part.0 n.name part.2 n.is_user;
        is_name = sym (sort_named_alike n.name) ∙ n.is_name;
      }

  named_sort_alike : (place : ℕ) → IsNamedSort items place → IsNamedSort others place
  named_sort_alike place (d, at, named) =
      let found = alike_get declaration_without_offsets items others place d same at in
      (found.0, found.1, subst IsTrue (sym (kind_bare d) ∙ ap is_named found.2 ∙ kind_bare found.0) named)

  leads_alike : (from to : ℕ) → LeadsTo items from to → LeadsTo others from to
  leads_alike from to (directly _ _ n) = directly from to (names_place_alike from to n)
  leads_alike from to (through _ via _ n named rest) = through from via to (names_place_alike from via n) (named_sort_alike via named) (leads_alike via to rest)

  pub besides_alike : (f : Fault) → StandsBesides items f → (g : Fault) × StandsBesides others g
  besides_alike f (in_sort _ d e has is inside) =
      let found = alike_contains declaration_without_offsets items others d same has in
      let expr = expr_alike d found.0 e found.2 is in
      let fault = sort_alike e expr.0 f expr.2 inside in
      (fault.0, in_sort fault.0 found.0 expr.0 found.1 expr.1 fault.1)
  besides_alike f (sort_cycle _ place d at leads is) =
      let found = alike_get declaration_without_offsets items others place d same at in
      (fault_at reasons.SortCycle (at_of found.0) (id_of found.0), sort_cycle _ place found.0 found.1 (leads_alike place place leads) refl)
  besides_alike f (constant_range _ d c has listed empty is) =
      let found = alike_contains declaration_without_offsets items others d same has in
      let one = listed_alike d found.0 found.2 c listed in
      (fault_at reasons.EmptyRange (at_of_constant one.0) (codes "finiteintrange"), constant_range _ found.0 one.0 found.1 one.1 (empty_alike c one.0 one.2 empty) refl)

-- elements that are equal but for offsets list the same values
values_alike : (items others : List Declaration) → map declaration_without_offsets items ≡ map declaration_without_offsets others → (base : Sort) (es xs : List PartElement) → map element_without_offsets es ≡ map element_without_offsets xs
    → all_values items base es ≡ all_values others base xs
values_alike items others same base es xs alike = sym (values_to_bare items items refl base es) ∙ ap (all_values items base) alike ∙ values_to_bare items others same base xs

splits_alike : (items others : List Declaration) → map declaration_without_offsets items ≡ map declaration_without_offsets others → (base : Sort) (es xs : List PartElement) → map element_without_offsets es ≡ map element_without_offsets xs
    → Splits items base es → Splits others base xs
splits_alike items others same base es xs alike s =
    let values = values_alike items others same base es xs alike in record {
      splittable = s.splittable;
      values = subst (λ vs. list_all is_some vs ≡ true) values s.values;
      once = λ v member. subst (λ vs. IsOnce vs v) values (s.once v (subst (λ ws. IsMember ws v base) (sym (widths_alike items others same)) member));
    }

bad_alike : (items others : List Declaration) → map declaration_without_offsets items ≡ map declaration_without_offsets others → (d other : Declaration) → declaration_without_offsets d ≡ declaration_without_offsets other
    → IsBadPartition items d → IsBadPartition others other
bad_alike items others same d other alike bad =
    let base = alike_option sort_without_offsets (base_of d) (base_of other) bad.expr (sym (base_bare d) ∙ ap base_of alike ∙ base_bare other) bad.is_base in record {
      expr = base.0;
      is_base = base.1;
      base = bad.base;
      resolves = offsets_aside items others bad.expr base.0 bad.base same base.2 bad.resolves;
      ranges = λ c listed empty. let one = listed_alike other d (sym alike) c listed in bad.ranges one.0 one.1 (empty_alike c one.0 one.2 empty);
      is_bad = λ splits. bad.is_bad (splits_alike others items (sym same) bad.base (elements_of other) (elements_of d) (sym (elements_bare other) ∙ ap elements_of (sym alike) ∙ elements_bare d) splits);
    }

pub stands_alike : (items others : List Declaration) → map declaration_without_offsets items ≡ map declaration_without_offsets others → (f : Fault) → Stands items f → (g : Fault) × Stands others g
stands_alike items others same f (besides _ beside) =
    let fault = besides_alike items others same f beside in
    (fault.0, besides fault.0 fault.1)
stands_alike items others same f (bad_partition _ d has bad is) =
    let found = alike_contains declaration_without_offsets items others d same has in
    (fault_at reasons.BadPartition (at_of found.0) (id_of found.0), bad_partition _ found.0 found.1 (bad_alike items others same d found.0 found.2 bad) refl)
