-- At which element of a document each fault of sorts stands.
use Rattle.std.proofs.Common.{◌≡◌, ◌<◌, ◌⊎◌, inl, inr, ℕ, ℤ, int_lt, Bool, true, false, cond, not, List, [], ◌∷◌, map, codes, Option, None, Some, IfSome, refl, sym, ap, ◌∙◌, subst, arith}
use Rattle.std.specs.List.{Contains, find, slice_get}
use Rattle.std.specs.Option.{option_map, unwrap_or}
use Rattle.std.specs.Str.{bytes_eq}
use Rattle.std.proofs.lemmas.Slice.Eq.{bytes_eq-Decides}
use Rattle.pn_facts.proofs.Contained.{contains_at, contains_nil}
use Rattle.pn_facts.proofs.Each.{one_of}
use Rattle.pn_faults.specs.declared.fault.Fault.{Fault}
use Rattle.pn_faults.specs.declared.reason.Reason.{Reason}
use Rattle.pn_faults.specs.declared.reason.Reason.TheVariants as reasons
use Rattle.pn_faults.proofs.RisingLemmas.{IsWithin}
use Rattle.pn_names.specs.Names.{at_of}
use Rattle.pn_net.specs.Objects.{net_declarations}
use Rattle.pn_net.specs.Typing.{HasEmptyConstantRange, StandsInSorts, declared, of_type, of_term, of_constant}
use Rattle.pn_resolve.specs.Meaning.{Resolves, meaning, range_sort}
use Rattle.pn_resolve.specs.Standing.{IsBig, IsListed, IsSortPart, LeadsTo, NamesPlace, StandsAtSort, at_of_constant, base_of, directly, elements_of, expr_of, in_sort, sort_cycle, constant_range, sort_too_big, through, unknown_sort, empty_range, itself, product, list}
use Rattle.pn_resolve.specs.declared.TheConstants.{MAX_DEPTH, MAX_NODES}
use Rattle.pn_resolve.proofs.Expressions.{out_range, sort_at}
use Rattle.pn_sorts.specs.Standing.{Stands, besides, bad_partition}
use Rattle.pn_spelling.specs.Parts.{attribute_of, child_elements, children_named, end_in, first_child, has_name, number_at, other_child, start_in}
use Rattle.pn_spelling.specs.ReadDeclarations.{base_in, body_in, body_of, declaration_read, named_read, part_read, partition_read, value_read, variable_read}
use Rattle.pn_spelling.specs.ReadNets.{net_of}
use Rattle.pn_spelling.specs.ReadSorts.{first_sort, no_sort, sort_in, sort_node, sort_read}
use Rattle.pn_spelling.specs.ReadTerms.{term_read}
use Rattle.pn_spelling.proofs.ReadLemmas.{sort_read_is, term_read_is}
use Rattle.pn_syntax.specs.declared.declaration.ConstExpr.{ConstExpr}
use Rattle.pn_syntax.specs.declared.declaration.ConstExpr.TheVariants as values
use Rattle.pn_syntax.specs.declared.declaration.Declaration.{Declaration}
use Rattle.pn_syntax.specs.declared.declaration.PartElement.{PartElement}
use Rattle.pn_syntax.specs.declared.declaration.SortBody.TheVariants as bodies
use Rattle.pn_syntax.specs.declared.sort_expr.SortExpr.{SortExpr}
use Rattle.pn_syntax.specs.declared.sort_expr.SortNode.{SortNode}
use Rattle.pn_syntax.specs.declared.sort_expr.SortNode.TheOpen as sort_layer
use Rattle.pn_syntax.specs.declared.sort_expr.SortNode.TheVariants as nodes
use Rattle.pn_syntax.specs.declared.term.Term.{Term}
use Rattle.pn_syntax.specs.declared.term.TermNode.TheVariants as terms
use Rattle.pn_tree.specs.declared.element.Element.{Element}
use Rattle.pn_values.specs.Sizes.{depth_of, depth_step, nodes_of, nodes_step}
use Rattle.pn_values.specs.declared.sort.Sort.{Sort}
use Rattle.pn_values.specs.declared.sort.Sort.TheOpen as value_layer
use Rattle.pn_values.specs.declared.sort.Sort.TheFolds.{fold-roll-Sort}
use Rattle.pn_values.specs.declared.sort.Sort.TheVariants as sorts
use Rattle.pn_checks.proofs.SourceLemmas.{IsSpelled, all_contained, declarations_from, each_named, mapped_all, within_kid}
use Rattle.pn_checks.proofs.SpelledLemmas.{HasSortFault, IsSortIn, IsTermIn, declared_sort, sort_blamed, term_parts_within, written_blamed}
use Rattle.pn_checks.proofs.SaidLemmas.{term_from, type_from}

-- what is known of the element at which a fault of this reason stands
pub data IsBlamedFor (x : Element) : Reason → Type 0 where
  unknown : (r : Reason) → r ≡ reasons.UnknownSort → x.name ≡ codes "usersort" → IsBlamedFor x r
  cycle : (r : Reason) → r ≡ reasons.SortCycle → (child_elements x ≡ [] → ⊥) → IsBlamedFor x r
  big : (r : Reason) → r ≡ reasons.SortTooBig → (x.name ≡ codes "finiteintrange" → ⊥) → IsBlamedFor x r
  empty : (r : Reason) → r ≡ reasons.EmptyRange → IsBlamedFor x r
  bad : (r : Reason) → r ≡ reasons.BadPartition → x.name ≡ codes "partition" → IsBlamedFor x r

-- the fault stands at an element of the tree
pub record StandsAtElement (tree : Element) (f : Fault) : Type 0 where
  pub element : Element
  pub within : IsWithin child_elements tree element
  pub at : f.at ≡ element.at
  pub blamed : IsBlamedFor element f.reason

called : (name : List ℕ) (e : Element) → has_name name e ≡ true → e.name ≡ name
called name e named = (bytes_eq-Decides e.name name).0 named

-- ---- sorts

-- an element that says a name is a `usersort`
user_named : (e : Element) (parts : List SortExpr) (name : List ℕ) → sort_node e parts ≡ nodes.User name → has_name (codes "usersort") e ≡ true
user_named e parts name is =
    by (has_name (codes "bool") e) (has_name (codes "finiteintrange") e) (has_name (codes "productsort") e) (has_name (codes "usersort") e) refl
    (has_name (codes "integer") e) (has_name (codes "natural") e) (has_name (codes "positive") e) (has_name (codes "string") e) (has_name (codes "list") e) is
  where
    by : (a b c d : Bool) → has_name (codes "usersort") e ≡ d → (g h i j k : Bool)
        → cond a nodes.Bool (cond b (nodes.Range (number_at (codes "start") e) (number_at (codes "end") e)) (cond c (nodes.Product parts) (cond d (nodes.User (attribute_of (codes "declaration") e))
        (cond g nodes.Integer (cond h nodes.Natural (cond i nodes.Positive (cond j nodes.Text (cond k (nodes.List (first_sort parts)) nodes.Dot)))))))) ≡ nodes.User name → has_name (codes "usersort") e ≡ true
    by a b c true found g h i j k says = found
    by true b c false found g h i j k says = absurd cc
    by false true c false found g h i j k says = absurd cc
    by false false true false found g h i j k says = absurd cc
    by false false false false found true h i j k says = absurd cc
    by false false false false found false true i j k says = absurd cc
    by false false false false found false false true j k says = absurd cc
    by false false false false found false false false true k says = absurd cc
    by false false false false found false false false false true says = absurd cc
    by false false false false found false false false false false says = absurd cc

-- a range is not too big
range_chosen : (n : List ℕ) (a b c : SortNode) → n ≡ codes "finiteintrange" → cond (bytes_eq n (codes "bool")) a (cond (bytes_eq n (codes "finiteintrange")) b c) ≡ b
range_chosen n a b c is = ap (λ m. cond (bytes_eq m (codes "bool")) a (cond (bytes_eq m (codes "finiteintrange")) b c)) is

small_range : (start end : ℤ) → IsBig (sorts.Range start end) → ⊥
small_range start end (inl deep) = let lt : MAX_DEPTH < 1 = subst (λ n. MAX_DEPTH < n) (ap depth_of (sym (sorts.rolls-Range start end)) ∙ fold-roll-Sort ℕ depth_step (value_layer.Range start end)) deep in omega (arith, lt)
small_range start end (inr large) = let lt : MAX_NODES < 1 = subst (λ n. MAX_NODES < n) (ap nodes_of (sym (sorts.rolls-Range start end)) ∙ fold-roll-Sort ℕ nodes_step (value_layer.Range start end)) large in omega (arith, lt)

ranges_are_small : (items : List Declaration) (x : SortExpr) (start end : ℤ) → x.node ≡ nodes.Range start end → (s : Sort) → Resolves items x s → IsBig s → ⊥
ranges_are_small items x start end is s (levels, says) large =
    by (int_lt end start) (sym (sort_at (meaning items levels) x (sort_layer.Range start end) (out_range x.node start end is)) ∙ says)
  where
    by : (b : Bool) → cond b None (Some (sorts.Range start end)) ≡ Some s → ⊥
    by true none = cc
    by false some = let same : s ≡ sorts.Range start end = cc in small_range start end (subst IsBig same large)

module _ (tree : Element) (items : List Declaration) where
  at_sort : (f : Fault) → HasSortFault tree items f → StandsAtElement tree f
  at_sort f (x, from, stands) = by stands
    where
      parts : List SortExpr
      parts = map sort_read (child_elements from.source)

      at_source : x.at ≡ from.source.at
      at_source = ap (λ (s : SortExpr). s.at) (from.is ∙ sort_read_is from.source)

      node_is : x.node ≡ sort_node from.source parts
      node_is = ap (λ (s : SortExpr). s.node) (from.is ∙ sort_read_is from.source)

      by : StandsAtSort items x f → StandsAtElement tree f
      by (unknown_sort _ _ name node none is) = record {
        element = from.source;
        within = from.within;
        at = ap (λ (g : Fault). g.at) is ∙ at_source;
        blamed = unknown f.reason (ap (λ (g : Fault). g.reason) is) (called (codes "usersort") from.source (user_named from.source parts name (sym node_is ∙ node)));
      }
      by (sort_too_big _ _ (s, resolves, large) is) = record {
        element = from.source;
        within = from.within;
        at = ap (λ (g : Fault). g.at) is ∙ at_source;
        blamed = big f.reason (ap (λ (g : Fault). g.reason) is) (λ named. ranges_are_small items x _ _ (node_is ∙ range_chosen from.source.name _ _ _ named) s resolves large);
      }
      by (empty_range _ _ start end node lt is) = record { element = from.source; within = from.within; at = ap (λ (g : Fault). g.at) is ∙ at_source; blamed = empty f.reason (ap (λ (g : Fault). g.reason) is) }

-- ---- declarations

-- in an element in which nothing stands no sort is written
bare_sort : (y : Element) → child_elements y ≡ [] → IfSome (expr_of (declaration_read y)) (λ s. s ≡ no_sort)
bare_sort y bare = by (has_name (codes "variabledecl") y) (has_name (codes "partition") y)
  where
    plain : body_in y ≡ bodies.Plain no_sort
    plain = ap (λ ks. unwrap_or (option_map body_of (slice_get ks 0)) (bodies.Plain no_sort)) bare

    by : (a b : Bool) → IfSome (expr_of (cond a (variable_read y) (cond b (partition_read y) (named_read y)))) (λ s. s ≡ no_sort)
    by true b = ap (λ ks. unwrap_or (option_map sort_read (slice_get ks 0)) no_sort) bare
    by false true = ap (λ ks. unwrap_or (option_map sort_read (find (λ x. not (has_name (codes "partitionelement") x)) ks)) no_sort) bare
    by false false = rw plain refl

no_user : (x p : SortExpr) (name : List ℕ) → x ≡ no_sort → IsSortPart x p → p.node ≡ nodes.User name → ⊥
no_user x p name none (itself _ _ same) is = let bad_node : nodes.Dot ≡ nodes.User name = sym (ap (λ (s : SortExpr). s.node) (same ∙ none)) ∙ is in cc
no_user x p name none (product _ _ q parts node there rest) is = let bad_node : nodes.Dot ≡ nodes.Product parts = sym (ap (λ (s : SortExpr). s.node) none) ∙ node in cc
no_user x p name none (list _ _ q node rest) is = let bad_node : nodes.Dot ≡ nodes.List q = sym (ap (λ (s : SortExpr). s.node) none) ∙ node in cc

-- a declaration whose sort leads somewhere has something in it
not_bare : (items : List Declaration) (place : ℕ) (d : Declaration) (y : Element) → slice_get items place ≡ Some d → d ≡ declaration_read y → (to : ℕ) → NamesPlace items place to → child_elements y ≡ [] → ⊥
not_bare items place d y at is to names bare =
    let both : Some names.declaration ≡ Some d = sym names.stands ∙ at in
    let same : names.declaration ≡ d = cc in
    let whole : expr_of (declaration_read y) ≡ Some names.whole = ap expr_of (sym (same ∙ is)) ∙ names.is_sort in
    no_user names.whole names.part names.name (subst (λ o. IfSome o (λ s. s ≡ no_sort)) whole (bare_sort y bare)) names.is_part names.is_user

leads_not_bare : (items : List Declaration) (place to : ℕ) (d : Declaration) (y : Element) → slice_get items place ≡ Some d → d ≡ declaration_read y → LeadsTo items place to → child_elements y ≡ [] → ⊥
leads_not_bare items place to d y at is (directly _ _ names) = not_bare items place d y at is to names
leads_not_bare items place to d y at is (through _ via _ names named rest) = not_bare items place d y at is via names

at_read : (y : Element) → at_of (declaration_read y) ≡ y.at
at_read y = by (has_name (codes "variabledecl") y) (has_name (codes "partition") y)
  where
    by : (a b : Bool) → at_of (cond a (variable_read y) (cond b (partition_read y) (named_read y))) ≡ y.at
    by true b = refl
    by false true = refl
    by false false = refl

partition_named : (y : Element) (s : SortExpr) → base_of (declaration_read y) ≡ Some s → has_name (codes "partition") y ≡ true
partition_named y s = by (has_name (codes "variabledecl") y) (has_name (codes "partition") y) refl
  where
    by : (a b : Bool) → has_name (codes "partition") y ≡ b → base_of (cond a (variable_read y) (cond b (partition_read y) (named_read y))) ≡ Some s → has_name (codes "partition") y ≡ true
    by true b found is = absurd cc
    by false true found is = found
    by false false found is = absurd cc

-- an element in the element lists the constant
abbrev IsListedIn : Element → ConstExpr → Type 0
IsListedIn e c = (z : Element) × IsWithin child_elements e z × (c ≡ value_read z)

module _ (e : Element) where
  values_in : (k : Element) → IsWithin child_elements e k → (c : ConstExpr) → Contains (map value_read (child_elements k)) c → IsListedIn e c
  values_in k within c there =
      one_of (IsListedIn e) (map value_read (child_elements k)) c
      (mapped_all (IsListedIn e) value_read (child_elements k) (all_contained (λ z. IsListedIn e (value_read z)) (child_elements k) (λ z has. (z, within_kid e k z within has, refl)))) there

  listed_in : (y : Element) → IsWithin child_elements e y → (c : ConstExpr) → IsListed (declaration_read y) c → IsListedIn e c
  listed_in y within c (part, has, there) = by (has_name (codes "variabledecl") y) (has_name (codes "partition") y) has
    where
      elements : Contains (map part_read (children_named (codes "partitionelement") y)) part → IsListedIn e c
      elements found =
          one_of (λ (p : PartElement). Contains p.values c → IsListedIn e c) (map part_read (children_named (codes "partitionelement") y)) part
          (mapped_all (λ (p : PartElement). Contains p.values c → IsListedIn e c) part_read (children_named (codes "partitionelement") y)
          (each_named (λ k. Contains (part_read k).values c → IsListedIn e c) (codes "partitionelement") y (λ k kid named. values_in k (within_kid e y k within kid) c))) found there

      by : (a b : Bool) → Contains (elements_of (cond a (variable_read y) (cond b (partition_read y) (named_read y)))) part → IsListedIn e c
      by true b found = absurd (contains_nil part found)
      by false true found = elements found
      by false false found = absurd (contains_nil part found)

at_value : (z : Element) → at_of_constant (value_read z) ≡ z.at
at_value z = by (has_name (codes "finiteintrangeconstant") z)
  where
    by : (b : Bool) → at_of_constant (cond b (values.Range (number_at (codes "value") z) (start_in z) (end_in z) z.at) (values.Named (attribute_of (codes "declaration") z) z.at)) ≡ z.at
    by true = refl
    by false = refl

-- ---- a net

module _ (tree : Element) where
  abbrev Items : List Declaration
  Items = net_declarations (net_of tree)

  declaration_from : (d : Declaration) → Contains Items d → IsSpelled declaration_read tree d
  declaration_from d there = one_of (IsSpelled declaration_read tree) Items d (declarations_from tree) there

  at_declaration : (f : Fault) → Stands Items f → StandsAtElement tree f
  at_declaration f (besides _ (in_sort _ d s there is stands)) =
      at_sort tree Items f (sort_blamed Items f tree s (subst (λ o. IfSome o (IsSortIn tree)) is (declared_sort tree d (declaration_from d there))) stands)
  at_declaration f (besides _ (sort_cycle _ place d at leads is)) =
      let from = declaration_from d (contains_at Items place d at) in
      record {
        element = from.source;
        within = from.within;
        at = ap (λ (g : Fault). g.at) is ∙ ap at_of from.is ∙ at_read from.source;
        blamed = cycle f.reason (ap (λ (g : Fault). g.reason) is) (leads_not_bare Items place place d from.source at from.is leads);
      }
  at_declaration f (besides _ (constant_range _ d c there listed range is)) =
      let from = declaration_from d there in
      let value = listed_in tree from.source from.within c (subst (λ b. IsListed b c) from.is listed) in
      record { element = value.0; within = value.1; at = ap (λ (g : Fault). g.at) is ∙ ap at_of_constant value.2 ∙ at_value value.0; blamed = empty f.reason (ap (λ (g : Fault). g.reason) is) }
  at_declaration f (bad_partition _ d there lacks is) =
      let from = declaration_from d there in
      record {
        element = from.source;
        within = from.within;
        at = ap (λ (g : Fault). g.at) is ∙ ap at_of from.is ∙ at_read from.source;
        blamed = bad f.reason (ap (λ (g : Fault). g.reason) is) (called (codes "partition") from.source (partition_named from.source lacks.expr (ap base_of (sym from.is) ∙ lacks.is_base)));
      }

  at_constant : (f : Fault) (t : Term) → IsTermIn tree t → HasEmptyConstantRange t f → StandsAtElement tree f
  at_constant f t here range = by (term_parts_within tree t range.constant range.is_part here)
    where
      by : IsTermIn tree range.constant → StandsAtElement tree f
      by (inl none) = absurd (let wrong : terms.Bool false ≡ terms.RangeConst range.value range.start range.end = sym (ap (λ (x : Term). x.node) none) ∙ range.is_range in cc)
      by (inr from) = record {
        element = from.source;
        within = from.within;
        at = ap (λ (g : Fault). g.at) range.is ∙ ap (λ (x : Term). x.at) (from.is ∙ term_read_is from.source);
        blamed = empty f.reason (ap (λ (g : Fault). g.reason) range.is);
      }

  -- each fault of sorts stands at an element
  pub at_element : (f : Fault) → StandsInSorts (net_of tree) f → StandsAtElement tree f
  at_element f (declared _ stands) = at_declaration f stands
  at_element f (of_type _ s there stands) = at_sort tree Items f (sort_blamed Items f tree s (type_from tree s there) stands)
  at_element f (of_term _ t there stands) = at_sort tree Items f (written_blamed Items f tree t (inr (term_from tree t there)) stands)
  at_element f (of_constant _ t there range) = at_constant f t (inr (term_from tree t there)) range
