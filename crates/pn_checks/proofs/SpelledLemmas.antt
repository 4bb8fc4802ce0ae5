-- Which elements of a document its sorts and terms come from, with the sorts and terms in them.
use Rattle.std.proofs.Common.{◌≡◌, ◌<◌, ◌⊎◌, inl, inr, ℕ, Bool, true, false, cond, List, [], ◌∷◌, map, codes, Option, None, Some, IfSome, refl, sym, ap, ◌∙◌, subst, arith}
use Rattle.std.specs.List.{Contains, find, slice_get}
use Rattle.std.specs.Option.{option_map, unwrap_or}
use Rattle.std.proofs.lemmas.Option.{IfSome_then}
use Rattle.pn_facts.proofs.Contained.{contains_at, contains_first, contains_next, contains_nil, contains_one}
use Rattle.pn_facts.proofs.Each.{one_of}
use Rattle.pn_faults.specs.declared.fault.Fault.{Fault}
use Rattle.pn_faults.proofs.RisingLemmas.{IsWithin, itself, inside}
use Rattle.pn_resolve.specs.Meaning.{meaning}
use Rattle.pn_resolve.specs.Standing.{IsBig, StandsAtSort, StandsInSort, unknown_sort, sort_too_big, empty_range, expr_of}
use Rattle.pn_resolve.specs.declared.TheConstants.{MAX_DEPTH, MAX_NODES}
use Rattle.pn_resolve.proofs.Expressions.{sort_at}
use Rattle.pn_sorts.proofs.OrderLemmas.{sorts_in, sorts_in_layer, within_sort}
use Rattle.pn_spelling.specs.Parts.{attribute_of, child_elements, first_child, has_name, number_at}
use Rattle.pn_spelling.specs.ReadDeclarations.{base_in, body_in, body_of, constant_read, declaration_read, named_read, partition_read, variable_read}
use Rattle.pn_spelling.specs.ReadSorts.{first_sort, no_sort, sort_in, sort_node, sort_read}
use Rattle.pn_spelling.specs.ReadTerms.{basis_in, basis_of, first_term, no_term, term_in, term_node, term_read}
use Rattle.pn_spelling.proofs.ReadLemmas.{sort_of_parts, sort_read_is, term_read_is}
use Rattle.pn_syntax.specs.declared.declaration.Declaration.{Declaration}
use Rattle.pn_syntax.specs.declared.declaration.Declaration.TheVariants as declarations
use Rattle.pn_syntax.specs.declared.declaration.SortBody.{SortBody}
use Rattle.pn_syntax.specs.declared.declaration.SortBody.TheVariants as bodies
use Rattle.pn_syntax.specs.declared.sort_expr.SortExpr.{SortExpr}
use Rattle.pn_syntax.specs.declared.sort_expr.SortNode.{SortNode}
use Rattle.pn_syntax.specs.declared.sort_expr.SortNode.TheOpen as sort_layer
use Rattle.pn_syntax.specs.declared.sort_expr.SortNode.TheVariants as sort_nodes
use Rattle.pn_syntax.specs.declared.sort_expr.SortNode.TheViews.{out-SortNode, roll-SortNode, out-roll-SortNode}
use Rattle.pn_syntax.specs.declared.term.Term.{Term}
use Rattle.pn_syntax.specs.declared.term.TermNode.{TermNode}
use Rattle.pn_syntax.specs.declared.term.TermNode.TheOpen as layer
use Rattle.pn_syntax.specs.declared.term.TermNode.TheViews.{out-TermNode}
use Rattle.pn_terms.specs.Standing.{SortStandsAt, SortStandsIn, StandsAlways, StandsAt, StandsIn, StandsWith}
use Rattle.pn_terms.specs.Terms.{IsPart, Layer, layer_of, parts_in, parts_of}
use Rattle.pn_terms.specs.Terms as term_parts
use Rattle.pn_terms.proofs.TermLemmas.{out_all, out_apply, out_constant, out_element, out_empty, out_empty_list, out_number, out_range, out_text, out_truth, out_variable}
use Rattle.pn_tree.specs.Elements.{attr_value}
use Rattle.pn_tree.specs.declared.element.Element.{Element}
use Rattle.pn_values.specs.Sizes.{depth_of, depth_step, nodes_of, nodes_step}
use Rattle.pn_values.specs.declared.sort.Sort.TheOpen as value_layer
use Rattle.pn_values.specs.declared.sort.Sort.TheFolds.{fold-roll-Sort}
use Rattle.pn_values.specs.declared.sort.Sort.TheVariants as sorts
use Rattle.pn_checks.proofs.SourceLemmas.{IsSpelled, all_contained, mapped_all, within_kid}

-- ---- what is chosen and found

-- what holds of both holds of the one that a test chooses
pub pick : {X : Type 0} (P : X → Type 0) (b : Bool) (x y : X) → P x → P y → P (cond b x y)
pick P true x y here there = here
pick P false x y here there = there

-- what is found is there, and passes the test
pub found : {X : Type 0} (p : X → Bool) (xs : List X) → IfSome (find p xs) (λ x. Contains xs x × (p x ≡ true))
found p [] = tt
found p (x ∷ xs) = by (p x) refl (found p xs)
  where
    by : (b : Bool) → p x ≡ b → IfSome (find p xs) (λ y. Contains xs y × (p y ≡ true)) → IfSome (cond b (Some x) (find p xs)) (λ y. Contains (x ∷ xs) y × (p y ≡ true))
    by true is rest = (contains_first x xs, is)
    by false is rest = IfSome_then (find p xs) rest (λ y there. (contains_next x xs y there.0, there.1))

-- what is read of an element where there is one
read_of : {X Y : Type 0} (P : X → Type 0) (Q : Y → Type 0) (read : X → Y) (none : Y) (o : Option X) → IfSome o P → Q none → ((x : X) → P x → Q (read x)) → Q (unwrap_or (option_map read o) none)
read_of P Q read none None have lacks each = lacks
read_of P Q read none (Some x) have lacks each = each x have

-- the first of some things, or what stands in its place
first_of : {X : Type 0} (Q : X → Type 0) (xs : List X) (none : X) → Q none → ((x : X) → Contains xs x → Q x) → Q (unwrap_or (slice_get xs 0) none)
first_of Q [] none lacks each = lacks
first_of Q (x ∷ xs) none lacks each = each x (contains_first x xs)

-- ---- one layer of what an element says

-- what holds of each sort in an element holds of the parts of the sort that the element says
module _ (Q : SortExpr → Type 0) (e : Element) (parts : List SortExpr) (each : (p : SortExpr) → Contains parts p → Q p) (lacks : Q no_sort) where
  abbrev HaveIt : SortNode → Type 0
  HaveIt n = (p : SortExpr) → Contains (sorts_in_layer (out-SortNode n)) p → Q p

  rolled : (l : sort_layer.SortNode-F SortNode SortExpr) (n : SortNode) → roll-SortNode l ≡ n → ((p : SortExpr) → Contains (sorts_in_layer l) p → Q p) → HaveIt n
  rolled l n is have = subst (λ m. (p : SortExpr) → Contains (sorts_in_layer m) p → Q p) (sym (ap out-SortNode (sym is) ∙ out-roll-SortNode l)) have

  nothing : (p : SortExpr) → Contains [] p → Q p
  nothing p there = absurd (contains_nil p there)

  sort_parts : HaveIt (sort_node e parts)
  sort_parts =
      pick HaveIt (has_name (codes "bool") e) _ _ (rolled sort_layer.Bool sort_nodes.Bool sort_nodes.rolls-Bool nothing)
      (pick HaveIt (has_name (codes "finiteintrange") e) _ _ (rolled (sort_layer.Range (number_at (codes "start") e) (number_at (codes "end") e)) _ (sort_nodes.rolls-Range _ _) nothing)
      (pick HaveIt (has_name (codes "productsort") e) _ _ (rolled (sort_layer.Product parts) _ (sort_nodes.rolls-Product parts) each)
      (pick HaveIt (has_name (codes "usersort") e) _ _ (rolled (sort_layer.User (attribute_of (codes "declaration") e)) _ (sort_nodes.rolls-User _) nothing)
      (pick HaveIt (has_name (codes "integer") e) _ _ (rolled sort_layer.Integer sort_nodes.Integer sort_nodes.rolls-Integer nothing)
      (pick HaveIt (has_name (codes "natural") e) _ _ (rolled sort_layer.Natural sort_nodes.Natural sort_nodes.rolls-Natural nothing)
      (pick HaveIt (has_name (codes "positive") e) _ _ (rolled sort_layer.Positive sort_nodes.Positive sort_nodes.rolls-Positive nothing)
      (pick HaveIt (has_name (codes "string") e) _ _ (rolled sort_layer.Text sort_nodes.Text sort_nodes.rolls-Text nothing)
      (pick HaveIt (has_name (codes "list") e) _ _ (rolled (sort_layer.List (first_sort parts)) _ (sort_nodes.rolls-List _) (λ p there. subst Q (sym (contains_one (first_sort parts) p there)) (first_of Q parts no_sort lacks each)))
      (rolled sort_layer.Dot sort_nodes.Dot sort_nodes.rolls-Dot nothing)))))))))

-- what holds of each layer that an element may say holds of the one that it says
term_layer : (P : Layer → Type 0) (e : Element) (args : List Term) → ((name : List ℕ) → P (layer.Variable name)) → ((name : List ℕ) → P (layer.UserOp name)) → ((truth : Bool) → P (layer.Bool truth))
    → ((value : _) (sort : _) → P (layer.Number value sort)) → ((value start end : _) → P (layer.RangeConst value start end)) → ((text : List ℕ) → P (layer.Text text)) → P (layer.All (basis_in e)) → P (layer.Empty (basis_in e)) → P (layer.EmptyList (sort_in e))
    → ((name : List ℕ) → P (layer.PartitionOf name (first_term args))) → ((op : _) → P (layer.Apply op args)) → P (out-TermNode (term_node e args))
term_layer P e args variable constant truth number range text all empty empty_list element apply =
    pick At (has_name (codes "variable") e) _ _ (out _ _ (out_variable _ _ refl) (variable _))
    (pick At (has_name (codes "useroperator") e) _ _ (out _ _ (out_constant _ _ refl) (constant _))
    (pick At (has_name (codes "booleanconstant") e) _ _ (out _ _ (out_truth _ _ refl) (truth _))
    (pick At (has_name (codes "numberconstant") e) _ _ (out _ _ (out_number _ _ _ refl) (number _ _))
    (pick At (has_name (codes "finiteintrangeconstant") e) _ _ (out _ _ (out_range _ _ _ _ refl) (range _ _ _))
    (pick At (has_name (codes "stringconstant") e) _ _ (out _ _ (out_text _ _ refl) (text _))
    (pick At (has_name (codes "all") e) _ _ (out _ _ (out_all _ _ refl) all)
    (pick At (has_name (codes "empty") e) _ _ (out _ _ (out_empty _ _ refl) empty)
    (pick At (has_name (codes "emptylist") e) _ _ (out _ _ (out_empty_list _ _ refl) empty_list)
    (pick At (has_name (codes "partitionelementof") e) _ _ (out _ _ (out_element _ _ _ refl) (element _))
    (out _ _ (out_apply _ _ _ refl) (apply _)))))))))))
  where
    At : TermNode → Type 0
    At n = P (out-TermNode n)

    out : (n : TermNode) (l : Layer) → out-TermNode n ≡ l → P l → P (out-TermNode n)
    out n l is have = subst P (sym is) have

-- ---- sorts and terms in an element

-- the sort is what an element in the element says, or stands where none is written
abbrev pub IsSortIn : Element → SortExpr → Type 0
IsSortIn e s = (s ≡ no_sort) ⊎ IsSpelled sort_read e s

-- likewise a term
abbrev pub IsTermIn : Element → Term → Type 0
IsTermIn e t = (t ≡ no_term) ⊎ IsSpelled term_read e t

module _ (e : Element) where
  -- what an element in it says
  spelled : {A : Type 0} (read : Element → A) (x : Element) → IsWithin child_elements e x → IsSpelled read e (read x)
  spelled read x within = record { source = x; within = within; is = refl }

  found_within : (p : Element → Bool) (y : Element) → IsWithin child_elements e y → IfSome (find p (child_elements y)) (IsWithin child_elements e)
  found_within p y within = IfSome_then (find p (child_elements y)) (found p (child_elements y)) (λ x there. within_kid e y x within there.0)

  first_within : (y : Element) → IsWithin child_elements e y → IfSome (first_child y) (IsWithin child_elements e)
  first_within y within = by (first_child y) refl
    where
      by : (o : Option Element) → first_child y ≡ o → IfSome o (IsWithin child_elements e)
      by None is = tt
      by (Some x) is = within_kid e y x within (contains_at (child_elements y) 0 x is)

  -- what the kids of an element say
  kids_say : {A : Type 0} (Q : A → Type 0) (read : Element → A) (y : Element) → IsWithin child_elements e y → ((x : Element) → IsWithin child_elements e x → Q (read x)) → (a : A) → Contains (map read (child_elements y)) a → Q a
  kids_say Q read y within each a there =
      one_of Q (map read (child_elements y)) a (mapped_all Q read (child_elements y) (all_contained (λ x. Q (read x)) (child_elements y) (λ x c. each x (within_kid e y x within c)))) there

  pub said_sort : (x : Element) → IsWithin child_elements e x → IsSortIn e (sort_read x)
  said_sort x within = inr (spelled sort_read x within)

  sort_inside : (y : Element) → IsWithin child_elements e y → IsSortIn e (sort_in y)
  sort_inside y within = read_of (IsWithin child_elements e) (IsSortIn e) sort_read no_sort (first_child y) (first_within y within) (inl refl) said_sort

  basis_said : (y : Element) → IsWithin child_elements e y → IsSortIn e (basis_of y)
  basis_said y within = pick (IsSortIn e) (has_name (codes "multisetsort") y) (sort_in y) (sort_read y) (sort_inside y within) (said_sort y within)

  basis_inside : (y : Element) → IsWithin child_elements e y → IsSortIn e (basis_in y)
  basis_inside y within = read_of (IsWithin child_elements e) (IsSortIn e) basis_of no_sort (first_child y) (first_within y within) (inl refl) basis_said

  base_inside : (y : Element) → IsWithin child_elements e y → IsSortIn e (base_in y)
  base_inside y within = read_of (IsWithin child_elements e) (IsSortIn e) sort_read no_sort (find _ (child_elements y)) (found_within _ y within) (inl refl) said_sort

  said_term : (x : Element) → IsWithin child_elements e x → IsTermIn e (term_read x)
  said_term x within = inr (spelled term_read x within)

  term_within : (y : Element) → IsWithin child_elements e y → IsTermIn e (term_in y)
  term_within y within = read_of (IsWithin child_elements e) (IsTermIn e) term_read no_term (first_child y) (first_within y within) (inl refl) said_term

  -- ---- their parts

  sort_part : (s p : SortExpr) → IsSortIn e s → Contains (sorts_in s) p → IsSortIn e p
  sort_part s p (inl none) there =
      let bare : sorts_in s ≡ [] = ap sorts_in none ∙ ap sorts_in_layer (ap out-SortNode (sym sort_nodes.rolls-Dot) ∙ out-roll-SortNode sort_layer.Dot) in
      absurd (contains_nil p (subst (λ xs. Contains xs p) bare there))
  sort_part s p (inr from) there =
      let parts = map sort_read (child_elements from.source) in
      let whole : s ≡ sort_of_parts from.source parts = from.is ∙ sort_read_is from.source in
      sort_parts (IsSortIn e) from.source parts (kids_say (IsSortIn e) sort_read from.source from.within said_sort) (inl refl) p (subst (λ t. Contains (sorts_in t) p) whole there)

  sort_parts_within : (s x : SortExpr) → IsWithin sorts_in s x → IsSortIn e s → IsSortIn e x
  sort_parts_within s x (itself _ _ same) here = subst (IsSortIn e) (sym same) here
  sort_parts_within s x (inside _ _ p c rest) here = sort_parts_within p x rest (sort_part s p here c)

  -- the layer of a term, where there is one
  layer_said : (P : Layer → Type 0) (t : Term) → IsTermIn e t → P (layer.Bool false) → ((y : Element) → IsWithin child_elements e y → P (out-TermNode (term_node y (map term_in (child_elements y))))) → P (layer_of t)
  layer_said P t (inl none) lacks each = subst P (sym (ap layer_of none ∙ out_truth no_term.node false refl)) lacks
  layer_said P t (inr from) lacks each = subst P (sym (ap layer_of (from.is ∙ term_read_is from.source))) (each from.source from.within)

  term_part : (t p : Term) → IsTermIn e t → Contains (parts_of t) p → IsTermIn e p
  term_part t p here =
      layer_said (λ l. Contains (parts_in l) p → IsTermIn e p) t here none
      (λ y within. term_layer (λ l. Contains (parts_in l) p → IsTermIn e p) y (map term_in (child_elements y)) (λ _. none) (λ _. none) (λ _. none) (λ _ _. none) (λ _ _ _. none) (λ _. none) none none none
      (λ name there. subst (IsTermIn e) (sym (contains_one _ p there)) (first_of (IsTermIn e) (map term_in (child_elements y)) no_term (inl refl) (kids_say (IsTermIn e) term_in y within term_within)))
      (λ op. kids_say (IsTermIn e) term_in y within term_within p))
    where
      none : Contains [] p → IsTermIn e p
      none there = absurd (contains_nil p there)

  pub term_parts_within : (t x : Term) → IsPart t x → IsTermIn e t → IsTermIn e x
  term_parts_within t x (term_parts.itself _ _ same) here = subst (IsTermIn e) (sym same) here
  term_parts_within t x (term_parts.inside _ _ p c rest) here = term_parts_within p x rest (term_part t p here c)

  -- ---- their faults

  -- a sort that an element says has this fault
  abbrev pub HasSortFault : List Declaration → Fault → Type 0
  HasSortFault items f = (x : SortExpr) × IsSpelled sort_read e x × StandsAtSort items x f

  -- a term that an element says has this fault
  abbrev pub HasTermFault : List Declaration → Fault → Type 0
  HasTermFault items f = (x : Term) × IsSpelled term_read e x × StandsAt items x f

module _ (items : List Declaration) (f : Fault) where
  small_dot : IsBig sorts.Dot → ⊥
  small_dot (inl deep) = let lt : MAX_DEPTH < 1 = subst (λ n. MAX_DEPTH < n) (ap depth_of (sym sorts.rolls-Dot) ∙ fold-roll-Sort ℕ depth_step value_layer.Dot) deep in omega (arith, lt)
  small_dot (inr large) = let lt : MAX_NODES < 1 = subst (λ n. MAX_NODES < n) (ap nodes_of (sym sorts.rolls-Dot) ∙ fold-roll-Sort ℕ nodes_step value_layer.Dot) large in omega (arith, lt)

  -- where none is written there is none
  no_sort_fault : (x : SortExpr) → x ≡ no_sort → StandsAtSort items x f → ⊥
  no_sort_fault x none (unknown_sort _ _ name is _ _) = let bad : sort_nodes.Dot ≡ sort_nodes.User name = sym (ap (λ (s : SortExpr). s.node) none) ∙ is in absurd cc
  no_sort_fault x none (empty_range _ _ start end is _ _) = let bad : sort_nodes.Dot ≡ sort_nodes.Range start end = sym (ap (λ (s : SortExpr). s.node) none) ∙ is in absurd cc
  no_sort_fault x none (sort_too_big _ _ (s, (levels, is), big) _) =
      let says = sort_at (meaning items levels) x sort_layer.Dot (ap (λ (t : SortExpr). out-SortNode t.node) none ∙ ap out-SortNode (sym sort_nodes.rolls-Dot) ∙ out-roll-SortNode sort_layer.Dot) in
      let both : Some sorts.Dot ≡ Some s = sym says ∙ is in
      let same : sorts.Dot ≡ s = cc in
      small_dot (subst IsBig (sym same) big)

  no_term_fault : (x : Term) → x ≡ no_term → StandsAt items x f → ⊥
  no_term_fault x none (inl stands) = subst (λ l. StandsAlways items l x.at f) (ap layer_of none ∙ out_truth no_term.node false refl) stands
  no_term_fault x none (inr (ts, have, stands)) = subst (λ l. StandsWith items l ts x.at f) (ap layer_of none ∙ out_truth no_term.node false refl) stands

  module _ (e : Element) where
    pub sort_blamed : (s : SortExpr) → IsSortIn e s → StandsInSort items s f → HasSortFault e items f
    sort_blamed s here (x, part, stands) = by (sort_parts_within e s x (within_sort s x part) here)
      where
        by : IsSortIn e x → HasSortFault e items f
        by (inl none) = absurd (no_sort_fault x none stands)
        by (inr from) = (x, from, stands)

    pub term_blamed : (t : Term) → IsTermIn e t → StandsIn items t f → HasTermFault e items f
    term_blamed t here (x, part, stands) = by (term_parts_within e t x part here)
      where
        by : IsTermIn e x → HasTermFault e items f
        by (inl none) = absurd (no_term_fault x none stands)
        by (inr from) = (x, from, stands)

    -- the sorts that a term writes
    pub written_blamed : (t : Term) → IsTermIn e t → SortStandsIn items t f → HasSortFault e items f
    written_blamed t here (x, part, stands) =
        layer_said e Blamed x (term_parts_within e t x part here) (λ bad. absurd bad)
        (λ y within. term_layer Blamed y (map term_in (child_elements y)) (λ _ bad. absurd bad) (λ _ bad. absurd bad) (λ _ bad. absurd bad) (λ _ _ bad. absurd bad) (λ _ _ _ bad. absurd bad) (λ _ bad. absurd bad)
        (sort_blamed (basis_in y) (basis_inside e y within)) (sort_blamed (basis_in y) (basis_inside e y within)) (sort_blamed (sort_in y) (sort_inside e y within)) (λ _ bad. absurd bad) (λ _ bad. absurd bad)) stands
      where
        Blamed : Layer → Type 0
        Blamed l = SortStandsAt items l f → HasSortFault e items f

-- the sort of a declaration
pub declared_sort : (e : Element) (d : Declaration) → IsSpelled declaration_read e d → IfSome (expr_of d) (IsSortIn e)
declared_sort e d from = subst Writes (sym from.is) (said from.source from.within)
  where
    Writes : Declaration → Type 0
    Writes c = IfSome (expr_of c) (IsSortIn e)

    body_said : (id : List ℕ) (name : _) (offset : ℕ) (y : Element) → IsWithin child_elements e y → Writes (declarations.Named id name (body_in y) offset)
    body_said id name offset y within =
        read_of (IsWithin child_elements e) (λ (b : SortBody). Writes (declarations.Named id name b offset)) body_of (bodies.Plain no_sort) (first_child y) (first_within e y within) (inl refl)
        (λ x there. pick (λ (b : SortBody). Writes (declarations.Named id name b offset)) (has_name (codes "finiteenumeration") x) (bodies.Finite (map constant_read (child_elements x))) _ tt
        (pick (λ (b : SortBody). Writes (declarations.Named id name b offset)) (has_name (codes "cyclicenumeration") x) (bodies.Cyclic (map constant_read (child_elements x))) (bodies.Plain (sort_read x)) tt (said_sort e x there)))

    said : (y : Element) → IsWithin child_elements e y → Writes (declaration_read y)
    said y within =
        pick Writes (has_name (codes "variabledecl") y) (variable_read y) _ (sort_inside e y within)
        (pick Writes (has_name (codes "partition") y) (partition_read y) (named_read y) (base_inside e y within) (body_said (attribute_of (codes "id") y) (attr_value (codes "name") y.attrs) y.at y within))
