-- What an element without its offsets spells is what it spells, without offsets.
use Rattle.std.proofs.Common.{◌≡◌, ℕ, zero, suc, ◌+◌, false, cond, ℤ, pos, List, [], ◌∷◌, map, codes, refl, sym, ap, ◌∙◌, arith}
use Rattle.std.specs.Option.{option_map, unwrap_or}
use Rattle.std.specs.Str.{bytes_eq}
use Rattle.pn_markup.proofs.OffsetLemmas.{without_offsets_is}
use Rattle.pn_markup.specs.Offsets.{without_offsets}
use Rattle.pn_round_trip.proofs.OffsetLemmas.{SortLayer, TermLayer, bare_sort_layer, bare_sort_node, bare_sort_rolled, bare_term_layer, bare_term_node, bare_term_rolled}
use Rattle.pn_spelling.proofs.ReadLemmas.{sort_levels, sort_of_parts, term_levels, term_of_parts}
use Rattle.pn_spelling.specs.Parts.{attribute_of, child_elements, end_in, first_child, has_name, number_at, start_in}
use Rattle.pn_spelling.specs.ReadSorts.{first_sort, no_sort, sort_in, sort_node, sort_read, sort_within}
use Rattle.pn_spelling.specs.ReadTerms.{basis_in, basis_of, first_term, no_term, number_sort_in, number_sort_of, operator_named, term_inside, term_node, term_read, term_within}
use Rattle.pn_syntax.specs.Offsets as sorts
use Rattle.pn_syntax.specs.Offsets.{sort_without_offsets}
use Rattle.pn_syntax.specs.TermOffsets as terms
use Rattle.pn_syntax.specs.TermOffsets.{node_without_offsets, term_without_offsets}
use Rattle.pn_syntax.specs.declared.sort_expr.SortExpr.{SortExpr}
use Rattle.pn_syntax.specs.declared.sort_expr.SortNode.{SortNode}
use Rattle.pn_syntax.specs.declared.sort_expr.SortNode.TheOpen as layer
use Rattle.pn_syntax.specs.declared.sort_expr.SortNode.TheVariants as nodes
use Rattle.pn_syntax.specs.declared.sort_expr.SortNode.TheVariants.{rolls-Dot, rolls-Bool, rolls-Range, rolls-Product, rolls-User, rolls-Integer, rolls-Natural, rolls-Positive, rolls-Text, rolls-List}
use Rattle.pn_syntax.specs.declared.sort_expr.SortNode.TheViews.{roll-SortNode}
use Rattle.pn_syntax.specs.declared.sort_expr.SortNode.TheFolds.{fold_out-SortExpr}
use Rattle.pn_syntax.specs.declared.term.NumberSort.{NumberSort}
use Rattle.pn_syntax.specs.declared.term.NumberSort.TheVariants as numbers
use Rattle.pn_syntax.specs.declared.term.Term.{Term}
use Rattle.pn_syntax.specs.declared.term.TermNode.{TermNode}
use Rattle.pn_syntax.specs.declared.term.TermNode.TheOpen as term_layer
use Rattle.pn_syntax.specs.declared.term.TermNode.TheVariants as term_nodes
use Rattle.pn_syntax.specs.declared.term.TermNode.TheVariants.{rolls-Variable, rolls-UserOp, rolls-Number, rolls-RangeConst, rolls-All, rolls-Empty, rolls-EmptyList, rolls-PartitionOf, rolls-Apply}
use Rattle.pn_syntax.specs.declared.term.TermNode.TheViews.{roll-TermNode}
use Rattle.pn_syntax.specs.declared.term.TermNode.TheFolds.{fold_out-Term}
use Rattle.pn_tree.specs.Depth.{depth_of}
use Rattle.pn_tree.specs.declared.element.Element.{Element}
use Rattle.pn_documents.proofs.BlindLemmas.{children_bare, cond_each, first_child_bare, map_each, name_bare, or_else_each}

-- ---- sorts

sort_bare_is : (e : SortExpr) → sort_without_offsets e ≡ record { at = 0; node = bare_sort_node e.node }
sort_bare_is e = fold_out-SortExpr SortNode SortExpr roll-SortNode sorts.at_zero e

-- a node, by its layer
node_bare : (l : SortLayer) (n m : SortNode) → roll-SortNode l ≡ n → roll-SortNode (bare_sort_layer l) ≡ m → m ≡ bare_sort_node n
node_bare l n m is also = sym also ∙ sym (bare_sort_rolled l) ∙ ap bare_sort_node is

pub no_sort_bare : no_sort ≡ sort_without_offsets no_sort
no_sort_bare = ap (λ n. record { at = 0; node = n }) (node_bare layer.Dot nodes.Dot nodes.Dot rolls-Dot rolls-Dot) ∙ sym (sort_bare_is no_sort)

first_sort_bare : (parts : List SortExpr) → first_sort (map sort_without_offsets parts) ≡ sort_without_offsets (first_sort parts)
first_sort_bare [] = no_sort_bare
first_sort_bare (x ∷ xs) = refl

node_each : (e : Element) (parts : List SortExpr) → sort_node e (map sort_without_offsets parts) ≡ bare_sort_node (sort_node e parts)
node_each e parts =
    let start = number_at (codes "start") e in
    let end = number_at (codes "end") e in
    let name = attribute_of (codes "declaration") e in
    let bare = map sort_without_offsets parts in
    either (codes "bool") nodes.Bool nodes.Bool _ _ (node_bare layer.Bool nodes.Bool nodes.Bool rolls-Bool rolls-Bool) (
    either (codes "finiteintrange") (nodes.Range start end) (nodes.Range start end) _ _ (node_bare (layer.Range start end) (nodes.Range start end) (nodes.Range start end) (rolls-Range start end) (rolls-Range start end)) (
    either (codes "productsort") (nodes.Product parts) (nodes.Product bare) _ _ (node_bare (layer.Product parts) (nodes.Product parts) (nodes.Product bare) (rolls-Product parts) (rolls-Product bare)) (
    either (codes "usersort") (nodes.User name) (nodes.User name) _ _ (node_bare (layer.User name) (nodes.User name) (nodes.User name) (rolls-User name) (rolls-User name)) (
    either (codes "integer") nodes.Integer nodes.Integer _ _ (node_bare layer.Integer nodes.Integer nodes.Integer rolls-Integer rolls-Integer) (
    either (codes "natural") nodes.Natural nodes.Natural _ _ (node_bare layer.Natural nodes.Natural nodes.Natural rolls-Natural rolls-Natural) (
    either (codes "positive") nodes.Positive nodes.Positive _ _ (node_bare layer.Positive nodes.Positive nodes.Positive rolls-Positive rolls-Positive) (
    either (codes "string") nodes.Text nodes.Text _ _ (node_bare layer.Text nodes.Text nodes.Text rolls-Text rolls-Text) (
    either (codes "list") (nodes.List (first_sort parts)) (nodes.List (first_sort bare)) _ _ items (node_bare layer.Dot nodes.Dot nodes.Dot rolls-Dot rolls-Dot)))))))))
  where
    items : nodes.List (first_sort (map sort_without_offsets parts)) ≡ bare_sort_node (nodes.List (first_sort parts))
    items =
        ap nodes.List (first_sort_bare parts)
        ∙ node_bare (layer.List (first_sort parts)) (nodes.List (first_sort parts)) (nodes.List (sort_without_offsets (first_sort parts))) (rolls-List (first_sort parts)) (rolls-List (sort_without_offsets (first_sort parts)))

    either : (named : List ℕ) (x u y v : SortNode) → u ≡ bare_sort_node x → v ≡ bare_sort_node y → cond (has_name named e) u v ≡ bare_sort_node (cond (has_name named e) x y)
    either named x u y v p q = cond_each bare_sort_node (has_name named e) x y u v p q

parts_bare : (e : Element) (parts : List SortExpr) → sort_of_parts (without_offsets e) (map sort_without_offsets parts) ≡ sort_without_offsets (sort_of_parts e parts)
parts_bare e parts =
    ap (λ x. sort_of_parts x (map sort_without_offsets parts)) (without_offsets_is e) ∙ ap (λ n. record { at = 0; node = n }) (node_each e parts) ∙ sym (sort_bare_is (sort_of_parts e parts))

within_sort : (n : ℕ) (e : Element) → sort_within n (without_offsets e) ≡ sort_without_offsets (sort_within n e)
unfolding sort_within
within_sort zero e = no_sort_bare
within_sort (suc n) e =
    ap (λ xs. sort_of_parts (without_offsets e) (map (sort_within n) xs)) (children_bare e)
    ∙ ap (sort_of_parts (without_offsets e)) (map_each (sort_within n) without_offsets sort_without_offsets (sort_within n) (within_sort n) (child_elements e))
    ∙ parts_bare e (map (sort_within n) (child_elements e))

pub sort_read_bare : (e : Element) → sort_read (without_offsets e) ≡ sort_without_offsets (sort_read e)
sort_read_bare e =
    let n = depth_of e + depth_of (without_offsets e) in
    sort_levels (depth_of (without_offsets e)) n (without_offsets e) (omega arith) (omega arith) ∙ within_sort n e ∙ ap sort_without_offsets (sort_levels n (depth_of e) e (omega arith) (omega arith))

-- the sort of the first element in one
first_read_bare : (read : Element → SortExpr) → ((x : Element) → read (without_offsets x) ≡ sort_without_offsets (read x)) → (e : Element)
    → unwrap_or (option_map read (first_child (without_offsets e))) no_sort ≡ sort_without_offsets (unwrap_or (option_map read (first_child e)) no_sort)
first_read_bare read same e =
    ap (λ o. unwrap_or (option_map read o) no_sort) (first_child_bare e) ∙ or_else_each read without_offsets sort_without_offsets read no_sort no_sort same no_sort_bare (first_child e)

pub sort_in_bare : (e : Element) → sort_in (without_offsets e) ≡ sort_without_offsets (sort_in e)
sort_in_bare = first_read_bare sort_read sort_read_bare

basis_of_bare : (e : Element) → basis_of (without_offsets e) ≡ sort_without_offsets (basis_of e)
basis_of_bare e =
    ap (λ b. cond b (sort_in (without_offsets e)) (sort_read (without_offsets e))) (name_bare (codes "multisetsort") e)
    ∙ cond_each sort_without_offsets (has_name (codes "multisetsort") e) (sort_in e) (sort_read e) (sort_in (without_offsets e)) (sort_read (without_offsets e)) (sort_in_bare e) (sort_read_bare e)

basis_in_bare : (e : Element) → basis_in (without_offsets e) ≡ sort_without_offsets (basis_in e)
basis_in_bare = first_read_bare basis_of basis_of_bare

-- ---- terms

-- what is told of the first element in one, where offsets don't matter to it
same_first : {A : Type 0} (f : Element → A) (d : A) → ((x : Element) → f (without_offsets x) ≡ f x) → (e : Element)
    → unwrap_or (option_map f (first_child (without_offsets e))) d ≡ unwrap_or (option_map f (first_child e)) d
same_first f d same e = ap (λ o. unwrap_or (option_map f o) d) (first_child_bare e) ∙ or_else_each f without_offsets (λ x. x) f d d same refl (first_child e)

pub number_bare : (name : List ℕ) (e : Element) → number_at name (without_offsets e) ≡ number_at name e
number_bare name e = ap (number_at name) (without_offsets_is e)

pub start_bare : (e : Element) → start_in (without_offsets e) ≡ start_in e
start_bare = same_first (number_at (codes "start")) (pos 0) (number_bare (codes "start"))

pub end_bare : (e : Element) → end_in (without_offsets e) ≡ end_in e
end_bare = same_first (number_at (codes "end")) (pos 0) (number_bare (codes "end"))

number_sort_bare : (e : Element) → number_sort_in (without_offsets e) ≡ number_sort_in e
number_sort_bare = same_first number_sort_of numbers.Integer (λ x. ap number_sort_of (without_offsets_is x))

term_bare_is : (e : Term) → term_without_offsets e ≡ record { at = 0; node = bare_term_node e.node }
term_bare_is e = fold_out-Term TermNode Term node_without_offsets terms.at_zero e

term_node_bare : (l : TermLayer) (n m : TermNode) → roll-TermNode l ≡ n → roll-TermNode (bare_term_layer l) ≡ m → m ≡ bare_term_node n
term_node_bare l n m is also = sym also ∙ sym (bare_term_rolled l) ∙ ap bare_term_node is

no_term_bare : no_term ≡ term_without_offsets no_term
no_term_bare =
    ap (λ n. record { at = 0; node = n }) (term_node_bare (term_layer.Bool false) (term_nodes.Bool false) (term_nodes.Bool false) (term_nodes.rolls-Bool false) (term_nodes.rolls-Bool false)) ∙ sym (term_bare_is no_term)

first_term_bare : (parts : List Term) → first_term (map term_without_offsets parts) ≡ term_without_offsets (first_term parts)
first_term_bare [] = no_term_bare
first_term_bare (x ∷ xs) = refl

-- what a term element says where these are what stands in it
abbrev term_says : Element → ℤ → ℤ → NumberSort → SortExpr → SortExpr → List Term → TermNode
term_says e start end number basis sort arguments =
    cond (has_name (codes "variable") e) (term_nodes.Variable (attribute_of (codes "refvariable") e)) (
    cond (has_name (codes "useroperator") e) (term_nodes.UserOp (attribute_of (codes "declaration") e)) (
    cond (has_name (codes "booleanconstant") e) (term_nodes.Bool (bytes_eq (attribute_of (codes "value") e) (codes "true"))) (
    cond (has_name (codes "numberconstant") e) (term_nodes.Number (number_at (codes "value") e) number) (
    cond (has_name (codes "finiteintrangeconstant") e) (term_nodes.RangeConst (number_at (codes "value") e) start end) (
    cond (has_name (codes "stringconstant") e) (term_nodes.Text (attribute_of (codes "value") e)) (
    cond (has_name (codes "all") e) (term_nodes.All basis) (
    cond (has_name (codes "empty") e) (term_nodes.Empty basis) (
    cond (has_name (codes "emptylist") e) (term_nodes.EmptyList sort) (
    cond (has_name (codes "partitionelementof") e) (term_nodes.PartitionOf (attribute_of (codes "refpartition") e) (first_term arguments))
    (term_nodes.Apply (operator_named e.name) arguments))))))))))

term_node_bare_is : (e : Element) (arguments : List Term) → term_node (without_offsets e) arguments ≡ term_says e (start_in e) (end_in e) (number_sort_in e) (sort_without_offsets (basis_in e)) (sort_without_offsets (sort_in e)) arguments
term_node_bare_is e arguments =
    (λ i. term_says (without_offsets_is e i) (start_bare e i) (end_bare e i) (number_sort_bare e i) (basis_in_bare e i) (sort_in_bare e i) arguments)

term_each : (e : Element) (start end : ℤ) (number : NumberSort) (basis sort : SortExpr) (arguments : List Term)
    → term_says e start end number (sort_without_offsets basis) (sort_without_offsets sort) (map term_without_offsets arguments) ≡ bare_term_node (term_says e start end number basis sort arguments)
term_each e start end number basis sort arguments =
    let variable = attribute_of (codes "refvariable") e in
    let name = attribute_of (codes "declaration") e in
    let truth = bytes_eq (attribute_of (codes "value") e) (codes "true") in
    let value = number_at (codes "value") e in
    let text = attribute_of (codes "value") e in
    let partition = attribute_of (codes "refpartition") e in
    let op = operator_named e.name in
    let bare_basis = sort_without_offsets basis in
    let bare_sort = sort_without_offsets sort in
    let bare = map term_without_offsets arguments in
    either (codes "variable") (term_nodes.Variable variable) (term_nodes.Variable variable) _ _ (term_node_bare (term_layer.Variable variable) (term_nodes.Variable variable) (term_nodes.Variable variable) (rolls-Variable variable) (rolls-Variable variable)) (
    either (codes "useroperator") (term_nodes.UserOp name) (term_nodes.UserOp name) _ _ (term_node_bare (term_layer.UserOp name) (term_nodes.UserOp name) (term_nodes.UserOp name) (rolls-UserOp name) (rolls-UserOp name)) (
    either (codes "booleanconstant") (term_nodes.Bool truth) (term_nodes.Bool truth) _ _ (term_node_bare (term_layer.Bool truth) (term_nodes.Bool truth) (term_nodes.Bool truth) (term_nodes.rolls-Bool truth) (term_nodes.rolls-Bool truth)) (
    either (codes "numberconstant") (term_nodes.Number value number) (term_nodes.Number value number) _ _ (term_node_bare (term_layer.Number value number) (term_nodes.Number value number) (term_nodes.Number value number) (rolls-Number value number) (rolls-Number value number)) (
    either (codes "finiteintrangeconstant") (term_nodes.RangeConst value start end) (term_nodes.RangeConst value start end) _ _
    (term_node_bare (term_layer.RangeConst value start end) (term_nodes.RangeConst value start end) (term_nodes.RangeConst value start end) (rolls-RangeConst value start end) (rolls-RangeConst value start end)) (
    either (codes "stringconstant") (term_nodes.Text text) (term_nodes.Text text) _ _ (term_node_bare (term_layer.Text text) (term_nodes.Text text) (term_nodes.Text text) (term_nodes.rolls-Text text) (term_nodes.rolls-Text text)) (
    either (codes "all") (term_nodes.All basis) (term_nodes.All bare_basis) _ _ (term_node_bare (term_layer.All basis) (term_nodes.All basis) (term_nodes.All bare_basis) (rolls-All basis) (rolls-All bare_basis)) (
    either (codes "empty") (term_nodes.Empty basis) (term_nodes.Empty bare_basis) _ _ (term_node_bare (term_layer.Empty basis) (term_nodes.Empty basis) (term_nodes.Empty bare_basis) (rolls-Empty basis) (rolls-Empty bare_basis)) (
    either (codes "emptylist") (term_nodes.EmptyList sort) (term_nodes.EmptyList bare_sort) _ _ (term_node_bare (term_layer.EmptyList sort) (term_nodes.EmptyList sort) (term_nodes.EmptyList bare_sort) (rolls-EmptyList sort) (rolls-EmptyList bare_sort)) (
    either (codes "partitionelementof") (term_nodes.PartitionOf partition (first_term arguments)) (term_nodes.PartitionOf partition (first_term bare)) _ _ partitioned
    (term_node_bare (term_layer.Apply op arguments) (term_nodes.Apply op arguments) (term_nodes.Apply op bare) (rolls-Apply op arguments) (rolls-Apply op bare)))))))))))
  where
    partitioned : term_nodes.PartitionOf (attribute_of (codes "refpartition") e) (first_term (map term_without_offsets arguments)) ≡ bare_term_node (term_nodes.PartitionOf (attribute_of (codes "refpartition") e) (first_term arguments))
    partitioned =
        let partition = attribute_of (codes "refpartition") e in
        ap (term_nodes.PartitionOf partition) (first_term_bare arguments)
        ∙ term_node_bare (term_layer.PartitionOf partition (first_term arguments)) (term_nodes.PartitionOf partition (first_term arguments)) (term_nodes.PartitionOf partition (term_without_offsets (first_term arguments)))
        (rolls-PartitionOf partition (first_term arguments)) (rolls-PartitionOf partition (term_without_offsets (first_term arguments)))

    either : (named : List ℕ) (x u y v : TermNode) → u ≡ bare_term_node x → v ≡ bare_term_node y → cond (has_name named e) u v ≡ bare_term_node (cond (has_name named e) x y)
    either named x u y v p q = cond_each bare_term_node (has_name named e) x y u v p q

term_parts_bare : (e : Element) (arguments : List Term) → term_of_parts (without_offsets e) (map term_without_offsets arguments) ≡ term_without_offsets (term_of_parts e arguments)
term_parts_bare e arguments =
    (λ i. record { at = ap (λ x. x.at) (without_offsets_is e) i; node = term_node_bare_is e (map term_without_offsets arguments) i })
    ∙ ap (λ n. record { at = 0; node = n }) (term_each e (start_in e) (end_in e) (number_sort_in e) (basis_in e) (sort_in e) arguments) ∙ sym (term_bare_is (term_of_parts e arguments))

inside_bare : (read : Element → Term) → ((x : Element) → read (without_offsets x) ≡ term_without_offsets (read x)) → (e : Element) → term_inside read (without_offsets e) ≡ term_without_offsets (term_inside read e)
inside_bare read same e =
    ap (λ o. unwrap_or (option_map read o) no_term) (first_child_bare e) ∙ or_else_each read without_offsets term_without_offsets read no_term no_term same no_term_bare (first_child e)

within_term : (n : ℕ) (e : Element) → term_within n (without_offsets e) ≡ term_without_offsets (term_within n e)
unfolding term_within
within_term zero e = no_term_bare
within_term (suc n) e =
    ap (λ xs. term_of_parts (without_offsets e) (map (term_inside (term_within n)) xs)) (children_bare e)
    ∙ ap (term_of_parts (without_offsets e)) (map_each (term_inside (term_within n)) without_offsets term_without_offsets (term_inside (term_within n)) (inside_bare (term_within n) (within_term n)) (child_elements e))
    ∙ term_parts_bare e (map (term_inside (term_within n)) (child_elements e))

pub term_read_bare : (e : Element) → term_read (without_offsets e) ≡ term_without_offsets (term_read e)
term_read_bare e =
    let n = depth_of e + depth_of (without_offsets e) in
    term_levels (depth_of (without_offsets e)) n (without_offsets e) (omega arith) (omega arith) ∙ within_term n e ∙ ap term_without_offsets (term_levels n (depth_of e) e (omega arith) (omega arith))
