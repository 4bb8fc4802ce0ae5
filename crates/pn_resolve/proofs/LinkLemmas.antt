-- The edges of the graph of declarations, and what they tell of what leads where.
use Rattle.std.proofs.Common.{◌≡◌, ◌⊎◌, inl, inr, ℕ, zero, suc, ◌≤◌, Bool, true, false, cond, List, [], ◌∷◌, ◌++◌, length, get_or, map, Option, Some, None, refl, sym, ap, ◌∙◌, subst, arith}
use Rattle.std.specs.List.{Contains, flat_map, slice_get}
use Rattle.std.specs.Option.{option_to_list}
use Rattle.std.proofs.lemmas.Option.{slice_get_cases}
use Rattle.pn_syntax.specs.declared.declaration.Declaration.{Declaration}
use Rattle.pn_syntax.specs.declared.sort_expr.SortExpr.{SortExpr}
use Rattle.pn_syntax.specs.declared.sort_expr.SortNode.{SortNode, map-SortNode}
use Rattle.pn_syntax.specs.declared.sort_expr.SortNode.TheOpen as layer
use Rattle.pn_syntax.specs.declared.sort_expr.SortNode.TheVariants as nodes
use Rattle.pn_syntax.specs.declared.sort_expr.SortNode.TheViews.{out-SortNode}
use Rattle.pn_syntax.specs.declared.sort_expr.SortNode.TheFolds.{fold-SortNode, fold_out-SortExpr, fold_out-SortNode}
use Rattle.pn_cycles.specs.Graphs.{IsEdge, Leads, by_edge, by_path, IsWhole}
use Rattle.pn_names.specs.Names.{names_of}
use Rattle.pn_resolve.specs.Links.{places_in, places_of, place_by, places_of_some, leads_from, row_of, IsGraph}
use Rattle.pn_resolve.specs.declared.links.Sources.{Sources}
use Rattle.pn_resolve.specs.Standing.{IsSortPart, itself, product, list, NamesPlace, LeadsTo, directly, through, is_named, expr_of}
use Rattle.pn_facts.proofs.Contained.{contains_nil, contains_first, contains_one, contains_all_of, contains_some_of}
use Rattle.pn_resolve.proofs.Expressions.{NodeLayer, IsIn, expr_ind, out_product, out_list, out_user, is_user, part_of_part}
use Rattle.pn_resolve.proofs.NameLemmas.{place_is_within}

module _ (place : List ℕ → Option ℕ) where
  abbrev of_layer : NodeLayer → List ℕ
  of_layer l = places_in place (map-SortNode SortNode SortExpr (List ℕ) (List ℕ) (fold-SortNode (List ℕ) (List ℕ) (places_in place) (λ e. e.node)) (places_of place) l)

  places_at : (e : SortExpr) (l : NodeLayer) → out-SortNode e.node ≡ l → places_of place e ≡ of_layer l
  places_at e l is =
      fold_out-SortExpr (List ℕ) (List ℕ) (places_in place) (λ e. e.node) e
      ∙ fold_out-SortNode (List ℕ) (List ℕ) (places_in place) (λ e. e.node) e.node
      ∙ ap of_layer is

  flat : (ps : List SortExpr) → flat_map (λ part. part) (map (places_of place) ps) ≡ flat_map (places_of place) ps
  flat [] = refl
  flat (p ∷ ps) = ap (λ l. places_of place p ++ l) (flat ps)

  -- the place of each name in an expression is one of its places
  pub places_complete : (e x : SortExpr) (name : List ℕ) (k : ℕ) → IsSortPart e x → x.node ≡ nodes.User name → place name ≡ Some k → Contains (places_of place e) k
  places_complete e x name k (itself _ _ same) node is =
      subst (λ l. Contains l k) (sym (places_at e (layer.User name) (out_user e.node name (ap (λ y. y.node) (sym same) ∙ node)) ∙ ap option_to_list is)) (contains_first k [])
  places_complete e x name k (product _ _ p parts node c rest) at is =
      subst (λ l. Contains l k) (sym (places_at e (layer.Product parts) (out_product e.node parts node) ∙ flat parts)) (contains_all_of (places_of place) parts p k c (places_complete p x name k rest at is))
  places_complete e x name k (list _ _ p node rest) at is =
      subst (λ l. Contains l k) (sym (places_at e (layer.List p) (out_list e.node p node))) (places_complete p x name k rest at is)

  pub record IsNamedIn (e : SortExpr) (k : ℕ) : Type 0 where
    pub part : SortExpr
    pub name : List ℕ
    pub is_part : IsSortPart e part
    pub is_user : part.node ≡ nodes.User name
    pub is_place : place name ≡ Some k

  abbrev AreNamed : SortExpr → Type 0
  AreNamed e = (k : ℕ) → Contains (places_of place e) k → IsNamedIn e k

  lifted : (l : NodeLayer) (e p : SortExpr) (k : ℕ) → out-SortNode e.node ≡ l → IsIn l p → IsNamedIn p k → IsNamedIn e k
  lifted l e p k at is n = record { part = n.part; name = n.name; is_part = part_of_part l e p n.part at is n.is_part; is_user = n.is_user; is_place = n.is_place }

  user_named : (e : SortExpr) (name : List ℕ) → out-SortNode e.node ≡ layer.User name → (o : Option ℕ) → place name ≡ o → (k : ℕ) → Contains (option_to_list o) k → IsNamedIn e k
  user_named e name at None is k c = absurd (contains_nil k c)
  user_named e name at (Some j) is k c = record { part = e; name = name; is_part = itself e e refl; is_user = is_user e.node name at; is_place = is ∙ ap Some (sym (contains_one j k c)) }

  named_step : (l : NodeLayer) (e : SortExpr) → out-SortNode e.node ≡ l → ((p : SortExpr) → IsIn l p → AreNamed p) → AreNamed e
  named_step layer.Dot e at have k c = absurd (contains_nil k (subst (λ l. Contains l k) (places_at e layer.Dot at) c))
  named_step layer.Bool e at have k c = absurd (contains_nil k (subst (λ l. Contains l k) (places_at e layer.Bool at) c))
  named_step (layer.Range start end) e at have k c = absurd (contains_nil k (subst (λ l. Contains l k) (places_at e (layer.Range start end) at) c))
  named_step (layer.Product parts) e at have k c =
      let p = contains_some_of (places_of place) parts k (subst (λ l. Contains l k) (places_at e (layer.Product parts) at ∙ flat parts) c) in
      lifted (layer.Product parts) e p.0 k at p.1 (have p.0 p.1 k p.2)
  named_step (layer.User name) e at have k c = user_named e name at (place name) refl k (subst (λ l. Contains l k) (places_at e (layer.User name) at) c)
  named_step layer.Integer e at have k c = absurd (contains_nil k (subst (λ l. Contains l k) (places_at e layer.Integer at) c))
  named_step layer.Natural e at have k c = absurd (contains_nil k (subst (λ l. Contains l k) (places_at e layer.Natural at) c))
  named_step layer.Positive e at have k c = absurd (contains_nil k (subst (λ l. Contains l k) (places_at e layer.Positive at) c))
  named_step layer.Text e at have k c = absurd (contains_nil k (subst (λ l. Contains l k) (places_at e layer.Text at) c))
  named_step (layer.List part) e at have k c =
      lifted (layer.List part) e part k at refl (have part refl k (subst (λ l. Contains l k) (places_at e (layer.List part) at) c))

  -- each place of an expression is that of a name in it
  pub places_sound : (e : SortExpr) (k : ℕ) → Contains (places_of place e) k → IsNamedIn e k
  places_sound e k c = expr_ind AreNamed named_step e k c

pub past_end : {X : Type 0} (xs : List (List X)) (k : ℕ) → length xs ≤ k → get_or xs k [] ≡ []
past_end [] k le = refl
past_end (x ∷ xs) zero le = absurd (omega arith)
past_end (x ∷ xs) (suc k) le = past_end xs k (omega arith)

module _ (items : List Declaration) (sources : Sources) (graph : List (List ℕ)) (is : IsGraph items (names_of items) sources graph) where
  -- an edge leads from a source to a declaration that it names
  pub record Edge (from to : ℕ) : Type 0 where
    pub declaration : Declaration
    pub stands : slice_get items from ≡ Some declaration
    pub is_source : leads_from sources from declaration ≡ true
    pub names : NamesPlace items from to

  row_names : (from to : ℕ) (d : Declaration) → slice_get items from ≡ Some d → (o : Option SortExpr) → expr_of d ≡ o → (b : Bool) → leads_from sources from d ≡ b
      → Contains (cond b (places_of_some (place_by (names_of items)) o) []) to → Edge from to
  row_names from to d stands o expr false source c = absurd (contains_nil to c)
  row_names from to d stands None expr true source c = absurd (contains_nil to c)
  row_names from to d stands (Some e) expr true source c =
      let n = places_sound (place_by (names_of items)) e to c in
      record {
        declaration = d;
        stands = stands;
        is_source = source;
        names = record { declaration = d; stands = stands; whole = e; is_sort = expr; part = n.part; is_part = n.is_part; name = n.name; is_user = n.is_user; is_name = n.is_place };
      }

  pub edge_names : (from to : ℕ) → IsEdge graph from to → Edge from to
  edge_names from to e = elim (slice_get_cases items from).1 [
    | inl in' ↦ row_names from to in'.0 in'.2 (expr_of in'.0) refl (leads_from sources from in'.0) refl (subst (λ l. Contains l to) (is.rows from in'.0 in'.2) e)
    | inr out ↦ absurd (contains_nil to (subst (λ l. Contains l to) (past_end graph from (omega (arith, is.sized, out.0))) e))
  ]

  pub names_edge : (from to : ℕ) (n : NamesPlace items from to) → leads_from sources from n.declaration ≡ true → IsEdge graph from to
  names_edge from to n source =
      let row : row_of (names_of items) sources from n.declaration ≡ places_of (place_by (names_of items)) n.whole =
      ap (λ b. cond b (places_of_some (place_by (names_of items)) (expr_of n.declaration)) []) source ∙ ap (places_of_some (place_by (names_of items))) n.is_sort in
      subst (λ l. Contains l to) (sym (is.rows from n.declaration n.stands ∙ row)) (places_complete (place_by (names_of items)) n.whole n.part n.name to n.is_part n.is_user n.is_name)

  pub is_whole : IsWhole graph
  is_whole = record { ends = λ from to e. let edge = edge_names from to e in let lt = place_is_within items edge.names.name to edge.names.is_name in omega (arith, is.sized) }

  same_declaration : (from : ℕ) (d d' : Declaration) → slice_get items from ≡ Some d → slice_get items from ≡ Some d' → d ≡ d'
  same_declaration from d d' a b = let e : Some d ≡ Some d' = sym a ∙ b in cc

  first_edge : (from to : ℕ) → Leads graph from to → (next : ℕ) × IsEdge graph from next
  first_edge from to (by_edge {end = end} e) = (end, e)
  first_edge from to (by_path {via = via} e rest) = (via, e)

  -- where edges lead only from `namedsort`s and from the declaration in question, what leads there in the graph leads there in the declarations
  pub leads_to : (target : ℕ) → ((place : ℕ) (d : Declaration) → leads_from sources place d ≡ true → (is_named d ≡ true) ⊎ (place ≡ target)) → (from to : ℕ) → Leads graph from to → to ≡ target → LeadsTo items from target
  leads_to target only from to (by_edge e) same = directly from target (subst (λ k. NamesPlace items from k) same (edge_names from to e).names)
  leads_to target only from to (by_path {via = via} e rest) same =
      let next = first_edge via to rest in
      let edge = edge_names via next.0 next.1 in
      elim (only via edge.declaration edge.is_source) [
        | inl named ↦ through from via target (edge_names from via e).names (edge.declaration, edge.stands, named) (leads_to target only via to rest same)
        | inr here ↦ directly from target (subst (λ k. NamesPlace items from k) here (edge_names from via e).names)
      ]

  -- where edges lead from all `namedsort`s, what leads somewhere in the declarations leads there in the graph
  pub leads_in_graph : ((place : ℕ) (d : Declaration) → is_named d ≡ true → leads_from sources place d ≡ true) → (from to : ℕ) → LeadsTo items from to → ((d : Declaration) → slice_get items from ≡ Some d → leads_from sources from d ≡ true) → Leads graph from to
  leads_in_graph all from to (directly _ _ n) source = by_edge (names_edge from to n (source n.declaration n.stands))
  leads_in_graph all from to (through _ via _ n named rest) source =
      by_path (names_edge from via n (source n.declaration n.stands))
      (leads_in_graph all via to rest (λ d stands. all via d (ap is_named (same_declaration via d named.0 stands named.1) ∙ named.2)))
