-- In ordered declarations the least fault is one.
use Rattle.std.proofs.Common.{◌≡◌, ℕ, List, [], ◌∷◌, ◌++◌, Some, refl, sym, ap, ◌∙◌, subst, arith}
use Rattle.std.specs.Prelude.{codes}
use Rattle.std.specs.List.{Contains, flat_map}
use Rattle.std.proofs.lemmas.List.{append-nil}
use Rattle.std.proofs.lemmas.List.Elements.{Contains-append_left}
use Rattle.pn_facts.proofs.Contained.{contains_at, contains_first, contains_next}
use Rattle.pn_faults.specs.declared.fault.Fault.{Fault}
use Rattle.pn_faults.specs.declared.reason.Reason.TheVariants as reasons
use Rattle.pn_faults.specs.Order.{fault_at}
use Rattle.pn_faults.specs.Reasons.{number_of}
use Rattle.pn_faults.specs.Rising.{Rise}
use Rattle.pn_faults.specs.Standing.{IsLeastOf}
use Rattle.pn_faults.proofs.RisingLemmas.{IsWithin, all_joined, neither_before, of_one, one_place, place_offset, rise_front, rise_one}
use Rattle.pn_faults.proofs.RisingLemmas as rising
use Rattle.pn_syntax.specs.declared.declaration.Declaration.{Declaration}
use Rattle.pn_syntax.specs.declared.declaration.Declaration.TheVariants as declarations
use Rattle.pn_syntax.specs.declared.declaration.SortBody.TheVariants as bodies
use Rattle.pn_syntax.specs.declared.sort_expr.SortExpr.{SortExpr}
use Rattle.pn_syntax.specs.declared.sort_expr.SortNode.{SortNode, map-SortNode}
use Rattle.pn_syntax.specs.declared.sort_expr.SortNode.TheOpen as layer
use Rattle.pn_syntax.specs.declared.sort_expr.SortNode.TheVariants as nodes
use Rattle.pn_syntax.specs.declared.sort_expr.SortNode.TheViews.{out-SortNode}
use Rattle.pn_syntax.specs.declared.sort_expr.SortNode.TheFolds.{fold-SortNode, fold_out-SortExpr, fold_out-SortNode}
use Rattle.pn_names.specs.Names.{at_of, id_of}
use Rattle.pn_resolve.specs.Standing.{IsSortPart, itself, product, list, StandsAtSort, StandsInSort, unknown_sort, sort_too_big, empty_range, in_sort, sort_cycle, constant_range, at_of_constant, element_name, expr_of}
use Rattle.pn_resolve.proofs.Expressions.{NodeLayer, out_product, out_list}
use Rattle.pn_sorts.specs.Order.{AreOrdered, offsets_in_sort_layer, offsets_of_declaration, offsets_of_element, offsets_of_sort}
use Rattle.pn_sorts.specs.Standing.{Stands, besides, bad_partition}

-- the expressions that stand directly in one
abbrev pub sorts_in_layer : NodeLayer → List SortExpr
sorts_in_layer layer.Dot = []
sorts_in_layer layer.Bool = []
sorts_in_layer (layer.Range start end) = []
sorts_in_layer (layer.Product parts) = parts
sorts_in_layer (layer.User name) = []
sorts_in_layer layer.Integer = []
sorts_in_layer layer.Natural = []
sorts_in_layer layer.Positive = []
sorts_in_layer layer.Text = []
sorts_in_layer (layer.List part) = part ∷ []

abbrev pub sorts_in : SortExpr → List SortExpr
sorts_in e = sorts_in_layer (out-SortNode e.node)

joined_sorts : (l : NodeLayer) → offsets_in_sort_layer (map-SortNode SortNode SortExpr (List ℕ) (List ℕ) (fold-SortNode (List ℕ) (List ℕ) offsets_in_sort_layer (λ e. e.at ∷ e.node)) offsets_of_sort l) ≡ flat_map offsets_of_sort (sorts_in_layer l)
joined_sorts layer.Dot = refl
joined_sorts layer.Bool = refl
joined_sorts (layer.Range start end) = refl
joined_sorts (layer.Product parts) = all_joined offsets_of_sort parts
joined_sorts (layer.User name) = refl
joined_sorts layer.Integer = refl
joined_sorts layer.Natural = refl
joined_sorts layer.Positive = refl
joined_sorts layer.Text = refl
joined_sorts (layer.List part) = sym (append-nil (offsets_of_sort part))

pub sort_offsets : (e : SortExpr) → offsets_of_sort e ≡ e.at ∷ flat_map offsets_of_sort (sorts_in e)
sort_offsets e =
    fold_out-SortExpr (List ℕ) (List ℕ) offsets_in_sort_layer (λ e. e.at ∷ e.node) e
    ∙ ap (λ ns. e.at ∷ ns) (fold_out-SortNode (List ℕ) (List ℕ) offsets_in_sort_layer (λ e. e.at ∷ e.node) e.node ∙ joined_sorts (out-SortNode e.node))

pub within_sort : (e x : SortExpr) → IsSortPart e x → IsWithin sorts_in e x
within_sort e x (itself _ _ same) = rising.itself e x same
within_sort e x (product _ _ p parts is c rest) = rising.inside e x p (subst (λ l. Contains (sorts_in_layer l) p) (sym (out_product e.node parts is)) c) (within_sort p x rest)
within_sort e x (list _ _ p is rest) = rising.inside e x p (subst (λ l. Contains (sorts_in_layer l) p) (sym (out_list e.node p is)) (contains_first p [])) (within_sort p x rest)

-- the offsets of the sort of a declaration are among its own, and rise with them
sort_among : (d : Declaration) (e : SortExpr) (n : ℕ) → expr_of d ≡ Some e → Contains (offsets_of_sort e) n → Contains (offsets_of_declaration d) n
sort_among (declarations.Named id name (bodies.Plain x) at) e n is c = let same : x ≡ e = cc in contains_next at (offsets_of_sort x) n (subst (λ z. Contains (offsets_of_sort z) n) (sym same) c)
sort_among (declarations.Named id name (bodies.Finite constants) at) e n is c = absurd cc
sort_among (declarations.Named id name (bodies.Cyclic constants) at) e n is c = absurd cc
sort_among (declarations.Variable id name sort at) e n is c = let same : sort ≡ e = cc in contains_next at (offsets_of_sort sort) n (subst (λ z. Contains (offsets_of_sort z) n) (sym same) c)
sort_among (declarations.Partition id name sort elements at) e n is c =
    let same : sort ≡ e = cc in
    contains_next at (offsets_of_sort sort ++ flat_map offsets_of_element elements) n
    (Contains-append_left (offsets_of_sort sort) (flat_map offsets_of_element elements) n (subst (λ z. Contains (offsets_of_sort z) n) (sym same) c))

sort_rises : (d : Declaration) (e : SortExpr) → expr_of d ≡ Some e → Rise (offsets_of_declaration d) → Rise (offsets_of_sort e)
sort_rises (declarations.Named id name (bodies.Plain x) at) e is rises = let same : x ≡ e = cc in subst (λ z. Rise (offsets_of_sort z)) same rises.1
sort_rises (declarations.Named id name (bodies.Finite constants) at) e is rises = absurd cc
sort_rises (declarations.Named id name (bodies.Cyclic constants) at) e is rises = absurd cc
sort_rises (declarations.Variable id name sort at) e is rises = let same : sort ≡ e = cc in subst (λ z. Rise (offsets_of_sort z)) same rises.1
sort_rises (declarations.Partition id name sort elements at) e is rises =
    let same : sort ≡ e = cc in
    subst (λ z. Rise (offsets_of_sort z)) same (rise_front (offsets_of_sort sort) (flat_map offsets_of_element elements) rises.1)

own_offset : (d : Declaration) → Contains (offsets_of_declaration d) (at_of d)
own_offset (declarations.Named id name body at) = contains_first at _
own_offset (declarations.Variable id name sort at) = contains_first at _
own_offset (declarations.Partition id name sort elements at) = contains_first at _

-- what a fault tells of: an expression that is written, or a declaration
pub data Blames (IsWritten : SortExpr → Type 0) (IsDeclared : Declaration → Type 0) (f : Fault) : Type 0 where
  unknown : (x : SortExpr) (name : List ℕ) → IsWritten x → x.node ≡ nodes.User name → f ≡ fault_at reasons.UnknownSort x.at name → Blames IsWritten IsDeclared f
  too_big : (x : SortExpr) → IsWritten x → f ≡ fault_at reasons.SortTooBig x.at (element_name x) → Blames IsWritten IsDeclared f
  empty : (at : ℕ) → f ≡ fault_at reasons.EmptyRange at (codes "finiteintrange") → Blames IsWritten IsDeclared f
  cycle : (d : Declaration) → IsDeclared d → f ≡ fault_at reasons.SortCycle (at_of d) (id_of d) → Blames IsWritten IsDeclared f
  bad : (d : Declaration) → IsDeclared d → f ≡ fault_at reasons.BadPartition (at_of d) (id_of d) → Blames IsWritten IsDeclared f

pub in_written : (items : List Declaration) (IsWritten : SortExpr → Type 0) (IsDeclared : Declaration → Type 0) (x : SortExpr) (f : Fault) → IsWritten x → StandsAtSort items x f → Blames IsWritten IsDeclared f
in_written items IsWritten IsDeclared x f written (unknown_sort _ _ name node none is) = unknown x name written node is
in_written items IsWritten IsDeclared x f written (sort_too_big _ _ big is) = too_big x written is
in_written items IsWritten IsDeclared x f written (empty_range _ _ start end node lt is) = empty x.at is

-- where what is blamed is known by its offset, a fault is known by its offset and its number
module _ (IsWritten : SortExpr → Type 0) (IsDeclared : Declaration → Type 0) (one_written : (x y : SortExpr) → IsWritten x → IsWritten y → x.at ≡ y.at → x ≡ y) (one_declaration : (d d' : Declaration) → IsDeclared d → IsDeclared d' → at_of d ≡ at_of d' → d ≡ d') where
  tag : (f g : Fault) → f ≡ g → number_of f.reason ≡ number_of g.reason
  tag f g is = ap (λ h. number_of h.reason) is

  place : (f g : Fault) → f ≡ g → f.at ≡ g.at
  place f g is = ap (λ h. h.at) is

  pub one_fault : (f g : Fault) → Blames IsWritten IsDeclared f → Blames IsWritten IsDeclared g → f.at ≡ g.at → number_of f.reason ≡ number_of g.reason → f ≡ g
  one_fault f g (unknown x name w node is) (unknown x2 name2 w2 node2 is2) at_is number_is =
      let same : x ≡ x2 = one_written x x2 w w2 (sym (place f _ is) ∙ at_is ∙ place g _ is2) in
      let named : nodes.User name ≡ nodes.User name2 = sym node ∙ ap (λ z. z.node) same ∙ node2 in
      let name_is : name ≡ name2 = cc in
      is ∙ ap (λ z. fault_at reasons.UnknownSort z.at name) same ∙ ap (fault_at reasons.UnknownSort x2.at) name_is ∙ sym is2
  one_fault f g (unknown x name w node is) (too_big x2 w2 is2) at_is number_is = absurd (let apart : 17 ≡ 19 = sym (tag f _ is) ∙ number_is ∙ tag g _ is2 in omega (arith, apart))
  one_fault f g (unknown x name w node is) (empty at2 is2) at_is number_is = absurd (let apart : 17 ≡ 20 = sym (tag f _ is) ∙ number_is ∙ tag g _ is2 in omega (arith, apart))
  one_fault f g (unknown x name w node is) (cycle d2 c2 is2) at_is number_is = absurd (let apart : 17 ≡ 18 = sym (tag f _ is) ∙ number_is ∙ tag g _ is2 in omega (arith, apart))
  one_fault f g (unknown x name w node is) (bad d2 c2 is2) at_is number_is = absurd (let apart : 17 ≡ 21 = sym (tag f _ is) ∙ number_is ∙ tag g _ is2 in omega (arith, apart))
  one_fault f g (too_big x w is) (unknown x2 name2 w2 node2 is2) at_is number_is = absurd (let apart : 19 ≡ 17 = sym (tag f _ is) ∙ number_is ∙ tag g _ is2 in omega (arith, apart))
  one_fault f g (too_big x w is) (too_big x2 w2 is2) at_is number_is = is ∙ ap (λ z. fault_at reasons.SortTooBig z.at (element_name z)) (one_written x x2 w w2 (sym (place f _ is) ∙ at_is ∙ place g _ is2)) ∙ sym is2
  one_fault f g (too_big x w is) (empty at2 is2) at_is number_is = absurd (let apart : 19 ≡ 20 = sym (tag f _ is) ∙ number_is ∙ tag g _ is2 in omega (arith, apart))
  one_fault f g (too_big x w is) (cycle d2 c2 is2) at_is number_is = absurd (let apart : 19 ≡ 18 = sym (tag f _ is) ∙ number_is ∙ tag g _ is2 in omega (arith, apart))
  one_fault f g (too_big x w is) (bad d2 c2 is2) at_is number_is = absurd (let apart : 19 ≡ 21 = sym (tag f _ is) ∙ number_is ∙ tag g _ is2 in omega (arith, apart))
  one_fault f g (empty at is) (unknown x2 name2 w2 node2 is2) at_is number_is = absurd (let apart : 20 ≡ 17 = sym (tag f _ is) ∙ number_is ∙ tag g _ is2 in omega (arith, apart))
  one_fault f g (empty at is) (too_big x2 w2 is2) at_is number_is = absurd (let apart : 20 ≡ 19 = sym (tag f _ is) ∙ number_is ∙ tag g _ is2 in omega (arith, apart))
  one_fault f g (empty at is) (empty at2 is2) at_is number_is = is ∙ ap (λ n. fault_at reasons.EmptyRange n (codes "finiteintrange")) (sym (place f _ is) ∙ at_is ∙ place g _ is2) ∙ sym is2
  one_fault f g (empty at is) (cycle d2 c2 is2) at_is number_is = absurd (let apart : 20 ≡ 18 = sym (tag f _ is) ∙ number_is ∙ tag g _ is2 in omega (arith, apart))
  one_fault f g (empty at is) (bad d2 c2 is2) at_is number_is = absurd (let apart : 20 ≡ 21 = sym (tag f _ is) ∙ number_is ∙ tag g _ is2 in omega (arith, apart))
  one_fault f g (cycle d c is) (unknown x2 name2 w2 node2 is2) at_is number_is = absurd (let apart : 18 ≡ 17 = sym (tag f _ is) ∙ number_is ∙ tag g _ is2 in omega (arith, apart))
  one_fault f g (cycle d c is) (too_big x2 w2 is2) at_is number_is = absurd (let apart : 18 ≡ 19 = sym (tag f _ is) ∙ number_is ∙ tag g _ is2 in omega (arith, apart))
  one_fault f g (cycle d c is) (empty at2 is2) at_is number_is = absurd (let apart : 18 ≡ 20 = sym (tag f _ is) ∙ number_is ∙ tag g _ is2 in omega (arith, apart))
  one_fault f g (cycle d c is) (cycle d2 c2 is2) at_is number_is = is ∙ ap (λ z. fault_at reasons.SortCycle (at_of z) (id_of z)) (one_declaration d d2 c c2 (sym (place f _ is) ∙ at_is ∙ place g _ is2)) ∙ sym is2
  one_fault f g (cycle d c is) (bad d2 c2 is2) at_is number_is = absurd (let apart : 18 ≡ 21 = sym (tag f _ is) ∙ number_is ∙ tag g _ is2 in omega (arith, apart))
  one_fault f g (bad d c is) (unknown x2 name2 w2 node2 is2) at_is number_is = absurd (let apart : 21 ≡ 17 = sym (tag f _ is) ∙ number_is ∙ tag g _ is2 in omega (arith, apart))
  one_fault f g (bad d c is) (too_big x2 w2 is2) at_is number_is = absurd (let apart : 21 ≡ 19 = sym (tag f _ is) ∙ number_is ∙ tag g _ is2 in omega (arith, apart))
  one_fault f g (bad d c is) (empty at2 is2) at_is number_is = absurd (let apart : 21 ≡ 20 = sym (tag f _ is) ∙ number_is ∙ tag g _ is2 in omega (arith, apart))
  one_fault f g (bad d c is) (cycle d2 c2 is2) at_is number_is = absurd (let apart : 21 ≡ 18 = sym (tag f _ is) ∙ number_is ∙ tag g _ is2 in omega (arith, apart))
  one_fault f g (bad d c is) (bad d2 c2 is2) at_is number_is = is ∙ ap (λ z. fault_at reasons.BadPartition (at_of z) (id_of z)) (one_declaration d d2 c c2 (sym (place f _ is) ∙ at_is ∙ place g _ is2)) ∙ sym is2

-- in an expression
pub least_in_sort_once : (items : List Declaration) (e : SortExpr) (f g : Fault) → Rise (offsets_of_sort e) → IsLeastOf (StandsInSort items e) (Some f) → IsLeastOf (StandsInSort items e) (Some g) → f ≡ g
least_in_sort_once items e f g ordered ((x, part, at), none_before) ((y, also, too), none_before_too) =
    let same = neither_before f g (none_before_too f (x, part, at)) (none_before g (y, also, too)) in
    one_fault (IsSortPart e) (λ d. ⊥) (λ z w a b. one_place (λ v. v.at) sorts_in offsets_of_sort sort_offsets e z w ordered (within_sort e z a) (within_sort e w b)) (λ d d' c c' at_is. absurd c)
    f g (in_written items (IsSortPart e) (λ d. ⊥) x f part at) (in_written items (IsSortPart e) (λ d. ⊥) y g also too) same.0 same.1

-- in declarations
module _ (items : List Declaration) where
  -- the expression stands in the sort of a declaration
  record IsWritten (x : SortExpr) : Type 0 where
    d : Declaration
    there : Contains items d
    e : SortExpr
    is_sort : expr_of d ≡ Some e
    part : IsSortPart e x

  blames : (f : Fault) → Stands items f → Blames IsWritten (Contains items) f
  blames f (besides _ (in_sort _ d e c is (x, part, at))) = in_written items IsWritten (Contains items) x f (record { d = d; there = c; e = e; is_sort = is; part = part }) at
  blames f (besides _ (sort_cycle _ place d stands leads is)) = cycle d (contains_at items place d stands) is
  blames f (besides _ (constant_range _ d c there listed range is)) = empty (at_of_constant c) is
  blames f (bad_partition _ d c bad' is) = bad d c is

  module _ (ordered : AreOrdered items) where
    -- a declaration and an expression are known by their offsets
    one_declared : (d d' : Declaration) → Contains items d → Contains items d' → at_of d ≡ at_of d' → d ≡ d'
    one_declared d d' c c' same = of_one offsets_of_declaration items ordered d d' (at_of d) c c' (own_offset d) (subst (Contains (offsets_of_declaration d')) (sym same) (own_offset d'))

    written_offset : (x : SortExpr) (w : IsWritten x) → Contains (offsets_of_declaration w.d) x.at
    written_offset x w = sort_among w.d w.e x.at w.is_sort (place_offset (λ z. z.at) sorts_in offsets_of_sort sort_offsets w.e x (within_sort w.e x w.part))

    one_written : (x y : SortExpr) → IsWritten x → IsWritten y → x.at ≡ y.at → x ≡ y
    one_written x y w v same =
        let one : w.d ≡ v.d = of_one offsets_of_declaration items ordered w.d v.d x.at w.there v.there (written_offset x w) (subst (Contains (offsets_of_declaration v.d)) (sym same) (written_offset y v)) in
        let both : Some w.e ≡ Some v.e = sym w.is_sort ∙ ap expr_of one ∙ v.is_sort in
        let sort : w.e ≡ v.e = cc in
        one_place (λ z. z.at) sorts_in offsets_of_sort sort_offsets w.e x y (sort_rises w.d w.e w.is_sort (rise_one offsets_of_declaration items w.d w.there ordered))
        (within_sort w.e x w.part) (subst (λ z. IsWithin sorts_in z y) (sym sort) (within_sort v.e y v.part)) same

pub least_declared_once : (items : List Declaration) (f g : Fault) → AreOrdered items → IsLeastOf (Stands items) (Some f) → IsLeastOf (Stands items) (Some g) → f ≡ g
least_declared_once items f g ordered (stands, none_before) (also, none_before_too) =
    let same = neither_before f g (none_before_too f stands) (none_before g also) in
    one_fault (IsWritten items) (Contains items) (one_written items ordered) (one_declared items ordered) f g (blames items f stands) (blames items g also) same.0 same.1
