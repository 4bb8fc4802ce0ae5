-- Where declarations have no fault, each expression without a fault has a sort: names lead from one `namedsort` to the next and never back, so that each way ends.
use Rattle.std.proofs.Common.{◌≡◌, ◌⊎◌, inl, inr, ℕ, zero, suc, ◌+◌, ◌<◌, ◌≤◌, ℤ, int_lt, codes, Bool, true, false, cond, List, [], ◌∷◌, length, map, Option, None, Some, refl, sym, ap, ◌∙◌, subst, arith}
use Rattle.std.specs.List.{Contains, slice_get}
use Rattle.std.specs.Option.{option_and_then, option_map}
use Rattle.pn_facts.proofs.Contained.{contains_at, contains_cases, contains_first, contains_next, contains_nil}
use Rattle.pn_faults.specs.declared.fault.Fault.{Fault}
use Rattle.pn_faults.specs.Order.{fault_at}
use Rattle.pn_faults.specs.declared.reason.Reason.TheVariants as reasons
use Rattle.pn_names.specs.Names.{at_of, id_of, sort_named}
use Rattle.pn_resolve.proofs.Expressions.{IsIn, NamesIn, NodeLayer, expr_ind, is_range, name_itself, names_in_part, part_of_part, sort_at}
use Rattle.pn_resolve.proofs.Meanings.{join_sorts, meaning_next}
use Rattle.pn_resolve.proofs.NameLemmas.{names_sort, place_is_within, sort_declared}
use Rattle.pn_resolve.specs.Meaning.{Resolves, all_sorts, declared_sort, meaning, range_sort, sort_at_place, sort_with}
use Rattle.pn_resolve.specs.Standing.{IsNamedSort, IsSortPart, LeadsTo, NamesPlace, StandsInSort, directly, empty_range, in_sort, itself, sort_cycle, through, unknown_sort}
use Rattle.pn_sorts.specs.Standing.{IsFaultless, besides}
use Rattle.pn_syntax.specs.declared.declaration.Declaration.{Declaration}
use Rattle.pn_syntax.specs.declared.declaration.Declaration.TheVariants as declarations
use Rattle.pn_syntax.specs.declared.declaration.SortBody.TheVariants as bodies
use Rattle.pn_syntax.specs.declared.sort_expr.SortExpr.{SortExpr}
use Rattle.pn_syntax.specs.declared.sort_expr.SortNode.TheOpen as layer
use Rattle.pn_syntax.specs.declared.sort_expr.SortNode.TheVariants as nodes
use Rattle.pn_syntax.specs.declared.sort_expr.SortNode.TheViews.{out-SortNode}
use Rattle.pn_values.specs.declared.sort.Sort.{Sort}
use Rattle.pn_values.specs.declared.sort.Sort.TheVariants as sorts

-- ---- an expression whose names mean something and whose ranges are not empty

range_has : (start end : ℤ) (b : Bool) → int_lt end start ≡ b → (int_lt end start ≡ true → ⊥) → (s : Sort) × (range_sort start end ≡ Some s)
range_has start end true is some = absurd (some is)
range_has start end false is some = (sorts.Range start end, ap (λ b. cond b None (Some (sorts.Range start end))) is)

-- no range in an expression is empty
abbrev HasRanges : SortExpr → Type 0
HasRanges e = (x : SortExpr) (start end : ℤ) → IsSortPart e x → x.node ≡ nodes.Range start end → int_lt end start ≡ true → ⊥

module _ (means : List ℕ → Option Sort) where
  abbrev Means : List ℕ → Type 0
  Means name = (s : Sort) × (means name ≡ Some s)

  abbrev Has : SortExpr → Type 0
  Has e = (s : Sort) × (sort_with means e ≡ Some s)

  abbrev Settles : SortExpr → Type 0
  Settles e = NamesIn Means e → HasRanges e → Has e

  all_have : (ps : List SortExpr) → ((p : SortExpr) → Contains ps p → Has p) → (ss : List Sort) × (all_sorts (map (sort_with means) ps) ≡ Some ss)
  all_have [] each = ([], refl)
  all_have (p ∷ ps) each =
      let first = each p (contains_first p ps) in
      let more = all_have ps (λ q c. each q (contains_next p ps q c)) in
      (first.0 ∷ more.0, join_sorts (sort_with means p) (map (sort_with means) ps) first.0 more.0 first.1 more.1)

  settle : (l : NodeLayer) (e : SortExpr) → out-SortNode e.node ≡ l → ((p : SortExpr) → IsIn l p → Settles p) → Settles e
  settle layer.Dot e at have names ranges = (sorts.Dot, sort_at means e layer.Dot at)
  settle layer.Bool e at have names ranges = (sorts.Bool, sort_at means e layer.Bool at)
  settle (layer.Range start end) e at have names ranges =
      let has = range_has start end (int_lt end start) refl (ranges e start end (itself e e refl) (is_range e.node start end at)) in
      (has.0, sort_at means e (layer.Range start end) at ∙ has.1)
  settle (layer.Product parts) e at have names ranges =
      let l : NodeLayer = layer.Product parts in
      let has = all_have parts (λ p c. have p c (names_in_part Means l e p at c names) (λ x start end part. ranges x start end (part_of_part l e p x at c part))) in
      (sorts.Product has.0, sort_at means e (layer.Product parts) at ∙ ap (option_map sorts.Product) has.1)
  settle (layer.User name) e at have names ranges =
      let has = name_itself Means e name at names in
      (has.0, sort_at means e (layer.User name) at ∙ has.1)
  settle layer.Integer e at have names ranges = (sorts.Integer, sort_at means e layer.Integer at)
  settle layer.Natural e at have names ranges = (sorts.Natural, sort_at means e layer.Natural at)
  settle layer.Positive e at have names ranges = (sorts.Positive, sort_at means e layer.Positive at)
  settle layer.Text e at have names ranges = (sorts.Text, sort_at means e layer.Text at)
  settle (layer.List part) e at have names ranges =
      let l : NodeLayer = layer.List part in
      let has = have part refl (names_in_part Means l e part at refl names) (λ x start end inner. ranges x start end (part_of_part l e part x at refl inner)) in
      (sorts.List has.0, sort_at means e (layer.List part) at ∙ ap (option_map sorts.List) has.1)

  settled : (e : SortExpr) → Settles e
  settled e = expr_ind Settles settle e

-- ---- places that are not passed yet

-- a list without one of its items
taken : (xs : List ℕ) (q : ℕ) → Contains xs q → (ys : List ℕ) × (length xs ≡ suc (length ys)) × ((p : ℕ) → Contains xs p → (p ≡ q) ⊎ Contains ys p)
taken [] q c = absurd (contains_nil q c)
taken (x ∷ xs) q c = by (contains_cases x xs q c) (taken xs q)
  where
    by : (x ≡ q) ⊎ Contains xs q → (Contains xs q → (ys : List ℕ) × (length xs ≡ suc (length ys)) × ((p : ℕ) → Contains xs p → (p ≡ q) ⊎ Contains ys p))
        → (ys : List ℕ) × (length (x ∷ xs) ≡ suc (length ys)) × ((p : ℕ) → Contains (x ∷ xs) p → (p ≡ q) ⊎ Contains ys p)
    by (inl here) more = (xs, refl, λ p d. elim (contains_cases x xs p d) [ inl same ↦ inl (sym same ∙ here) | inr later ↦ inr later ])
    by (inr there) more =
        let rest = more there in (
          x ∷ rest.0,
          ap suc rest.1,
          λ p d. elim (contains_cases x xs p d) [
            | inl same ↦ inr (subst (Contains (x ∷ rest.0)) same (contains_first x rest.0))
            | inr later ↦ elim (rest.2 p later) [ inl same ↦ inl same | inr kept ↦ inr (contains_next x rest.0 p kept) ]
          ],
        )

-- so many numbers from this one on
abbrev numbers_from : ℕ → ℕ → List ℕ
numbers_from first zero = []
numbers_from first (suc n) = first ∷ numbers_from (suc first) n

numbers_have : (first n k : ℕ) → k < n → Contains (numbers_from first n) (first + k)
numbers_have first zero k small = absurd (omega (arith, small))
numbers_have first (suc n) zero small = subst (Contains (first ∷ numbers_from (suc first) n)) (omega arith) (contains_first first (numbers_from (suc first) n))
numbers_have first (suc n) (suc k) small =
    let same : suc first + k ≡ first + suc k = omega arith in
    contains_next first (numbers_from (suc first) n) (first + suc k) (subst (Contains (numbers_from (suc first) n)) same (numbers_have (suc first) n k (omega (arith, small))))

numbers_count : (first n : ℕ) → length (numbers_from first n) ≡ n
numbers_count first zero = refl
numbers_count first (suc n) = ap suc (numbers_count (suc first) n)

-- ---- declarations without a fault

module _ (items : List Declaration) (faultless : IsFaultless items) where
  -- no fault stands in an expression
  abbrev IsSound : SortExpr → Type 0
  IsSound e = (f : Fault) → StandsInSort items e f → ⊥

  abbrev PlaceHas : ℕ → ℕ → Type 0
  PlaceHas levels place = (s : Sort) × (sort_at_place items levels place ≡ Some s)

  expr_has : (levels : ℕ) (e : SortExpr) → IsSound e → ((x : SortExpr) (name : List ℕ) (q : ℕ) → IsSortPart e x → x.node ≡ nodes.User name → sort_named items name ≡ Some q → PlaceHas levels q) → Has (meaning items (suc levels)) e
  expr_has levels e sound places = settled (meaning items (suc levels)) e
      (λ x name part node. by x name part node (sort_named items name) refl)
      (λ x start end part node empty. sound (fault_at reasons.EmptyRange x.at (codes "finiteintrange")) (x, part, empty_range x (fault_at reasons.EmptyRange x.at (codes "finiteintrange")) start end node empty refl))
    where
      by : (x : SortExpr) (name : List ℕ) → IsSortPart e x → x.node ≡ nodes.User name → (o : Option ℕ) → sort_named items name ≡ o → (s : Sort) × (meaning items (suc levels) name ≡ Some s)
      by x name part node None is = absurd (sound (fault_at reasons.UnknownSort x.at name) (x, part, unknown_sort x (fault_at reasons.UnknownSort x.at name) name node is refl))
      by x name part node (Some q) is = let has = places x name q part node is in (has.0, meaning_next items levels name ∙ ap (option_and_then (sort_at_place items levels)) is ∙ has.1)

  -- what a `usersort` names, where it has a sort if it is a `namedsort`
  named_has : (levels q : ℕ) → (IsNamedSort items q → PlaceHas levels q) → (d : Declaration) → slice_get items q ≡ Some d → names_sort d ≡ true → PlaceHas levels q
  named_has levels q have (declarations.Named id name body at) stands is_sort = have (declarations.Named id name body at, stands, refl)
  named_has levels q have (declarations.Variable id name sort at) stands is_sort = absurd cc
  named_has levels q have (declarations.Partition id name sort elements at) stands is_sort = (sorts.Partition q, ap (option_and_then (declared_sort (meaning items levels) q)) stands)

  -- a way that goes on
  goes_on : (p c q : ℕ) → LeadsTo items p c → IsNamedSort items c → NamesPlace items c q → LeadsTo items p q
  goes_on p c q (directly _ _ n) named next = through p c q n named (directly c q next)
  goes_on p c q (through _ via _ n is more) named next = through p via q n is (goes_on via c q more named next)

  no_cycle : (q : ℕ) → IsNamedSort items q → LeadsTo items q q → ⊥
  no_cycle q (d, stands, named) leads =
      let f = fault_at reasons.SortCycle (at_of d) (id_of d) in
      faultless f (besides f (sort_cycle f q d stands leads refl))

  -- a `namedsort` was passed on the way to this place, or is this place
  abbrev IsPassed : ℕ → ℕ → Type 0
  IsPassed c p = IsNamedSort items p × ((p ≡ c) ⊎ LeadsTo items p c)

  -- each place is one of these, or was passed
  abbrev IsOpen : List ℕ → ℕ → Type 0
  IsOpen rest c = (p : ℕ) → p < length items → Contains rest p ⊎ IsPassed c p

  passed_on : (c q p : ℕ) → IsNamedSort items c → NamesPlace items c q → IsPassed c p → LeadsTo items p q
  passed_on c q p named next (is, inl same) = subst (λ k. LeadsTo items k q) (sym same) (directly c q next)
  passed_on c q p named next (is, inr leads) = goes_on p c q leads named next

  abbrev Deeper : ℕ → Type 0
  Deeper levels = (q : ℕ) (less : List ℕ) → suc (length less) ≤ levels → IsOpen less q → IsNamedSort items q → PlaceHas levels q

  -- from a `namedsort` to the next
  next_has : (levels : ℕ) → Deeper levels → (rest : List ℕ) (c q : ℕ) → length rest ≤ levels → IsOpen rest c → IsNamedSort items c → q < length items → NamesPlace items c q → IsNamedSort items q → PlaceHas levels q
  next_has levels deeper rest c q few are_open named within next is = by (are_open q within)
    where
      by : Contains rest q ⊎ IsPassed c q → PlaceHas levels q
      by (inr passed) = absurd (no_cycle q is (passed_on c q q named next passed))
      by (inl here) =
          let left = taken rest q here in
          deeper q left.0 (omega (arith, few, left.1)) (λ p small. elim (are_open p small) [
            | inl there ↦ elim (left.2 p there) [ inl same ↦ inr (subst (IsNamedSort items) (sym same) is, inl same) | inr kept ↦ inl kept ]
            | inr passed ↦ inr (passed.0, inr (passed_on c q p named next passed))
          ]) is

  at_place : (levels : ℕ) → Deeper levels → (rest : List ℕ) (c : ℕ) → length rest ≤ levels → IsOpen rest c → IsNamedSort items c → PlaceHas (suc levels) c
  at_place levels deeper rest c few are_open (declarations.Named id name (bodies.Plain e) at, stands, named) =
      let d : Declaration = declarations.Named id name (bodies.Plain e) at in
      let has = expr_has levels e (λ f there. faultless f (besides f (in_sort f d e (contains_at items c d stands) refl there))) (λ x own q part node is.
      let sort = sort_declared items own q is in
      named_has levels q (next_has levels deeper rest c q few are_open (d, stands, named) (place_is_within items own q is)
      (record { declaration = d; stands = stands; whole = e; is_sort = refl; part = x; is_part = part; name = own; is_user = node; is_name = is })) sort.0 sort.1 sort.2) in
      (has.0, ap (option_and_then (declared_sort (meaning items (suc levels)) c)) stands ∙ has.1)
  at_place levels deeper rest c few are_open (declarations.Named id name (bodies.Finite constants) at, stands, named) = (sorts.Enumeration c, ap (option_and_then (declared_sort (meaning items (suc levels)) c)) stands)
  at_place levels deeper rest c few are_open (declarations.Named id name (bodies.Cyclic constants) at, stands, named) = (sorts.Enumeration c, ap (option_and_then (declared_sort (meaning items (suc levels)) c)) stands)
  at_place levels deeper rest c few are_open (declarations.Variable id name sort at, stands, named) = absurd cc
  at_place levels deeper rest c few are_open (declarations.Partition id name sort elements at, stands, named) = absurd cc

  place_has : (levels : ℕ) (rest : List ℕ) (c : ℕ) → length rest ≤ levels → IsOpen rest c → IsNamedSort items c → PlaceHas (suc levels) c
  place_has zero = at_place zero (λ q less few are_open is. absurd (omega (arith, few)))
  place_has (suc levels) = at_place (suc levels) (λ q less few are_open is. place_has levels less q (omega (arith, few)) are_open is)

  -- an expression without a fault has a sort
  pub has_sort : (e : SortExpr) → IsSound e → (s : Sort) × Resolves items e s
  has_sort e sound =
      let n = length items in
      let has = expr_has (suc n) e sound (λ x name q part node is.
      let sort = sort_declared items name q is in
      named_has (suc n) q (place_has n (numbers_from 0 n) q (omega (arith, numbers_count 0 n)) (λ p small. inl (subst (Contains (numbers_from 0 n)) (omega arith) (numbers_have 0 n p small)))) sort.0 sort.1 sort.2) in
      (has.0, (suc (suc n), has.1))
