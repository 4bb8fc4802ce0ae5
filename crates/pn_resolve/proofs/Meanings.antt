-- What names and expressions mean when names are followed more or less often.
use Rattle.std.proofs.Common.{◌≡◌, ◌⊎◌, inl, inr, ℕ, zero, suc, ◌+◌, ◌<◌, ◌≤◌, true, List, [], ◌∷◌, map, Option, Some, None, refl, sym, ap, ◌∙◌, subst, arith}
use Rattle.std.specs.List.{Contains, slice_get}
use Rattle.std.specs.Option.{option_map, option_and_then}
use Rattle.pn_syntax.specs.declared.declaration.Declaration.{Declaration}
use Rattle.pn_syntax.specs.declared.declaration.Declaration.TheVariants as declarations
use Rattle.pn_syntax.specs.declared.declaration.SortBody.TheVariants as bodies
use Rattle.pn_values.specs.declared.sort.Sort.{Sort}
use Rattle.pn_values.specs.declared.sort.Sort.TheVariants as sorts
use Rattle.pn_syntax.specs.declared.sort_expr.SortExpr.{SortExpr}
use Rattle.pn_syntax.specs.declared.sort_expr.SortNode.TheOpen as layer
use Rattle.pn_syntax.specs.declared.sort_expr.SortNode.TheViews.{out-SortNode}
use Rattle.pn_names.specs.Names.{sort_named}
use Rattle.pn_resolve.specs.Meaning.{all_sorts, sort_with, declared_sort, meaning, sort_at_place, Resolves}
use Rattle.pn_resolve.specs.Standing.{IsSortPart, itself, product, list, NamesPlace, LeadsTo, directly, through, IsNamedSort, is_named, expr_of}
use Rattle.pn_facts.proofs.Contained.{contains_nil, contains_first, contains_next, contains_cases}
use Rattle.pn_resolve.proofs.Options.{mapped_some, then_some}
use Rattle.pn_resolve.proofs.Expressions.{NodeLayer, IsIn, expr_ind, sort_at, out_product, out_list, out_user, NamesIn, names_in_part, name_itself}

-- a list of sorts is one where each of them is one
pub record Split (o : Option Sort) (os : List (Option Sort)) (ss : List Sort) : Type 0 where
  pub first : Sort
  pub more : List Sort
  pub is_first : o ≡ Some first
  pub is_more : all_sorts os ≡ Some more
  pub whole : first ∷ more ≡ ss

pub split_sorts : (o : Option Sort) (os : List (Option Sort)) (ss : List Sort) → all_sorts (o ∷ os) ≡ Some ss → Split o os ss
split_sorts o os ss h =
    let first = then_some (λ sort. option_map (λ more. sort ∷ more) (all_sorts os)) o ss h in
    let more = mapped_some (λ more. first.0 ∷ more) (all_sorts os) ss first.2 in
    record { first = first.0; more = more.0; is_first = first.1; is_more = more.1; whole = more.2 }

pub join_sorts : (o : Option Sort) (os : List (Option Sort)) (s : Sort) (ss : List Sort) → o ≡ Some s → all_sorts os ≡ Some ss → all_sorts (o ∷ os) ≡ Some (s ∷ ss)
join_sorts o os s ss a b = ap (option_and_then (λ sort. option_map (λ more. sort ∷ more) (all_sorts os))) a ∙ ap (option_map (λ more. s ∷ more)) b

-- where the second meaning has each sort of the first that passes, it gives each expression its sort, if that passes
module _ (Passes : Sort → Type 0) (in_product : (ss : List Sort) → Passes (sorts.Product ss) → (s : Sort) → Contains ss s → Passes s) (in_list : (s : Sort) → Passes (sorts.List s) → Passes s) (m1 m2 : List ℕ → Option Sort) where
  abbrev Carries : List ℕ → Type 0
  Carries name = (s : Sort) → m1 name ≡ Some s → Passes s → m2 name ≡ Some s

  abbrev CarriesInto : SortExpr → Type 0
  CarriesInto e = (s : Sort) → sort_with m1 e ≡ Some s → Passes s → sort_with m2 e ≡ Some s

  abbrev Carried : SortExpr → Type 0
  Carried e = NamesIn Carries e → (s : Sort) → sort_with m1 e ≡ Some s → Passes s → sort_with m2 e ≡ Some s

  all_carried : (ps : List SortExpr) → ((p : SortExpr) → Contains ps p → CarriesInto p) → (ss : List Sort) → all_sorts (map (sort_with m1) ps) ≡ Some ss → ((s : Sort) → Contains ss s → Passes s) → all_sorts (map (sort_with m2) ps) ≡ Some ss
  all_carried [] have ss h q = h
  all_carried (p ∷ ps) have ss h q =
      let parts = split_sorts (sort_with m1 p) (map (sort_with m1) ps) ss h in
      let passes : (s : Sort) → Contains (parts.first ∷ parts.more) s → Passes s = λ s c. q s (subst (λ xs. Contains xs s) parts.whole c) in
      join_sorts (sort_with m2 p) (map (sort_with m2) ps) parts.first parts.more
      (have p (contains_first p ps) parts.first parts.is_first (passes parts.first (contains_first parts.first parts.more)))
      (all_carried ps (λ x c. have x (contains_next p ps x c)) parts.more parts.is_more (λ s c. passes s (contains_next parts.first parts.more s c)))
      ∙ ap Some parts.whole

  carry : (l : NodeLayer) (e : SortExpr) → out-SortNode e.node ≡ l → ((p : SortExpr) → IsIn l p → Carried p) → Carried e
  carry layer.Dot e at have names s h q = sort_at m2 e layer.Dot at ∙ sym (sort_at m1 e layer.Dot at) ∙ h
  carry layer.Bool e at have names s h q = sort_at m2 e layer.Bool at ∙ sym (sort_at m1 e layer.Bool at) ∙ h
  carry (layer.Range start end) e at have names s h q = sort_at m2 e (layer.Range start end) at ∙ sym (sort_at m1 e (layer.Range start end) at) ∙ h
  carry (layer.Product parts) e at have names s h q =
      let ss = mapped_some sorts.Product (all_sorts (map (sort_with m1) parts)) s (sym (sort_at m1 e (layer.Product parts) at) ∙ h) in
      sort_at m2 e (layer.Product parts) at ∙ ap (option_map sorts.Product) (all_carried parts (λ p c. have p c (names_in_part Carries (layer.Product parts) e p at c names)) ss.0 ss.1 (λ x c. in_product ss.0 (subst Passes (sym ss.2) q) x c)) ∙ ap Some ss.2
  carry (layer.User name) e at have names s h q = sort_at m2 e (layer.User name) at ∙ name_itself Carries e name at names s (sym (sort_at m1 e (layer.User name) at) ∙ h) q
  carry layer.Integer e at have names s h q = sort_at m2 e layer.Integer at ∙ sym (sort_at m1 e layer.Integer at) ∙ h
  carry layer.Natural e at have names s h q = sort_at m2 e layer.Natural at ∙ sym (sort_at m1 e layer.Natural at) ∙ h
  carry layer.Positive e at have names s h q = sort_at m2 e layer.Positive at ∙ sym (sort_at m1 e layer.Positive at) ∙ h
  carry layer.Text e at have names s h q = sort_at m2 e layer.Text at ∙ sym (sort_at m1 e layer.Text at) ∙ h
  carry (layer.List part) e at have names s h q =
      let inner = mapped_some sorts.List (sort_with m1 part) s (sym (sort_at m1 e (layer.List part) at) ∙ h) in
      sort_at m2 e (layer.List part) at ∙ ap (option_map sorts.List) (have part refl (names_in_part Carries (layer.List part) e part at refl names) inner.0 inner.1 (in_list inner.0 (subst Passes (sym inner.2) q))) ∙ ap Some inner.2

  pub sort_carried : (e : SortExpr) → NamesIn Carries e → (s : Sort) → sort_with m1 e ≡ Some s → Passes s → sort_with m2 e ≡ Some s
  sort_carried e names s h q = expr_ind Carried carry e names s h q

-- a meaning with more sorts
pub sort_grows : (m1 m2 : List ℕ → Option Sort) → ((name : List ℕ) (s : Sort) → m1 name ≡ Some s → m2 name ≡ Some s) → (e : SortExpr) (s : Sort) → sort_with m1 e ≡ Some s → sort_with m2 e ≡ Some s
sort_grows m1 m2 more e s h = sort_carried (λ s. Unit {0}) (λ ss q s c. tt) (λ s q. tt) m1 m2 e (λ x name part node s is q. more name s is) s h tt

pub declared_grows : (m1 m2 : List ℕ → Option Sort) → ((name : List ℕ) (s : Sort) → m1 name ≡ Some s → m2 name ≡ Some s) → (place : ℕ) (d : Declaration) (s : Sort) → declared_sort m1 place d ≡ Some s → declared_sort m2 place d ≡ Some s
declared_grows m1 m2 more place (declarations.Named id name (bodies.Plain e) at) s h = sort_grows m1 m2 more e s h
declared_grows m1 m2 more place (declarations.Named id name (bodies.Finite constants) at) s h = h
declared_grows m1 m2 more place (declarations.Named id name (bodies.Cyclic constants) at) s h = h
declared_grows m1 m2 more place (declarations.Variable id name sort at) s h = h
declared_grows m1 m2 more place (declarations.Partition id name sort elements at) s h = h

pub meaning_next : (items : List Declaration) (levels : ℕ) (name : List ℕ) → meaning items (suc levels) name ≡ option_and_then (sort_at_place items levels) (sort_named items name)
unfolding meaning
meaning_next items levels name = refl

pub meaning_none : (items : List Declaration) (name : List ℕ) → meaning items zero name ≡ None
unfolding meaning
meaning_none items name = refl

pub place_grows : (items : List Declaration) (m n : ℕ) → ((name : List ℕ) (s : Sort) → meaning items m name ≡ Some s → meaning items n name ≡ Some s) → (place : ℕ) (s : Sort) → sort_at_place items m place ≡ Some s → sort_at_place items n place ≡ Some s
place_grows items m n more place s h =
    let d = then_some (declared_sort (meaning items m) place) (slice_get items place) s h in
    ap (option_and_then (declared_sort (meaning items n) place)) d.1 ∙ declared_grows (meaning items m) (meaning items n) more place d.0 s d.2

-- more levels change no meaning
pub meaning_grows : (items : List Declaration) (m n : ℕ) → m ≤ n → (name : List ℕ) (s : Sort) → meaning items m name ≡ Some s → meaning items n name ≡ Some s
meaning_grows items zero n le name s h = absurd (none_is_none (sym (meaning_none items name) ∙ h))
  where
    none_is_none : None ≡ Some s → ⊥
    none_is_none e = cc
meaning_grows items (suc m) zero le name s h = absurd (omega arith)
meaning_grows items (suc m) (suc n) le name s h =
    let place = then_some (sort_at_place items m) (sort_named items name) s (sym (meaning_next items m name) ∙ h) in
    meaning_next items n name ∙ ap (option_and_then (sort_at_place items n)) place.1 ∙ place_grows items m n (λ x t k. meaning_grows items m n (omega arith) x t k) place.0 s place.2

-- at most one sort
pub resolves_once : (items : List Declaration) (e : SortExpr) (s t : Sort) → Resolves items e s → Resolves items e t → s ≡ t
resolves_once items e s t (m, h) (n, k) =
    let a = sort_grows (meaning items m) (meaning items (m + n)) (λ name x w. meaning_grows items m (m + n) (omega arith) name x w) e s h in
    let b = sort_grows (meaning items n) (meaning items (m + n)) (λ name x w. meaning_grows items n (m + n) (omega arith) name x w) e t k in
    let same : Some s ≡ Some t = sym a ∙ b in cc

-- each part of an expression with a sort has one
parts_have : (m : List ℕ → Option Sort) (ps : List SortExpr) (ss : List Sort) → all_sorts (map (sort_with m) ps) ≡ Some ss → (p : SortExpr) → Contains ps p → (s : Sort) × (sort_with m p ≡ Some s)
parts_have m [] ss h p c = absurd (contains_nil p c)
parts_have m (q ∷ ps) ss h p c = step (contains_cases q ps p c) (split_sorts (sort_with m q) (map (sort_with m) ps) ss h) (λ rs k d. parts_have m ps rs k p d)
  where
    step : (q ≡ p) ⊎ Contains ps p → Split (sort_with m q) (map (sort_with m) ps) ss → ((rs : List Sort) → all_sorts (map (sort_with m) ps) ≡ Some rs → Contains ps p → (s : Sort) × (sort_with m p ≡ Some s)) → (s : Sort) × (sort_with m p ≡ Some s)
    step (inl e) split more = (split.first, ap (sort_with m) (sym e) ∙ split.is_first)
    step (inr d) split more = more split.more split.is_more d

pub part_has_sort : (m : List ℕ → Option Sort) (e x : SortExpr) → IsSortPart e x → (s : Sort) → sort_with m e ≡ Some s → (t : Sort) × (sort_with m x ≡ Some t)
part_has_sort m e x (itself _ _ same) s h = (s, ap (sort_with m) same ∙ h)
part_has_sort m e x (product _ _ p parts is c rest) s h =
    let ss = mapped_some sorts.Product (all_sorts (map (sort_with m) parts)) s (sym (sort_at m e (layer.Product parts) (out_product e.node parts is)) ∙ h) in
    let one = parts_have m parts ss.0 ss.1 p c in
    part_has_sort m p x rest one.0 one.1
part_has_sort m e x (list _ _ p is rest) s h =
    let inner = mapped_some sorts.List (sort_with m p) s (sym (sort_at m e (layer.List p) (out_list e.node p is)) ∙ h) in
    part_has_sort m p x rest inner.0 inner.1

-- a sort that a `namedsort` has when names are followed so often, what it names has when they are followed less often
pub record Lower (items : List Declaration) (levels place : ℕ) : Type 0 where
  pub level : ℕ
  pub is_lower : level < levels
  pub sort : Sort
  pub has : sort_at_place items level place ≡ Some sort

name_below : (items : List Declaration) (levels : ℕ) (name : List ℕ) (to : ℕ) (s : Sort) → sort_named items name ≡ Some to → meaning items levels name ≡ Some s → Lower items levels to
name_below items zero name to s is h = absurd (none_is_none (sym (meaning_none items name) ∙ h))
  where
    none_is_none : None ≡ Some s → ⊥
    none_is_none e = cc
name_below items (suc level) name to s is h = record {
  level = level;
  is_lower = omega arith;
  sort = s;
  has = sym (ap (option_and_then (sort_at_place items level)) is) ∙ sym (meaning_next items level name) ∙ h;
}

plain_below : (items : List Declaration) (from to levels : ℕ) (n : NamesPlace items from to) (d : Declaration) → n.declaration ≡ d → is_named d ≡ true → (s : Sort) → declared_sort (meaning items levels) from d ≡ Some s → Lower items levels to
plain_below items from to levels n (declarations.Named id name (bodies.Plain e) at) is named s h =
    let whole : e ≡ n.whole = let same : Some e ≡ Some n.whole = sym (ap expr_of is) ∙ n.is_sort in cc in
    let part = part_has_sort (meaning items levels) n.whole n.part n.is_part s (ap (sort_with (meaning items levels)) (sym whole) ∙ h) in
    name_below items levels n.name to part.0 n.is_name (sym (sort_at (meaning items levels) n.part (layer.User n.name) (out_user n.part.node n.name n.is_user)) ∙ part.1)
plain_below items from to levels n (declarations.Named id name (bodies.Finite constants) at) is named s h = let none : None ≡ Some n.whole = sym (ap expr_of is) ∙ n.is_sort in absurd cc
plain_below items from to levels n (declarations.Named id name (bodies.Cyclic constants) at) is named s h = let none : None ≡ Some n.whole = sym (ap expr_of is) ∙ n.is_sort in absurd cc
plain_below items from to levels n (declarations.Variable id name sort at) is named s h = absurd cc
plain_below items from to levels n (declarations.Partition id name sort elements at) is named s h = absurd cc

pub named_below : (items : List Declaration) (from to levels : ℕ) → NamesPlace items from to → IsNamedSort items from → (s : Sort) → sort_at_place items levels from ≡ Some s → Lower items levels to
named_below items from to levels n named s h =
    let d = then_some (declared_sort (meaning items levels) from) (slice_get items from) s h in
    let a : Some n.declaration ≡ Some d.0 = sym n.stands ∙ d.1 in
    let b : Some n.declaration ≡ Some named.0 = sym n.stands ∙ named.1 in
    let c : n.declaration ≡ d.0 = cc in
    let e : named.0 ≡ d.0 = cc in
    plain_below items from to levels n d.0 c (sym (ap is_named e) ∙ named.2) s d.2

pub leads_below : (items : List Declaration) (from to levels : ℕ) → LeadsTo items from to → IsNamedSort items from → (s : Sort) → sort_at_place items levels from ≡ Some s → Lower items levels to
leads_below items from to levels (directly _ _ n) named s h = named_below items from to levels n named s h
leads_below items from to levels (through _ via _ n via_named rest) named s h =
    let first = named_below items from via levels n named s h in
    let last = leads_below items via to first.level rest via_named first.sort first.has in
    record { level = last.level; is_lower = omega (arith, first.is_lower, last.is_lower); sort = last.sort; has = last.has }

none_below : (items : List Declaration) (place : ℕ) → LeadsTo items place place → IsNamedSort items place → (bound levels : ℕ) → levels < bound → (s : Sort) → sort_at_place items levels place ≡ Some s → ⊥
none_below items place leads named zero levels lt s h = omega arith
none_below items place leads named (suc bound) levels lt s h =
    let low = leads_below items place place levels leads named s h in
    none_below items place leads named bound low.level (omega (arith, low.is_lower)) low.sort low.has

-- a `namedsort` that leads back to itself has no sort
pub no_sort_on_cycle : (items : List Declaration) (place : ℕ) → LeadsTo items place place → IsNamedSort items place → (levels : ℕ) (s : Sort) → sort_at_place items levels place ≡ Some s → ⊥
no_sort_on_cycle items place leads named levels s h = none_below items place leads named (suc levels) levels (omega arith) s h
