-- What a table that is right tells of expressions.
use Rattle.std.proofs.Common.{◌≡◌, inl, inr, ℕ, zero, suc, ◌+◌, ◌<◌, ◌≤◌, Bool, true, false, List, [], ◌∷◌, length, get_or, slice_index_or, Option, Some, None, refl, sym, ap, ◌∙◌, arith}
use Rattle.std.specs.List.{slice_get}
use Rattle.std.specs.Option.{option_map}
use Rattle.std.proofs.lemmas.Grind.{get_or_default_zero}
use Rattle.std.proofs.lemmas.Option.{slice_get_cases, slice_get_within}
use Rattle.pn_faults.specs.declared.fault.Fault.{Fault}
use Rattle.pn_faults.specs.Order.{fault_at}
use Rattle.pn_faults.specs.declared.reason.Reason.TheVariants as reasons
use Rattle.pn_syntax.specs.declared.declaration.Declaration.{Declaration}
use Rattle.pn_syntax.specs.declared.declaration.Declaration.TheVariants as declarations
use Rattle.pn_syntax.specs.declared.declaration.SortBody.TheVariants as bodies
use Rattle.pn_values.specs.declared.sort.Sort.{Sort}
use Rattle.pn_syntax.specs.declared.sort_expr.SortExpr.{SortExpr}
use Rattle.pn_syntax.specs.declared.sort_expr.SortNode.TheVariants as written
use Rattle.pn_cycles.specs.Graphs.{Leads}
use Rattle.pn_cycles.specs.Orders.{ListsEachOnce, StandBehindTargets, TellsCycles}
use Rattle.pn_names.specs.declared.Declared.{Declared}
use Rattle.pn_names.specs.Names.{id_of, at_of, names_of, sort_named}
use Rattle.pn_resolve.specs.declared.extent.Extent.{Extent}
use Rattle.pn_resolve.specs.declared.extent.Extent.TheVariants.{NoSort, TooBig, Fits}
use Rattle.pn_resolve.specs.Extents.{extent_of}
use Rattle.pn_resolve.specs.Links.{IsGraph}
use Rattle.pn_resolve.specs.declared.links.Sources.TheVariants as source
use Rattle.pn_resolve.specs.Meaning.{sort_with, declared_sort, meaning, Resolves}
use Rattle.pn_resolve.specs.Standing.{IsSortPart, IsTooBig, StandsBesides, in_sort, sort_cycle}
use Rattle.pn_resolve.specs.Tables.{extent_in, sort_in, within, small, kept_by, plain_expr, IsExtent, IsTable}
use Rattle.pn_resolve.specs.Telling.{told, known_by}
use Rattle.pn_facts.proofs.Contained.{contains_at}
use Rattle.pn_resolve.proofs.ExtentLemmas.{fits_told, none_told, big_told, big_extent, small_not_big, single_enumeration, single_partition}
use Rattle.pn_resolve.proofs.FaultLemmas.{KnowsFaults, told_stands, Why, by_fault, by_name, why}
use Rattle.pn_resolve.proofs.Meanings.{meaning_grows, sort_grows}
use Rattle.pn_resolve.proofs.NameLemmas.{names_sort, sort_declared}
use Rattle.pn_resolve.proofs.TableLemmas.{IsRightAt, IsSettled, Progress, found_extent, found_sort, at_declared, at_nothing, plain_declared, plain_named, names_settled, off_cycle, cycle_leads}

known_from : (extents : List Extent) (o : Option ℕ) → option_map (extent_in extents) o ≡ None → o ≡ None
known_from extents None h = refl
known_from extents (Some k) h = absurd cc

module _ (items : List Declaration) (extents : List Extent) (held : List (Option Sort)) (bound : ℕ) (right : (place levels : ℕ) → bound ≤ levels → IsRightAt items extents held levels place) where
  pub found : (e : SortExpr) (levels : ℕ) → bound ≤ levels → (told (known_by (names_of items) extents) e).extent ≡ extent_of (sort_with (meaning items (suc levels)) e)
  found e levels le = found_extent items extents held levels e (λ x name part node place named. right place levels le)

  more_levels : (e : SortExpr) (m n : ℕ) (s : Sort) → m ≤ n → sort_with (meaning items m) e ≡ Some s → sort_with (meaning items n) e ≡ Some s
  more_levels e m n s le h = sort_grows (meaning items m) (meaning items n) (λ name t k. meaning_grows items m n le name t k) e s h

  found_of : (e : SortExpr) (s : Sort) → Resolves items e s → (told (known_by (names_of items) extents) e).extent ≡ extent_of (Some s)
  found_of e s (levels, h) = found e (bound + levels) (omega arith) ∙ ap extent_of (more_levels e levels (suc (bound + levels)) s (omega arith) h)

  pub extent_tells : (e : SortExpr) (x : Extent) → (told (known_by (names_of items) extents) e).extent ≡ x → IsExtent items e x
  extent_tells e NoSort is = λ s resolves.
      let levels = resolves.0 in
      let none = none_told (sort_with (meaning items (suc (bound + levels))) e) (sym (found e (bound + levels) (omega arith)) ∙ is) in
      let some = more_levels e levels (suc (bound + levels)) s (omega arith) resolves.1 in
      let bad : None ≡ Some s = sym none ∙ some in cc
  extent_tells e TooBig is =
      let big = big_told (sort_with (meaning items (suc bound)) e) (sym (found e bound (omega arith)) ∙ is) in
      (big.0, (suc bound, big.1), big.2)
  extent_tells e (Fits d n) is =
      let fits = fits_told (sort_with (meaning items (suc bound)) e) d n (sym (found e bound (omega arith)) ∙ is) in
      (fits.sort, (suc bound, fits.is), small_not_big fits.sort fits.small, fits.has_depth, fits.has_nodes)

  big_tells : (e : SortExpr) → IsTooBig items e → (told (known_by (names_of items) extents) e).extent ≡ TooBig
  big_tells e (s, resolves, big) = found_of e s resolves ∙ big_extent s big

  pub knows_faults : KnowsFaults items (known_by (names_of items) extents)
  knows_faults = record {
    unknown = λ name none. ap (option_map (extent_in extents)) none;
    only_unknown = λ name none. known_from extents (sort_named items name) none;
    big = big_tells;
    only_big = λ e is. extent_tells e TooBig is;
  }

  -- the sort that is built
  pub built : (e : SortExpr) → within (told (known_by (names_of items) extents) e).extent (sort_with (kept_by (names_of items) held) e) ≡ small (sort_with (meaning items (suc bound)) e)
  built e = found_sort items extents held bound e (λ x name part node place named. right place bound (omega arith))

module _ (items : List Declaration) (graph : List (List ℕ)) (is : IsGraph items (names_of items) source.Named graph) (nodes : List ℕ) (on_cycle : List Bool) (tells : TellsCycles graph on_cycle) (each : ListsEachOnce (length graph) nodes) (behind : StandBehindTargets graph nodes) where
  found_in_order : (place : ℕ) → place < length graph → (j : ℕ) × (j < length nodes) × (get_or nodes j 0 ≡ place)
  found_in_order place lt = let c = each.every place lt in (c.0, c.1, sym (get_or_default_zero nodes c.0 place c.1) ∙ c.2)

  all_settled : (place : ℕ) (d : Declaration) → slice_get items place ≡ Some d → IsSettled items nodes (length nodes) place
  all_settled place d stands = let at = found_in_order place (omega (arith, is.sized, slice_get_within items place d stands)) in (d, stands, inr (at.0, at.1, at.1, at.2))

  past_extents : (extents : List Extent) (place : ℕ) → length extents ≤ place → extent_in extents place ≡ NoSort
  past_extents [] place le = refl
  past_extents (x ∷ xs) zero le = absurd (omega arith)
  past_extents (x ∷ xs) (suc place) le = past_extents xs place (omega arith)

  past_sorts : (held : List (Option Sort)) (place : ℕ) → length held ≤ place → sort_in held place ≡ None
  past_sorts [] place le = refl
  past_sorts (x ∷ xs) zero le = absurd (omega arith)
  past_sorts (x ∷ xs) (suc place) le = past_sorts xs place (omega arith)

  all_right : (extents : List Extent) (held : List (Option Sort)) → Progress items nodes (length nodes) extents held → (place levels : ℕ) → length nodes ≤ levels → IsRightAt items extents held levels place
  all_right extents held done place levels le = elim (slice_get_cases items place).1 [
    | inl in' ↦ done.right place levels (all_settled place in'.0 in'.2) le
    | inr out ↦ record {
      extent = past_extents extents place (omega (arith, done.sized_extents, out.0)) ∙ sym (ap extent_of (at_nothing items levels place out.1));
      sort = past_sorts held place (omega (arith, done.sized_sorts, out.0)) ∙ sym (ap small (at_nothing items levels place out.1));
    }
  ]

  own_has : (place : ℕ) (d : Declaration) → names_sort d ≡ true → plain_expr d ≡ None → (m : List ℕ → Option Sort) → extent_of (declared_sort m place d) ≡ NoSort → ⊥
  own_has place (declarations.Named id name (bodies.Plain e) at) sort none m h = let bad : Some e ≡ None = none in cc
  own_has place (declarations.Named id name (bodies.Finite constants) at) sort none m h = let bad : Fits 1 1 ≡ NoSort = single_enumeration place ∙ h in cc
  own_has place (declarations.Named id name (bodies.Cyclic constants) at) sort none m h = let bad : Fits 1 1 ≡ NoSort = single_enumeration place ∙ h in cc
  own_has place (declarations.Variable id name sort at) is_sort none m h = let bad : false ≡ true = is_sort in cc
  own_has place (declarations.Partition id name sort elements at) is_sort none m h = let bad : Fits 1 1 ≡ NoSort = single_partition place ∙ h in cc

  abbrev HasFault : Type 0
  HasFault = (f : Fault) × StandsBesides items f

  -- a place without a sort, which stands early in the order, has a fault behind it
  abbrev Blames : List Extent → ℕ → Type 0
  Blames extents bound = (j n : ℕ) (d : Declaration) → j < bound → j < length nodes → get_or nodes j 0 ≡ n → slice_get items n ≡ Some d → names_sort d ≡ true → extent_in extents n ≡ NoSort → HasFault

  module _ (extents : List Extent) (held : List (Option Sort)) (done : Progress items nodes (length nodes) extents held) where
    right : (place levels : ℕ) → length nodes ≤ levels → IsRightAt items extents held levels place
    right = all_right extents held done

    from_name : (bound j n : ℕ) (d : Declaration) (e : SortExpr) → Blames extents bound → j < suc bound → j < length nodes → get_or nodes j 0 ≡ n → slice_get items n ≡ Some d → plain_expr d ≡ Some e → (Leads graph n n → ⊥)
        → (x : SortExpr) (name : List ℕ) → IsSortPart e x → x.node ≡ written.User name → (o : Option ℕ) → sort_named items name ≡ o → option_map (extent_in extents) o ≡ Some NoSort → HasFault
    from_name bound j n d e before lt inside n_is stands plain off x name part node None named h = absurd cc
    from_name bound j n d e before lt inside n_is stands plain off x name part node (Some k) named h =
        let none : extent_in extents k ≡ NoSort = cc in
        let sort = sort_declared items name k named in
        settled k sort.0 sort.1 sort.2 none (names_settled items graph is nodes on_cycle tells each behind j n d e inside n_is stands plain off x name part node k named)
      where
        settled : (k : ℕ) (c : Declaration) → slice_get items k ≡ Some c → names_sort c ≡ true → extent_in extents k ≡ NoSort → IsSettled items nodes j k → HasFault
        settled k c at is_sort none (c', at', inl own) =
            let same : c' ≡ c = let s : Some c' ≡ Some c = sym at' ∙ at in cc in
            absurd (own_has k c is_sort (ap plain_expr (sym same) ∙ own) (meaning items (length nodes)) (ap extent_of (sym (at_declared items (length nodes) k c at)) ∙ sym ((right k (length nodes) (omega arith)).extent) ∙ none))
        settled k c at is_sort none (c', at', inr (i, lower, i_inside, is_k)) = before i k c (omega arith) i_inside is_k at is_sort none

    off_blames : (bound j n : ℕ) (d : Declaration) (e : SortExpr) → Blames extents bound → j < suc bound → j < length nodes → get_or nodes j 0 ≡ n → slice_get items n ≡ Some d → plain_expr d ≡ Some e → (Leads graph n n → ⊥) → Why (known_by (names_of items) extents) e → HasFault
    off_blames bound j n d e before lt inside n_is stands plain off (by_fault _ f c) =
        (f, in_sort f d e (contains_at items n d stands) (plain_named d e plain).1 (told_stands items (known_by (names_of items) extents) (knows_faults items extents held (length nodes) right) e f c))
    off_blames bound j n d e before lt inside n_is stands plain off (by_name _ x name part node none) =
        from_name bound j n d e before lt inside n_is stands plain off x name part node (sort_named items name) refl none

    blame_plain : (bound j n : ℕ) (d : Declaration) → Blames extents bound → j < suc bound → j < length nodes → get_or nodes j 0 ≡ n → slice_get items n ≡ Some d → names_sort d ≡ true → extent_in extents n ≡ NoSort
        → (o : Option SortExpr) → plain_expr d ≡ o → (b : Bool) → slice_index_or on_cycle n false ≡ b → HasFault
    blame_plain bound j n d before lt inside n_is stands is_sort none None plain b cyclic =
        absurd (own_has n d is_sort plain (meaning items (length nodes)) (ap extent_of (sym (at_declared items (length nodes) n d stands)) ∙ sym ((right n (length nodes) (omega arith)).extent) ∙ none))
    blame_plain bound j n d before lt inside n_is stands is_sort none (Some e) plain true cyclic =
        let leads = cycle_leads items graph is nodes on_cycle tells each behind n (omega (arith, is.sized, slice_get_within items n d stands)) cyclic in
        (fault_at reasons.SortCycle (at_of d) (id_of d), sort_cycle (fault_at reasons.SortCycle (at_of d) (id_of d)) n d stands leads refl)
    blame_plain bound j n d before lt inside n_is stands is_sort none (Some e) plain false cyclic =
        let off = off_cycle items graph is nodes on_cycle tells each behind n (omega (arith, is.sized, slice_get_within items n d stands)) cyclic in
        let top = suc (length nodes) in
        let told_none : (told (known_by (names_of items) extents) e).extent ≡ NoSort =
        found items extents held (length nodes) right e (length nodes) (omega arith)
        ∙ ap extent_of (sym (plain_declared (meaning items top) n d e plain)) ∙ ap extent_of (sym (at_declared items top n d stands)) ∙ sym ((right n top (omega arith)).extent) ∙ none in
        off_blames bound j n d e before lt inside n_is stands plain off (why (known_by (names_of items) extents) e told_none)

    blames : (bound : ℕ) → Blames extents bound
    blames zero = λ j n d lt inside n_is stands is_sort none. absurd (omega arith)
    blames (suc bound) = λ j n d lt inside n_is stands is_sort none. blame_plain bound j n d (blames bound) lt inside n_is stands is_sort none (plain_expr d) refl (slice_index_or on_cycle n false) refl

    blame_name : (name : List ℕ) (place : ℕ) → sort_named items name ≡ Some place → extent_in extents place ≡ NoSort → HasFault
    blame_name name place named none =
        let sort = sort_declared items name place named in
        let at = found_in_order place (omega (arith, is.sized, slice_get_within items place sort.0 sort.1)) in
        blames (length nodes) at.0 place sort.0 at.1 at.1 at.2 sort.1 sort.2 none

    -- the table is whole
    pub table_is_right : (names : List (List ℕ × Declared)) → names ≡ names_of items → IsTable items names (record { extents = extents; sorts = held })
    table_is_right names are_names = record {
      are_names = are_names;
      bound = length nodes;
      extents = λ levels place le. (right place levels le).extent;
      sorts = λ levels place le. (right place levels le).sort;
      blame = blame_name;
    }
