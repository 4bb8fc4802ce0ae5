-- The table of the declarations' sorts, as it is filled place by place.
use Rattle.std.proofs.Common.{◌≡◌, ◌⊎◌, inl, inr, ℕ, zero, suc, ◌+◌, ◌<◌, ◌≤◌, Bool, true, false, List, length, get_or, slice_index_or, Option, Some, None, refl, sym, ap, ◌∙◌, subst, arith}
use Rattle.std.specs.List.{slice_get}
use Rattle.std.specs.Option.{option_and_then, option_map}
use Rattle.std.proofs.lemmas.Bool.{cases_eq, cases_lt}
use Rattle.std.proofs.lemmas.List.{get_or-set_same, get_or-set_other, length-set}
use Rattle.std.proofs.lemmas.Option.{slice_get_cases, slice_get_within}
use Rattle.pn_syntax.specs.declared.declaration.Declaration.{Declaration}
use Rattle.pn_syntax.specs.declared.declaration.Declaration.TheVariants as declarations
use Rattle.pn_syntax.specs.declared.declaration.SortBody.TheVariants as bodies
use Rattle.pn_values.specs.declared.sort.Sort.{Sort}
use Rattle.pn_values.specs.declared.sort.Sort.TheVariants as sorts
use Rattle.pn_syntax.specs.declared.sort_expr.SortExpr.{SortExpr}
use Rattle.pn_syntax.specs.declared.sort_expr.SortNode.TheVariants as written
use Rattle.pn_cycles.specs.Graphs.{IsEdge, Leads, by_path}
use Rattle.pn_cycles.specs.Orders.{ListsEachOnce, StandsBefore, StandBehindTargets, TellsCycles}
use Rattle.pn_names.specs.Names.{names_of, sort_named}
use Rattle.pn_resolve.specs.declared.extent.Extent.{Extent}
use Rattle.pn_resolve.specs.declared.extent.Extent.TheVariants.{NoSort, TooBig, Fits}
use Rattle.pn_resolve.specs.Extents.{extent_of}
use Rattle.pn_resolve.specs.Links.{IsGraph}
use Rattle.pn_resolve.specs.declared.links.Sources.TheVariants as source
use Rattle.pn_resolve.specs.Meaning.{sort_with, declared_sort, meaning, sort_at_place}
use Rattle.pn_resolve.specs.Standing.{IsSortPart, NamesPlace, LeadsTo, IsNamedSort, is_named, expr_of}
use Rattle.pn_resolve.specs.Tables.{extent_in, sort_in, within, small, kept_by, plain_expr, own_sort, extents_with, sorts_with}
use Rattle.pn_resolve.specs.Telling.{told, known_by}
use Rattle.pn_resolve.proofs.Expressions.{NamesIn}
use Rattle.pn_values.specs.Sizes.{depth_of, nodes_of}
use Rattle.pn_resolve.proofs.ExtentLemmas.{name_extent, fits_is, extent_is_right, fits_told, IsSmall, small_product, small_list, single_enumeration, single_partition}
use Rattle.pn_resolve.proofs.Meanings.{meaning_next, no_sort_on_cycle, sort_carried}
use Rattle.pn_resolve.proofs.NameLemmas.{place_is_within}
use Rattle.pn_resolve.proofs.LinkLemmas.{names_edge, leads_to}

pub at_declared : (items : List Declaration) (levels place : ℕ) (d : Declaration) → slice_get items place ≡ Some d → sort_at_place items levels place ≡ declared_sort (meaning items levels) place d
at_declared items levels place d stands = ap (option_and_then (declared_sort (meaning items levels) place)) stands

pub at_nothing : (items : List Declaration) (levels place : ℕ) → slice_get items place ≡ None → sort_at_place items levels place ≡ None
at_nothing items levels place stands = ap (option_and_then (declared_sort (meaning items levels) place)) stands

own_declared : (m : List ℕ → Option Sort) (place : ℕ) (d : Declaration) → plain_expr d ≡ None → declared_sort m place d ≡ own_sort place d
own_declared m place (declarations.Named id name (bodies.Plain e) at) h = absurd cc
own_declared m place (declarations.Named id name (bodies.Finite constants) at) h = refl
own_declared m place (declarations.Named id name (bodies.Cyclic constants) at) h = refl
own_declared m place (declarations.Variable id name sort at) h = refl
own_declared m place (declarations.Partition id name sort elements at) h = refl

pub plain_declared : (m : List ℕ → Option Sort) (place : ℕ) (d : Declaration) (e : SortExpr) → plain_expr d ≡ Some e → declared_sort m place d ≡ sort_with m e
plain_declared m place (declarations.Named id name (bodies.Plain x) at) e h = let same : x ≡ e = cc in ap (sort_with m) same
plain_declared m place (declarations.Named id name (bodies.Finite constants) at) e h = absurd cc
plain_declared m place (declarations.Named id name (bodies.Cyclic constants) at) e h = absurd cc
plain_declared m place (declarations.Variable id name sort at) e h = absurd cc
plain_declared m place (declarations.Partition id name sort elements at) e h = absurd cc

pub plain_named : (d : Declaration) (e : SortExpr) → plain_expr d ≡ Some e → (is_named d ≡ true) × (expr_of d ≡ Some e)
plain_named (declarations.Named id name (bodies.Plain x) at) e h = (refl, h)
plain_named (declarations.Named id name (bodies.Finite constants) at) e h = absurd cc
plain_named (declarations.Named id name (bodies.Cyclic constants) at) e h = absurd cc
plain_named (declarations.Variable id name sort at) e h = absurd cc
plain_named (declarations.Partition id name sort elements at) e h = absurd cc

small_enumeration : (n : ℕ) → small (Some (sorts.Enumeration n)) ≡ Some (sorts.Enumeration n)
small_enumeration n = ap (λ x. within x (Some (sorts.Enumeration n))) (sym (single_enumeration n))

small_partition : (n : ℕ) → small (Some (sorts.Partition n)) ≡ Some (sorts.Partition n)
small_partition n = ap (λ x. within x (Some (sorts.Partition n))) (sym (single_partition n))

small_own : (place : ℕ) (d : Declaration) → own_sort place d ≡ small (own_sort place d)
small_own place (declarations.Named id name (bodies.Plain e) at) = refl
small_own place (declarations.Named id name (bodies.Finite constants) at) = sym (small_enumeration place)
small_own place (declarations.Named id name (bodies.Cyclic constants) at) = sym (small_enumeration place)
small_own place (declarations.Variable id name sort at) = refl
small_own place (declarations.Partition id name sort elements at) = sym (small_partition place)

-- what a table holds at a place is right when names are followed so often
pub record IsRightAt (items : List Declaration) (extents : List Extent) (held : List (Option Sort)) (levels place : ℕ) : Type 0 where
  pub extent : extent_in extents place ≡ extent_of (sort_at_place items levels place)
  pub sort : sort_in held place ≡ small (sort_at_place items levels place)

-- where the names in an expression lead to places at which the table is right, what is found of the expression is right
module _ (items : List Declaration) (extents : List Extent) (held : List (Option Sort)) (levels : ℕ) where
  abbrev IsRightFor : List ℕ → Type 0
  IsRightFor name = (place : ℕ) → sort_named items name ≡ Some place → IsRightAt items extents held levels place

  name_right : (name : List ℕ) → IsRightFor name → (o : Option ℕ) → sort_named items name ≡ o → name_extent (option_map (extent_in extents) o) ≡ extent_of (option_and_then (sort_at_place items levels) o)
  name_right name right None is = refl
  name_right name right (Some place) is = (right place is).extent

  knows : (name : List ℕ) → IsRightFor name → name_extent (known_by (names_of items) extents name) ≡ extent_of (meaning items (suc levels) name)
  knows name right = name_right name right (sort_named items name) refl ∙ sym (ap extent_of (meaning_next items levels name))

  pub found_extent : (e : SortExpr) → NamesIn IsRightFor e → (told (known_by (names_of items) extents) e).extent ≡ extent_of (sort_with (meaning items (suc levels)) e)
  found_extent e names = extent_is_right (known_by (names_of items) extents) (meaning items (suc levels)) e (λ x name part node. knows name (names x name part node))

  name_kept : (name : List ℕ) (s : Sort) → IsRightFor name → (o : Option ℕ) → sort_named items name ≡ o → option_and_then (sort_at_place items levels) o ≡ Some s → small (Some s) ≡ Some s → option_and_then (sort_in held) o ≡ Some s
  name_kept name s right None is h fits = absurd cc
  name_kept name s right (Some place) is h fits = (right place is).sort ∙ ap small h ∙ fits

  small_is : (s : Sort) → IsSmall s → small (Some s) ≡ Some s
  small_is s is = ap (λ x. within x (Some s)) (fits_is (depth_of s) (nodes_of s) is.depth is.nodes)

  keeps : (name : List ℕ) → IsRightFor name → (s : Sort) → meaning items (suc levels) name ≡ Some s → IsSmall s → kept_by (names_of items) held name ≡ Some s
  keeps name right s h is = name_kept name s right (sort_named items name) refl (sym (meaning_next items levels name) ∙ h) (small_is s is)

  kept_sort : (e : SortExpr) → NamesIn IsRightFor e → (x : Extent) → extent_of (sort_with (meaning items (suc levels)) e) ≡ x → within x (sort_with (kept_by (names_of items) held) e) ≡ within x (sort_with (meaning items (suc levels)) e)
  kept_sort e names NoSort is = refl
  kept_sort e names TooBig is = refl
  kept_sort e names (Fits d n) is =
      let fits = fits_told (sort_with (meaning items (suc levels)) e) d n is in
      sort_carried IsSmall small_product small_list (meaning items (suc levels)) (kept_by (names_of items) held) e (λ x name part node s h q. keeps name (names x name part node) s h q) fits.sort fits.is fits.small ∙ sym fits.is

  pub found_sort : (e : SortExpr) → NamesIn IsRightFor e → within (told (known_by (names_of items) extents) e).extent (sort_with (kept_by (names_of items) held) e) ≡ small (sort_with (meaning items (suc levels)) e)
  found_sort e names =
      ap (λ x. within x (sort_with (kept_by (names_of items) held) e)) (found_extent e names) ∙ kept_sort e names (extent_of (sort_with (meaning items (suc levels)) e)) refl

module _ (items : List Declaration) (nodes : List ℕ) where
  -- the place needs no settling, or has been settled
  abbrev pub IsSettled : ℕ → ℕ → Type 0
  IsSettled i place = (d : Declaration) × (slice_get items place ≡ Some d) × ((plain_expr d ≡ None) ⊎ ((j : ℕ) × (j < i) × (j < length nodes) × (get_or nodes j 0 ≡ place)))

  pub record Progress (i : ℕ) (extents : List Extent) (held : List (Option Sort)) : Type 0 where
    pub sized_extents : length extents ≡ length items
    pub sized_sorts : length held ≡ length items
    pub right : (place levels : ℕ) → IsSettled i place → i ≤ levels → IsRightAt items extents held levels place

module _ (items : List Declaration) (graph : List (List ℕ)) (is : IsGraph items (names_of items) source.Named graph) (nodes : List ℕ) (on_cycle : List Bool) (tells : TellsCycles graph on_cycle) (each : ListsEachOnce (length graph) nodes) (behind : StandBehindTargets graph nodes) where
  own_right : (extents : List Extent) (held : List (Option Sort)) (levels place : ℕ) (d : Declaration) → slice_get items place ≡ Some d → plain_expr d ≡ None → extent_in extents place ≡ extent_of (own_sort place d) → sort_in held place ≡ own_sort place d → IsRightAt items extents held levels place
  own_right extents held levels place d stands none extent sort =
      let declared : sort_at_place items levels place ≡ own_sort place d = at_declared items levels place d stands ∙ own_declared (meaning items levels) place d none in
      record { extent = extent ∙ ap extent_of (sym declared); sort = sort ∙ small_own place d ∙ ap small (sym declared) }

  pub first_progress : (extents : List Extent) (held : List (Option Sort)) → length extents ≡ length items → length held ≡ length items
      → ((place : ℕ) (d : Declaration) → slice_get items place ≡ Some d → extent_in extents place ≡ extent_of (own_sort place d))
      → ((place : ℕ) (d : Declaration) → slice_get items place ≡ Some d → sort_in held place ≡ own_sort place d) → Progress items nodes 0 extents held
  first_progress extents held a b own_extents own_sorts = record {
    sized_extents = a;
    sized_sorts = b;
    right = λ place levels settled le. first place levels settled.0 settled.1 settled.2;
  }
    where
      first : (place levels : ℕ) (d : Declaration) → slice_get items place ≡ Some d → (plain_expr d ≡ None) ⊎ ((j : ℕ) × (j < 0) × (j < length nodes) × (get_or nodes j 0 ≡ place)) → IsRightAt items extents held levels place
      first place levels d stands (inl none) = own_right extents held levels place d stands none (own_extents place d stands) (own_sorts place d stands)
      first place levels d stands (inr j) = absurd (omega (arith, j.1))

  same_declaration : (place : ℕ) (d d' : Declaration) → slice_get items place ≡ Some d → slice_get items place ≡ Some d' → d ≡ d'
  same_declaration place d d' a b = let e : Some d ≡ Some d' = sym a ∙ b in cc

  -- what a `namedsort` off all cycles names is settled before it
  pub names_settled : (i n : ℕ) (d : Declaration) (e : SortExpr) → i < length nodes → get_or nodes i 0 ≡ n → slice_get items n ≡ Some d → plain_expr d ≡ Some e → (Leads graph n n → ⊥)
      → (x : SortExpr) (name : List ℕ) → IsSortPart e x → x.node ≡ written.User name → (place : ℕ) → sort_named items name ≡ Some place → IsSettled items nodes i place
  names_settled i n d e lt n_is stands plain off x name part node place named = elim (slice_get_cases items place).1 [
    | inl in' ↦ (in'.0, in'.2, at in'.0 in'.2 (plain_expr in'.0) refl)
    | inr out ↦ absurd (omega (arith, out.0, place_is_within items name place named))
  ]
    where
      names : NamesPlace items n place
      names = record { declaration = d; stands = stands; whole = e; is_sort = (plain_named d e plain).1; part = x; is_part = part; name = name; is_user = node; is_name = named }

      edge : IsEdge graph n place
      edge = names_edge items source.Named graph is n place names (plain_named d e plain).0

      before : StandsBefore nodes place n ⊎ Leads graph place n → (j : ℕ) × (j < i) × (j < length nodes) × (get_or nodes j 0 ≡ place)
      before (inl (j, k, lower, inside, is_place, is_n)) =
          let same : k ≡ i = each.once k i inside lt (is_n ∙ sym n_is) in
          (j, omega arith, omega arith, is_place)
      before (inr back) = absurd (off (by_path edge back))

      at : (d' : Declaration) → slice_get items place ≡ Some d' → (o : Option SortExpr) → plain_expr d' ≡ o → (plain_expr d' ≡ None) ⊎ ((j : ℕ) × (j < i) × (j < length nodes) × (get_or nodes j 0 ≡ place))
      at d' stands' None is' = inl is'
      at d' stands' (Some e') is' = inr (before (behind n place edge))

  pub off_cycle : (n : ℕ) → n < length graph → slice_index_or on_cycle n false ≡ false → Leads graph n n → ⊥
  off_cycle n lt is' leads = let bad : true ≡ false = sym ((tells n lt).1 leads) ∙ is' in cc

  pub cycle_leads : (n : ℕ) → n < length graph → slice_index_or on_cycle n false ≡ true → LeadsTo items n n
  cycle_leads n lt is' = leads_to items source.Named graph is n (λ place d named. inl named) n n ((tells n lt).0 is') refl

  none_at : (n levels : ℕ) (o : Option Sort) → sort_at_place items levels n ≡ o → LeadsTo items n n → IsNamedSort items n → sort_at_place items levels n ≡ None
  none_at n levels None is' leads named = is'
  none_at n levels (Some s) is' leads named = absurd (no_sort_on_cycle items n leads named levels s is')

  -- what is written at a place that is settled now is right
  settles : (i n : ℕ) (d : Declaration) (e : SortExpr) (extents : List Extent) (held : List (Option Sort)) → i < length nodes → get_or nodes i 0 ≡ n → slice_get items n ≡ Some d → plain_expr d ≡ Some e → Progress items nodes i extents held
      → (b : Bool) → slice_index_or on_cycle n false ≡ b → (levels : ℕ) → i + 1 ≤ levels → IsRightAt items (extents_with (names_of items) b n (Some e) extents) (sorts_with (names_of items) b n (Some e) extents held) levels n
  settles i n d e extents held lt n_is stands plain before true cyclic levels le =
      let within_items = slice_get_within items n d stands in
      let none = none_at n levels (sort_at_place items levels n) refl (cycle_leads n (omega (arith, is.sized)) cyclic) (d, stands, (plain_named d e plain).0) in
      record {
        extent = get_or-set_same extents n NoSort NoSort (omega (arith, before.sized_extents)) ∙ ap extent_of (sym none);
        sort = get_or-set_same held n None None (omega (arith, before.sized_sorts)) ∙ ap small (sym none);
      }
  settles i n d e extents held lt n_is stands plain before false cyclic zero le = absurd (omega arith)
  settles i n d e extents held lt n_is stands plain before false cyclic (suc levels) le =
      let within_items = slice_get_within items n d stands in
      let names : NamesIn (IsRightFor items extents held levels) e = λ x name part node place named.
      before.right place levels (names_settled i n d e lt n_is stands plain (off_cycle n (omega (arith, is.sized)) cyclic) x name part node place named) (omega arith) in
      let means : sort_at_place items (suc levels) n ≡ sort_with (meaning items (suc levels)) e = at_declared items (suc levels) n d stands ∙ plain_declared (meaning items (suc levels)) n d e plain in
      record {
        extent = get_or-set_same extents n _ NoSort (omega (arith, before.sized_extents)) ∙ found_extent items extents held levels e names ∙ ap extent_of (sym means);
        sort = get_or-set_same held n _ None (omega (arith, before.sized_sorts)) ∙ found_sort items extents held levels e names ∙ ap small (sym means);
      }

  other_extent : (b : Bool) (n place : ℕ) (e : SortExpr) (extents : List Extent) → (place ≡ n → ⊥) → extent_in (extents_with (names_of items) b n (Some e) extents) place ≡ extent_in extents place
  other_extent true n place e extents not = get_or-set_other extents n place NoSort NoSort not
  other_extent false n place e extents not = get_or-set_other extents n place _ NoSort not

  other_sort : (b : Bool) (n place : ℕ) (e : SortExpr) (extents : List Extent) (held : List (Option Sort)) → (place ≡ n → ⊥) → sort_in (sorts_with (names_of items) b n (Some e) extents held) place ≡ sort_in held place
  other_sort true n place e extents held not = get_or-set_other held n place None None not
  other_sort false n place e extents held not = get_or-set_other held n place _ None not

  pub sized_with : (b : Bool) (n : ℕ) (e : SortExpr) (extents : List Extent) → length (extents_with (names_of items) b n (Some e) extents) ≡ length extents
  sized_with true n e extents = length-set extents n NoSort
  sized_with false n e extents = length-set extents n _

  pub sized_sorts_with : (b : Bool) (n : ℕ) (e : SortExpr) (extents : List Extent) (held : List (Option Sort)) → length (sorts_with (names_of items) b n (Some e) extents held) ≡ length held
  sized_sorts_with true n e extents held = length-set held n None
  sized_sorts_with false n e extents held = length-set held n _

  settled_before : (i n place : ℕ) → get_or nodes i 0 ≡ n → IsSettled items nodes (i + 1) place → (place ≡ n → ⊥) → IsSettled items nodes i place
  settled_before i n place n_is (d, stands, inl none) not = (d, stands, inl none)
  settled_before i n place n_is (d, stands, inr (j, lt, inside, j_is)) not = (d, stands, inr (j, earlier (cases_lt j i), inside, j_is))
    where
      earlier : (j < i) ⊎ (i ≤ j) → j < i
      earlier (inl a) = a
      earlier (inr b) = let same : j ≡ i = omega arith in absurd (not (sym j_is ∙ ap (λ k. get_or nodes k 0) same ∙ n_is))

  settled_own : (i n place : ℕ) (d : Declaration) → get_or nodes i 0 ≡ n → slice_get items n ≡ Some d → plain_expr d ≡ None → IsSettled items nodes (i + 1) place → IsSettled items nodes i place
  settled_own i n place d n_is stands none settled = elim (cases_eq place n) [
    | inl same ↦ (d, ap (slice_get items) same ∙ stands, inl none)
    | inr not ↦ settled_before i n place n_is settled not
  ]

  progress_at : (i n : ℕ) (d : Declaration) (o : Option SortExpr) (b : Bool) (extents : List Extent) (held : List (Option Sort)) → i < length nodes → get_or nodes i 0 ≡ n → slice_get items n ≡ Some d → plain_expr d ≡ o → slice_index_or on_cycle n false ≡ b → Progress items nodes i extents held
      → Progress items nodes (i + 1) (extents_with (names_of items) b n o extents) (sorts_with (names_of items) b n o extents held)
  progress_at i n d None b extents held lt n_is stands plain cyclic before = record {
    sized_extents = before.sized_extents;
    sized_sorts = before.sized_sorts;
    right = λ place levels settled le. before.right place levels (settled_own i n place d n_is stands plain settled) (omega arith);
  }
  progress_at i n d (Some e) b extents held lt n_is stands plain cyclic before = record {
    sized_extents = sized_with b n e extents ∙ before.sized_extents;
    sized_sorts = sized_sorts_with b n e extents held ∙ before.sized_sorts;
    right = λ place levels settled le. elim (cases_eq place n) [
      | inl same ↦ subst (λ k. IsRightAt items (extents_with (names_of items) b n (Some e) extents) (sorts_with (names_of items) b n (Some e) extents held) levels k) (sym same) (settles i n d e extents held lt n_is stands plain before b cyclic levels le)
      | inr not ↦ (let old = before.right place levels (settled_before i n place n_is settled not) (omega arith) in record {
        extent = other_extent b n place e extents not ∙ old.extent;
        sort = other_sort b n place e extents held not ∙ old.sort;
      })
    ];
  }

  pub next_progress : (i n : ℕ) (d : Declaration) (b : Bool) (extents : List Extent) (held : List (Option Sort)) → i < length nodes → get_or nodes i 0 ≡ n → slice_get items n ≡ Some d → slice_index_or on_cycle n false ≡ b → Progress items nodes i extents held
      → Progress items nodes (i + 1) (extents_with (names_of items) b n (plain_expr d) extents) (sorts_with (names_of items) b n (plain_expr d) extents held)
  next_progress i n d b extents held lt n_is stands cyclic before = progress_at i n d (plain_expr d) b extents held lt n_is stands refl cyclic before
