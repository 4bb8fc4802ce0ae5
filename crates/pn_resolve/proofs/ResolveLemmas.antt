-- What the calls of a table tell of an expression.
use Rattle.std.proofs.Common.{◌≡◌, ◌⊎◌, inl, inr, ℕ, suc, ◌≤◌, List, Option, Some, None, refl, sym, ap, ◌∙◌, subst, arith}
use Rattle.std.specs.List.{Contains}
use Rattle.std.specs.Option.{option_and_then, option_map}
use Rattle.pn_faults.specs.declared.fault.Fault.{Fault}
use Rattle.pn_faults.specs.Order.{fault_at}
use Rattle.pn_faults.specs.Least.{least_fault, lower}
use Rattle.pn_faults.specs.Standing.{IsLeastOf}
use Rattle.pn_faults.specs.declared.reason.Reason.TheVariants as reasons
use Rattle.pn_syntax.specs.declared.declaration.Declaration.{Declaration}
use Rattle.pn_values.specs.declared.sort.Sort.{Sort}
use Rattle.pn_syntax.specs.declared.sort_expr.SortExpr.{SortExpr}
use Rattle.pn_names.specs.declared.Declared.{Declared}
use Rattle.pn_names.specs.Names.{names_of, sort_named}
use Rattle.pn_resolve.specs.declared.extent.Extent.{Extent}
use Rattle.pn_resolve.specs.declared.extent.Extent.TheVariants.{NoSort, TooBig, Fits}
use Rattle.pn_resolve.specs.Extents.{extent_of}
use Rattle.pn_syntax.specs.declared.sort_expr.SortNode.TheOpen as layer
use Rattle.pn_resolve.specs.Meaning.{sort_at_place, sort_with, meaning, Resolves, HasNoSort}
use Rattle.pn_resolve.specs.Standing.{itself, IsBig, IsNameOf, sort_too_big, StandsInSort, StandsBesides, element_name}
use Rattle.pn_faults.specs.Walks.{KeepsLeast}
use Rattle.pn_resolve.specs.Tables.{Entries, extent_in, sort_in, within, small, kept_by, IsExtent, IsTable}
use Rattle.pn_resolve.specs.Telling.{told, known_by}
use Rattle.pn_resolve.proofs.Expressions.{out_user, sort_at}
use Rattle.pn_resolve.proofs.ExtentLemmas.{big_told, fits_told, small_not_big}
use Rattle.pn_resolve.proofs.FaultLemmas.{stands_told, told_stands, Why, by_fault, by_name, why}
use Rattle.pn_resolve.proofs.LeastLemmas.{least_of}
use Rattle.pn_resolve.proofs.Meanings.{meaning_next, resolves_once}
use Rattle.pn_resolve.proofs.TableLemmas.{IsRightAt}
use Rattle.pn_resolve.proofs.TruthLemmas.{found, extent_tells, knows_faults, built}

-- a table with equal parts
pub table_of : (items : List Declaration) (names : List (List ℕ × Declared)) (xs ys : List Extent) (ss ts : List (Option Sort)) → xs ≡ ys → ss ≡ ts → IsTable items names (record { extents = xs; sorts = ss }) → IsTable items names (record { extents = ys; sorts = ts })
table_of items names xs ys ss ts a b t = subst (λ l. IsTable items names (record { extents = ys; sorts = l })) b (subst (λ l. IsTable items names (record { extents = l; sorts = ss })) a t)

-- a sort that was found small, and none
small_some : (o : Option Sort) (x : Extent) → extent_of o ≡ x → (s : Sort) → Some s ≡ within x o → (o ≡ Some s) × (IsBig s → ⊥)
small_some o NoSort is s h = absurd cc
small_some o TooBig is s h = absurd cc
small_some o (Fits d n) is s h =
    let fits = fits_told o d n is in
    let same : fits.sort ≡ s = let e : Some fits.sort ≡ Some s = sym fits.is ∙ sym h in cc in
    (sym h, subst (λ t. IsBig t → ⊥) same (small_not_big fits.sort fits.small))

lower_none : (o : Option Fault) → lower None o ≡ o
lower_none None = refl
lower_none (Some f) = refl

module _ (items : List Declaration) (names : List (List ℕ × Declared)) (extents : List Extent) (held : List (Option Sort)) (t : IsTable items names (record { extents = extents; sorts = held })) (e : SortExpr) where
  right : (place levels : ℕ) → t.bound ≤ levels → IsRightAt items extents held levels place
  right place levels le = record { extent = t.extents levels place le; sort = t.sorts levels place le }

  renamed : told (known_by names extents) e ≡ told (known_by (names_of items) extents) e
  renamed = ap (λ n. told (known_by n extents) e) t.are_names

  pub extent_true : (x : Extent) → x ≡ (told (known_by names extents) e).extent → IsExtent items e x
  extent_true x is = extent_tells items extents held t.bound right e x (sym (is ∙ ap (λ w. w.extent) renamed))

  pub all_stand : (f : Fault) → Contains (told (known_by names extents) e).faults f → StandsInSort items e f
  all_stand f c = told_stands items (known_by (names_of items) extents) (knows_faults items extents held t.bound right) e f (subst (λ w. Contains w.faults f) renamed c)

  pub all_told : (f : Fault) → StandsInSort items e f → Contains (told (known_by names extents) e).faults f
  all_told f stands = subst (λ w. Contains w.faults f) (sym renamed) (stands_told items (known_by (names_of items) extents) (knows_faults items extents held t.bound right) e f stands)

  least_is : (o : Option Fault) → least_fault (told (known_by names extents) e).faults ≡ o → IsLeastOf (StandsInSort items e) o
  least_is o is = least_of (StandsInSort items e) (told (known_by names extents) e).faults all_told all_stand o is

  pub least_true : (old new : Option Fault) → new ≡ lower old (least_fault (told (known_by names extents) e).faults) → KeepsLeast (StandsInSort items e) old new
  least_true old new is = record { own = least_fault (told (known_by names extents) e).faults; is_least = least_is (least_fault (told (known_by names extents) e).faults) refl; is_lower = is }

  pub first_least : (o : Option Fault) → o ≡ lower None (least_fault (told (known_by names extents) e).faults) → IsLeastOf (StandsInSort items e) o
  first_least o is = least_is o (sym (is ∙ lower_none (least_fault (told (known_by names extents) e).faults)))

  found_small : within (told (known_by names extents) e).extent (sort_with (kept_by names held) e) ≡ small (sort_with (meaning items (suc t.bound)) e)
  found_small = ap (λ n. within (told (known_by n extents) e).extent (sort_with (kept_by n held) e)) t.are_names ∙ built items extents held t.bound right e

  pub sort_true : (s : Sort) → Some s ≡ within (told (known_by names extents) e).extent (sort_with (kept_by names held) e) → Resolves items e s × (IsBig s → ⊥)
  sort_true s is = let found = small_some (sort_with (meaning items (suc t.bound)) e) (extent_of (sort_with (meaning items (suc t.bound)) e)) refl s (is ∙ found_small) in ((suc t.bound, found.0), found.1)

  found_extent : (told (known_by names extents) e).extent ≡ extent_of (sort_with (meaning items (suc t.bound)) e)
  found_extent = ap (λ w. w.extent) renamed ∙ found items extents held t.bound right e t.bound (omega arith)

  none_by : (s : Sort) → Resolves items e s → None ≡ within (told (known_by names extents) e).extent (sort_with (kept_by names held) e) → (x : Extent) → (told (known_by names extents) e).extent ≡ x → IsExtent items e x → IsBig s
  none_by s resolves is NoSort at has = absurd (has s resolves)
  none_by s resolves is TooBig at (b, bs, big) = subst IsBig (resolves_once items e b s bs resolves) big
  none_by s resolves is (Fits d n) at has =
      let o = sort_with (meaning items (suc t.bound)) e in
      let fits = fits_told o d n (sym found_extent ∙ at) in
      let bad : None ≡ Some fits.sort = is ∙ found_small ∙ ap (λ x. within x o) (sym found_extent ∙ at) ∙ fits.is in
      absurd cc

  pub none_true : None ≡ within (told (known_by names extents) e).extent (sort_with (kept_by names held) e) → (s : Sort) → Resolves items e s → IsBig s
  none_true is s resolves = none_by s resolves is (told (known_by names extents) e).extent refl (extent_true (told (known_by names extents) e).extent refl)

  no_sort_at_all : ((f : Fault) → StandsInSort items e f → ⊥) → None ≡ within (told (known_by names extents) e).extent (sort_with (kept_by names held) e) → HasNoSort items e
  no_sort_at_all faultless is = λ s resolves.
      let f = fault_at reasons.SortTooBig e.at (element_name e) in
      faultless f (e, itself e e refl, sort_too_big e f (s, resolves, none_true is s resolves) refl)

  extent_none : HasNoSort items e → (x : Extent) → IsExtent items e x → x ≡ NoSort
  extent_none none NoSort has = refl
  extent_none none TooBig (b, bs, big) = absurd (none b bs)
  extent_none none (Fits d n) (b, bs, not, dd, nn) = absurd (none b bs)

  behind_name : (o : Option ℕ) (name : List ℕ) → sort_named items name ≡ o → option_map (extent_in extents) o ≡ Some NoSort → (f : Fault) × StandsBesides items f
  behind_name None name named h = absurd cc
  behind_name (Some k) name named h = let none : extent_in extents k ≡ NoSort = cc in t.blame name k named none

  behind : ((f : Fault) → StandsInSort items e f → ⊥) → Why (known_by (names_of items) extents) e → (f : Fault) × StandsBesides items f
  behind faultless (by_fault _ f c) = absurd (faultless f (told_stands items (known_by (names_of items) extents) (knows_faults items extents held t.bound right) e f c))
  behind faultless (by_name _ x name part node none) = behind_name (sort_named items name) name refl none

  -- where nothing is built of an expression without faults, it has no sort, and the declarations have a fault
  pub elsewhere_true : ((f : Fault) → StandsInSort items e f → ⊥) → None ≡ within (told (known_by names extents) e).extent (sort_with (kept_by names held) e) → HasNoSort items e × ((f : Fault) → StandsInSort items e f → ⊥) × ((f : Fault) × StandsBesides items f)
  elsewhere_true faultless is =
      let none = no_sort_at_all faultless is in
      let gone : (told (known_by (names_of items) extents) e).extent ≡ NoSort = ap (λ w. w.extent) (sym renamed) ∙ extent_none none (told (known_by names extents) e).extent (extent_true (told (known_by names extents) e).extent refl) in
      (none, faultless, behind faultless (why (known_by (names_of items) extents) e gone))

-- a name has the sort at its place
name_means : (items : List Declaration) (place : ℕ) (e : SortExpr) → IsNameOf items place e → (levels : ℕ) → sort_with (meaning items (suc levels)) e ≡ sort_at_place items levels place
name_means items place e n levels =
    sort_at (meaning items (suc levels)) e (layer.User n.0) (out_user e.node n.0 n.1) ∙ meaning_next items levels n.0 ∙ ap (option_and_then (sort_at_place items levels)) n.2

-- a sort that is kept at the place of a name
pub name_has : (items : List Declaration) (names : List (List ℕ × Declared)) (table : Entries) → IsTable items names table → (place : ℕ) (s : Sort) → Some s ≡ sort_in table.sorts place → (e : SortExpr) → IsNameOf items place e → Resolves items e s
name_has items names table t place s is e n =
    let o = sort_at_place items t.bound place in
    (suc t.bound, name_means items place e n t.bound ∙ (small_some o (extent_of o) refl s (is ∙ t.sorts t.bound place (omega arith))).0)

-- where none is kept at the place of a name, there is a fault
pub name_has_not : (items : List Declaration) (names : List (List ℕ × Declared)) (table : Entries) → IsTable items names table → (place : ℕ) → None ≡ sort_in table.sorts place → (e : SortExpr) → IsNameOf items place e
    → (f : Fault) × (StandsInSort items e f ⊎ StandsBesides items f)
name_has_not items names table t place is e n = by (extent_of (sort_at_place items t.bound place)) refl
  where
    by : (x : Extent) → extent_of (sort_at_place items t.bound place) ≡ x → (f : Fault) × (StandsInSort items e f ⊎ StandsBesides items f)
    by NoSort at = let blamed = t.blame n.0 place n.2 (t.extents t.bound place (omega arith) ∙ at) in (blamed.0, inr blamed.1)
    by TooBig at =
        let big = big_told (sort_at_place items t.bound place) at in
        let f = fault_at reasons.SortTooBig e.at (element_name e) in
        (f, inl (e, itself e e refl, sort_too_big e f (big.0, (suc t.bound, name_means items place e n t.bound ∙ big.1), big.2) refl))
    by (Fits d k) at =
        let fits = fits_told (sort_at_place items t.bound place) d k at in
        let bad : None ≡ Some fits.sort = is ∙ t.sorts t.bound place (omega arith) ∙ ap (λ x. within x (sort_at_place items t.bound place)) at ∙ fits.is in
        absurd cc
