-- The sorts of an accepted document's places fit its kind.
use Rattle.std.proofs.Common.{◌≡◌, ℕ, zero, suc, Bool, true, List, [], ◌∷◌, Option, Some, None, IfSome, refl, sym, ap, subst, ◌∙◌, codes}
use Rattle.std.specs.List.{AllByRecursion, Contains, slice_get}
use Rattle.pn_checks.proofs.DistinctLemmas.{linked_declarations_are_distinct}
use Rattle.pn_checks.proofs.FlatLemmas.{flat_declarations, flat_places_are}
use Rattle.pn_checks.proofs.KeptLemmas.{accepted_links, accepted_sorts}
use Rattle.pn_checks.proofs.TypingLemmas.{there}
use Rattle.pn_checks.specs.Linked.{IsLinked}
use Rattle.pn_checks.specs.Verdicts.{IsAccepted}
use Rattle.pn_facts.proofs.Contained.{contains_at, contains_nil}
use Rattle.pn_facts.proofs.Each.{one_of}
use Rattle.pn_faults.specs.Order.{fault_at}
use Rattle.pn_faults.specs.declared.reason.Reason.TheVariants as reasons
use Rattle.pn_ids.specs.Names.{AreDistinct}
use Rattle.pn_names.specs.Names.{names_of}
use Rattle.pn_net.specs.Flattening.{in_one, net_of_flat}
use Rattle.pn_net.specs.Labels.{IsPlaceSort, IsSortBy, said, type_exprs}
use Rattle.pn_net.specs.Typed.{IsSortOfPlace}
use Rattle.pn_net.specs.Typing.{of_type}
use Rattle.pn_net.specs.declared.flat.Flat.{Flat}
use Rattle.pn_objects.specs.declared.label.Label.{Label}
use Rattle.pn_objects.specs.declared.net.Page.TheViews.{out-roll-Page}
use Rattle.pn_objects.specs.declared.object.Place.{Place}
use Rattle.pn_operators.specs.declared.kind.Kind.{Kind}
use Rattle.pn_operators.specs.declared.kind.Kind.TheVariants as kinds
use Rattle.pn_pages.proofs.SpellableLemmas.{flat_is_spellable}
use Rattle.pn_resolve.proofs.ExtentLemmas.{big_extent, single_dot}
use Rattle.pn_resolve.specs.Meaning.{Resolves}
use Rattle.pn_resolve.specs.Standing.{IsBig, StandsInSort, element_name, itself, sort_too_big}
use Rattle.pn_round_trip.proofs.NetLaws.{net_spellable}
use Rattle.pn_round_trip.specs.Spellable.{IsHadWith, IsSpellableDeclaration, IsSpellableLabel, IsSpellableNet, IsSpellablePage, IsSpellablePlace, IsSpellableWith, IsSpelledSort}
use Rattle.pn_shape.specs.Rules.{is_had, rule_for}
use Rattle.pn_shape.specs.declared.tag.Tag.TheVariants as tag
use Rattle.pn_spelling.specs.ReadNets.{net_of}
use Rattle.pn_syntax.specs.declared.declaration.Declaration.{Declaration}
use Rattle.pn_syntax.specs.declared.declaration.Declaration.TheVariants as declarations
use Rattle.pn_syntax.specs.declared.declaration.SortBody.TheVariants as bodies
use Rattle.pn_syntax.specs.declared.sort_expr.SortExpr.{SortExpr}
use Rattle.pn_tree.specs.declared.element.Element.{Element}
use Rattle.pn_values.specs.declared.sort.Sort.{Sort}
use Rattle.pn_values.specs.declared.sort.Sort.TheVariants as sorts
use Rattle.pn_values.specs.declared.sort.Sort.TheOpen as layer
use Rattle.pn_values.specs.declared.sort.Sort.TheVariants.{rolls-Dot}
use Rattle.pn_documents.proofs.DeclaredFitLemmas.{declared_spelled, resolved_stands}
use Rattle.pn_documents.proofs.RemarkedLemmas.{own_page, own_page_layer}
use Rattle.pn_documents.proofs.SortFitLemmas.{Stands, stands_by}
use Rattle.pn_documents.proofs.TextIdLemmas.{text_ids}
use Rattle.pn_documents.specs.Fit.{HasFitSorts}

dot_small : IsBig sorts.Dot → ⊥
dot_small big = let bad = single_dot ∙ big_extent sorts.Dot big in cc

plain_has_no_type : is_had kinds.PtNet tag.Type ≡ true → ⊥
unfolding rule_for
plain_has_no_type h = cc

-- a place of a place/transition net has no type
no_type : (k : Kind) → k ≡ kinds.PtNet → (o : Option (Label SortExpr)) → IfSome o (IsHadWith k tag.Type (IsSpellableLabel (IsSpelledSort k))) → said o ≡ None
no_type k is None had = refl
no_type k is (Some l) had = absurd (plain_has_no_type (subst (λ j. is_had j tag.Type ≡ true) is had.0))

-- each place of a flat net that can be spelled can be spelled
pub places_spelled : (f : Flat) → IsSpellableNet (net_of_flat f) → AllByRecursion (IsSpellablePlace f.kind) f.places
places_spelled f w = by w.levels w.pages.0
  where
    by : (levels : ℕ) → IsSpellablePage f.kind levels (own_page f) → AllByRecursion (IsSpellablePlace f.kind) f.places
    by zero is = absurd is
    by (suc levels) is = (subst (IsSpellableWith f.kind (IsSpellablePage f.kind levels)) (out-roll-Page (own_page_layer f)) is).places

module _ (tree : Element) (f : Flat) (accepted : IsAccepted tree) (linked : IsLinked tree f) where
  -- the flat net can be spelled
  pub flat_spelled : IsSpellableNet (net_of_flat f)
  flat_spelled = flat_is_spellable (net_of tree) (net_of_flat f) linked.is_flat (net_spellable tree (net_of tree) (accepted_links tree accepted).spells refl)

  -- so can each of its places
  pub place_at_spelled : (i : ℕ) (p : Place) → slice_get f.places i ≡ Some p → IsSpellablePlace f.kind p
  place_at_spelled i p at = one_of (IsSpellablePlace f.kind) f.places p (places_spelled f flat_spelled) (contains_at f.places i p at)

  -- no fault of sorts stands in the type of a place
  pub type_sound : (i : ℕ) (p : Place) (e : SortExpr) → slice_get f.places i ≡ Some p → said p.sort ≡ Some e → (g : _) → StandsInSort f.declarations e g → ⊥
  type_sound i p e at says g stands =
      accepted_sorts tree accepted g
      (of_type g e (there (λ (q : Place). said q.sort) _ p e (subst (λ ps. Contains ps p) (flat_places_are (net_of tree) f linked.is_flat) (contains_at f.places i p at)) says)
      (subst (λ ds. StandsInSort ds e g) (flat_declarations (net_of tree) f linked.is_flat) stands))

  -- the sort of a place is within the limits
  pub place_sort_small : (i : ℕ) (s : Sort) → IsSortOfPlace f i s → IsBig s → ⊥
  place_sort_small i s (p, at, of_place) = by (said p.sort) refl of_place
    where
      by : (o : Option SortExpr) → said p.sort ≡ o → IsSortBy f.declarations o s → IsBig s → ⊥
      by None says is big = dot_small (subst IsBig is big)
      by (Some e) says is big =
          let g = fault_at reasons.SortTooBig e.at (element_name e) in
          type_sound i p e at says g (e, itself e e refl, sort_too_big e g (s, is, big) refl)

  -- no id is declared twice
  pub flat_distinct : AreDistinct (names_of f.declarations)
  flat_distinct = linked_declarations_are_distinct tree f linked

  -- a place of a place/transition net has the sort of the one value
  pub plain_sort : f.kind ≡ kinds.PtNet → (i : ℕ) (p : Place) → slice_get f.places i ≡ Some p → IsPlaceSort f.declarations p sorts.Dot
  plain_sort is i p at = subst (λ o. IsSortBy f.declarations o sorts.Dot) (sym (no_type f.kind is p.sort (place_at_spelled i p at).sort)) refl

  -- the sort expressions of its declarations are spelled
  declarations_spelled : (ds : List Declaration) → AllByRecursion (IsSpellableDeclaration f.kind) (in_one ds) → (d : Declaration) → Contains ds d → (id : List ℕ) (name : Option (List ℕ)) (e : SortExpr) (at : ℕ) → d ≡ declarations.Named id name (bodies.Plain e) at
      → IsSpelledSort f.kind e
  declarations_spelled [] all d there = absurd (contains_nil d there)
  declarations_spelled (x ∷ ds) all d there = declared_spelled f.kind (x ∷ ds) all.0.1.value d there

  -- the sort of a place stands in nets of the kind
  place_sort_stands : (i : ℕ) (s : Sort) → IsSortOfPlace f i s → Stands f.kind s
  place_sort_stands i s (p, at, of_place) = by p.sort (place_at_spelled i p at).sort of_place
    where
      by : (o : Option (Label SortExpr)) → IfSome o (IsHadWith f.kind tag.Type (IsSpellableLabel (IsSpelledSort f.kind))) → IsSortBy f.declarations (said o) s → Stands f.kind s
      by None had is = stands_by f.kind layer.Dot refl refl s (rolls-Dot ∙ sym is)
      by (Some l) had is = resolved_stands f.kind f.declarations (declarations_spelled f.declarations flat_spelled.declarations) l.value had.1.value s is

  pub fit_sorts : HasFitSorts f
  fit_sorts = record {
    distinct = flat_distinct;
    ids = text_ids f linked.writable;
    fits = λ i s is. record { stands = (place_sort_stands i s is).stands; sound = (place_sort_stands i s is).sound; small = place_sort_small i s is };
    plain = plain_sort;
  }
