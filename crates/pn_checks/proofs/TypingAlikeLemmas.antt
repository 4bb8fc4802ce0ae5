-- Terms that are equal but for offsets have faults of typing alike: where one of them has a fault, so has the other.
use Rattle.std.proofs.Common.{◌≡◌, inl, inr, ℕ, List, [], ◌∷◌, map, codes, refl, sym, ap, ◌∙◌, subst}
use Rattle.std.specs.Option.{option_and_then}
use Rattle.pn_carriers.specs.Members.{is_member}
use Rattle.pn_carriers.specs.Sizes.{size_of}
use Rattle.pn_faults.specs.declared.fault.Fault.{Fault}
use Rattle.pn_faults.specs.Order.{fault_at}
use Rattle.pn_faults.specs.declared.reason.Reason.TheVariants as reasons
use Rattle.pn_ids.specs.Names.{named_in}
use Rattle.pn_names.specs.Names.{constant_ref, partition_place, variable_number}
use Rattle.pn_operators.specs.Operators.{name_of}
use Rattle.pn_operators.specs.declared.op.Op.{Op}
use Rattle.pn_resolve.proofs.OffsetLemmas as resolved
use Rattle.pn_round_trip.proofs.OffsetLemmas.{bare_term_layer}
use Rattle.pn_syntax.specs.Offsets.{declaration_without_offsets}
use Rattle.pn_syntax.specs.TermOffsets.{term_without_offsets}
use Rattle.pn_syntax.specs.declared.declaration.Declaration.{Declaration}
use Rattle.pn_syntax.specs.declared.term.Term.{Term}
use Rattle.pn_syntax.specs.declared.term.TermNode.TheOpen as layer
use Rattle.pn_terms.proofs.OffsetLemmas.{offsets_aside}
use Rattle.pn_terms.proofs.SortLemmas.{empty_have, first_have, sorts_agree}
use Rattle.pn_terms.specs.Rows.{Fits, given_by}
use Rattle.pn_terms.specs.Sorts.{Gives, HaveSorts, is_few, more, none, number_sort}
use Rattle.pn_terms.specs.Standing.{StandsAlways, StandsAt, StandsIn, StandsWith}
use Rattle.pn_terms.specs.Terms.{Layer, layer_of, parts_of}
use Rattle.pn_terms.specs.declared.term_sort.TermSort.{TermSort}
use Rattle.pn_values.specs.declared.sort.Sort.TheVariants as sorts
use Rattle.pn_values.specs.declared.value.Value.TheVariants as values
use Rattle.pn_checks.proofs.DeclarationAlikeLemmas.{base_alike, names_same, widths_same}
use Rattle.pn_terms.proofs.OffsetLemmas.{parts_alike}
use Rattle.pn_checks.proofs.TermAlikeLemmas.{TellsTermLayer, part_alike, told}

module _ (items others : List Declaration) (same : map declaration_without_offsets items ≡ map declaration_without_offsets others) where
  -- terms that are equal but for offsets have the same sorts
  pub have_alike : (es xs : List Term) (ss : List TermSort) → map term_without_offsets es ≡ map term_without_offsets xs → HaveSorts items es ss → HaveSorts others xs ss
  have_alike [] [] ss alike have = none [] ss refl (empty_have items [] ss refl have)
  have_alike [] (x ∷ xs) ss alike have = absurd cc
  have_alike (e ∷ es) [] ss alike have = absurd cc
  have_alike (e ∷ es) (x ∷ xs) ss alike have =
      let first = first_have items (e ∷ es) e es ss refl have in
      let head : term_without_offsets e ≡ term_without_offsets x = cc in
      let tail : map term_without_offsets es ≡ map term_without_offsets xs = cc in
      let moved = offsets_aside items others e x first.sort same head (first.below, first.parts, first.gives) in
      more (x ∷ xs) ss x xs first.sort first.others moved.0 refl first.whole moved.1 moved.2 (have_alike es xs first.others tail first.have)

  -- a fault that a layer has whatever its parts are
  always_alike : (l m : Layer) → TellsTermLayer (bare_term_layer l) m → (at place : ℕ) (f : Fault) → StandsAlways items l at f → (g : Fault) × StandsAlways others m place g
  always_alike (layer.Variable name) m is at place f (unknown, told_so) = (
    fault_at reasons.UnknownVariable place name,
    subst (λ k. StandsAlways others k place (fault_at reasons.UnknownVariable place name)) (sym is)
        (ap (λ names. option_and_then variable_number (named_in names name)) (sym (names_same items others same)) ∙ unknown, refl),
  )
  always_alike (layer.UserOp name) m is at place f (unknown, told_so) = (
    fault_at reasons.UnknownOperator place name,
    subst (λ k. StandsAlways others k place (fault_at reasons.UnknownOperator place name)) (sym is)
        (ap (λ names. option_and_then constant_ref (named_in names name)) (sym (names_same items others same)) ∙ unknown, refl),
  )
  always_alike (layer.Bool truth) m is at place f stands = absurd stands
  always_alike (layer.Number value sort) m is at place f (bad, told_so) = (
    fault_at reasons.BadConstant place (codes "numberconstant"),
    subst (λ k. StandsAlways others k place (fault_at reasons.BadConstant place (codes "numberconstant"))) (sym is)
        (ap (λ widths. is_member widths (number_sort sort) (values.Int value)) (sym (widths_same items others same)) ∙ bad, refl),
  )
  always_alike (layer.RangeConst value start end) m is at place f (bad, told_so) = (
    fault_at reasons.BadConstant place (codes "finiteintrangeconstant"),
    subst (λ k. StandsAlways others k place (fault_at reasons.BadConstant place (codes "finiteintrangeconstant"))) (sym is)
        (ap (λ widths. is_member widths (sorts.Range start end) (values.Int value)) (sym (widths_same items others same)) ∙ bad, refl),
  )
  always_alike (layer.Text text) m is at place f (bad, told_so) = (
    fault_at reasons.BadConstant place (codes "stringconstant"),
    subst (λ k. StandsAlways others k place (fault_at reasons.BadConstant place (codes "stringconstant"))) (sym is)
        (ap (λ widths. is_member widths sorts.Text (values.Text text)) (sym (widths_same items others same)) ∙ bad, refl),
  )
  always_alike (layer.All e) m (x, is, alike) at place f (sort, has, large, told_so) = (
    fault_at reasons.AllTooLarge place (codes "all"),
    subst (λ k. StandsAlways others k place (fault_at reasons.AllTooLarge place (codes "all"))) (sym is)
        (sort, resolved.offsets_aside items others e x sort same alike has, ap (λ widths. is_few (size_of widths sort)) (sym (widths_same items others same)) ∙ large, refl),
  )
  always_alike (layer.Empty e) m is at place f stands = absurd stands
  always_alike (layer.EmptyList e) m is at place f stands = absurd stands
  always_alike (layer.PartitionOf name arg) m (x, is, alike) at place f (unknown, told_so) = (
    fault_at reasons.UnknownPartition place name,
    subst (λ k. StandsAlways others k place (fault_at reasons.UnknownPartition place name)) (sym is)
        (ap (λ names. option_and_then partition_place (named_in names name)) (sym (names_same items others same)) ∙ unknown, refl),
  )
  always_alike (layer.Apply op args) m is at place f stands = absurd stands

  -- where the arguments of the other fit its operator, so do these
  fits_back : (e other : Term) → term_without_offsets e ≡ term_without_offsets other → (op : Op) (args xs : List Term) (ts : List TermSort) → layer_of e ≡ layer.Apply op args → layer_of other ≡ layer.Apply op xs
      → HaveSorts items (parts_of e) ts → Fits others op ts → Fits items op ts
  fits_back e other alike op args xs ts is also have fits =
      let there = have_alike (parts_of e) (parts_of other) ts (parts_alike e other alike) have in
      let sorted = offsets_aside others items other e (given_by op ts) (sym same) (sym alike) (ts, there, subst (λ l. Gives others l ts (given_by op ts)) (sym also) (fits, refl)) in
      let gives : Gives items (layer.Apply op args) sorted.0 (given_by op ts) = subst (λ l. Gives items l sorted.0 (given_by op ts)) is sorted.2 in
      subst (Fits items op) (sorts_agree items (parts_of e) sorted.0 ts sorted.1 have) gives.0

  -- a fault that a term has by the sorts of its arguments
  with_alike : (e other : Term) → term_without_offsets e ≡ term_without_offsets other → (ts : List TermSort) → HaveSorts items (parts_of e) ts → (l : Layer) → layer_of e ≡ l → (f : Fault) → StandsWith items l ts e.at f
      → (g : Fault) × StandsWith others (layer_of other) ts other.at g
  with_alike e other alike ts have (layer.Variable name) is f stands = absurd stands
  with_alike e other alike ts have (layer.UserOp name) is f stands = absurd stands
  with_alike e other alike ts have (layer.Bool truth) is f stands = absurd stands
  with_alike e other alike ts have (layer.Number value sort) is f stands = absurd stands
  with_alike e other alike ts have (layer.RangeConst value start end) is f stands = absurd stands
  with_alike e other alike ts have (layer.Text text) is f stands = absurd stands
  with_alike e other alike ts have (layer.All x) is f stands = absurd stands
  with_alike e other alike ts have (layer.Empty x) is f stands = absurd stands
  with_alike e other alike ts have (layer.EmptyList x) is f stands = absurd stands
  with_alike e other alike ts have (layer.PartitionOf name arg) is f (p, base, named, of_base, unfit, told_so) =
      let there = told e other (layer.PartitionOf name arg) alike is in
      let g = fault_at reasons.WrongSort other.at (codes "partitionelementof") in (
        g,
        subst (λ k. StandsWith others k ts other.at g) (sym there.1)
            (p, base, ap (λ names. option_and_then partition_place (named_in names name)) (sym (names_same items others same)) ∙ named, base_alike items others same p base of_base, unfit, refl),
      )
  with_alike e other alike ts have (layer.Apply op args) is f (unfit, told_so) =
      let there = told e other (layer.Apply op args) alike is in
      let g = fault_at reasons.WrongSort other.at (name_of op) in
      (g, subst (λ k. StandsWith others k ts other.at g) (sym there.1) (λ fits. unfit (fits_back e other alike op args there.0 ts is there.1 have fits), refl))

  at_alike : (e other : Term) → term_without_offsets e ≡ term_without_offsets other → (f : Fault) → StandsAt items e f → (g : Fault) × StandsAt others other g
  at_alike e other alike f (inl always) =
      let g = always_alike (layer_of e) (layer_of other) (told e other (layer_of e) alike refl) e.at other.at f always in
      (g.0, inl g.1)
  at_alike e other alike f (inr (ts, have, stands)) =
      let g = with_alike e other alike ts have (layer_of e) refl f stands in
      (g.0, inr (ts, have_alike (parts_of e) (parts_of other) ts (parts_alike e other alike) have, g.1))

  pub typing_alike : (e other : Term) → term_without_offsets e ≡ term_without_offsets other → (f : Fault) → StandsIn items e f → (g : Fault) × StandsIn others other g
  typing_alike e other alike f (x, part, stands) =
      let there = part_alike e x part other alike in
      let g = at_alike x there.0 there.2 f stands in
      (g.0, (there.0, there.1, g.1))
