-- Terms that are equal but for offsets have the same values, in declarations that are equal but for theirs.
use Rattle.std.proofs.Common.{◌≡◌, ℕ, List, [], ◌∷◌, map, refl, sym, ap, ◌∙◌, subst}
use Rattle.std.specs.Option.{option_and_then}
use Rattle.pn_carriers.specs.Carriers.{carrier}
use Rattle.pn_carriers.specs.Sizes.{size_of}
use Rattle.pn_eval.specs.Values.{GivesValue, GoesRound, HasValue, HaveValues, IsElementValue, IsRoundFor, more, none}
use Rattle.pn_ids.specs.Names.{named_in}
use Rattle.pn_names.specs.Names.{constant_ref, partition_place, variable_number}
use Rattle.pn_operations.specs.declared.outcome.Outcome.{Outcome}
use Rattle.pn_operations.specs.declared.outcome.Outcome.TheVariants as outcomes
use Rattle.pn_operators.specs.declared.op.Op.{Op}
use Rattle.pn_operators.specs.declared.op.Op.TheVariants as op
use Rattle.pn_resolve.proofs.OffsetLemmas as resolved
use Rattle.pn_round_trip.proofs.OffsetLemmas.{bare_term_layer}
use Rattle.pn_syntax.specs.Offsets.{declaration_without_offsets}
use Rattle.pn_syntax.specs.TermOffsets.{term_without_offsets}
use Rattle.pn_syntax.specs.declared.declaration.Declaration.{Declaration}
use Rattle.pn_syntax.specs.declared.term.Term.{Term}
use Rattle.pn_syntax.specs.declared.term.TermNode.TheOpen as layer
use Rattle.pn_terms.specs.Rows.{first_of}
use Rattle.pn_terms.specs.Terms.{Layer, layer_of, parts_of}
use Rattle.pn_terms.specs.declared.term_sort.TermSort.{TermSort}
use Rattle.pn_values.specs.declared.value.Value.{Value}
use Rattle.pn_checks.proofs.DeclarationAlikeLemmas.{names_same, part_of_alike, widths_same}
use Rattle.pn_terms.proofs.OffsetLemmas.{parts_alike}
use Rattle.pn_checks.proofs.TermAlikeLemmas.{TellsTermLayer, told}
use Rattle.pn_checks.proofs.TypingAlikeLemmas.{have_alike}

module _ (items others : List Declaration) (same : map declaration_without_offsets items ≡ map declaration_without_offsets others) where
  -- the number at which an operator goes round
  round_for_alike : (o : Op) (s : TermSort) (round : ℕ) → IsRoundFor items o s round → IsRoundFor others o s round
  round_for_alike op.Successor s round (basis, is, size) = (basis, is, ap (λ widths. size_of widths basis) (sym (widths_same items others same)) ∙ size)
  round_for_alike op.Predecessor s round (basis, is, size) = (basis, is, ap (λ widths. size_of widths basis) (sym (widths_same items others same)) ∙ size)
  round_for_alike _ s round h = h

  round_alike : (o : Op) (args xs : List Term) (round : ℕ) → map term_without_offsets args ≡ map term_without_offsets xs → GoesRound items o args round → GoesRound others o xs round
  round_alike o args xs round alike (ts, have, goes) = (ts, have_alike items others same args xs ts alike have, round_for_alike o (first_of ts) round goes)

  element_alike : (name : List ℕ) (p o : Outcome) → IsElementValue items name p o → IsElementValue others name p o
  element_alike name outcomes.NoValue o h = h
  element_alike name (outcomes.Bag bag) o h = absurd h
  element_alike name (outcomes.Value v) o (p, number, named, part, is) =
      (p, number, ap (λ names. option_and_then partition_place (named_in names name)) (sym (names_same items others same)) ∙ named, part_of_alike items others same p v number part, is)

  module _ (vars : List ℕ) (given : List Value) where
    -- what a layer gives
    gives_alike : (l m : Layer) → TellsTermLayer (bare_term_layer l) m → (os : List Outcome) (o : Outcome) → GivesValue items vars given l os o → GivesValue others vars given m os o
    gives_alike (layer.Variable name) m is os o (v, value, named, has, gives) =
        subst (λ k. GivesValue others vars given k os o) (sym is) (v, value, ap (λ names. option_and_then variable_number (named_in names name)) (sym (names_same items others same)) ∙ named, has, gives)
    gives_alike (layer.UserOp name) m is os o (c, named, gives) =
        subst (λ k. GivesValue others vars given k os o) (sym is) (c, ap (λ names. option_and_then constant_ref (named_in names name)) (sym (names_same items others same)) ∙ named, gives)
    gives_alike (layer.Bool truth) m is os o h = subst (λ k. GivesValue others vars given k os o) (sym is) h
    gives_alike (layer.Number value sort) m is os o h = subst (λ k. GivesValue others vars given k os o) (sym is) h
    gives_alike (layer.RangeConst value start end) m is os o h = subst (λ k. GivesValue others vars given k os o) (sym is) h
    gives_alike (layer.Text text) m is os o h = subst (λ k. GivesValue others vars given k os o) (sym is) h
    gives_alike (layer.All e) m (x, is, alike) os o (sort, has, gives) =
        subst (λ k. GivesValue others vars given k os o) (sym is)
        (sort, resolved.offsets_aside items others e x sort same alike has, gives ∙ ap (λ widths. outcomes.Bag (map (λ value. (value, 1)) (carrier widths sort))) (widths_same items others same))
    gives_alike (layer.Empty e) m (x, is, alike) os o h = subst (λ k. GivesValue others vars given k os o) (sym is) h
    gives_alike (layer.EmptyList e) m (x, is, alike) os o h = subst (λ k. GivesValue others vars given k os o) (sym is) h
    gives_alike (layer.PartitionOf name arg) m (x, is, alike) os o (p, of_arg, element) =
        subst (λ k. GivesValue others vars given k os o) (sym is) (p, of_arg, element_alike name p o element)
    gives_alike (layer.Apply f args) m (xs, is, alike) os o (round, goes, gives) =
        subst (λ k. GivesValue others vars given k os o) (sym is) (round, round_alike f args xs round alike goes, gives)

    have_values_alike : (es xs : List Term) (os : List Outcome) → map term_without_offsets es ≡ map term_without_offsets xs → HaveValues items vars given es os → HaveValues others vars given xs os
    have_values_alike es [] os alike (none _ _ is_es is_os) = none [] os refl is_os
    have_values_alike es (x ∷ xs) os alike (none _ _ is_es is_os) =
        absurd (let bad : [] ≡ term_without_offsets x ∷ map term_without_offsets xs = ap (map term_without_offsets) (sym is_es) ∙ alike in cc)
    have_values_alike es [] os alike (more _ _ e rest o later ps is_es is_os parts gives have) =
        absurd (let bad : term_without_offsets e ∷ map term_without_offsets rest ≡ [] = ap (map term_without_offsets) (sym is_es) ∙ alike in cc)
    have_values_alike es (x ∷ xs) os alike (more _ _ e rest o later ps is_es is_os parts gives have) =
        let both : term_without_offsets e ∷ map term_without_offsets rest ≡ term_without_offsets x ∷ map term_without_offsets xs = ap (map term_without_offsets) (sym is_es) ∙ alike in
        let head : term_without_offsets e ≡ term_without_offsets x = cc in
        let tail : map term_without_offsets rest ≡ map term_without_offsets xs = cc in
        more (x ∷ xs) os x xs o later ps refl is_os
        (have_values_alike (parts_of e) (parts_of x) ps (parts_alike e x head) parts)
        (gives_alike (layer_of e) (layer_of x) (told e x (layer_of e) head refl) ps o gives)
        (have_values_alike rest xs later tail have)

    -- equal but for the offsets, a term has the same value
    pub value_alike : (e other : Term) (o : Outcome) → term_without_offsets e ≡ term_without_offsets other → HasValue items vars given e o → HasValue others vars given other o
    value_alike e other o alike (os, have, gives) = (
      os,
      have_values_alike (parts_of e) (parts_of other) os (parts_alike e other alike) have,
      gives_alike (layer_of e) (layer_of other) (told e other (layer_of e) alike refl) os o gives,
    )
