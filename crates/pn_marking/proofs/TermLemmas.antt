-- What labels say.
use Rattle.std.proofs.Common.{◌≡◌, ◌<◌, ℕ, List, [], ◌∷◌, None, Some, refl, sym, ap, ◌∙◌, subst, arith}
use Rattle.std.specs.Option.{unwrap_or}
use Rattle.std.specs.Ordering.{match_ordering}
use Rattle.std.specs.declared.cmp.Ordering.TheVariants.{Equal}
use Rattle.std.proofs.lemmas.Cmp.{tied_itself}
use Rattle.pn_bag.specs.Counts.{count_in, count_of}
use Rattle.pn_bag.specs.declared.TheConstants.{MAX_COUNT}
use Rattle.pn_eval.specs.Outcomes.{multiset_of}
use Rattle.pn_eval.specs.Values.{HasValue}
use Rattle.pn_net.specs.Labels.{said}
use Rattle.pn_net.specs.declared.flat.FlatArc.{FlatArc}
use Rattle.pn_operations.specs.declared.outcome.Outcome.{Outcome}
use Rattle.pn_operations.specs.declared.outcome.Outcome.TheVariants as outcomes
use Rattle.pn_syntax.specs.declared.declaration.Declaration.{Declaration}
use Rattle.pn_syntax.specs.declared.term.Term.{Term}
use Rattle.pn_values.specs.Order.{value_cmp}
use Rattle.pn_values.specs.OrderLaws.{values_total}
use Rattle.pn_values.specs.declared.value.Value.{Value}
use Rattle.pn_values.specs.declared.value.Value.TheVariants as values
use Rattle.pn_marking.specs.Totals.{IsArcBag, SaysBag, StandsFor}
use Rattle.pn_marking.proofs.TotalLemmas.{GivesOnce}

module _ (items : List Declaration) (vars : List ℕ) (given : List Value) where
  -- a term without a value stands for no multiset
  pub stands_for_none : GivesOnce items vars given → (e : Term) (o : Outcome) → HasValue items vars given e o → o ≡ outcomes.NoValue → (bag : List (Value × ℕ)) → StandsFor items vars given e bag → ⊥
  stands_for_none once e o value none bag (p, other, is) = let bad : None ≡ Some bag = ap multiset_of (sym none ∙ once e o p value other) ∙ is in cc

  module _ (a : FlatArc) where
    pub weight_says : said a.arc.inscription ≡ None → IsArcBag items vars given a ((values.Dot, unwrap_or (said a.arc.weight) 1) ∷ [])
    weight_says is = subst (λ e. SaysBag items vars given e (said a.arc.weight) ((values.Dot, unwrap_or (said a.arc.weight) 1) ∷ [])) (sym is) refl

    count_one : (n : ℕ) → count_of value_cmp ((values.Dot, n) ∷ []) values.Dot ≡ n
    count_one n = let same : value_cmp values.Dot values.Dot ≡ Equal = tied_itself values_total values.Dot in let own : count_in value_cmp (values.Dot, n) values.Dot ≡ n = ap (λ o. match_ordering o 0 n 0) same in omega (arith, own)

    pub weight_too_large : said a.arc.inscription ≡ None → MAX_COUNT < unwrap_or (said a.arc.weight) 1 → (bag : List (Value × ℕ)) → IsArcBag items vars given a bag → (v : Value) × (MAX_COUNT < count_of value_cmp bag v)
    weight_too_large is large bag says =
        let same : bag ≡ (values.Dot, unwrap_or (said a.arc.weight) 1) ∷ [] = subst (λ e. SaysBag items vars given e (said a.arc.weight) bag) is says in
        let counts : count_of value_cmp bag values.Dot ≡ unwrap_or (said a.arc.weight) 1 = ap (λ b. count_of value_cmp b values.Dot) same ∙ count_one (unwrap_or (said a.arc.weight) 1) in
        (values.Dot, omega (arith, counts, large))

    pub inscription_says : (e : Term) → said a.arc.inscription ≡ Some e → (bag : List (Value × ℕ)) → IsArcBag items vars given a bag → StandsFor items vars given e bag
    inscription_says e is bag says = subst (λ o. SaysBag items vars given o (said a.arc.weight) bag) is says
