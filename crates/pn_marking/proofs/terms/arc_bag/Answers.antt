use Rattle.std.proofs.Common.{◌≡◌, ◌∷◌, [], ℕ, List, IfSome, None, Some, Option, ap, sym, ◌∙◌, subst}
use Rattle.std.specs.Option.{unwrap_or}
use Rattle.pn_bag.specs.Counts.{IsSame}
use Rattle.pn_facts.proofs.Results.{if_ok}
use Rattle.pn_marking.specs.Totals.{IsArcBag}
use Rattle.pn_net.specs.Labels.{said}
use Rattle.pn_net.specs.Typed.{IsTypedTerm}
use Rattle.pn_values.specs.Order.{value_cmp}
use Rattle.pn_values.specs.declared.value.Value.{Value}
use Rattle.pn_values.specs.declared.value.Value.TheVariants as values
use Rattle.pn_marking.proofs.TermLemmas.{inscription_says, weight_says, weight_too_large}
use Rattle.pn_marking.proofs.terms.arc_bag.Goals as goal

pub term_bag-requires-clause-typed : goal.term_bag-requires-clause-typed
term_bag-requires-clause-typed c =
    let is : said c.args.arc.now.arc.inscription ≡ Some c.get.result.now.value = ap said c.in-Some.is ∙ ap (λ l. Some l.value) (sym c.get.ensures) in
    subst (λ o. IfSome o (IsTypedTerm c.args.net.now.declarations)) is c.requires.typed

pub returns-in-Some-clause-none : goal.returns-in-Some-clause-none
returns-in-Some-clause-none c =
    let is : said c.args.arc.now.arc.inscription ≡ Some c.get.result.now.value = ap said c.in-Some.is ∙ ap (λ l. Some l.value) (sym c.get.ensures) in
    if_ok _ _ c.term_bag.result (λ o lacks none bag says. absurd (lacks none bag (inscription_says c.args.net.now.declarations c.args.vars.now c.args.values.now c.args.arc.now c.get.result.now.value is bag says))) c.term_bag.ensures.none

some_weight : {B : Type 0} (entries : B → List (Value × ℕ)) (w : List (Value × ℕ)) (P : List (Value × ℕ) → Type 0) → P w → (o : Option B) → IfSome o (λ bag. IsSame value_cmp (entries bag) w) → IfSome o (λ bag. (x : List (Value × ℕ)) × P x × IsSame value_cmp (entries bag) x)
some_weight entries w P p None is = tt
some_weight entries w P p (Some bag) is = (w, p, is)

pub returns-in-None-clause-some : goal.returns-in-None-clause-some
returns-in-None-clause-some c =
    let w = (values.Dot, unwrap_or (said c.args.arc.now.arc.weight) 1) ∷ [] in
    if_ok _ _ c.weight_bag.result
    (λ o same. some_weight (λ bag. bag) w (IsArcBag c.args.net.now.declarations c.args.vars.now c.args.values.now c.args.arc.now)
    (weight_says c.args.net.now.declarations c.args.vars.now c.args.values.now c.args.arc.now (ap said c.in-None.is)) o same) c.weight_bag.ensures.some

pub returns-in-None-clause-none : goal.returns-in-None-clause-none
returns-in-None-clause-none c =
    if_ok _ _ c.weight_bag.result
    (λ o large none bag says. weight_too_large c.args.net.now.declarations c.args.vars.now c.args.values.now c.args.arc.now (ap said c.in-None.is) (large none) bag says) c.weight_bag.ensures.none
