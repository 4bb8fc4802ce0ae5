use Rattle.std.proofs.Common.{rules, ◌≡◌, ◌<◌, length, false, List, ◌∷◌, sym, ap, ◌∙◌, subst, arith}
use Rattle.std.specs.List.{slice_get}
use Rattle.pn_net.specs.declared.mode.Mode.{Mode}
use Rattle.pn_values.specs.declared.value.Value.{Value}
use Rattle.pn_modes.specs.Carriers.{IsFrontOf, carrier_at}
use Rattle.pn_modes.specs.Prunes.{Prunes}
use Rattle.pn_modes.specs.Search.{IsAt}
use Rattle.pn_modes.specs.declared.cursor.Cursor.{Cursor}
use Rattle.pn_modes.proofs.AroundLemmas.{at_front, at_length, at_within}
use Rattle.pn_modes.proofs.StepLemmas.{GoesOn, coming, front_cut, front_empty, front_first, front_found}
use Rattle.pn_modes.proofs.walk.enter.Goals as goal

pub goes_on-requires-clause-front : goal.goes_on-requires-clause-front
goes_on-requires-clause-front g c =
    subst (IsFrontOf (g.P.Pruning.carriers c.args.over.now)) (sym c.as_slice.ensures) (at_front c.args.cursor.now.places c.args.cursor.now.front.values (g.P.Pruning.carriers c.args.over.now) c.requires.at)

-- the test says that nothing wanted begins with the front
pub returns-then-not-branch-clause-step : goal.returns-then-not-branch-clause-step
returns-then-not-branch-clause-step g c =
    let cs = g.P.Pruning.carriers c.args.over.now in
    let said = subst (λ (vs : List Value). Prunes (g.P.Pruning.wanted c.args.over.now) (length cs) vs c.in_ok-goes_on.field-0) c.as_slice.ensures c.in_ok-goes_on.ensures in
    let no : c.in_ok-goes_on.field-0 ≡ false = search rules in
    front_cut (g.P.Pruning.wanted c.args.over.now) cs c.args.cursor.now.places c.args.cursor.now.front.values c.args.cursor.now.fresh c.requires.at c.requires.fresh (said.cut no)

-- all variables have values
pub returns-then-variable-variables-clause-step : goal.returns-then-variable-variables-clause-step
returns-then-variable-variables-clause-step g c =
    let cs = g.P.Pruning.carriers c.args.over.now in
    let ks = c.args.cursor.now.places in
    let vs = c.args.cursor.now.front.values in
    let said = subst (λ (vs : List Value). Prunes (g.P.Pruning.wanted c.args.over.now) (length cs) vs c.in_ok-goes_on.field-0) c.as_slice.ensures c.in_ok-goes_on.ensures in
    let all : length ks ≡ length cs = sym c.len-variable.ensures ∙ c.if-variable-variables.true ∙ c.variables.ensures in
    let copied : c.in_ok-mode.mode ≡ c.args.cursor.now.front = c.in_ok-mode.ensures in
    let values : c.in_ok-mode.mode.values ≡ vs = ap (λ (m : Mode). m.values) copied in (
      front_found cs ks vs c.args.cursor.now.fresh c.requires.at c.requires.fresh all ∙ ap (λ (l : List Value). l ∷ coming cs ks vs false) (sym values),
      subst (g.P.Pruning.wanted c.args.over.now) (sym values) (said.whole c.if-not-branch.false (at_length ks vs cs c.requires.at ∙ all)),
      ap (λ (m : Mode). m.transition) copied,
    )

pub size-requires-clause-within : goal.size-requires-clause-within
size-requires-clause-within g c =
    let most = at_within c.args.cursor.now.places c.args.cursor.now.front.values (g.P.Pruning.carriers c.args.over.now) c.requires.at in omega (arith, most, c.if-variable-variables.false, c.variables.ensures, c.len-variable.ensures)

-- the next variable has no value
pub returns-then-size-eq0-clause-step : goal.returns-then-size-eq0-clause-step
returns-then-size-eq0-clause-step g c =
    let cs = g.P.Pruning.carriers c.args.over.now in
    let ks = c.args.cursor.now.places in
    let most = at_within ks c.args.cursor.now.front.values cs c.requires.at in
    let lt : length ks < length cs = omega (arith, most, c.if-variable-variables.false, c.variables.ensures, c.len-variable.ensures) in
    let none = ap (λ n. length (carrier_at cs n)) (sym c.len-variable.ensures) ∙ sym c.size.ensures ∙ c.if-size-eq0.true in
    front_empty (g.P.Pruning.wanted c.args.over.now) cs ks c.args.cursor.now.front.values c.args.cursor.now.fresh c.requires.fresh lt none

pub returns-in_err-push_first-clause-at : goal.returns-in_err-push_first-clause-at
returns-in_err-push_first-clause-at g c = subst (IsAt (g.P.Pruning.carriers c.args.over.now)) (sym c.in_err-push_first.ensures.err) c.requires.at

pub returns-in_err-push_first-clause-transition : goal.returns-in_err-push_first-clause-transition
returns-in_err-push_first-clause-transition g c = ap (λ (s : Cursor). s.front.transition) c.in_err-push_first.ensures.err

-- the next variable has the first of its values
pub returns-clause-at : goal.returns-clause-at
returns-clause-at g c =
    let cs = g.P.Pruning.carriers c.args.over.now in
    let ks = c.args.cursor.now.places in
    let most = at_within ks c.args.cursor.now.front.values cs c.requires.at in
    let lt : length ks < length cs = omega (arith, most, c.if-variable-variables.false, c.variables.ensures, c.len-variable.ensures) in
    let first = ap (λ n. slice_get (carrier_at cs n) 0) (sym c.len-variable.ensures) ∙ c.in_ok-value.ensures in
    subst (IsAt cs) (sym c.in_ok-push_first.ensures.ok) (front_first (g.P.Pruning.wanted c.args.over.now) cs ks c.args.cursor.now.front.values c.in_ok-value.value c.args.cursor.now.fresh c.requires.at c.requires.fresh lt first).0

pub returns-clause-transition : goal.returns-clause-transition
returns-clause-transition g c = ap (λ (s : Cursor). s.front.transition) c.in_ok-push_first.ensures.ok

pub returns-clause-step : goal.returns-clause-step
returns-clause-step g c =
    let cs = g.P.Pruning.carriers c.args.over.now in
    let ks = c.args.cursor.now.places in
    let most = at_within ks c.args.cursor.now.front.values cs c.requires.at in
    let lt : length ks < length cs = omega (arith, most, c.if-variable-variables.false, c.variables.ensures, c.len-variable.ensures) in
    let first = ap (λ n. slice_get (carrier_at cs n) 0) (sym c.len-variable.ensures) ∙ c.in_ok-value.ensures in
    subst (λ (s : Cursor). GoesOn (g.P.Pruning.wanted c.args.over.now) cs ks c.args.cursor.now.front.values c.args.cursor.now.fresh s.places s.front.values s.fresh) (sym c.in_ok-push_first.ensures.ok)
    (front_first (g.P.Pruning.wanted c.args.over.now) cs ks c.args.cursor.now.front.values c.in_ok-value.value c.args.cursor.now.fresh c.requires.at c.requires.fresh lt first).1
