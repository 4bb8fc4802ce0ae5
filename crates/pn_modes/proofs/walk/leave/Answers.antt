use Rattle.std.proofs.Common.{◌≡◌, suc, ◌+◌, ◌-◌, length, get_or, sym, ap, ◌∙◌, subst, arith}
use Rattle.pn_modes.specs.Search.{IsAt}
use Rattle.pn_modes.specs.declared.cursor.Cursor.{Cursor}
use Rattle.pn_modes.proofs.AroundLemmas.{at_length}
use Rattle.pn_modes.proofs.StepLemmas.{GoesOn, last_place, last_within, left_dropped, left_moved}
use Rattle.pn_modes.proofs.walk.leave.Goals as goal

pub size-size-requires-clause-within : goal.size-size-requires-clause-within
size-size-requires-clause-within g c =
    let n : suc (c.len-depth.result - 1) ≡ length c.args.cursor.now.places = omega (arith, c.len-depth.ensures, c.if-depth-eq0.false) in
    last_within c.args.cursor.now.places c.args.cursor.now.front.values (g.P.Pruning.carriers c.args.over.now) (c.len-depth.result - 1) c.requires.at n

pub overflow_add-next : goal.overflow_add-next
overflow_add-next g c =
    let n : suc (c.len-depth.result - 1) ≡ length c.args.cursor.now.places = omega (arith, c.len-depth.ensures, c.if-depth-eq0.false) in
    let place = last_place c.args.cursor.now.places c.args.cursor.now.front.values (g.P.Pruning.carriers c.args.over.now) (c.len-depth.result - 1) c.requires.at n in
    let same = ap (λ ks. get_or ks (c.len-depth.result - 1) 0) c.as_slice.ensures in
    omega (arith, place, same, c.size-size.ensures, c.size-size.type_inv)

pub drop_last-requires-clause-values : goal.drop_last-requires-clause-values
drop_last-requires-clause-values g c =
    let same = at_length c.args.cursor.now.places c.args.cursor.now.front.values (g.P.Pruning.carriers c.args.over.now) c.requires.at in omega (arith, same, c.len-depth.ensures, c.if-depth-eq0.false)

-- the last variable has no value behind its last
pub returns-then-next-size-clause-at : goal.returns-then-next-size-clause-at
returns-then-next-size-clause-at g c =
    let n : suc (c.len-depth.result - 1) ≡ length c.args.cursor.now.places = omega (arith, c.len-depth.ensures, c.if-depth-eq0.false) in
    let last = ap (λ ks. get_or ks (c.len-depth.result - 1) 0 + 1) (sym c.as_slice.ensures) ∙ c.if-next-size.true ∙ c.size-size.ensures in
    subst (IsAt (g.P.Pruning.carriers c.args.over.now)) (sym c.drop_last.ensures)
    (left_dropped (g.P.Pruning.wanted c.args.over.now) (g.P.Pruning.carriers c.args.over.now) c.args.cursor.now.places c.args.cursor.now.front.values (c.len-depth.result - 1) c.args.cursor.now.fresh c.requires.at c.requires.tried n last).0

pub returns-then-next-size-clause-step : goal.returns-then-next-size-clause-step
returns-then-next-size-clause-step g c =
    let n : suc (c.len-depth.result - 1) ≡ length c.args.cursor.now.places = omega (arith, c.len-depth.ensures, c.if-depth-eq0.false) in
    let last = ap (λ ks. get_or ks (c.len-depth.result - 1) 0 + 1) (sym c.as_slice.ensures) ∙ c.if-next-size.true ∙ c.size-size.ensures in
    subst (λ (s : Cursor). GoesOn (g.P.Pruning.wanted c.args.over.now) (g.P.Pruning.carriers c.args.over.now) c.args.cursor.now.places c.args.cursor.now.front.values c.args.cursor.now.fresh s.places s.front.values s.fresh) (sym c.drop_last.ensures)
    (left_dropped (g.P.Pruning.wanted c.args.over.now) (g.P.Pruning.carriers c.args.over.now) c.args.cursor.now.places c.args.cursor.now.front.values (c.len-depth.result - 1) c.args.cursor.now.fresh c.requires.at c.requires.tried n last).1

pub nth-requires-clause-within : goal.nth-requires-clause-within
nth-requires-clause-within g c =
    let n : suc (c.len-depth.result - 1) ≡ length c.args.cursor.now.places = omega (arith, c.len-depth.ensures, c.if-depth-eq0.false) in
    last_within c.args.cursor.now.places c.args.cursor.now.front.values (g.P.Pruning.carriers c.args.over.now) (c.len-depth.result - 1) c.requires.at n

pub nth-requires-clause-below : goal.nth-requires-clause-below
nth-requires-clause-below g c =
    let n : suc (c.len-depth.result - 1) ≡ length c.args.cursor.now.places = omega (arith, c.len-depth.ensures, c.if-depth-eq0.false) in
    let place = last_place c.args.cursor.now.places c.args.cursor.now.front.values (g.P.Pruning.carriers c.args.over.now) (c.len-depth.result - 1) c.requires.at n in
    let same = ap (λ ks. get_or ks (c.len-depth.result - 1) 0) c.as_slice.ensures in
    omega (arith, place, same, c.size-size.ensures, c.if-next-size.false)

pub set_last-requires-clause-values : goal.set_last-requires-clause-values
set_last-requires-clause-values g c =
    let same = at_length c.args.cursor.now.places c.args.cursor.now.front.values (g.P.Pruning.carriers c.args.over.now) c.requires.at in omega (arith, same, c.len-depth.ensures, c.if-depth-eq0.false)

-- the last variable has its next value
pub returns-clause-at : goal.returns-clause-at
returns-clause-at g c =
    let n : suc (c.len-depth.result - 1) ≡ length c.args.cursor.now.places = omega (arith, c.len-depth.ensures, c.if-depth-eq0.false) in
    subst (IsAt (g.P.Pruning.carriers c.args.over.now)) (sym c.set_last.ensures)
    (left_moved (g.P.Pruning.wanted c.args.over.now) (g.P.Pruning.carriers c.args.over.now) c.args.cursor.now.places c.args.cursor.now.front.values (c.len-depth.result - 1) (get_or c.as_slice.result.now (c.len-depth.result - 1) 0 + 1) c.in_ok-value.value c.args.cursor.now.fresh c.requires.at c.requires.tried n (ap (λ ks. get_or ks (c.len-depth.result - 1) 0 + 1) c.as_slice.ensures) c.in_ok-value.ensures).0

pub returns-clause-step : goal.returns-clause-step
returns-clause-step g c =
    let n : suc (c.len-depth.result - 1) ≡ length c.args.cursor.now.places = omega (arith, c.len-depth.ensures, c.if-depth-eq0.false) in
    subst (λ (s : Cursor). GoesOn (g.P.Pruning.wanted c.args.over.now) (g.P.Pruning.carriers c.args.over.now) c.args.cursor.now.places c.args.cursor.now.front.values c.args.cursor.now.fresh s.places s.front.values s.fresh) (sym c.set_last.ensures)
    (left_moved (g.P.Pruning.wanted c.args.over.now) (g.P.Pruning.carriers c.args.over.now) c.args.cursor.now.places c.args.cursor.now.front.values (c.len-depth.result - 1) (get_or c.as_slice.result.now (c.len-depth.result - 1) 0 + 1) c.in_ok-value.value c.args.cursor.now.fresh c.requires.at c.requires.tried n (ap (λ ks. get_or ks (c.len-depth.result - 1) 0 + 1) c.as_slice.ensures) c.in_ok-value.ensures).1
