use Rattle.std.proofs.Common.{◌≡◌, ◌+◌, suc, drop, length, Some, false, sym, ap, ◌∙◌, subst, arith, get_or}
use Rattle.std.specs.List.{slice_get}
use Rattle.std.proofs.lemmas.Option.{slice_get-get_or}
use Rattle.pn_modes.specs.Causes.{first_with, is_infinite}
use Rattle.pn_modes.proofs.CauseLemmas.{first_behind}
use Rattle.pn_modes.proofs.causes.first_infinite.Goals as goal

pub loop-i-preserved : goal.loop-i-preserved
loop-i-preserved c =
    let a = c.args in
    let i = c.loop-i.i in
    let s = c.index-sorts-i.result in
    let lt = c.loop-i-test.true in
    let long = c.requires in
    let here : slice_get a.sorts.now i ≡ Some s = slice_get-get_or a.sorts.now i s (omega (arith, lt, long)) ∙ ap Some (sym c.index-sorts-i.is) in
    let next : suc i ≡ i + 1 = omega arith in
    c.loop-i.invariant ∙ subst (λ n. first_with is_infinite (drop i a.vars.now) (drop i a.sorts.now) ≡ first_with is_infinite (drop n a.vars.now) (drop n a.sorts.now)) next
    (first_behind is_infinite i a.vars.now a.sorts.now s lt here (sym c.is_infinite.ensures ∙ c.if-is_infinite.false))
