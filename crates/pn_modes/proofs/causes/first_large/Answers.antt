use Rattle.std.proofs.Common.{◌≡◌, ◌+◌, suc, drop, length, Some, false, sym, ap, ◌∙◌, subst, arith, get_or}
use Rattle.std.specs.List.{slice_get}
use Rattle.std.proofs.lemmas.Option.{slice_get-get_or}
use Rattle.pn_modes.specs.Causes.{first_with}
use Rattle.pn_modes.specs.Sizes.{is_large}
use Rattle.pn_names.specs.Names.{widths_of}
use Rattle.pn_modes.proofs.CauseLemmas.{first_behind}
use Rattle.pn_modes.proofs.causes.first_large.Goals as goal

pub loop-i-preserved : goal.loop-i-preserved
loop-i-preserved c =
    let a = c.args in
    let i = c.loop-i.i in
    let s = c.index-sorts-i.result in
    let lt = c.loop-i-test.true in
    let long = c.requires in
    let here : slice_get a.sorts.now i ≡ Some s = slice_get-get_or a.sorts.now i s (omega (arith, lt, long)) ∙ ap Some (sym c.index-sorts-i.is) in
    let next : suc i ≡ i + 1 = omega arith in
    c.loop-i.invariant ∙ subst (λ n. first_with (is_large (widths_of c.args.decls.now)) (drop i a.vars.now) (drop i a.sorts.now) ≡ first_with (is_large (widths_of c.args.decls.now)) (drop n a.vars.now) (drop n a.sorts.now)) next
    (first_behind (is_large (widths_of c.args.decls.now)) i a.vars.now a.sorts.now s lt here (sym c.is_too_large.ensures ∙ c.if-is_too_large.false))
