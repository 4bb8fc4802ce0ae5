use Rattle.std.proofs.Common.{inl, inr, take, get_or, subst, sym}
use Rattle.std.specs.List.{Contains}
use Rattle.std.proofs.lemmas.List.{get_or_default, take_more}
use Rattle.std.proofs.lemmas.List.Elements.{Contains-push_cases}
use Rattle.pn_modes.proofs.KnownLemmas.{in_longer}
use Rattle.pn_modes.proofs.plan.needed.Goals as goal

pub loop-v-preserved : goal.loop-v-preserved
loop-v-preserved c = λ v there.
    let split = subst (λ xs. Contains xs v) (take_more c.args.found.now c.loop-v.v-index 0 c.loop-v-test.true) there in
    let own = get_or c.args.found.now c.loop-v.v-index 0 in
    elim (Contains-push_cases (take c.loop-v.v-index c.args.found.now) own v split) [
      | inl before ↦ in_longer c.args.vars.now c.loop-v.need c.greater-need.result v c.greater-need.ensures.one (c.loop-v.invariant v before)
      | inr same ↦
          let here : Contains c.args.found.now v = subst (Contains c.args.found.now) same (c.loop-v.v-index, c.loop-v-test.true, get_or_default c.args.found.now c.loop-v.v-index own 0 c.loop-v-test.true) in
          in_longer c.args.vars.now c.behind.result c.greater-need.result v c.greater-need.ensures.two
          (subst (Contains (take c.behind.result c.args.vars.now)) same (c.behind.ensures (subst (Contains c.args.vars.now) (sym same) (c.requires.covered v here))))
    ]
