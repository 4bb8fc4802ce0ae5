use Rattle.std.proofs.Common.{◌≡◌, ◌-◌, length, take, drop, arith, refl, ◌∙◌, subst}
use Rattle.std.proofs.lemmas.Grind.{common_steps}
use Rattle.pn_outside.specs.Taking.{Takes}
use Rattle.pn_outside.proofs.TakingLemmas.{took_nothing, takes_more, front_stays, puts_failed}
use Rattle.pn_outside.proofs.put.put_all.Goals as goal

pub loop-at-init : goal.loop-at-init
loop-at-init g c = record { within = omega arith; takes = took_nothing _; unfailed = refl }

pub returns-in_err-at-clause-puts : goal.returns-in_err-at-clause-puts
returns-in_err-at-clause-puts g c =
    puts_failed _ _ _ c.args.bytes.now c.from_residual.result c.from_residual.ensures.0
    (front_stays _ _ _ c.args.bytes.now c.loop-at.at c.loop-at.invariant.within c.loop-at.invariant.takes c.in_err-at.ensures.takes)

pub loop-at-preserved : goal.loop-at-preserved
loop-at-preserved g c = record {
  within = grind (arith, common_steps, c.in_ok-at.ensures.bound);
  takes =
      let is : take (length c.args.bytes.now - c.loop-at.at) (drop c.loop-at.at c.args.bytes.now) ≡ drop c.loop-at.at c.args.bytes.now = grind (arith, common_steps) in
      takes_more _ _ _ c.args.bytes.now (take (length c.args.bytes.now - c.loop-at.at) (drop c.loop-at.at c.args.bytes.now)) c.loop-at.at c.in_ok-at.field-0
      c.loop-at.invariant.within is c.loop-at.invariant.takes c.in_ok-at.ensures.takes;
  unfailed = c.in_ok-at.ensures.counted ∙ c.loop-at.invariant.unfailed;
}

pub returns-clause-puts : goal.returns-clause-puts
returns-clause-puts g c = record { all = let is : take c.loop-at.at c.args.bytes.now ≡ c.args.bytes.now = grind (arith, common_steps) in subst (Takes g.K.Sink.taken g.K.Sink.number c.args.sink.now c.loop-at.sink) is c.loop-at.invariant.takes; front = tt }
