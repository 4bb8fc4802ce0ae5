use Rattle.std.proofs.Common.{subst}
use Rattle.pn_marking.specs.Steps.{IsStep}
use Rattle.pn_marking.specs.Totals.{AreTokensOf}
use Rattle.pn_stepping.proofs.stepping.fire_from.Goals as goal

pub returns-in-Ok-clause-led : goal.returns-in-Ok-clause-led
returns-in-Ok-clause-led c = record {
  initial = c.initial.result.now;
  is_initial = c.initial.ensures;
  steps = subst (λ f. IsStep f c.initial.result.now c.args.modes.now c.in-Ok.marking) c.typed.ensures c.in-Ok.ensures.step;
  bag = c.is_marking.ensures;
  tokens = subst (λ f. AreTokensOf f c.initial.result.now → AreTokensOf f c.in-Ok.marking) c.typed.ensures c.in-Ok.ensures.tokens;
}
