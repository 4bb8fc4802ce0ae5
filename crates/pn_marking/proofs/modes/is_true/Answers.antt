use Rattle.std.proofs.Common.{true, subst}
use Rattle.pn_eval.specs.Values.{HasValue}
use Rattle.pn_operations.specs.declared.outcome.Outcome.TheVariants as outcomes
use Rattle.pn_values.specs.declared.value.Value.TheVariants as values
use Rattle.pn_marking.proofs.modes.is_true.Goals as goal

pub returns : goal.returns
returns c = (
  λ yes. subst (HasValue c.args.net.now.declarations c.args.vars.now c.args.values.now c.args.term.now) (c.says_true.ensures.0 yes) c.in_ok-outcome.ensures,
  λ value. c.says_true.ensures.1 (c.gives_one.ensures c.args.vars.now c.args.values.now c.args.term.now c.in_ok-outcome.outcome (outcomes.Value (values.Bool true)) c.in_ok-outcome.ensures value),
)
