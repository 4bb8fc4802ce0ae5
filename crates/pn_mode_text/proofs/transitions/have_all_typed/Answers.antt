use Rattle.pn_mode_text.proofs.BelowLemmas.{all_below}
use Rattle.pn_mode_text.specs.ModeReadings.{AreTypedAt}
use Rattle.pn_mode_text.specs.Texts.{TypedVariable}
use Rattle.std.proofs.Common.{List}
use Rattle.pn_mode_text.proofs.transitions.have_all_typed.Goals as goal

pub loop-transition-preserved : goal.loop-transition-preserved
loop-transition-preserved c =
    all_below (λ t. (typed : List TypedVariable) × AreTypedAt c.args.net.now t typed) c.loop-transition.transition c.loop-transition.invariant c.have_typed.ensures
