use Rattle.std.proofs.Common.{ℕ, ◌<◌, List}
use Rattle.pn_mode_text.specs.ModeReadings.{AreTypedAt}
use Rattle.pn_mode_text.specs.Texts.{TypedVariable}
use Rattle.pn_mode_text.proofs.transitions.have_all_typed.Given as goal

abbrev pub invariant-loop-transition : goal.invariant-loop-transition
invariant-loop-transition l = (t : ℕ) → t < l.transition → (typed : List TypedVariable) × AreTypedAt l.net t typed
