use Rattle.std.proofs.Common.{arith, refl}
use Rattle.std.proofs.lemmas.Bool.{false≢true}
use Rattle.std.proofs.lemmas.Bool.Decides.{nat_tests}
use Rattle.pn_words.proofs.NumberLemmas.{zero_begins, begins_zero, zeros_begin, zeros_end, zeros_next}
use Rattle.pn_words.proofs.numbers.begins.Goals as goal

pub returns-then-number-eq0 : goal.returns-then-number-eq0
returns-then-number-eq0 c = (
  λ h. zero_begins c.args.low c.args.high c.args.number (omega (arith, c.if-number-eq0.true)) (grind (arith, nat_tests, h)) (omega (arith, c.if-high-low.false)),
  λ b. begins_zero c.args.low c.args.high c.args.number (omega (arith, c.if-number-eq0.true)) (omega (arith, c.ranges.high.fits)) b,
)

pub returns-then-low-above : goal.returns-then-low-above
returns-then-low-above c = (
  λ h. zeros_begin c.args.low c.args.high c.args.number c.loop-least.least c.loop-least.above c.loop-least.invariant.1 (omega (arith, c.if-high-low.false)) (omega (arith, c.ranges.high.fits)) c.loop-least.invariant.0 (omega (arith, c.loop-least-test.true)) (omega (arith, c.if-low-above.true)),
  λ b. refl,
)

pub loop-least-preserved : goal.loop-least-preserved
loop-least-preserved c =
    (zeros_next c.args.low c.args.number c.loop-least.least c.loop-least.above c.loop-least.invariant.0 (omega (arith, c.if-low-above.false)), c.loop-least.invariant.1, omega (arith, c.loop-least.invariant.2))

pub returns : goal.returns
returns c = (
  λ h. absurd (false≢true h),
  λ b. absurd (zeros_end c.args.low c.args.high c.args.number c.loop-least.least c.loop-least.above (omega (arith, c.ranges.high.fits)) c.requires c.loop-least.invariant.0 (omega (arith, c.loop-least-test.false)) b),
)
