use Rattle.std.proofs.Common.{arith}
use Rattle.pn_shape.proofs.NumberLemmas.{too_great}
use Rattle.pn_shape.proofs.values.digits.Goals as goal

pub returns-then-value-from : goal.returns-then-value-from
returns-then-value-from c =
    too_great c.args.most c.loop-byte.value c.loop-byte.byte-index c.args.bytes.now c.loop-byte-test.true c.loop-byte.invariant.digits
    (omega (arith, c.if-value-from.true, c.from-in-loop-byte.ensures, c.from.ensures)) c.loop-byte.invariant.so_far
