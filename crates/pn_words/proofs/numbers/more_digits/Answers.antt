use Rattle.std.proofs.Common.{arith}
use Rattle.pn_words.proofs.DigitLemmas.{zero_stops_first}
use Rattle.pn_words.proofs.numbers.more_digits.Goals as goal

pub returns-then-number-eq0 : goal.returns-then-number-eq0
returns-then-number-eq0 c = λ marks clean p rest h.
    let a = c.args in zero_stops_first a.low a.high marks a.is_first a.number a.digit c.if-is_first.false (omega (arith, c.if-number-eq0.true)) clean (omega (arith, c.ranges.high.fits)) c.requires.digit p rest h
