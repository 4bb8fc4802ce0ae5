use Rattle.std.proofs.Common.{arith, sym, ◌∙◌, ◌+◌, ◌*◌, ◌-◌}
use Rattle.std.proofs.lemmas.Bool.{false≢true}
use Rattle.pn_words.proofs.DigitLemmas.{digit_begins, next_digits}
use Rattle.pn_words.proofs.NumberLemmas.{begins_within}
use Rattle.pn_words.proofs.numbers.go_on.Goals as goal

pub returns-then-next-high : goal.returns-then-next-high
returns-then-next-high c = λ marks clean p rest h.
    let a = c.args in
    let next = a.number * 10 + (a.digit - 48) in
    let is = next_digits a.low a.high a.is_first a.number a.digit c.requires.begun c.requires.open c.requires.digit (omega (arith, c.ranges.number.fits)) in
    let b = digit_begins a.low a.high marks a.is_first a.number a.digit next is clean c.requires.digit p rest h in
    let le = begins_within a.low a.high next (omega (arith, c.ranges.high.fits)) (omega (arith, c.ranges.number.fits, c.ranges.digit.fits)) b in
    omega (arith, le, c.if-next-high.true)

pub returns-then-begins : goal.returns-then-begins
returns-then-begins c = λ marks clean.
    let a = c.args in
    (next_digits a.low a.high a.is_first a.number a.digit c.requires.begun c.requires.open c.requires.digit (omega (arith, c.ranges.number.fits)), c.begins.ensures.0 c.if-begins.true)

pub returns-else-begins : goal.returns-else-begins
returns-else-begins c = λ marks clean p rest h.
    let a = c.args in
    let next = a.number * 10 + (a.digit - 48) in
    let is = next_digits a.low a.high a.is_first a.number a.digit c.requires.begun c.requires.open c.requires.digit (omega (arith, c.ranges.number.fits)) in
    let b = digit_begins a.low a.high marks a.is_first a.number a.digit next is clean c.requires.digit p rest h in
    false≢true (sym c.if-begins.false ∙ c.begins.ensures.1 b)
