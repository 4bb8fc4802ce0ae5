use Rattle.std.proofs.Common.{arith, sym, ◌∙◌}
use Rattle.std.proofs.lemmas.Bool.{false≢true}
use Rattle.pn_words.proofs.DigitLemmas.{other_stops}
use Rattle.pn_words.proofs.numbers.behind.Goals as goal
use Rattle.pn_words.proofs.numbers.behind.Goals.{else-not-is_first-via-then-not-is_first+then-low-number+else-is_mark, else-not-is_first-via-then-not-is_first+else-low-number, else-not-is_first-via-else-not-is_first}

pub returns-else-not-is_first : goal.returns-else-not-is_first
returns-else-not-is_first c = λ p rest h.
    let a = c.args in
    other_stops a.low a.high a.marks.now a.is_first a.number a.byte (omega (arith, c.ranges.number.fits)) (omega (arith, c.ranges.high.fits)) (sym c.is_ascii_digit.ensures.value ∙ c.if-is_ascii_digit.false)
    (λ first le mark. elim c.else-not-is_first.branch [
      | else-not-is_first-via-then-not-is_first+then-low-number+else-is_mark w ↦ false≢true (sym w.if-is_mark.false ∙ w.is_mark.ensures.1 mark)
      | else-not-is_first-via-then-not-is_first+else-low-number w ↦ omega (arith, le, w.if-low-number.false)
      | else-not-is_first-via-else-not-is_first w ↦ false≢true (sym first ∙ w.if-not-is_first.false)
    ]) p rest h
