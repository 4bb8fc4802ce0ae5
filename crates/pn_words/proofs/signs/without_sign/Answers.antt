use Rattle.std.proofs.Common.{◌≡◌, ℤ, pos, to_z, w64, unsigned_abs, sym, ap, ◌∙◌, subst, arith}
use Rattle.std.proofs.lemmas.Int.{ints, to_z-of_z}
use Rattle.pn_words.specs.Languages.{Closed, IsRead}
use Rattle.pn_words.specs.Numbers.{PlainDecimal, least_plain}
use Rattle.pn_words.proofs.SignedLemmas.{plain_decimal}
use Rattle.pn_words.proofs.signs.without_sign.Goals as goal

pub returns-in-Ok : goal.returns-in-Ok
returns-in-Ok c =
    let a = c.args in
    let is : to_z w64 c.in-Ok.digits ≡ pos c.in-Ok.digits = grind (arith, ints, c.in-Ok.ensures.is_word.1.1, c.unsigned_abs.ensures.value, c.ranges.high.sfits, c.requires.above) in
    subst (λ (z : ℤ). IsRead (Closed (PlainDecimal a.low a.high) a.marks.now) a.bytes.now (z, c.in-Ok.mark) c.in-Ok.rest.now) (sym is)
    ((plain_decimal a.low a.high c.least_plain.result c.unsigned_abs.result a.marks.now a.bytes.now (c.least_plain.ensures ∙ ap least_plain (to_z-of_z w64 a.low c.ranges.low)) (c.unsigned_abs.ensures.value ∙ ap unsigned_abs (to_z-of_z w64 a.high c.ranges.high)) c.requires.above).found
    (c.in-Ok.digits, c.in-Ok.mark) c.in-Ok.rest.now c.in-Ok.ensures)

pub returns-in-Err : goal.returns-in-Err
returns-in-Err c =
    let a = c.args in
    (plain_decimal a.low a.high c.least_plain.result c.unsigned_abs.result a.marks.now a.bytes.now (c.least_plain.ensures ∙ ap least_plain (to_z-of_z w64 a.low c.ranges.low)) (c.unsigned_abs.ensures.value ∙ ap unsigned_abs (to_z-of_z w64 a.high c.ranges.high)) c.requires.above).broken
    c.in-Err.left c.in-Err.ensures
