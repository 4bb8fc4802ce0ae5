use Rattle.std.proofs.Common.{◌≡◌, ℤ, ◌-◌, negsuc, to_z, of_z, w64, unsigned_abs, sym, ap, ◌∙◌, subst, arith}
use Rattle.std.proofs.lemmas.Int.{to_z-of_z}
use Rattle.pn_words.specs.Languages.{Closed, IsRead}
use Rattle.pn_words.specs.Numbers.{BehindSign, least_behind}
use Rattle.pn_words.proofs.SignedLemmas.{behind_decimal, negative_fits}
use Rattle.pn_words.proofs.signs.behind_sign.Goals as goal

pub returns-in-Ok : goal.returns-in-Ok
returns-in-Ok c =
    let a = c.args in
    let is : to_z w64 (of_z w64 c.negative.result) ≡ negsuc (c.in-Ok.digits - 1) = ap (λ z. to_z w64 (of_z w64 z)) c.negative.ensures ∙ to_z-of_z w64 (negsuc (c.in-Ok.digits - 1)) (negative_fits (c.in-Ok.digits - 1) (omega (arith, c.unsigned_abs.ensures.bound, c.in-Ok.ensures.is_word.1.1))) in
    subst (λ (z : ℤ). IsRead (Closed (BehindSign a.low a.high) a.marks.now) a.bytes.now (z, c.in-Ok.mark) c.in-Ok.rest.now) (sym is)
    ((behind_decimal a.low a.high c.least_behind.result c.unsigned_abs.result a.marks.now a.bytes.now (c.least_behind.ensures ∙ ap least_behind (to_z-of_z w64 a.high c.ranges.high)) (c.unsigned_abs.ensures.value ∙ ap unsigned_abs (to_z-of_z w64 a.low c.ranges.low)) c.requires.below).found
    (c.in-Ok.digits, c.in-Ok.mark) c.in-Ok.rest.now c.in-Ok.ensures)

pub returns-in-Err : goal.returns-in-Err
returns-in-Err c =
    let a = c.args in
    (behind_decimal a.low a.high c.least_behind.result c.unsigned_abs.result a.marks.now a.bytes.now (c.least_behind.ensures ∙ ap least_behind (to_z-of_z w64 a.high c.ranges.high)) (c.unsigned_abs.ensures.value ∙ ap unsigned_abs (to_z-of_z w64 a.low c.ranges.low)) c.requires.below).broken
    c.in-Err.left c.in-Err.ensures
