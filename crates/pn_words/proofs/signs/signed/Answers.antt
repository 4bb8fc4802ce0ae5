use Rattle.std.proofs.Common.{ℤ, ℕ, List, Bor, w64, arith}
use Rattle.std.proofs.lemmas.Int.{ints, to_z-of_z}
use Rattle.pn_words.specs.Languages.{Closed}
use Rattle.pn_words.specs.Numbers.{BehindSign, PlainDecimal, SignedDecimal}
use Rattle.pn_words.proofs.SignedLemmas.{behind_sign, no_negative, only_negative, reads_between, reads_further, without_sign}
use Rattle.pn_words.proofs.signs.signed.Goals as goal

pub returns-then-low-ge0 : goal.returns-then-low-ge0
returns-then-low-ge0 c =
    let a = c.args in no_negative a.low a.high a.marks.now a.bytes.now c.in-Ok.rest.now (grind (arith, ints, c.ranges.high.sfits)) (grind (arith, ints, c.if-low-ge0.true)) c.in-Ok.ensures

pub returns-then-high-lt0 : goal.returns-then-high-lt0
returns-then-high-lt0 c =
    let a = c.args in only_negative a.low a.high a.marks.now a.bytes.now c.in-Err.field-0 (grind (arith, ints, c.if-high-lt0.true)) c.in-Err.ensures

pub returns-else-low-ge0 : goal.returns-else-low-ge0
returns-else-low-ge0 c =
    let a = c.args in
    reads_further {T = (ℤ × ℕ) × Bor (List ℕ)} (Closed (SignedDecimal a.low a.high) a.marks.now) a.bytes.now (Closed (BehindSign a.low a.high) a.marks.now) c.in-Ok.rest.now (λ p. p) (λ x. x.0) (λ x. x.1.now) c.behind_sign.result
    (behind_sign a.low a.high a.marks.now a.bytes.now c.in-Ok.rest.now c.requires.some (grind (arith, ints, c.ranges.high.sfits)) (grind (arith, ints, c.if-high-low.false)) (grind (arith, ints, c.if-low-ge0.false)) c.in-Ok.ensures)
    (reads_between {T = (ℤ × ℕ) × Bor (List ℕ)} BehindSign _ a.low _ a.high _ _ (λ x. x.0) (λ x. x.1.now) c.behind_sign.result (to_z-of_z w64 a.low c.ranges.low) (to_z-of_z w64 a.high c.ranges.high) c.behind_sign.ensures)

pub returns-else-high-lt0 : goal.returns-else-high-lt0
returns-else-high-lt0 c =
    let a = c.args in
    reads_further {T = (ℤ × ℕ) × Bor (List ℕ)} (Closed (SignedDecimal a.low a.high) a.marks.now) a.bytes.now (Closed (PlainDecimal a.low a.high) a.marks.now) a.bytes.now (λ p. p) (λ x. x.0) (λ x. x.1.now) c.without_sign.result
    (without_sign a.low a.high a.marks.now a.bytes.now c.in-Err.field-0 c.in-Err.ensures) (reads_between {T = (ℤ × ℕ) × Bor (List ℕ)} PlainDecimal _ a.low _ a.high _ _ (λ x. x.0) (λ x. x.1.now) c.without_sign.result (to_z-of_z w64 a.low c.ranges.low) (to_z-of_z w64 a.high c.ranges.high) c.without_sign.ensures)
