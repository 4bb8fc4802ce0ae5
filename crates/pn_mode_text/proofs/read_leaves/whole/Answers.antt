use Rattle.std.proofs.Common.{ℤ, FitsSigned, w64, to_z, of_z, sym, subst, rules}
use Rattle.std.proofs.lemmas.Int.{to_z-of_z}
use Rattle.pn_values.specs.declared.value.Value.TheVariants as values
use Rattle.pn_words.specs.Languages.{Broken, Closed, IsRead}
use Rattle.pn_words.specs.Numbers.{SignedDecimal}
use Rattle.pn_mode_text.specs.ValueReadings.{IsNumberText}
use Rattle.pn_mode_text.proofs.LeafLemmas.{no_digits, number_read}
use Rattle.pn_mode_text.proofs.read_leaves.whole.Goals as goal

pub signed-requires-clause-marks : goal.signed-requires-clause-marks
signed-requires-clause-marks c = no_digits c.args.marks.now c.requires.stops

pub returns-in-Ok : goal.returns-in-Ok
returns-in-Ok c =
    let a = c.args in
    let fits : FitsSigned w64 c.in-Ok.number = search rules in
    subst (λ (z : ℤ). IsRead (Closed (IsNumberText a.low a.high) a.marks.now) a.bytes.now (values.Int z, c.in-Ok.mark) c.in-Ok.rest.now) (sym (to_z-of_z w64 c.in-Ok.number fits))
    ((number_read a.low a.high a.marks.now a.bytes.now).found (c.in-Ok.number, c.in-Ok.mark) c.in-Ok.rest.now
    (subst (λ (z : ℤ). IsRead (Closed (SignedDecimal z a.high) a.marks.now) a.bytes.now (c.in-Ok.number, c.in-Ok.mark) c.in-Ok.rest.now) (to_z-of_z w64 a.low c.ranges.low)
    (subst (λ (z : ℤ). IsRead (Closed (SignedDecimal (to_z w64 (of_z w64 a.low)) z) a.marks.now) a.bytes.now (c.in-Ok.number, c.in-Ok.mark) c.in-Ok.rest.now) (to_z-of_z w64 a.high c.ranges.high) c.in-Ok.ensures)))

pub returns-in-Err : goal.returns-in-Err
returns-in-Err c =
    let a = c.args in
    (number_read a.low a.high a.marks.now a.bytes.now).broken c.in-Err.left
    (subst (λ (z : ℤ). Broken (Closed (SignedDecimal z a.high) a.marks.now) a.bytes.now c.in-Err.left) (to_z-of_z w64 a.low c.ranges.low)
    (subst (λ (z : ℤ). Broken (Closed (SignedDecimal (to_z w64 (of_z w64 a.low)) z) a.marks.now) a.bytes.now c.in-Err.left) (to_z-of_z w64 a.high c.ranges.high) c.in-Err.ensures))
