use Rattle.std.proofs.Common.{◌∷◌, [], ap, sym, arith}
use Rattle.pn_mode_text.proofs.PartReadings.{bracket_behind, comma_behind}
use Rattle.pn_mode_text.proofs.read_values.mark_behind.Goals as goal

pub returns-then-place-number-clause-mark : goal.returns-then-place-number-clause-mark
returns-then-place-number-clause-mark c = λ sorts is. ap (λ m. m ∷ []) (sym (bracket_behind sorts c.args.place (omega (arith, is, c.if-place-number.true))))

pub returns-else-place-number-clause-mark : goal.returns-else-place-number-clause-mark
returns-else-place-number-clause-mark c = λ sorts is. ap (λ m. m ∷ []) (sym (comma_behind sorts c.args.place (omega (arith, is, c.requires, c.if-place-number.false))))
