use Rattle.std.proofs.Common.{[], ◌∷◌, ap, arith, sym}
use Rattle.pn_mode_text.proofs.GivenLemmas.{comma_is}
use Rattle.pn_mode_text.proofs.givens.mark_behind.Goals as goal

pub returns-else-place-number-clause-mark : goal.returns-else-place-number-clause-mark
returns-else-place-number-clause-mark c = λ xs is. ap (λ m. m ∷ []) (sym (comma_is xs c.args.place (omega (arith, is, c.requires, c.if-place-number.false))))
