use Rattle.std.proofs.Common.{inr, ◌++◌, codes, sym, ap, arith}
use Rattle.std.proofs.lemmas.Fmt.{decimal_digit}
use Rattle.pn_mode_text_tests.proofs.rows.once_is_told_in_two_ways.Goals as goal

pub returns-clause-counted : goal.returns-clause-counted
returns-clause-counted c = inr (omega arith, omega arith, sym (ap (λ digits. digits ++ codes "*t[]") (decimal_digit 1 (omega arith))))
