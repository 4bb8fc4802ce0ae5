use Rattle.std.proofs.Common.{◌++◌, codes, ap, arith}
use Rattle.std.proofs.lemmas.Fmt.{decimal_digit}
use Rattle.pn_report_tests.proofs.rows.unknown_element_has_its_line.Goals as goal

pub returns : goal.returns
returns c = ap (λ digits. codes "pnml: byte " ++ (digits ++ codes ": unknown element: a\n")) (decimal_digit 0 (omega arith))
