use Rattle.std.proofs.Common.{◌++◌, codes, ap, arith}
use Rattle.std.proofs.lemmas.Fmt.{decimal_digit}
use Rattle.pn_report_tests.proofs.rows.empty_detail_has_its_line.Goals as goal

pub returns : goal.returns
returns c = ap (λ digits. codes "pnml: byte " ++ (digits ++ codes ": unknown end: \n")) (decimal_digit 7 (omega arith))
