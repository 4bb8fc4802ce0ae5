use Rattle.std.proofs.Common.{arith}
use Rattle.pn_operators.specs.declared.kind.Kind.TheVariants as kinds
use Rattle.pn_report_tests.proofs.SummaryRows.{line_by_digits}
use Rattle.pn_report_tests.proofs.rows.net_has_its_line.Goals as goal

pub returns : goal.returns
returns c = λ f initial kind places transitions arcs tokens. line_by_digits f initial kinds.PtNet 2 1 2 3 (omega arith) (omega arith) (omega arith) (omega arith) kind places transitions arcs tokens
