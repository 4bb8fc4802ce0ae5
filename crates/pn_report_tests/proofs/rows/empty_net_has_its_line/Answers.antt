use Rattle.std.proofs.Common.{arith, [], refl}
use Rattle.pn_operators.specs.declared.kind.Kind.TheVariants as kinds
use Rattle.pn_report_tests.proofs.SummaryRows.{line_by_digits}
use Rattle.pn_report_tests.proofs.rows.empty_net_has_its_line.Goals as goal

pub returns : goal.returns
returns c = λ f kind places transitions arcs. line_by_digits f [] kinds.HighLevel 0 0 0 0 (omega arith) (omega arith) (omega arith) (omega arith) kind places transitions arcs refl
