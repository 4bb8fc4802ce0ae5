use Rattle.std.proofs.Common.{refl, arith}
use Rattle.pn_scan.proofs.FedLemmas.{fed_start}
use Rattle.pn_scan.proofs.scanner.Scanner.new.Goals as goal

pub returns-clause-read : goal.returns-clause-read
returns-clause-read c = record { belongs = c.new.ensures.belongs; fits = c.new.ensures.nesting; fed = fed_start; counted = refl; within = omega arith }
