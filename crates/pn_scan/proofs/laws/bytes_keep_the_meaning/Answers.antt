use Rattle.pn_scan.proofs.FedLemmas.{fed_start, fed_more}
use Rattle.pn_scan.proofs.laws.bytes_keep_the_meaning.Goals as goal

pub returns : goal.returns
returns c = record { start = fed_start; more = fed_more }
