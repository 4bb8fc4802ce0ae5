use Rattle.pn_scan.proofs.FedLemmas.{fed_front, fed_no_character, fed_no_state}
use Rattle.pn_scan.proofs.laws.refusals_are_breaks.Goals as goal

pub returns : goal.returns
returns c = record { front = fed_front; character = fed_no_character; markup = fed_no_state }
