use Rattle.pn_checks.proofs.PlainLemmas.{plain_accepted}
use Rattle.pn_checks.proofs.laws.plain_nets_are_accepted.Goals as goal

pub returns : goal.returns
returns c = plain_accepted
