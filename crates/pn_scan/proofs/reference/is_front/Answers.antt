use Rattle.std.proofs.Common.{sym, ◌∙◌}
use Rattle.pn_scan.proofs.NextStateLemmas.{front_is}
use Rattle.pn_scan.proofs.reference.is_front.Goals as goal

pub returns : goal.returns
returns c = c.starts_with.ensures.value ∙ sym (front_is c.args.part.now c.args.whole.now)
