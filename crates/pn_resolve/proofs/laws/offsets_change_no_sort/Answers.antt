use Rattle.pn_resolve.proofs.OffsetLemmas.{offsets_aside}
use Rattle.pn_resolve.proofs.laws.offsets_change_no_sort.Goals as goal

pub returns : goal.returns
returns c = offsets_aside
