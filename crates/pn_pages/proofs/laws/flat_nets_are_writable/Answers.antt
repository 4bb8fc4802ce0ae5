use Rattle.pn_pages.proofs.WritableLemmas.{flat_is_writable}
use Rattle.pn_pages.proofs.laws.flat_nets_are_writable.Goals as goal

pub returns : goal.returns
returns c n flat is w = flat_is_writable n flat is w
