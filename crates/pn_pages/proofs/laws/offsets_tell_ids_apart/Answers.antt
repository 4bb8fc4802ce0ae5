use Rattle.pn_pages.proofs.ApartLemmas.{apart}
use Rattle.pn_pages.proofs.laws.offsets_tell_ids_apart.Goals as goal

pub returns : goal.returns
returns c = apart
