use Rattle.pn_pages.proofs.SpellableLemmas.{flat_is_spellable}
use Rattle.pn_pages.proofs.laws.flat_nets_are_spellable.Goals as goal

pub returns : goal.returns
returns c n flat is w = flat_is_spellable n flat is w
