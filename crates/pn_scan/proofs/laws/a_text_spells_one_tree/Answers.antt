use Rattle.pn_scan.proofs.ReachLemmas.{one_tree}
use Rattle.pn_scan.proofs.laws.a_text_spells_one_tree.Goals as goal

pub returns : goal.returns
returns c = one_tree
