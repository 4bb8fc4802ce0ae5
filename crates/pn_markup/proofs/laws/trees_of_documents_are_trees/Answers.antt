use Rattle.pn_markup.proofs.SpellingLemmas.{document_tree}
use Rattle.pn_markup.proofs.laws.trees_of_documents_are_trees.Goals as goal

pub returns : goal.returns
returns c = document_tree
