use Rattle.pn_tree.specs.Views.{element_of}
use Rattle.pn_tree.proofs.ViewLemmas.{made_at}
use Rattle.pn_tree.proofs.view.View.own_node.Goals as goal

pub returns-clause-made : goal.returns-clause-made
unfolding element_of
returns-clause-made c = made_at c.args.self.store.now c.args.self.node c.node.result c.node.ensures.node
