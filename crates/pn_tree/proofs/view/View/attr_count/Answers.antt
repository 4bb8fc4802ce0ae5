use Rattle.std.proofs.Common.{sym, ◌∙◌}
use Rattle.pn_tree.specs.Views.{element_of}
use Rattle.pn_tree.proofs.ViewLemmas.{attrs_counted}
use Rattle.pn_tree.proofs.view.View.attr_count.Goals as goal

pub returns : goal.returns
returns c = c.len.ensures ∙ sym (attrs_counted c.args.self.store.now (element_of c.args.self) c.own_node.result c.own_node.ensures.made c.own_node.ensures.within)
