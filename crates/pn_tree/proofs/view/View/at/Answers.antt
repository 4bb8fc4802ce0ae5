use Rattle.std.proofs.Common.{sym, ap, ◌∙◌}
use Rattle.pn_tree.specs.declared.element.Element.{Element}
use Rattle.pn_tree.proofs.view.View.at.Goals as goal

pub returns : goal.returns
returns c = c.from.ensures ∙ sym (ap (λ (e : Element). e.at) c.own_node.ensures.made)
