use Rattle.std.proofs.Common.{sym, ap, ◌∙◌}
use Rattle.pn_tree.specs.declared.element.Element.{Element}
use Rattle.pn_tree.proofs.view.View.name.Goals as goal

pub returns : goal.returns
returns c = c.text.ensures ∙ sym (ap (λ (e : Element). e.name) c.own_node.ensures.made)
