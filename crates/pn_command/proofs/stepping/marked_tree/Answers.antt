use Rattle.std.proofs.Common.{subst}
use Rattle.pn_marked.specs.Marked.{IsMarkedNet}
use Rattle.pn_command.proofs.StepLemmas.{stepped_writable}
use Rattle.pn_command.proofs.stepping.marked_tree.Goals as goal

pub tree_of-requires : goal.tree_of-requires
tree_of-requires c = stepped_writable c.args.checked.now c.args.marking.now c.in_ok-net.net c.requires.accepted c.requires.tokens c.requires.bag (subst (λ f. IsMarkedNet f c.args.marking.now c.in_ok-net.net) c.typed.ensures c.in_ok-net.ensures.marked)
