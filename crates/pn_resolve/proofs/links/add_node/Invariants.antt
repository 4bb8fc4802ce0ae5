use Rattle.std.proofs.Common.{◌≡◌, ◌++◌, ◌∷◌, [], take}
use Rattle.pn_resolve.proofs.links.add_node.Given as goal

abbrev pub invariant-loop-end : goal.invariant-loop-end
invariant-loop-end l = l.graph ≡ l.fn.graph ++ take l.end-index l.ends ∷ []
