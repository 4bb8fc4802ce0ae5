use Rattle.std.proofs.Common.{◌≡◌, take}
use Rattle.pn_syntax.proofs.declaration.copy_elements.Given as goal

abbrev pub invariant-loop-element : goal.invariant-loop-element
invariant-loop-element l = l.all ≡ take l.element-index l.elements
