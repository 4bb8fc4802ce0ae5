use Rattle.std.proofs.Common.{◌≡◌, take}
use Rattle.pn_syntax.proofs.declaration.copy_constants.Given as goal

abbrev pub invariant-loop-constant : goal.invariant-loop-constant
invariant-loop-constant l = l.all ≡ take l.constant-index l.constants
