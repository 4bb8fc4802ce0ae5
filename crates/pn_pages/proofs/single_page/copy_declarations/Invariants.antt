use Rattle.std.proofs.Common.{◌≡◌, take}
use Rattle.pn_pages.proofs.single_page.copy_declarations.Given as goal

abbrev pub invariant-loop-declaration : goal.invariant-loop-declaration
invariant-loop-declaration l = l.all ≡ take l.declaration-index l.declarations
