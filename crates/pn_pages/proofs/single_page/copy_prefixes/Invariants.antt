use Rattle.std.proofs.Common.{◌≡◌, take}
use Rattle.pn_pages.proofs.single_page.copy_prefixes.Given as goal

abbrev pub invariant-loop-prefix : goal.invariant-loop-prefix
invariant-loop-prefix l = l.all ≡ take l.prefix-index l.prefixes
