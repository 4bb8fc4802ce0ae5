use Rattle.std.proofs.Common.{reverse}
use Rattle.pn_pages.specs.Gathering.{AreGathered}
use Rattle.pn_pages.proofs.GatherLemmas.{pages_size}
use Rattle.pn_pages.proofs.gather.gather_left.Given as goal

abbrev pub decreases-loop-page : goal.decreases-loop-page
decreases-loop-page l = pages_size l.left

abbrev pub invariant-loop-page : goal.invariant-loop-page
invariant-loop-page l = AreGathered l.initial.all (reverse l.initial.left) l.all (reverse l.left)
