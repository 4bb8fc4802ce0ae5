use Rattle.pn_operations.proofs.multisets.+sum_last.Given as goal

abbrev pub decreases-sum_last : goal.decreases-sum_last
decreases-sum_last l = l.count
