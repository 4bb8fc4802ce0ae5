use Rattle.pn_bag.proofs.Placing.{count_at, count_in_gap}
use Rattle.pn_bag.proofs.reads.count_from.Goals as goal

pub returns-in-Ok-clause-count : goal.returns-in-Ok-clause-count
returns-in-Ok-clause-count g c = count_at g.met.K.Ord.total _ _ _ _ c.requires.rising c.in-Ok.ensures.found

pub returns-in-Err-clause-count : goal.returns-in-Err-clause-count
returns-in-Err-clause-count g c = count_in_gap g.met.K.Ord.total _ _ _ c.in-Err.ensures.absent
