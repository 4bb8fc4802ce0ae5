use Rattle.pn_bag.proofs.Placing.{count_at, count_in_gap}
use Rattle.pn_bag.proofs.reads.count_by_search.Goals as goal

pub returns-in-Ok : goal.returns-in-Ok
returns-in-Ok g c = count_at g.met.K.Ord.total _ _ _ _ c.requires c.in-Ok.ensures.found

pub returns-in-Err : goal.returns-in-Err
returns-in-Err g c = count_in_gap g.met.K.Ord.total _ _ _ c.in-Err.ensures.absent
