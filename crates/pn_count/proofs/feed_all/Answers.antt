use Rattle.pn_count.proofs.feed_all.Goals as goal

pub returns-then-is_err : goal.returns-then-is_err
returns-then-is_err g c = (_, c.feed.ensures.read c.loop.invariant.0 c.loop.invariant.1)

pub loop-preserved : goal.loop-preserved
loop-preserved g c = (_, c.feed.ensures.read c.loop.invariant.0 c.loop.invariant.1)
