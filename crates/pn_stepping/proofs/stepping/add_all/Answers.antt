use Rattle.std.proofs.Common.{refl, sym, subst}
use Rattle.std.proofs.lemmas.Option.{slice_get_read}
use Rattle.pn_bag.specs.Counts.{IsSame}
use Rattle.pn_net.specs.Orders.{mode_cmp}
use Rattle.pn_tree.proofs.CopyLemmas.{take_next}
use Rattle.pn_stepping.specs.Telling.{entries_of, entry_of}
use Rattle.pn_stepping.proofs.StepLemmas.{entry_at, no_sum_there, same_next}
use Rattle.pn_stepping.proofs.stepping.add_all.Goals as goal

pub returns-in-Err-clause-over : goal.returns-in-Err-clause-over
returns-in-Err-clause-over c =
    let e = c.index-entries-i.result in
    let at = entry_at c.args.entries.now c.loop-i.i e (slice_get_read c.args.entries.now _ c.loop-i.i e refl c.loop-i-test.true c.index-entries-i.is) in
    no_sum_there (entries_of c.args.entries.now) c.loop-i.sum c.loop-i.i (entry_of e) c.in-Err.fault at c.loop-i.invariant c.in-Err.ensures.over

pub loop-i-preserved : goal.loop-i-preserved
loop-i-preserved c =
    let e = c.index-entries-i.result in
    let at = entry_at c.args.entries.now c.loop-i.i e (slice_get_read c.args.entries.now _ c.loop-i.i e refl c.loop-i-test.true c.index-entries-i.is) in
    subst (IsSame mode_cmp c.add.new.sum) (sym (take_next (entries_of c.args.entries.now) c.loop-i.i (entry_of e) at))
    (same_next c.loop-i.sum c.add.new.sum _ (entry_of e) c.loop-i.invariant c.in-Ok.ensures.added)
