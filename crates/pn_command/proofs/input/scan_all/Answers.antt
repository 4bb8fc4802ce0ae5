use Rattle.pn_command.proofs.ReadingLemmas.{all_fed, was_fed}
use Rattle.pn_command.proofs.input.scan_all.Goals as goal

pub finished-requires-clause-fed : goal.finished-requires-clause-fed
finished-requires-clause-fed g c =
    let left = g.S.Source.left in
    was_fed c.feed_all.new.scanner (left c.args.source.now) (left c.feed_all.new.source) c.in-Ok.ensures.fed.0 c.in-Ok.ensures.fed.1

pub finished-requires-clause-no_fault : goal.finished-requires-clause-no_fault
finished-requires-clause-no_fault g c = c.in-Ok.ensures.fed.1.no_fault

pub returns-in-Ok-clause-scanned : goal.returns-in-Ok-clause-scanned
returns-in-Ok-clause-scanned g c =
    let left = g.S.Source.left in
    all_fed c.feed_all.new.scanner (left c.args.source.now) (left c.feed_all.new.source) c.in-Ok.ensures.fed.0 c.finished.result c.in-Ok.ensures.fed.1 c.in-Ok.ensures.end c.finished.ensures.scanned
