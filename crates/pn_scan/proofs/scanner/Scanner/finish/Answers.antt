use Rattle.std.proofs.Common.{length, subst}
use Rattle.pn_markup.specs.Document.{IsDocument}
use Rattle.pn_scan.specs.Reading.{IsOnlyFront, HasReadTo}
use Rattle.pn_scan.proofs.ReadingLemmas.{no_memory_wanted}
use Rattle.pn_scan.proofs.scanner.Scanner.finish.Goals as goal

pub returns-in-None-clause-no_memory : goal.returns-in-None-clause-no_memory
returns-in-None-clause-no_memory c none =
    let s = c.args.self in
    let b = c.requires.0 in
    let read = subst (λ o. HasReadTo o s.tree s.kept s.context s.opened s.count b) none c.requires.1 in
    no_memory_wanted c.end.result (λ t. IsDocument t b) (IsOnlyFront b) (length b) (c.end.ensures.ends b read)
