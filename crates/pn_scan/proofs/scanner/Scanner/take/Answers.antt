use Rattle.std.proofs.Common.{◌∷◌, []}
use Rattle.pn_scan.proofs.ReadingLemmas.{found_more}
use Rattle.pn_scan.proofs.scanner.Scanner.take.Goals as goal

pub returns-in-Some-clause-read : goal.returns-in-Some-clause-read
returns-in-Some-clause-read c b h =
    let s = c.args.self.now in found_more s.fault c.in-Some.field-0 s.tree s.kept s.context s.opened s.count b (c.args.byte ∷ []) c.in-Some.is h
