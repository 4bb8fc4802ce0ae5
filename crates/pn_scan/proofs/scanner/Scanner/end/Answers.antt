use Rattle.std.proofs.Common.{ap, subst, sym}
use Rattle.pn_markup.specs.Document.{IsDocument}
use Rattle.pn_scan.specs.Reading.{EndsAt}
use Rattle.pn_markup.specs.Offsets.{HasRisingOffsets}
use Rattle.pn_markup.proofs.OrderLemmas.{document_rises}
use Rattle.pn_scan.specs.Nestings.{nesting_of, inner_of}
use Rattle.pn_scan.specs.declared.scanner.ScanFault.TheVariants.{Broken}
use Rattle.pn_scan.proofs.ReadingLemmas.{end_document, end_front}
use Rattle.pn_scan.proofs.scanner.Scanner.end.Goals as goal

pub returns-then-is_whole-clause-ends : goal.returns-then-is_whole-clause-ends
returns-then-is_whole-clause-ends c b r =
    let s = c.args.self in
    let ends = subst (λ e. EndsAt e (nesting_of s.tree) s.kept s.context s.opened) c.if-is_whole.true c.is_whole.ensures.ends in
    subst (λ t. IsDocument t b) (sym c.into_tree.ensures) (end_document s.tree s.kept s.context s.opened s.count b r ends)

pub returns-clause-ends : goal.returns-clause-ends
returns-clause-ends c b r =
    let s = c.args.self in
    let ends = subst (λ e. EndsAt e (nesting_of s.tree) s.kept s.context s.opened) c.if-is_whole.false c.is_whole.ensures.ends in
    (ap Broken r.counted, end_front s.tree s.kept s.context s.opened s.count b r ends)

pub returns-then-is_whole-clause-ordered : goal.returns-then-is_whole-clause-ordered
returns-then-is_whole-clause-ordered c =
    let s = c.args.self in
    let ends = subst (λ e. EndsAt e (nesting_of s.tree) s.kept s.context s.opened) c.if-is_whole.true c.is_whole.ensures.ends in
    let t = inner_of (nesting_of s.tree) in
    subst HasRisingOffsets (sym c.into_tree.ensures) (document_rises t c.requires.0 (end_document s.tree s.kept s.context s.opened s.count c.requires.0 c.requires.1 ends))
