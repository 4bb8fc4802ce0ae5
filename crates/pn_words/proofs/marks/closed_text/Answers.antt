use Rattle.pn_words.specs.Languages.{Only}
use Rattle.pn_words.proofs.MarkLemmas.{mark_reads, text_breaks}
use Rattle.pn_words.proofs.marks.closed_text.Goals as goal

pub returns-in-Ok : goal.returns-in-Ok
returns-in-Ok c =
    mark_reads (Only c.args.text.now) c.args.marks.now c.args.bytes.now tt c.in-Ok.rest.now (λ x. x.0) (λ x. x.1.now) c.mark.result c.requires c.in-Ok.ensures c.mark.ensures

pub returns-in-Err : goal.returns-in-Err
returns-in-Err c = text_breaks (Only c.args.text.now) c.args.marks.now c.args.bytes.now c.in-Err.left c.requires c.in-Err.ensures
