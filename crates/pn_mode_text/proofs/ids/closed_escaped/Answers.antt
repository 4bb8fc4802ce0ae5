use Rattle.pn_lines.specs.Escapes.{escaped}
use Rattle.pn_words.proofs.MarkLemmas.{mark_reads, text_breaks}
use Rattle.pn_words.specs.Languages.{Only}
use Rattle.pn_mode_text.proofs.ids.closed_escaped.Goals as goal

pub returns-in-Ok : goal.returns-in-Ok
returns-in-Ok c =
    let a = c.args in
    mark_reads (Only (escaped a.text.now)) a.marks.now a.bytes.now tt c.in-Ok.rest.now (λ x. x.0) (λ x. x.1.now) c.mark.result c.requires c.in-Ok.ensures c.mark.ensures

pub returns-in-Err : goal.returns-in-Err
returns-in-Err c = text_breaks (Only (escaped c.args.text.now)) c.args.marks.now c.args.bytes.now c.in-Err.left c.requires c.in-Err.ensures
