use Rattle.pn_words.specs.Languages.{Closed}
use Rattle.pn_mode_text.specs.Quoted.{IsEnded, IsQuoted}
use Rattle.pn_mode_text.proofs.QuotedLemmas.{behind_quote, no_quote}
use Rattle.pn_mode_text.proofs.ReadingLemmas.{reads_on}
use Rattle.pn_mode_text.proofs.quoted.quoted.Goals as goal

pub returns-in-Ok : goal.returns-in-Ok
returns-in-Ok c =
    let marks = c.args.marks.now in
    let rest = c.in-Ok.rest.now in
    reads_on (Closed IsQuoted marks) c.args.bytes.now (Closed IsEnded marks) rest (λ p. p) (λ x. x.0) (λ x. x.1.now) c.ended_before.result
    (behind_quote marks c.args.bytes.now rest c.requires.some c.in-Ok.ensures) c.ended_before.ensures

pub returns-in-Err : goal.returns-in-Err
returns-in-Err c = no_quote c.args.marks.now c.args.bytes.now c.in-Err.left c.requires.some c.in-Err.ensures
