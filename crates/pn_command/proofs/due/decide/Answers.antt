use Rattle.std.proofs.Common.{map, string_bytes, sym, ◌∙◌}
use Rattle.std.proofs.lemmas.Option.{IfSome_then}
use Rattle.std.proofs.lemmas.Result.{IfOk-weaker}
use Rattle.pn_command.specs.Answer.{IsTheDue, SaysSuch}
use Rattle.pn_command.specs.Reading.{IsScanned}
use Rattle.pn_command.proofs.AnswerLemmas.{said_for_words}
use Rattle.pn_command.proofs.ReadingLemmas.{unread}
use Rattle.pn_command.proofs.due.decide.Goals as goal

pub returns-in_default-clause-no_further : goal.returns-in_default-clause-no_further
returns-in_default-clause-no_further g c = unread (g.S.Source.left c.args.source.now)

pub returns-clause-due : goal.returns-clause-due
returns-clause-due g c =
    IfOk-weaker c.due_or_stop.result _ _ (λ d due.
    IfSome_then (g.S.Source.left c.args.source.now) {P = λ b. IsScanned b c.in_ok-scanned.scanned} {Q = λ b. SaysSuch (IsTheDue (map string_bytes c.args.words.now) b) d} c.in_ok-scanned.ensures.scanned
    (λ b is. said_for_words (map string_bytes c.args.words.now) c.in-Some.asked b d (sym c.asks.ensures ∙ c.in-Some.is) (due b is)))
    c.due_or_stop.ensures.due

pub returns-clause-asked : goal.returns-clause-asked
returns-clause-asked g c = IfOk-weaker c.due_or_stop.result _ _ (λ d other usage. absurd (other usage)) c.due_or_stop.ensures.asked

pub returns-clause-ended : goal.returns-clause-ended
returns-clause-ended g c = IfOk-weaker c.due_or_stop.result _ _ (λ d whole done. c.in_ok-scanned.ensures.end (whole done)) c.due_or_stop.ensures.whole
