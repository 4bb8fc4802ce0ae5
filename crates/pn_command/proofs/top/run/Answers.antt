use Rattle.std.proofs.Common.{inl, map, string_bytes}
use Rattle.std.proofs.lemmas.Option.{IfSome_then}
use Rattle.pn_command.specs.Answer.{Answer, Answers, Begins, EachAnswer, ForAnswer, IsTheDue, RoseWhereDue, SaysSuch, status_of_due}
use Rattle.pn_command.proofs.AnswerLemmas.{each_said, said_status, the_said}
use Rattle.pn_command.proofs.StatusLemmas.{answered, never, one_rose}
use Rattle.pn_command.specs.declared.status.Status.TheVariants as status
use Rattle.pn_command.proofs.top.run.Goals as goal

pub returns-in-Ok-clause-answered : goal.returns-in-Ok-clause-answered
returns-in-Ok-clause-answered g c is =
    let words = map string_bytes c.args.words.now in
    let P = λ (a : Answer). Answers g.O.Sink.taken g.O.Sink.number g.E.Sink.taken g.E.Sink.number c.deliver.result c.args.out.now c.deliver.new.out c.args.err.now c.deliver.new.err a in
    IfSome_then (g.S.Source.left c.args.source.now) {P = λ b. SaysSuch (IsTheDue words b) c.in-Ok.due} {Q = λ b. ForAnswer words b P} c.in-Ok.ensures.due (λ b said. the_said words b c.in-Ok.due P (λ a says. c.deliver.ensures.answered a says is) said)

pub returns-in-Ok-clause-begun : goal.returns-in-Ok-clause-begun
returns-in-Ok-clause-begun g c =
    let words = map string_bytes c.args.words.now in
    let P = λ (a : Answer). Begins g.O.Sink.taken g.O.Sink.number g.E.Sink.taken g.E.Sink.number c.args.out.now c.deliver.new.out c.args.err.now c.deliver.new.err a in
    IfSome_then (g.S.Source.left c.args.source.now) {P = λ b. SaysSuch (IsTheDue words b) c.in-Ok.due} {Q = λ b. EachAnswer words b P} c.in-Ok.ensures.due (λ b said. each_said words b c.in-Ok.due P c.deliver.ensures.begun said)

pub returns-in-Ok-clause-write_fault : goal.returns-in-Ok-clause-write_fault
returns-in-Ok-clause-write_fault g c same =
    let words = map string_bytes c.args.words.now in
    let P = λ (a : Answer). RoseWhereDue a.status (g.O.Sink.faults c.args.out.now) (g.O.Sink.faults c.deliver.new.out) (g.E.Sink.faults c.args.err.now) (g.E.Sink.faults c.deliver.new.err) in
    IfSome_then (g.S.Source.left c.args.source.now) {P = λ b. SaysSuch (IsTheDue words b) c.in-Ok.due} {Q = λ b. EachAnswer words b P} c.in-Ok.ensures.due
    (λ b said. each_said words b c.in-Ok.due P (λ a says. rw (said_status c.in-Ok.due a says) (c.deliver.ensures.write_fault same)) said)

pub returns-in-Ok-clause-nothing_written : goal.returns-in-Ok-clause-nothing_written
returns-in-Ok-clause-nothing_written g c same = absurd (never c.deliver.result status.ReadFault c.in-Ok.due (λ no. no) (λ no. no) c.deliver.ensures.ends same)

pub returns-in-Ok-clause-memory : goal.returns-in-Ok-clause-memory
returns-in-Ok-clause-memory g c same = absurd (never c.deliver.result status.OutOfMemory c.in-Ok.due (λ no. no) (λ no. no) c.deliver.ensures.ends same)

pub returns-in-Ok-clause-read_fault : goal.returns-in-Ok-clause-read_fault
returns-in-Ok-clause-read_fault g c same = absurd (never c.deliver.result status.ReadFault c.in-Ok.due (λ no. no) (λ no. no) c.deliver.ensures.ends same)

pub returns-in-Ok-clause-read_fault_begun : goal.returns-in-Ok-clause-read_fault_begun
returns-in-Ok-clause-read_fault_begun g c same = absurd (never c.deliver.result status.ReadFault c.in-Ok.due (λ no. no) (λ no. no) c.deliver.ensures.ends same)

pub returns-in-Ok-clause-write_fault_untold : goal.returns-in-Ok-clause-write_fault_untold
returns-in-Ok-clause-write_fault_untold g c same = one_rose (status_of_due c.in-Ok.due) _ _ _ _ (c.deliver.ensures.write_fault same)

pub returns-in-Ok-clause-complete : goal.returns-in-Ok-clause-complete
returns-in-Ok-clause-complete g c = λ unread unsaid unwritten untold.
    inl (answered c.deliver.result c.in-Ok.due _ _ _ _ c.deliver.ensures.ends c.deliver.ensures.write_fault unwritten untold)
