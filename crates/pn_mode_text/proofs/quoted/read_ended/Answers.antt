use Rattle.std.proofs.Common.{◌≡◌, ◌-◌, length, get_or, subst, arith}
use Rattle.pn_words.specs.Languages.{Broken}
use Rattle.pn_words.proofs.SameLemmas.{got_at}
use Rattle.pn_mode_text.specs.Quoted.{IsEnded}
use Rattle.pn_mode_text.proofs.QuotedLemmas.{more_of_escape, more_of_text, text_ends, text_stops}
use Rattle.pn_mode_text.proofs.quoted.read_ended.Goals.{in-Within, in-Byte+in_default}
use Rattle.pn_mode_text.proofs.quoted.read_ended.Goals as goal

pub returns-in-End-clause-reads : goal.returns-in-End-clause-reads
returns-in-End-clause-reads c =
    let b = c.args.bytes.now in
    let l = c.loop-at in
    text_ends l.text.items b l.at (get_or b l.at 0) l.inside l.invariant (got_at b l.at c.loop-at-test.true) c.in-End.ensures

pub returns-in-Stop-clause-reads : goal.returns-in-Stop-clause-reads
returns-in-Stop-clause-reads c =
    let b = c.args.bytes.now in
    let l = c.loop-at in
    text_stops l.text.items b l.at l.inside l.invariant (λ lt. (get_or b l.at 0, got_at b l.at lt, c.in-Stop.ensures))

pub loop-at-preserved : goal.loop-at-preserved
loop-at-preserved c =
    let b = c.args.bytes.now in
    let l = c.loop-at in
    let got = got_at b l.at c.loop-at-test.true in
    elim c.match-behind.branch [
      | in-Within w ↦
          rw (w.text-is, w.inside-is)
          (more_of_escape l.text.items b l.at (get_or b l.at 0) l.inside w.in-Within.next l.invariant c.loop-at-test.true got w.in-Within.ensures)
      | in-Byte+in_default w ↦
          rw (w.text-is, w.inside-is, w.in_default.ensures.items)
          (more_of_text l.text.items b l.at (get_or b l.at 0) w.in-Byte.byte l.inside w.in-Byte.begun l.invariant c.loop-at-test.true got w.in-Byte.ensures)
    ]

pub returns-clause-reads : goal.returns-clause-reads
returns-clause-reads c =
    let b = c.args.bytes.now in
    let l = c.loop-at in
    let all : length b - l.at ≡ 0 = omega (arith, c.loop-at-test.false) in
    subst (Broken IsEnded b) all (text_stops l.text.items b l.at l.inside l.invariant (λ lt. absurd (omega (arith, lt, c.loop-at-test.false))))
