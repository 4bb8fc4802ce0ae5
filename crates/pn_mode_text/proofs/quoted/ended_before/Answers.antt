use Rattle.std.proofs.Common.{Bor, List, ℕ}
use Rattle.pn_text.specs.declared.Text.{Text}
use Rattle.pn_words.specs.Languages.{Closed}
use Rattle.pn_words.proofs.MarkLemmas.{mark_breaks, text_breaks, text_then_mark}
use Rattle.pn_mode_text.specs.Quoted.{IsEnded}
use Rattle.pn_mode_text.proofs.ReadingLemmas.{breaks_on}
use Rattle.pn_mode_text.proofs.quoted.ended_before.Goals as goal

pub returns-in-Ok-mark : goal.returns-in-Ok-mark
returns-in-Ok-mark c =
    text_then_mark IsEnded c.args.marks.now c.args.bytes.now c.in-Ok.text c.in-Ok.rest.now
    c.in-Ok-mark.mark c.in-Ok-mark.behind.now c.in-Ok.ensures c.in-Ok-mark.ensures

pub returns-in-Err-mark : goal.returns-in-Err-mark
returns-in-Err-mark c =
    mark_breaks IsEnded c.args.marks.now c.args.bytes.now c.in-Ok.text c.in-Ok.rest.now c.in-Err-mark.left c.requires c.in-Ok.ensures c.in-Err-mark.ensures

pub returns-in-Err : goal.returns-in-Err
returns-in-Err c =
    let b = c.args.bytes.now in
    breaks_on {T = Text × Bor (List ℕ)} {S = (Text × ℕ) × Bor (List ℕ)} (Closed IsEnded c.args.marks.now) b IsEnded b (λ x. x.0) (λ x. x.1.now)
    (λ x. x.0) (λ x. x.1.now) c.in-Err.fault (λ left. text_breaks IsEnded c.args.marks.now b left c.requires) c.in-Err.ensures
