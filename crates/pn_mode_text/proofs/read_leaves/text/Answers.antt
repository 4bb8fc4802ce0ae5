use Rattle.std.proofs.Common.{ℕ, List, Bor}
use Rattle.pn_mode_text.specs.Quoted.{IsQuoted}
use Rattle.pn_mode_text.specs.ValueReadings.{IsTextText}
use Rattle.pn_mode_text.proofs.LeafLemmas.{text_read}
use Rattle.pn_mode_text.proofs.ReadingLemmas.{breaks_on}
use Rattle.pn_values.specs.declared.value.Value.{Value}
use Rattle.pn_words.specs.Languages.{Closed}
use Rattle.pn_mode_text.proofs.read_leaves.text.Goals as goal

pub returns-in-Ok : goal.returns-in-Ok
returns-in-Ok c = (text_read c.args.marks.now c.args.bytes.now).found (c.in-Ok.read.0.0, c.in-Ok.read.0.1) c.in-Ok.read.1.now c.in-Ok.ensures

pub returns-in-Err : goal.returns-in-Err
returns-in-Err c =
    breaks_on {T = (List ℕ × ℕ) × Bor (List ℕ)} {S = (Value × ℕ) × Bor (List ℕ)} (Closed IsTextText c.args.marks.now) c.args.bytes.now (Closed IsQuoted c.args.marks.now) c.args.bytes.now (λ x. x.0) (λ x. x.1.now)
    (λ x. x.0) (λ x. x.1.now) c.in-Err.fault (text_read c.args.marks.now c.args.bytes.now).broken c.in-Err.ensures
