use Rattle.std.proofs.Common.{List, ℕ, Bor}
use Rattle.pn_net.specs.declared.mode.Mode.{Mode}
use Rattle.pn_mode_text.specs.ModeReadings.{IsBracketText, IsTailText}
use Rattle.pn_mode_text.proofs.AssignedLemmas.{tail_is}
use Rattle.pn_mode_text.proofs.ReadingLemmas.{breaks_on}
use Rattle.pn_mode_text.proofs.read_modes.tail.Goals as goal

pub returns-in-Ok-clause-mode : goal.returns-in-Ok-clause-mode
returns-in-Ok-clause-mode c = (tail_is c.args.net.now c.args.transition c.args.bytes.now).found c.values_at.new.values c.in-Ok.rest.now c.in-Ok.ensures.values

pub returns-clause-mode : goal.returns-clause-mode
returns-clause-mode c =
    let f = c.args.net.now in
    let t = c.args.transition in
    let b = c.args.bytes.now in
    breaks_on {T = Bor (List ℕ)} {S = Mode × Bor (List ℕ)} (IsTailText f t) b (IsBracketText f t) b (λ x. c.values_at.new.values) (λ x. x.now) (λ x. x.0) (λ x. x.1.now) c.in-Err.fault
    (tail_is f t b).broken c.in-Err.ensures.values
