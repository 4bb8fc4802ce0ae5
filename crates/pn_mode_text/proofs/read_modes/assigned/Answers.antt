use Rattle.std.proofs.Common.{List, ℕ, Bor, [], ◌∷◌}
use Rattle.pn_net.specs.declared.mode.Mode.{Mode}
use Rattle.pn_words.specs.Languages.{Closed}
use Rattle.pn_mode_text.specs.ModeReadings.{IsAssignedText, IsTailText, IsTransitionText}
use Rattle.pn_mode_text.proofs.AssignedLemmas.{assigned_breaks, assigned_goes_on, number_within}
use Rattle.pn_mode_text.proofs.ReadingLemmas.{breaks_on, reads_on}
use Rattle.pn_mode_text.proofs.read_modes.assigned.Goals as goal

pub tail-requires-clause-within : goal.tail-requires-clause-within
tail-requires-clause-within c = number_within c.args.net.now c.in-Ok.number c.args.bytes.now c.in-Ok.rest.now c.in-Ok.ensures

pub returns-in-Ok : goal.returns-in-Ok
returns-in-Ok c =
    let f = c.args.net.now in
    reads_on (IsAssignedText f) c.args.bytes.now (IsTailText f c.in-Ok.number) c.in-Ok.rest.now (λ mode. mode) (λ x. x.0) (λ x. x.1.now) c.tail.result
    (assigned_goes_on f c.in-Ok.number c.args.bytes.now c.in-Ok.rest.now c.requires.inhabited c.tail.ensures.typed c.in-Ok.ensures) c.tail.ensures.mode

pub returns-in-Ok-have_all_typed : goal.returns-in-Ok-have_all_typed
returns-in-Ok-have_all_typed c =
    let f = c.args.net.now in
    let b = c.args.bytes.now in
    breaks_on {T = ℕ × Bor (List ℕ)} {S = Mode × Bor (List ℕ)} (IsAssignedText f) b (Closed (IsTransitionText f) (91 ∷ [])) b (λ x. (x.0, 91)) (λ x. x.1.now) (λ x. x.0) (λ x. x.1.now) c.in-Err.fault
    (λ left h. assigned_breaks f b left c.requires.inhabited c.in-Ok-have_all_typed.ensures h) c.in-Err.ensures
