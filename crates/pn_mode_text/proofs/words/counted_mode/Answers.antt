use Rattle.std.proofs.Common.{ℕ, List, Bor, ap}
use Rattle.pn_net.specs.declared.mode.Mode.{Mode}
use Rattle.pn_mode_text.specs.ModeReadings.{IsAssignedText, IsWord}
use Rattle.pn_mode_text.proofs.AssignedLemmas.{assigned_some}
use Rattle.pn_mode_text.proofs.ReadingLemmas.{breaks_on}
use Rattle.pn_mode_text.proofs.WordLemmas.{alone_found, counted_goes_on, nearer_broken, some_there}
use Rattle.pn_mode_text.proofs.words.counted_mode.Goals as goal

pub returns-in-Ok-assigned : goal.returns-in-Ok-assigned
returns-in-Ok-assigned c =
    let f = c.args.net.now in
    let within = some_there c.flat.result.now.transitions f.transitions c.is_empty.result c.is_empty.ensures.1 c.if-is_empty.false (ap (λ g. g.transitions) c.flat.ensures.flat) in
    (counted_goes_on f c.args.bytes.now c.in-Ok.count c.in-Ok.field-0-0-1 c.in-Ok.rest.now (assigned_some f 0 within c.requires.inhabited c.have_typed.ensures) c.in-Ok.ensures).found c.in-Ok-assigned.mode c.in-Ok-assigned.rest.now
    c.in-Ok-assigned.ensures

pub returns-in-Err-assigned : goal.returns-in-Err-assigned
returns-in-Err-assigned c =
    let f = c.args.net.now in
    let within = some_there c.flat.result.now.transitions f.transitions c.is_empty.result c.is_empty.ensures.1 c.if-is_empty.false (ap (λ g. g.transitions) c.flat.ensures.flat) in
    breaks_on {T = Mode × Bor (List ℕ)} {S = (ℕ × Mode) × Bor (List ℕ)} (IsWord f) c.args.bytes.now (IsAssignedText f) c.in-Ok.rest.now (λ x. x.0) (λ x. x.1.now) (λ x. x.0) (λ x. x.1.now) c.in-Err-assigned.fault
    (counted_goes_on f c.args.bytes.now c.in-Ok.count c.in-Ok.field-0-0-1 c.in-Ok.rest.now (assigned_some f 0 within c.requires.inhabited c.have_typed.ensures) c.in-Ok.ensures).broken c.in-Err-assigned.ensures

pub returns-in-Ok-assigned-2 : goal.returns-in-Ok-assigned-2
returns-in-Ok-assigned-2 c = alone_found c.args.net.now c.args.bytes.now c.in-Ok-assigned-2.mode c.in-Ok-assigned-2.rest.now c.in-Ok-assigned-2.ensures

pub returns-in-Err-assigned-2 : goal.returns-in-Err-assigned-2
returns-in-Err-assigned-2 c =
    let f = c.args.net.now in
    let within = some_there c.flat.result.now.transitions f.transitions c.is_empty.result c.is_empty.ensures.1 c.if-is_empty.false (ap (λ g. g.transitions) c.flat.ensures.flat) in
    nearer_broken {T = Mode × Bor (List ℕ)} {S = (ℕ × Mode) × Bor (List ℕ)} f c.args.bytes.now c.in-Err.less (λ x. x.0) (λ x. x.1.now) (λ x. x.0) (λ x. x.1.now) c.in-Err-assigned-2.fault c.nearer.result
    (assigned_some f 0 within c.requires.inhabited c.have_typed.ensures) c.in-Err.ensures c.nearer.ensures c.in-Err-assigned-2.ensures
