-- Why the modes that words tell do not fire, with the texts of tokens and modes.
use Rattle.std.specs.Prelude.{ℕ, List}
use Rattle.pn_marking.specs.Modes.{IsAssigned}
use Rattle.pn_marking.specs.Totals.{IsTokenOf}
use Rattle.pn_mode_text.specs.Texts.{IsModeText, IsTokenText}
use Rattle.pn_net.specs.declared.flat.Flat.{Flat}
use Rattle.pn_net.specs.declared.mode.Mode.{Mode}
use Rattle.pn_net.specs.declared.token.Token.{Token}
use Rattle.pn_stepping.specs.Stepping.{IsUnfired}
use Rattle.pn_stepping.specs.declared.stepping.StepFault.{StepFault}
use Rattle.pn_stepping.specs.declared.stepping.StepFault.TheVariants as faults
use Rattle.pn_stepping.specs.declared.told.StepRefusal.{StepRefusal}
use Rattle.pn_stepping.specs.declared.told.StepRefusal.TheVariants as refusals

-- why the words' modes do not fire, where tokens and modes are told by their texts; want of memory tells nothing
abbrev pub IsRefusedStep : Flat → List (List ℕ) → StepRefusal → Type 0
IsRefusedStep f words (refusals.Memory e) = Unit {0}
IsRefusedStep f words (refusals.BadMode place length) = IsUnfired f words (faults.BadMode place length)
IsRefusedStep f words (refusals.NotAMode place) = IsUnfired f words (faults.NotAMode place)
IsRefusedStep f words (refusals.ModeTooLarge text) = (mode : Mode) × IsUnfired f words (faults.ModeTooLarge mode) × IsModeText f mode text
IsRefusedStep f words (refusals.NotEnabled text need has) = (token : Token) × IsUnfired f words (faults.NotEnabled token need has) × IsTokenText f token text
IsRefusedStep f words (refusals.TokenTooLarge text) = (token : Token) × IsUnfired f words (faults.TokenTooLarge token) × IsTokenText f token text

-- a refusal that tells something
abbrev pub IsToldReason : StepRefusal → Type 0
IsToldReason (refusals.Memory e) = ⊥
IsToldReason (refusals.BadMode place length) = Unit {0}
IsToldReason (refusals.NotAMode place) = Unit {0}
IsToldReason (refusals.ModeTooLarge text) = Unit {0}
IsToldReason (refusals.NotEnabled text need has) = Unit {0}
IsToldReason (refusals.TokenTooLarge text) = Unit {0}

-- the token or mode of a fault is one of the net, so that it has a text
abbrev pub IsTellable : Flat → StepFault → Type 0
IsTellable f (faults.Memory e) = Unit {0}
IsTellable f (faults.BadMode place length) = Unit {0}
IsTellable f (faults.NotAMode place) = Unit {0}
IsTellable f (faults.ModeTooLarge mode) = (vars : List ℕ) × IsAssigned f mode vars
IsTellable f (faults.NotEnabled token need has) = IsTokenOf f token
IsTellable f (faults.TokenTooLarge token) = IsTokenOf f token

-- what the fault says of some words, the refusal says too
abbrev pub IsToldBy : Flat → StepFault → StepRefusal → Type 0
IsToldBy f fault refusal = (words : List (List ℕ)) → IsUnfired f words fault → IsRefusedStep f words refusal
