-- What the commands give for the flat net of a document: on the standard output, or a line of their own.
use Rattle.std.specs.Prelude.{◌≡◌, ℕ, ◌<◌, ◌+◌, List, length, Option, None, Some}
use Rattle.pn_checks.specs.Initial.{IsInitial}
use Rattle.pn_firing.specs.Lines.{HasModeLines}
use Rattle.pn_firing.specs.Listing.{AreListed, IsUnlisted}
use Rattle.pn_firing.specs.declared.listing.ListFault.{ListFault}
use Rattle.pn_firing.specs.declared.listing.ListFault.TheVariants as unlisted
use Rattle.pn_marked.specs.Marked.{IsMarkedNet}
use Rattle.pn_net.specs.Flattening.{net_of_flat}
use Rattle.pn_net.specs.declared.flat.Flat.{Flat}
use Rattle.pn_net.specs.declared.mode.Mode.{Mode}
use Rattle.pn_net.specs.declared.token.Token.{Token}
use Rattle.pn_objects.specs.declared.net.Net.{Net}
use Rattle.pn_outside.specs.declared.limits.TheConstants.{BYTES}
use Rattle.pn_report.specs.Summaries.{summary_line}
use Rattle.pn_spelling.specs.WriteNets.{tree_of_net}
use Rattle.pn_stepping.specs.Refusing.{IsRefusedStep}
use Rattle.pn_stepping.specs.Stepping.{LeadTo}
use Rattle.pn_stepping.specs.declared.told.StepRefusal.{StepRefusal}
use Rattle.pn_stepping.specs.declared.told.StepRefusal.TheVariants as unfired
use Rattle.pn_tree.specs.Canonical.{canonical_text}
use Rattle.pn_tree.specs.declared.element.Element.{Element}
use Rattle.pn_command.specs.Words.{argument_of, arguments_of}
use Rattle.pn_command.specs.declared.lines.Limit.TheVariants as limits
use Rattle.pn_command.specs.declared.lines.Line.{Line}
use Rattle.pn_command.specs.declared.lines.Line.TheVariants as lines
use Rattle.pn_command.specs.declared.lines.Refusal.TheVariants as refusals
use Rattle.pn_command.specs.declared.outputs.Output.{Output}
use Rattle.pn_command.specs.declared.outputs.Output.TheVariants as outputs
use Rattle.pn_command.specs.declared.words.Asked.{Asked}
use Rattle.pn_command.specs.declared.words.Asked.TheVariants.{Check, Flatten, Step, Modes}

-- the line that sums a flat net up, with its initial marking
pub record IsSummed (f : Flat) (text : List ℕ) : Type 0 where
  pub initial : List (Token × ℕ)
  pub is_initial : IsInitial f initial
  pub is : text ≡ summary_line f initial

-- the canonical text of a flat net
abbrev pub IsFlatText : Flat → List ℕ → Type 0
IsFlatText f text = text ≡ canonical_text (tree_of_net (net_of_flat f))

-- the enabled modes of the transition of this id, a line each
pub record IsModesText (f : Flat) (id : List ℕ) (text : List ℕ) : Type 0 where
  pub modes : List Mode
  pub are_listed : AreListed f id modes
  pub has_lines : HasModeLines f modes text

-- the tree of a flat net with the marking to which the modes of the words lead from the initial marking
pub record IsStepTree (f : Flat) (words : List (List ℕ)) (tree : Element) : Type 0 where
  pub new : List (Token × ℕ)
  pub led : LeadTo f words new
  pub net : Net
  pub is_marked : IsMarkedNet f new net
  pub is : tree ≡ tree_of_net net

-- the canonical text of such a tree
abbrev pub IsStepText : Flat → List (List ℕ) → List ℕ → Type 0
IsStepText f words text = (tree : Element) × IsStepTree f words tree × (text ≡ canonical_text tree)

-- what a command gives for a flat net: `check` its summary, `flatten` its text, `step` its text with the marking to which the modes of the words behind it lead, `modes` the
-- enabled modes of the transition that the word behind it names
abbrev pub IsOutput : Asked → List (List ℕ) → Flat → List ℕ → Type 0
IsOutput Check words f text = IsSummed f text
IsOutput Flatten words f text = IsFlatText f text
IsOutput Step words f text = IsStepText f (arguments_of words) text
IsOutput Modes words f text = IsModesText f (argument_of words) text

-- the text of a net is longer than it may be; a summary and a list of modes have no such limit
abbrev pub IsOver : Asked → List ℕ → Type 0
IsOver Check text = ⊥
IsOver Flatten text = BYTES < length text
IsOver Step text = BYTES < length text
IsOver Modes text = ⊥

-- the line that tells why the modes of the transition of this id are not listed
abbrev pub line_of_unlisted : List ℕ → ListFault → Option Line
line_of_unlisted id (unlisted.Memory e) = None
line_of_unlisted id unlisted.UnknownTransition = Some (lines.Refusal (refusals.UnknownTransition id))
line_of_unlisted id (unlisted.InfiniteSort x) = Some (lines.Refusal (refusals.InfiniteSort x))
line_of_unlisted id (unlisted.TooManyAssignments n) = Some (lines.Limit (limits.Assignments n))

-- it is such a line
abbrev pub IsUnlistedLine : Flat → List ℕ → Line → Type 0
IsUnlistedLine f id l = (fault : ListFault) × IsUnlisted f id fault × (line_of_unlisted id fault ≡ Some l)

-- the line that tells why the modes of words do not fire; the command is word 1
abbrev pub line_of_unfired : StepRefusal → Option Line
line_of_unfired (unfired.Memory e) = None
line_of_unfired (unfired.BadMode place length) = Some (lines.Refusal (refusals.BadMode (place + 2) length))
line_of_unfired (unfired.NotAMode place) = Some (lines.Refusal (refusals.NotAMode (place + 2)))
line_of_unfired (unfired.ModeTooLarge text) = Some (lines.Limit (limits.Count text))
line_of_unfired (unfired.NotEnabled token need has) = Some (lines.Refusal (refusals.NotEnabled token need has))
line_of_unfired (unfired.TokenTooLarge text) = Some (lines.Limit (limits.Count text))

-- it is such a line
abbrev pub IsUnfiredLine : Flat → List (List ℕ) → Line → Type 0
IsUnfiredLine f words l = (refusal : StepRefusal) × IsRefusedStep f words refusal × (line_of_unfired refusal ≡ Some l)

-- the line that a command gives in place of its output
abbrev pub IsOwnLine : Asked → List (List ℕ) → Flat → Line → Type 0
IsOwnLine Check words f l = ⊥
IsOwnLine Flatten words f l = ⊥
IsOwnLine Step words f l = IsUnfiredLine f (arguments_of words) l
IsOwnLine Modes words f l = IsUnlistedLine f (argument_of words) l

-- the text of an output that is not written yet
abbrev pub HasText : Output → List ℕ → Type 0
HasText (outputs.Summary f) text = IsSummed f text
HasText (outputs.Net e) text = text ≡ canonical_text e
HasText (outputs.Modes l) text = HasModeLines l.flat l.modes text
