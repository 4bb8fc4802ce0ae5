-- The answer that is due for the words and the bytes of the input.
use Rattle.std.specs.Prelude.{◌≡◌, ◌<◌, ◌≤◌, ℕ, List, [], length, Option, MatchOption}
use Rattle.pn_outside.specs.declared.limits.TheConstants.{BYTES}
use Rattle.pn_outside.specs.Cause.{Rose}
use Rattle.pn_outside.specs.Taking.{Takes, TakesFront}
use Rattle.pn_tree.specs.Canonical.{canonical_text}
use Rattle.pn_tree.specs.declared.element.Element.{Element}
use Rattle.pn_markup.specs.Document.{IsBreak, IsDocument}
use Rattle.pn_faults.specs.declared.fault.Fault.{Fault}
use Rattle.pn_net.specs.declared.flat.Flat.{Flat}
use Rattle.pn_scan.specs.Reading.{IsTooLong}
use Rattle.pn_command.specs.declared.words.Asked.{Asked}
use Rattle.pn_command.specs.declared.status.Status.{Status}
use Rattle.pn_command.specs.declared.status.Status.TheVariants as status
use Rattle.pn_command.specs.declared.lines.Limit.{Limit}
use Rattle.pn_command.specs.declared.lines.Limit.TheVariants as limits
use Rattle.pn_command.specs.declared.lines.Refusal.{Refusal}
use Rattle.pn_command.specs.declared.lines.Refusal.TheVariants as refusals
use Rattle.pn_command.specs.declared.lines.Line.{Line}
use Rattle.pn_command.specs.declared.lines.Line.TheVariants as lines
use Rattle.pn_command.specs.declared.outputs.Output.TheVariants as outputs
use Rattle.pn_command.specs.declared.due.Due.{Due}
use Rattle.pn_command.specs.declared.due.Due.TheVariants as due
use Rattle.pn_command.specs.Words.{asked_of}
use Rattle.pn_command.specs.Lines.{line_text, status_of}
use Rattle.pn_command.specs.Outputs.{HasText, IsModesText, IsOutput, IsOver, IsOwnLine, IsUnlistedLine}
use Rattle.pn_checks.specs.Linked.{IsLeastInTree}
use Rattle.pn_command.specs.Verdict.{IsAcceptedAs}

-- how a call ends, and what it writes
pub record Answer : Type 0 where
  pub status : Status
  pub out : List ℕ
  pub err : List ℕ

-- a line goes to the standard error, with its status
abbrev pub line_answer : Line → Answer
line_answer l = record { status = status_of l; out = []; err = line_text l }

abbrev pub usage_answer : Answer
usage_answer = line_answer lines.Usage

abbrev pub limit_answer : Limit → Answer
limit_answer l = line_answer (lines.Limit l)

abbrev pub refusal_answer : Refusal → Answer
refusal_answer r = line_answer (lines.Refusal r)

-- what a command gives goes to the standard output
abbrev pub output_answer : List ℕ → Answer
output_answer text = record { status = status.Done; out = text; err = [] }

-- the input is no document, and is not refused as too long: this is its break
pub record BreaksAt (bytes : List ℕ) (k : ℕ) : Type 0 where
  pub breaks : IsBreak bytes k
  pub no_document : (tree : Element) → IsDocument tree bytes → ⊥
  pub fits : IsTooLong bytes → ⊥

-- the input is a document of this tree, within the limit
pub record IsInput (tree : Element) (bytes : List ℕ) : Type 0 where
  pub within : length bytes ≤ BYTES
  pub is_document : IsDocument tree bytes

-- what is due for a command, the words and the flat net of a document: the line of the command's own that refuses it, where there is one; a line where its output
-- is longer than it may be; else the output
pub data IsDueForNet (asked : Asked) (words : List (List ℕ)) (f : Flat) (a : Answer) : Type 0 where
  stopped : (l : Line) → IsOwnLine asked words f l → a ≡ line_answer l → IsDueForNet asked words f a
  output_too_long : (text : List ℕ) → IsOutput asked words f text → IsOver asked text → a ≡ limit_answer limits.Output → IsDueForNet asked words f a
  given : (text : List ℕ) → IsOutput asked words f text → (IsOver asked text → ⊥) → a ≡ output_answer text → IsDueForNet asked words f a

-- what is due for a command and the tree of a document: the least fault that stands in it, where one does, else what the command gives for its flat net
pub data IsDueForTree (asked : Asked) (words : List (List ℕ)) (tree : Element) (a : Answer) : Type 0 where
  faulty : (fault : Fault) → IsLeastInTree tree fault → a ≡ refusal_answer (refusals.Fault fault) → IsDueForTree asked words tree a
  for_net : (f : Flat) → IsAcceptedAs tree f → IsDueForNet asked words f a → IsDueForTree asked words tree a

-- what is due for a command and the bytes of the input, a case for each kind of input: one that is too long, no document, a document
pub data IsDueFor (asked : Asked) (words : List (List ℕ)) (bytes : List ℕ) (a : Answer) : Type 0 where
  input_too_long : IsTooLong bytes → a ≡ limit_answer limits.Input → IsDueFor asked words bytes a
  broken : (k : ℕ) → BreaksAt bytes k → a ≡ refusal_answer (refusals.Broken k) → IsDueFor asked words bytes a
  for_tree : (tree : Element) → IsInput tree bytes → IsDueForTree asked words tree a → IsDueFor asked words bytes a

-- what is due for the words and the bytes: the usage line where the words ask for nothing
abbrev pub IsDue : List (List ℕ) → List ℕ → Answer → Type 0
IsDue words bytes a = MatchOption (asked_of words) (a ≡ usage_answer) (λ asked. IsDueFor asked words bytes a)

-- this is due, and nothing else is
pub record IsTheDue (words : List (List ℕ)) (bytes : List ℕ) (a : Answer) : Type 0 where
  pub is : IsDue words bytes a
  pub only : (other : Answer) → IsDue words bytes other → other ≡ a

-- one answer is due, no other is, and this holds of it
pub record ForAnswer (words : List (List ℕ)) (bytes : List ℕ) (P : Answer → Type 0) : Type 0 where
  pub answer : Answer
  pub is : IsTheDue words bytes answer
  pub holds : P answer

-- this holds of whatever answer is due
abbrev pub EachAnswer : List (List ℕ) → List ℕ → (Answer → Type 0) → Type 0
EachAnswer words bytes P = (a : Answer) → IsDue words bytes a → P a

-- the answer that is written for what was decided
abbrev pub Says : Due → Answer → Type 0
Says (due.Line l) a = a ≡ line_answer l
Says (due.Output o) a = (text : List ℕ) × HasText o text × (a ≡ output_answer text)

-- with which status that is
abbrev pub status_of_due : Due → Status
status_of_due (due.Line l) = status_of l
status_of_due (due.Output o) = status.Done

abbrev pub usage_due : Due
usage_due = due.Line lines.Usage

-- the text of an element tree, or the line for one that is longer than it may be
abbrev pub IsTextDue : Element → Due → Type 0
IsTextDue e (due.Line l) = (l ≡ lines.Limit limits.Output) × (BYTES < length (canonical_text e))
IsTextDue e (due.Output o) = (o ≡ outputs.Net e) × (BYTES < length (canonical_text e) → ⊥)

-- what `modes` answers for a flat net and an id: the line that tells why they are not listed, or their texts
abbrev pub IsModesDue : Flat → List ℕ → Due → Type 0
IsModesDue f id (due.Line l) = IsUnlistedLine f id l
IsModesDue f id (due.Output o) = (text : List ℕ) × HasText o text × IsModesText f id text

-- an answer that is written for what was decided is such
abbrev pub SaysSuch : (Answer → Type 0) → Due → Type 0
SaysSuch P d = (a : Answer) × Says d a × P a

-- all statuses but those of a failed read or write and of want of memory
abbrev pub IsAnswer : Status → Type 0
IsAnswer status.Done = Unit {0}
IsAnswer status.Refused = Unit {0}
IsAnswer status.Usage = Unit {0}
IsAnswer status.ReadFault = ⊥
IsAnswer status.WriteFault = ⊥
IsAnswer status.OutOfMemory = ⊥
IsAnswer status.Limit = Unit {0}

module _ {O E : Type 0} (taken_out : O → Option (List ℕ)) (number_out : O → Option ℕ) (taken_err : E → Option (List ℕ)) (number_err : E → Option ℕ) where
  -- a call ended with this answer
  pub record Answers (result : Status) (out_old out_new : O) (err_old err_new : E) (a : Answer) : Type 0 where
    pub status : result ≡ a.status
    pub out : Takes taken_out number_out out_old out_new a.out
    pub err : Takes taken_err number_err err_old err_new a.err

  -- what a call wrote is a front of this answer
  pub record Begins (out_old out_new : O) (err_old err_new : E) (a : Answer) : Type 0 where
    pub out : TakesFront taken_out number_out out_old out_new a.out
    pub err : TakesFront taken_err number_err err_old err_new a.err

-- the count of faults of the object that is due rose: the standard output's at Done, else the standard error's
abbrev pub RoseWhereDue : Status → ℕ → ℕ → ℕ → ℕ → Type 0
RoseWhereDue status.Done out_old out_new err_old err_new = Rose out_old out_new
RoseWhereDue status.Refused out_old out_new err_old err_new = Rose err_old err_new
RoseWhereDue status.Usage out_old out_new err_old err_new = Rose err_old err_new
RoseWhereDue status.ReadFault out_old out_new err_old err_new = Rose err_old err_new
RoseWhereDue status.WriteFault out_old out_new err_old err_new = Rose err_old err_new
RoseWhereDue status.OutOfMemory out_old out_new err_old err_new = Rose err_old err_new
RoseWhereDue status.Limit out_old out_new err_old err_new = Rose err_old err_new
