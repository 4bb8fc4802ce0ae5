-- The lines on the standard error, and the status with which each comes.
use Rattle.std.specs.Prelude.{ℕ, List, ◌++◌, codes}
use Rattle.pn_lines.specs.Escapes.{escaped}
use Rattle.pn_outside.specs.declared.limits.TheConstants.{BYTES}
use Rattle.pn_report.specs.Lines.{count_text, fault_line}
use Rattle.pn_command.specs.declared.lines.Limit.{Limit}
use Rattle.pn_command.specs.declared.lines.Limit.TheVariants as limits
use Rattle.pn_command.specs.declared.lines.Refusal.{Refusal}
use Rattle.pn_command.specs.declared.lines.Refusal.TheVariants as refusals
use Rattle.pn_command.specs.declared.lines.Line.{Line}
use Rattle.pn_command.specs.declared.lines.Line.TheVariants as lines
use Rattle.pn_command.specs.declared.status.Status.{Status}
use Rattle.pn_command.specs.declared.status.Status.TheVariants as status

abbrev pub usage_line : List ℕ
usage_line = codes "pnml: usage: check, flatten, step MODE (one or more), modes T, unfold, trial N\n"

-- the line for what is longer than it may be
abbrev pub longer_line : List ℕ → List ℕ
longer_line what = count_text (codes "pnml: limit: " ++ (what ++ codes " longer than ")) BYTES ++ codes " bytes\n"

-- the line for a mode or a token of this text that comes too often
abbrev pub too_often_line : List ℕ → List ℕ
too_often_line text = codes "pnml: limit: count of " ++ (text ++ codes "\n")

-- the line for a limit that is passed
abbrev pub limit_line : Limit → List ℕ
limit_line limits.Input = longer_line (codes "input")
limit_line limits.Output = longer_line (codes "output")
limit_line (limits.Assignments n) = count_text (codes "pnml: limit: ") n ++ codes " assignments\n"
limit_line (limits.Count text) = too_often_line text

-- a line that ends with an id, escaped
abbrev pub named_line : List ℕ → List ℕ → List ℕ
named_line label id = label ++ (escaped id ++ codes "\n")

-- the line for a word, by its number from 1, that is no mode word, and the length of its longest front with which one begins
abbrev pub bad_mode_line : (word at : ℕ) → List ℕ
bad_mode_line word at = count_text (codes "pnml: word ") word ++ (count_text (codes ": bad mode at byte ") at ++ codes "\n")

-- the line for a word, by its number from 1, whose transition with its values is no mode
abbrev pub not_a_mode_line : ℕ → List ℕ
not_a_mode_line word = count_text (codes "pnml: word ") word ++ codes ": not a mode\n"

-- how often a token is taken, and how often it is there, at the end of a line
abbrev pub shortage_text : (need has : ℕ) → List ℕ
shortage_text need has = count_text (codes " needs ") need ++ (count_text (codes " has ") has ++ codes "\n")

-- the line for a token of this text that is taken more often than it is there
abbrev pub not_enabled_line : List ℕ → (need has : ℕ) → List ℕ
not_enabled_line token need has = codes "pnml: not enabled: " ++ (token ++ shortage_text need has)

-- the line for an input that is refused
abbrev pub refusal_line : Refusal → List ℕ
refusal_line (refusals.Broken k) = count_text (codes "pnml: byte ") k ++ codes ": broken\n"
refusal_line (refusals.Fault f) = fault_line f
refusal_line (refusals.UnknownTransition id) = named_line (codes "pnml: unknown transition: ") id
refusal_line (refusals.InfiniteSort id) = named_line (codes "pnml: infinite sort: ") id
refusal_line (refusals.BadMode word at) = bad_mode_line word at
refusal_line (refusals.NotAMode word) = not_a_mode_line word
refusal_line (refusals.NotEnabled token need has) = not_enabled_line token need has

abbrev pub line_text : Line → List ℕ
line_text lines.Usage = usage_line
line_text (lines.Limit l) = limit_line l
line_text (lines.Refusal r) = refusal_line r

-- the status with which a line comes
abbrev pub status_of : Line → Status
status_of lines.Usage = status.Usage
status_of (lines.Limit l) = status.Limit
status_of (lines.Refusal r) = status.Refused

-- the statuses that come with a line on the standard error
abbrev pub IsLine : Status → Type 0
IsLine status.Done = ⊥
IsLine status.Refused = Unit {0}
IsLine status.Usage = Unit {0}
IsLine status.ReadFault = ⊥
IsLine status.WriteFault = ⊥
IsLine status.OutOfMemory = ⊥
IsLine status.Limit = Unit {0}
