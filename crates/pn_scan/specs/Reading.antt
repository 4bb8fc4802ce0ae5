-- What it means that a scanner was fed some bytes, in any pieces.
use Rattle.std.specs.Prelude.{◌≡◌, ℕ, ◌<◌, ◌≤◌, Bool, true, false, List, [], length, take, Option, Some, None, Result, Ok, Err}
use Rattle.pn_outside.specs.declared.limits.TheConstants.{BYTES}
use Rattle.pn_markup.specs.Document.{IsDocument, IsFront, IsBreak}
use Rattle.pn_tree.specs.declared.element.Element.{Element}
use Rattle.pn_scan.specs.State.{Nesting, at_end}
use Rattle.pn_scan.specs.Nestings.{nesting_of, inner_of, Belongs}
use Rattle.pn_scan.specs.Contexts.{state_of, Admits}
use Rattle.pn_utf8.specs.Open.{open_bytes}
use Rattle.pn_scan.specs.Fed.{Fed}
use Rattle.pn_scan.specs.declared.open_tree.OpenTree.{OpenTree}
use Rattle.pn_scan.specs.declared.context.Context.{Context}
use Rattle.pn_scan.specs.declared.context.Kept.{Kept}
use Rattle.pn_utf8.specs.declared.characters.Open.{Open}
use Rattle.pn_scan.specs.declared.scanner.ScanFault.{ScanFault}
use Rattle.pn_scan.specs.declared.scanner.ScanFault.TheVariants.{Memory, Broken, TooLong}
use Rattle.pn_scan.specs.declared.scanner.Scanner.{Scanner}

-- the bytes so far, as many as this and no more than the limit, lead to the state of this context in this tree, with what was read of it
pub record IsReading (tree : OpenTree) (kept : Kept) (context : Context) (opened : Open) (count : ℕ) (b : List ℕ) : Type 0 where
  pub belongs : Belongs tree
  pub fits : Admits (nesting_of tree) context
  pub fed : Fed (state_of (nesting_of tree) kept context) (open_bytes opened) b
  pub counted : count ≡ length b
  pub within : length b ≤ BYTES

-- the break k of the bytes b comes before their end and before the limit
pub record IsBroken (b : List ℕ) (k : ℕ) : Type 0 where
  pub before_end : k < length b
  pub before_limit : k < BYTES
  pub is_break : IsBreak b k

-- there are more bytes than the limit, and as many as that begin a document
pub record IsTooLong (b : List ℕ) : Type 0 where
  pub longer : BYTES < length b
  pub front : IsFront (take BYTES b)

-- what the bytes so far are, by the fault that was found. Of want of memory nothing is said
abbrev pub HasReadTo : Option ScanFault → OpenTree → Kept → Context → Open → ℕ → List ℕ → Type 0
HasReadTo None tree kept context opened count b = IsReading tree kept context opened count b
HasReadTo (Some (Memory e)) tree kept context opened count b = Unit {0}
HasReadTo (Some (Broken k)) tree kept context opened count b = IsBroken b k
HasReadTo (Some TooLong) tree kept context opened count b = IsTooLong b

-- the scanner was fed these bytes, in any pieces
abbrev pub HasRead : Scanner → List ℕ → Type 0
HasRead s b = HasReadTo s.fault s.tree s.kept s.context s.opened s.count b

-- the fault that the scanner found
abbrev pub fault_of : Scanner → Option ScanFault
fault_of s = s.fault

-- what a call answers by the fault that was found
abbrev pub answer_of : Option ScanFault → Result (Unit {0}) ScanFault
answer_of None = Ok tt
answer_of (Some f) = Err f

-- memory was wanted
abbrev pub IsMemory : {T : Type 0} → Result T ScanFault → Type 0
IsMemory (Ok u) = ⊥
IsMemory (Err (Memory e)) = Unit {0}
IsMemory (Err (Broken k)) = ⊥
IsMemory (Err TooLong) = ⊥

-- the bytes begin a document and are none
pub record IsOnlyFront (b : List ℕ) : Type 0 where
  pub front : IsFront b
  pub none : (t : Element) → IsDocument t b → ⊥

-- whether a document ends in this nesting and context
abbrev pub EndsAt : Bool → Nesting → Kept → Context → Open → Type 0
EndsAt true p kept context opened = (state_of p kept context ≡ at_end (inner_of p)) × (open_bytes opened ≡ [])
EndsAt false p kept context opened = (t : Element) → state_of p kept context ≡ at_end t → open_bytes opened ≡ [] → ⊥
