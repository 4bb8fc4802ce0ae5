-- What is read of an input, and what that comes to.
use Rattle.std.specs.Prelude.{◌≡◌, ◌≤◌, ℕ, List, ◌++◌, length, Option, None, Result, Ok, Err}
use Rattle.std.specs.Io.KnownBytes.{Consumes}
use Rattle.pn_outside.specs.declared.limits.TheConstants.{BYTES}
use Rattle.pn_markup.specs.Document.{IsDocument, IsFront}
use Rattle.pn_scan.specs.Reading.{HasRead, IsTooLong, fault_of}
use Rattle.pn_scan.specs.declared.scanner.Scanner.{Scanner}
use Rattle.pn_scan.specs.declared.scanner.ScanFault.{ScanFault}
use Rattle.pn_scan.specs.declared.scanner.ScanFault.TheVariants as fault
use Rattle.pn_command.specs.declared.input.Stop.{Stop}
use Rattle.pn_command.specs.declared.input.Stop.TheVariants as stop
use Rattle.pn_command.specs.declared.input.Halt.{Halt}
use Rattle.pn_command.specs.declared.input.Halt.TheVariants as halt
use Rattle.pn_command.specs.declared.input.Scanned.{Scanned}
use Rattle.pn_command.specs.declared.input.Scanned.TheVariants as scanned
use Rattle.pn_command.specs.Answer.{BreaksAt}

-- what an input is: a document of this tree within the limit, no document, or too long
abbrev pub IsScanned : List ℕ → Scanned → Type 0
IsScanned bytes (scanned.Document tree) = IsDocument tree bytes × (length bytes ≤ BYTES)
IsScanned bytes (scanned.Broken k) = BreaksAt bytes k
IsScanned bytes scanned.TooLong = IsTooLong bytes

-- an input that is a document was read to its end
abbrev pub IsReadToEnd : Scanned → Type 0
IsReadToEnd (scanned.Document tree) = Unit {0}
IsReadToEnd (scanned.Broken k) = ⊥
IsReadToEnd scanned.TooLong = ⊥

-- a fault of the scanner, as what it says of the input
abbrev pub Stopped : ScanFault → Result Scanned Stop → Type 0
Stopped (fault.Memory e) r = r ≡ Err stop.Memory
Stopped (fault.Broken k) r = r ≡ Ok (scanned.Broken k)
Stopped fault.TooLong r = r ≡ Ok scanned.TooLong

-- what a fault of the scanner says of the input
abbrev pub FaultSays : ScanFault → List ℕ → Type 0
FaultSays (fault.Memory e) bytes = Unit {0}
FaultSays (fault.Broken k) bytes = BreaksAt bytes k
FaultSays fault.TooLong bytes = IsTooLong bytes

-- what it says of the input that it was not read to its end
abbrev pub HaltSays : Halt → List ℕ → Type 0
HaltSays halt.Source bytes = Unit {0}
HaltSays (halt.Scanner f) bytes = FaultSays f bytes

-- a document may begin with these bytes, and they are no more than an input may have
pub record IsBegun (bytes : List ℕ) : Type 0 where
  pub within : length bytes ≤ BYTES
  pub front : IsFront bytes

-- the scanner was fed what was taken of a source, so many bytes; it found no fault, and a document may begin so
pub record IsFed (s : Scanner) (old now : Option (List ℕ)) (count : ℕ) : Type 0 where
  pub bytes : List ℕ
  pub fed : HasRead s bytes
  pub no_fault : fault_of s ≡ None
  pub taken : Consumes old now bytes
  pub begun : IsBegun bytes
  pub size : count ≡ length bytes

-- what was taken from a source, by what it had left before and after: bytes with which a document may begin, within the limit
pub record TakesBegun (old new : Option (List ℕ)) : Type 0 where
  pub bytes : List ℕ
  pub taken : Consumes old new bytes
  pub begun : IsBegun bytes

-- the same, and then at most one piece more: so no read follows the piece in which a break lies, or the limit
pub record ReadsNoFurther (old new : Option (List ℕ)) : Type 0 where
  pub bytes : List ℕ
  pub piece : List ℕ
  pub taken : Consumes old new (bytes ++ piece)
  pub begun : IsBegun bytes
  pub size : length piece ≤ 4096
