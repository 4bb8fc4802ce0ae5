-- What a walk over a document tells: an answer, where no fault stands in its way, and the least of the faults that it met.
use Rattle.std.specs.Prelude.{◌≡◌, List, Option, Some, None}
use Rattle.std.specs.List.{Contains}
use Rattle.pn_faults.specs.declared.fault.Fault.{Fault}
use Rattle.pn_faults.specs.Least.{lower}
use Rattle.pn_faults.specs.Standing.{IsLeastOf}

-- the least of the faults for which P holds, or of what was kept where that comes no later, is kept
pub record KeepsLeast (P : Fault → Type 0) (old new : Option Fault) : Type 0 where
  pub own : Option Fault
  pub is_least : IsLeastOf P own
  pub is_lower : new ≡ lower old own

-- what one node tells: an answer that is right, and no fault; or no answer, and this one fault more
abbrev pub IsTold : {A : Type 0} → (A → Type 0) → (Fault → Type 0) → Option A → Option Fault → Option Fault → Type 0
IsTold Right Stands (Some a) old new = Right a × (new ≡ old)
IsTold Right Stands None old new = (f : Fault) × Stands f × (new ≡ lower old (Some f))

-- an answer that is right, or some fault that stands
abbrev pub AnswerOrFault : {A : Type 0} → (A → Type 0) → (Fault → Type 0) → Option A → Type 0
AnswerOrFault Right Stands (Some a) = Right a
AnswerOrFault Right Stands None = (f : Fault) × Stands f

-- what a walk tells: an answer that is right or none, and the least of the faults that stand and of the one so far
pub record IsWalked {A : Type 0} (Right : A → Type 0) (Stands : Fault → Type 0) (answer : Option A) (old new : Option Fault) : Type 0 where
  pub answered : AnswerOrFault Right Stands answer
  pub least : KeepsLeast Stands old new

-- the fault stands in one of the things
abbrev pub StandsInSome : {X : Type 0} → (X → Fault → Type 0) → List X → Fault → Type 0
StandsInSome {X} StandsIn xs f = (x : X) × Contains xs x × StandsIn x f
