-- Readings where memory may be missing.
use Rattle.std.proofs.Common.{ℕ, List}
use Rattle.std.specs.declared.result.Result.{Result}
use Rattle.std.specs.declared.result.Result.TheVariants.{Ok, Err}
use Rattle.pn_words.specs.Languages.{Broken, Continues}
use Rattle.pn_mode_text.specs.Readings.{ReadsOr}
use Rattle.pn_mode_text.specs.declared.reading.ReadFault.{ReadFault}
use Rattle.pn_mode_text.specs.declared.reading.ReadFault.TheVariants as faults

-- what was read of a language that goes on is read of the whole
pub reads_on : {V W T : Type 0} (L : V → List ℕ → Type 0) (b : List ℕ) (M : W → List ℕ → Type 0) (c : List ℕ) (f : W → V) (value : T → W) (rest : T → List ℕ) (r : Result T ReadFault)
    → Continues L b M c f → ReadsOr M c value rest r → ReadsOr L b (λ x. f (value x)) rest r
reads_on L b M c f value rest (Ok x) k h = k.found (value x) (rest x) h
reads_on L b M c f value rest (Err (faults.Memory e)) k h = tt
reads_on L b M c f value rest (Err (faults.Broken left)) k h = k.broken left h

-- a fault that is handed on
pub breaks_on : {V W T S : Type 0} (L : V → List ℕ → Type 0) (b : List ℕ) (M : W → List ℕ → Type 0) (c : List ℕ) (value : T → W) (rest : T → List ℕ) (to : S → V) (behind : S → List ℕ)
    (e : ReadFault) → ((left : ℕ) → Broken M c left → Broken L b left) → ReadsOr M c value rest (Err e) → ReadsOr L b to behind (Err e)
breaks_on L b M c value rest to behind (faults.Memory e) k h = tt
breaks_on L b M c value rest to behind (faults.Broken left) k h = k left h
