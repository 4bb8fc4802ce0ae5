-- What may be missing.
use Rattle.std.proofs.Common.{◌≡◌, ◌≢◌, Bool, true, false, cond, Option, Some, None, is_none, is_some, refl}

pub none_from : {A : Type 0} (o : Option A) → is_none o ≡ true → o ≡ None
none_from None h = refl
none_from (Some x) h = cc

pub none_unless_some : {A : Type 0} (o : Option A) → is_some o ≡ false → o ≡ None
none_unless_some None h = refl
none_unless_some (Some x) h = cc

pub not_none : {A : Type 0} (o : Option A) → is_none o ≡ false → o ≢ None
not_none None h e = cc
not_none (Some x) h e = cc

-- where neither the test holds nor the other choice is there
pub cond_none : {A : Type 0} (b : Bool) (x : A) (o : Option A) → cond b (Some x) o ≡ None → (b ≡ false) × (o ≡ None)
cond_none true x o e = cc
cond_none false x o e = (refl, e)
