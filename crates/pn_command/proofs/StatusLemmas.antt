-- What was decided never ends a call as a failed read or want of memory does.
use Rattle.std.proofs.Common.{◌≡◌, ◌⊎◌, inl, inr, ℕ, sym, subst, ◌∙◌}
use Rattle.pn_command.specs.declared.due.Due.{Due}
use Rattle.pn_command.specs.declared.due.Due.TheVariants as due
use Rattle.pn_command.specs.declared.lines.Line.TheVariants as lines
use Rattle.pn_command.specs.declared.status.Status.{Status}
use Rattle.pn_command.specs.declared.status.Status.TheVariants as status
use Rattle.pn_outside.specs.Cause.{Rose}
use Rattle.pn_command.specs.Answer.{IsAnswer, RoseWhereDue, status_of_due}

pub due_answers : (d : Due) → IsAnswer (status_of_due d)
due_answers (due.Line lines.Usage) = tt
due_answers (due.Line (lines.Limit l)) = tt
due_answers (due.Line (lines.Refusal r)) = tt
due_answers (due.Output o) = tt

abbrev pub IsWriteFault : Status → Type 0
IsWriteFault status.Done = ⊥
IsWriteFault status.Refused = ⊥
IsWriteFault status.Usage = ⊥
IsWriteFault status.ReadFault = ⊥
IsWriteFault status.WriteFault = Unit {0}
IsWriteFault status.OutOfMemory = ⊥
IsWriteFault status.Limit = ⊥

-- a status that is neither an answer nor a fault of writing is not that of what was decided
pub never : (result x : Status) (d : Due) → (IsAnswer x → ⊥) → (IsWriteFault x → ⊥) → (result ≡ status_of_due d) ⊎ (result ≡ status.WriteFault) → result ≡ x → ⊥
never result x d no_answer no_write (inl is) same = no_answer (subst IsAnswer (sym is ∙ same) (due_answers d))
never result x d no_answer no_write (inr is) same = no_write (subst IsWriteFault (sym is ∙ same) tt)

-- where the count of the object that is due rose, one of both rose
pub one_rose : (s : Status) (a b c d : ℕ) → RoseWhereDue s a b c d → Rose a b ⊎ Rose c d
one_rose status.Done a b c d rose = inl rose
one_rose status.Refused a b c d rose = inr rose
one_rose status.Usage a b c d rose = inr rose
one_rose status.ReadFault a b c d rose = inr rose
one_rose status.WriteFault a b c d rose = inr rose
one_rose status.OutOfMemory a b c d rose = inr rose
one_rose status.Limit a b c d rose = inr rose

-- where neither rose, what was decided is answered
pub answered : (result : Status) (d : Due) (a b c e : ℕ) → (result ≡ status_of_due d) ⊎ (result ≡ status.WriteFault) → (result ≡ status.WriteFault → RoseWhereDue (status_of_due d) a b c e)
    → (Rose a b → ⊥) → (Rose c e → ⊥) → IsAnswer result
answered result d a b c e (inl is) failed unwritten untold = subst IsAnswer (sym is) (due_answers d)
answered result d a b c e (inr is) failed unwritten untold = absurd (by (one_rose (status_of_due d) a b c e (failed is)))
  where
    by : Rose a b ⊎ Rose c e → ⊥
    by (inl rose) = unwritten rose
    by (inr rose) = untold rose
