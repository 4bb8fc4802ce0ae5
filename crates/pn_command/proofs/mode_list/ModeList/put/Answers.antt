use Rattle.std.proofs.Common.{ℕ, List, sym, subst}
use Rattle.std.specs.List.{Contains}
use Rattle.pn_marking.specs.Modes.{IsAssigned}
use Rattle.pn_command.proofs.mode_list.ModeList.put.Goals as goal

pub put_mode_lines-requires : goal.put_mode_lines-requires
put_mode_lines-requires g c = λ m has.
    subst (λ f. (vars : List ℕ) × IsAssigned f m vars) (sym c.typed.ensures) (c.self.invariant m (subst (λ modes. Contains modes m) c.deref.ensures.value has))
