use Rattle.std.proofs.Common.{subst, sym}
use Rattle.std.specs.List.{Contains}
use Rattle.pn_modes.proofs.plan.need.Goals as goal

pub needed-requires-clause-covered : goal.needed-requires-clause-covered
needed-requires-clause-covered c = λ v there. c.requires.covers v ((c.in_ok-found.ensures.each v).0 (subst (λ xs. Contains xs v) c.deref.ensures.value there))

pub returns : goal.returns
returns c = λ v there. c.needed.ensures v (subst (λ xs. Contains xs v) (sym c.deref.ensures.value) ((c.in_ok-found.ensures.each v).1 there))
