use Rattle.std.proofs.Common.{subst, sym}
use Rattle.std.specs.List.{Contains}
use Rattle.pn_eval_tests.proofs.assigned.are_covered.Goals as goal

pub returns : goal.returns
returns c all v has = c.are_among.ensures all v (subst (λ xs. Contains xs v) (sym c.as_slice.ensures.value) ((c.in_ok-found.ensures.each v).1 has))
