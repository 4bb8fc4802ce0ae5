use Rattle.std.proofs.Common.{◌∙◌, ap, sym}
use Rattle.pn_faults.specs.Least.{lower}
use Rattle.pn_faults.proofs.LeastLemmas.{kept-part, lower-none}
use Rattle.pn_faults.proofs.least.keep_least_of.Goals as goal

pub returns-in-Some-clause-so_far : goal.returns-in-Some-clause-so_far
returns-in-Some-clause-so_far c = λ faults more e d. c.keep_least.ensures.lower ∙ kept-part _ _ faults more e (sym c.in-Some.is ∙ d)

pub returns-in_default-clause-so_far : goal.returns-in_default-clause-so_far
returns-in_default-clause-so_far c = λ faults more e d. sym (lower-none c.args.least.now) ∙ (ap (lower c.args.least.now) (sym c.in_default.is) ∙ kept-part c.args.least.now c.args.part faults more e d)
