use Rattle.std.proofs.Common.{Some, subst}
use Rattle.pn_faults.specs.Standing.{IsLeastOf}
use Rattle.pn_faults.specs.Walks.{AnswerOrFault}
use Rattle.pn_faults.proofs.WalkLemmas.{least_alone}
use Rattle.pn_terms.specs.Sorts.{HasSort}
use Rattle.pn_terms.specs.Standing.{StandsIn}
use Rattle.pn_terms.proofs.SortLemmas.{same_fault}
use Rattle.pn_terms.proofs.typing.sort_of.Goals as goal

pub returns-in-Some-clause-fault : goal.returns-in-Some-clause-fault
returns-in-Some-clause-fault c f is =
    let P = StandsIn c.args.decls.now c.args.term.now in
    subst (λ g. IsLeastOf P (Some g)) (same_fault c.in-Some.fault f is) (subst (IsLeastOf P) c.in-Some.is (least_alone P c.walk.new.least c.in-Ok.ensures.least))

pub unreachable-requires : goal.unreachable-requires
unreachable-requires c =
    let P = StandsIn c.args.decls.now c.args.term.now in
    let fault = subst (AnswerOrFault (HasSort c.args.decls.now c.args.term.now) P) c.in-None.is c.in-Ok.ensures.answered in
    subst (IsLeastOf P) c.in_default.is (least_alone P c.walk.new.least c.in-Ok.ensures.least) fault.0 fault.1
