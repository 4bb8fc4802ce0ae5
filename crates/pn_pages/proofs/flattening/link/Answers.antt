use Rattle.std.proofs.Common.{subst}
use Rattle.pn_pages.specs.Judging.{IsJudged, IsLeastInLinks}
use Rattle.pn_pages.proofs.JudgingLemmas.{nothing_stands, same_fault, told_stands}
use Rattle.pn_pages.proofs.flattening.link.Goals as goal

pub returns-in-Some-clause-fault : goal.returns-in-Some-clause-fault
returns-in-Some-clause-fault c f is n of =
    subst (IsLeastInLinks n) (same_fault c.in-Some.fault f is) (told_stands n c.in-Some.fault (subst (IsJudged n) c.in-Some.is (c.in-Ok.ensures.looked n of).judged))

pub returns-in-None-clause-linked : goal.returns-in-None-clause-linked
returns-in-None-clause-linked c n of =
    let looked = c.in-Ok.ensures.looked n of in
    let sound = nothing_stands n (subst (IsJudged n) c.in-None.is looked.judged) in
    record { sound = sound; wired = looked.wired sound }
