use Rattle.pn_flat_laws.proofs.AlikeNetLemmas.{alike_back, but_marked, initial_kept, step_kept}
use Rattle.pn_documents.proofs.WrittenLemmas.{written_alike}
use Rattle.pn_documents.proofs.laws.what_is_written_keeps_every_step.Goals as goal

pub returns-clause-alike : goal.returns-clause-alike
returns-clause-alike c = written_alike

pub returns-clause-steps : goal.returns-clause-steps
returns-clause-steps c tree other f g accepted from doc to old new modes =
    let alike = written_alike tree other f g accepted from doc to in
    (step_kept f g (but_marked f g alike) old new modes, step_kept g f (but_marked g f (alike_back f g alike)) old new modes)

pub returns-clause-initial : goal.returns-clause-initial
returns-clause-initial c tree other f g accepted from doc to marking =
    let alike = written_alike tree other f g accepted from doc to in
    (initial_kept f g alike marking, initial_kept g f (alike_back f g alike) marking)
