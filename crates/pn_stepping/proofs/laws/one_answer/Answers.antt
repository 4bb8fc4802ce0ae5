use Rattle.pn_stepping.proofs.OneStepLemmas.{marking_once, marking_or_refusal, refusal_once}
use Rattle.pn_stepping.proofs.laws.one_answer.Goals as goal

pub returns-clause-marking : goal.returns-clause-marking
returns-clause-marking c = marking_once

pub returns-clause-refusal : goal.returns-clause-refusal
returns-clause-refusal c = refusal_once

pub returns-clause-either : goal.returns-clause-either
returns-clause-either c = marking_or_refusal
