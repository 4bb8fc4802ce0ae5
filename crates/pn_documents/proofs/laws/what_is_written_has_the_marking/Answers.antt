use Rattle.std.proofs.Common.{subst, sym}
use Rattle.pn_checks.specs.Initial.{IsInitial}
use Rattle.pn_documents.proofs.StepLemmas.{initial_is_marked, marked_fits_here, marked_is_initial, marked_spells, marked_steps}
use Rattle.pn_documents.proofs.laws.what_is_written_has_the_marking.Goals as goal

pub returns-clause-spells : goal.returns-clause-spells
returns-clause-spells c = marked_spells

pub returns-clause-writable : goal.returns-clause-writable
returns-clause-writable c f m n is = (marked_fits_here f m n is).writable

pub returns-clause-initial : goal.returns-clause-initial
returns-clause-initial c f g m n other is doc to marking = (initial_is_marked f m n is other doc g to marking, λ same. subst (IsInitial g) (sym same) (marked_is_initial f m n is other doc g to))

pub returns-clause-keeps : goal.returns-clause-keeps
returns-clause-keeps c f g m n other is doc to = marked_steps f m n is other doc g to
