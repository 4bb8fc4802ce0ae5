use Rattle.pn_flat_laws.proofs.AlikeNetLemmas.{alike_back, but_marked, enabled_kept, initial_kept, mode_kept, post_kept, pre_kept, step_kept, variables_kept}
use Rattle.pn_flat_laws.proofs.laws.alike_nets_have_the_same_steps.Goals as goal

pub returns-clause-variables : goal.returns-clause-variables
returns-clause-variables c f g alike t vars = (variables_kept f g (but_marked f g alike) t vars, variables_kept g f (but_marked g f (alike_back f g alike)) t vars)

pub returns-clause-modes : goal.returns-clause-modes
returns-clause-modes c f g alike m = (mode_kept f g (but_marked f g alike) m, mode_kept g f (but_marked g f (alike_back f g alike)) m)

pub returns-clause-takes : goal.returns-clause-takes
returns-clause-takes c f g alike m taken = (pre_kept f g (but_marked f g alike) m taken, pre_kept g f (but_marked g f (alike_back f g alike)) m taken)

pub returns-clause-puts : goal.returns-clause-puts
returns-clause-puts c f g alike m put = (post_kept f g (but_marked f g alike) m put, post_kept g f (but_marked g f (alike_back f g alike)) m put)

pub returns-clause-enabled : goal.returns-clause-enabled
returns-clause-enabled c f g alike marking modes = (enabled_kept f g (but_marked f g alike) marking modes, enabled_kept g f (but_marked g f (alike_back f g alike)) marking modes)

pub returns-clause-steps : goal.returns-clause-steps
returns-clause-steps c f g alike old new modes = (step_kept f g (but_marked f g alike) old new modes, step_kept g f (but_marked g f (alike_back f g alike)) old new modes)

pub returns-clause-initial : goal.returns-clause-initial
returns-clause-initial c f g alike marking = (initial_kept f g alike marking, initial_kept g f (alike_back f g alike) marking)
