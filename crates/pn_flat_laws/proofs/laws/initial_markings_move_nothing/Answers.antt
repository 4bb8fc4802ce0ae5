use Rattle.pn_flat_laws.proofs.AlikeNetLemmas.{but_marked_back, enabled_kept, mode_kept, step_kept}
use Rattle.pn_flat_laws.proofs.laws.initial_markings_move_nothing.Goals as goal

pub returns-clause-modes : goal.returns-clause-modes
returns-clause-modes c f g alike m = (mode_kept f g alike m, mode_kept g f (but_marked_back f g alike) m)

pub returns-clause-enabled : goal.returns-clause-enabled
returns-clause-enabled c f g alike marking modes = (enabled_kept f g alike marking modes, enabled_kept g f (but_marked_back f g alike) marking modes)

pub returns-clause-steps : goal.returns-clause-steps
returns-clause-steps c f g alike old new modes = (step_kept f g alike old new modes, step_kept g f (but_marked_back f g alike) old new modes)
