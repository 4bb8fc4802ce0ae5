use Rattle.std.proofs.Common.{sym, subst}
use Rattle.pn_eval.specs.Assignments.{Covers}
use Rattle.pn_terms.specs.Sorts.{HasSort}
use Rattle.pn_terms.specs.Standing.{HasSoundSorts}
use Rattle.pn_terms.specs.declared.term_sort.TermSort.{TermSort}
use Rattle.pn_marking.proofs.terms.outcome_of.Goals as goal

pub eval-requires-clause-sound : goal.eval-requires-clause-sound
eval-requires-clause-sound c = subst (λ items. HasSoundSorts items c.args.term.now) (sym c.decls.ensures.declared) c.requires.typed.0

pub eval-requires-clause-sorted : goal.eval-requires-clause-sorted
eval-requires-clause-sorted c = subst (λ items. (s : TermSort) × HasSort items c.args.term.now s) (sym c.decls.ensures.declared) c.requires.typed.1

pub eval-requires-clause-covers : goal.eval-requires-clause-covers
eval-requires-clause-covers c = subst (λ items. Covers items c.args.vars.now c.args.term.now) (sym c.decls.ensures.declared) c.requires.covers
