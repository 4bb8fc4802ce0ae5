-- What is asked of a term before it has a value.
use Rattle.std.specs.Prelude.{ℕ, List}
use Rattle.pn_eval.specs.Assignments.{Covers}
use Rattle.pn_syntax.specs.declared.declaration.Declaration.{Declaration}
use Rattle.pn_syntax.specs.declared.term.Term.{Term}
use Rattle.pn_terms.specs.Sorts.{HasSort}
use Rattle.pn_terms.specs.Standing.{HasSoundSorts}
use Rattle.pn_terms.specs.declared.term_sort.TermSort.{TermSort}

-- no fault stands in the sorts that it writes, it has a sort, and these variables are all that it has
pub record IsReady (items : List Declaration) (vars : List ℕ) (e : Term) : Type 0 where
  pub sound : HasSoundSorts items e
  pub sorted : (s : TermSort) × HasSort items e s
  pub covers : Covers items vars e
