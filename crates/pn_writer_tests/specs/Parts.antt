-- A sort and a term, which tests write.
use Rattle.std.specs.Prelude.{[], ◌∷◌, codes, pos, negsuc}
use Rattle.pn_operators.specs.declared.op.Op.TheVariants as op
use Rattle.pn_syntax.specs.declared.sort_expr.SortExpr.{SortExpr}
use Rattle.pn_syntax.specs.declared.sort_expr.SortNode.TheVariants as sorts
use Rattle.pn_syntax.specs.declared.term.NumberSort.TheVariants as number_sorts
use Rattle.pn_syntax.specs.declared.term.Term.{Term}
use Rattle.pn_syntax.specs.declared.term.TermNode.TheVariants as terms

abbrev pub sample_range : SortExpr
sample_range = record { at = 2; node = sorts.Range (negsuc 2) (pos 7) }

abbrev pub sample_user : SortExpr
sample_user = record { at = 3; node = sorts.User (codes "c") }

abbrev pub sample_sort : SortExpr
sample_sort = record { at = 1; node = sorts.Product (sample_range ∷ sample_user ∷ []) }

abbrev pub sample_number : Term
sample_number = record { at = 5; node = terms.Number (pos 2) number_sorts.Positive }

abbrev pub sample_all : Term
sample_all = record { at = 6; node = terms.All sample_user }

abbrev pub sample_term : Term
sample_term = record { at = 4; node = terms.Apply op.ScalarProduct (sample_number ∷ sample_all ∷ []) }
