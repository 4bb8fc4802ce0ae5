use Rattle.std.proofs.Common.{◌≡◌, take}
use Rattle.pn_syntax.proofs.sort_expr.+copy.Given as goal

abbrev pub invariant-copy_all-loop-expr : goal.invariant-copy_all-loop-expr
invariant-copy_all-loop-expr l = l.all ≡ take l.expr-index l.exprs
