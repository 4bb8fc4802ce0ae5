use Rattle.std.proofs.Common.{ap, sym, ◌∙◌}
use Rattle.pn_syntax.specs.declared.sort_expr.SortNode.TheVariants as nodes
use Rattle.pn_sorts.proofs.settle.entry.Goals as goal

pub returns-in-User : goal.returns-in-User
returns-in-User c items table = c.named_entry.ensures items c.args.expr.now table (c.in-User.is ∙ ap nodes.User (sym c.as_str.ensures))
