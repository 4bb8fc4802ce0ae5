use Rattle.std.proofs.Common.{◌≤◌, length, sym, subst}
use Rattle.pn_shape.specs.Rules.{Saying}
use Rattle.pn_shape.proofs.RowLemmas.{few_slots}
use Rattle.pn_shape.proofs.table.rule_of.Goals as goal

pub returns-clause-few : goal.returns-clause-few
returns-clause-few c = subst (λ (s : Saying). length s.slots ≤ 9) (sym c.table_row.ensures) (few_slots c.args.tag)
