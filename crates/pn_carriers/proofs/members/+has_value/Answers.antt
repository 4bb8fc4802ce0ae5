use Rattle.std.proofs.Common.{sym, arith}
use Rattle.pn_carriers.specs.Members.{is_member}
use Rattle.pn_carriers.proofs.MemberLemmas.{not_as_many}
use Rattle.pn_carriers.proofs.members.+has_value.Goals as goal

pub pass_each-returns-then-parts-values : goal.pass_each-returns-then-parts-values
pass_each-returns-then-parts-values t c = sym (not_as_many (is_member c.args.widths.now) c.args.parts.now c.args.values.now (omega arith))
