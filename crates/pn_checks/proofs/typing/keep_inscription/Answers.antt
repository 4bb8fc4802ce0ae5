use Rattle.std.proofs.Common.{codes}
use Rattle.pn_checks.specs.LabelFaults.{LabelStands}
use Rattle.pn_net.specs.Typing.{IsTermOver}
use Rattle.pn_checks.proofs.SortedLemmas.{sorted_examined}
use Rattle.pn_checks.proofs.typing.keep_inscription.Goals as goal

pub returns-clause-sorted : goal.returns-clause-sorted
returns-clause-sorted c none =
    sorted_examined c.args.decls.now c.args.term.now (IsTermOver c.args.sort.now) (LabelStands c.args.decls.now (IsTermOver c.args.sort.now) (codes "hlinscription") c.args.term.now) c.in_ok-keep_at_place.field-0 c.args.least.now c.keep_at_place.new.least
    c.in_ok-keep_at_place.ensures none
