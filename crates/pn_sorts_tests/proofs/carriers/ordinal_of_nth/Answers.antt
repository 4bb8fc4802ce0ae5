use Rattle.std.proofs.Common.{sym}
use Rattle.pn_sorts_tests.proofs.carriers.ordinal_of_nth.Goals as goal

pub returns : goal.returns
returns c = sym (c.ordinal.ensures.only c.args.k c.in_ok-value.ensures.place)
