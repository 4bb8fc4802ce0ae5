use Rattle.std.proofs.Common.{sym, ◌∙◌}
use Rattle.pn_marking.proofs.ArcLemmas.{off_place}
use Rattle.pn_marking.proofs.tokens.is_on.Goals as goal

pub returns-clause-no : goal.returns-clause-no
returns-clause-no c is = off_place c.args.net.now c.decls.result.now c.decls.ensures.declared c.args.place c.place_sort.result.now c.args.value.now c.place_sort.ensures (sym c.has_value.ensures ∙ is)
