use Rattle.std.proofs.Common.{sym, subst, ap, ◌∙◌, arith, ◌<◌}
use Rattle.pn_carriers.specs.Sizes.{size_of_product}
use Rattle.pn_names.specs.Names.{widths_of}
use Rattle.pn_modes.proofs.CauseLemmas.{listable_again}
use Rattle.pn_modes.proofs.causes.listed_sorts.Goals as goal

pub returns-in-Ok-clause-sorts : goal.returns-in-Ok-clause-sorts
returns-in-Ok-clause-sorts c =
    listable_again c.args.net.now c.args.transition c.in-Ok.sorts c.in_ok-count.count c.in_ok-count.ensures.few.0 c.if-count-eq0.false c.in_ok-count.ensures.few.1 c.in-Ok.ensures
