use Rattle.std.proofs.Common.{◌≡◌, Ok, None, [], ap, sym, subst, ◌∙◌, option_copied}
use Rattle.pn_modes.specs.Listed.{AreModesOf}
use Rattle.pn_modes.proofs.ListingLemmas.{none_assigned}
use Rattle.pn_modes.proofs.listing.listed.Goals as goal

pub returns-in-None-clause-modes : goal.returns-in-None-clause-modes
returns-in-None-clause-modes c =
    subst (AreModesOf c.args.net.now c.args.transition (option_copied c.args.marking)) (sym c.new.ensures.items)
    (none_assigned c.args.net.now c.args.transition (option_copied c.args.marking) (c.in_ok-sorts.ensures.none (ap Ok c.in-None.is)))
