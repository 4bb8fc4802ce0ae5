use Rattle.std.proofs.Common.{sym, subst, option_copied}
use Rattle.pn_facts.proofs.Results.{if_ok}
use Rattle.pn_names.specs.Names.{widths_of}
use Rattle.pn_modes.specs.Parts.{AreSearchable}
use Rattle.pn_modes.proofs.ChoiceLemmas.{choices_ascend}
use Rattle.pn_modes.proofs.ListingLemmas.{collected_all}
use Rattle.pn_modes.proofs.listing.collected.Goals as goal

pub collect-requires-clause-sound : goal.collect-requires-clause-sound
collect-requires-clause-sound c =
    let x = c.in_ok-fronts.fronts in
    let is = c.in_ok-fronts.ensures in
    (is.plan, subst (λ ss. AreSearchable x.net.now ss) (sym is.sorts) (subst (λ f. AreSearchable f c.args.sorts) (sym is.net) c.requires.searchable))

pub collect-requires-clause-ascending : goal.collect-requires-clause-ascending
collect-requires-clause-ascending c = choices_ascend (widths_of c.in_ok-fronts.fronts.net.now.declarations) c.in_ok-fronts.fronts.sorts

pub returns : goal.returns
returns c =
    let x = c.in_ok-fronts.fronts in
    let is = c.in_ok-fronts.ensures in
    if_ok _ _ c.collect.result
    (λ modes all. collected_all c.args.net.now x.net.now c.args.transition x.transition c.args.sorts x.sorts (option_copied c.args.marking) (option_copied x.marking) modes.items is.net is.transition is.sorts is.marking
    c.requires.sorts c.requires.searchable all) c.collect.ensures
