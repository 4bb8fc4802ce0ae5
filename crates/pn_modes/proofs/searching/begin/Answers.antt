use Rattle.std.proofs.Common.{sym, subst, ◌∙◌}
use Rattle.std.specs.Cmp.Lexicographic.{slice_cmp}
use Rattle.std.specs.List.Sorted.{IsStrictlySortedBy}
use Rattle.pn_names.specs.Names.{widths_of}
use Rattle.pn_values.specs.Order.{value_cmp}
use Rattle.pn_modes.specs.Parts.{AreSearchable}
use Rattle.pn_modes.proofs.ChoiceLemmas.{choices_ascend}
use Rattle.pn_modes.proofs.ListingLemmas.{begun}
use Rattle.pn_modes.proofs.searching.begin.Goals as goal

pub invariant_of-result : goal.invariant_of-result
invariant_of-result c =
    let x = c.in_ok-fronts.fronts in
    let is = c.in_ok-fronts.ensures in
    record {
      plan = is.plan;
      searchable = subst (λ ss. AreSearchable x.net.now ss) (sym is.sorts) (subst (λ f. AreSearchable f c.args.sorts) (sym is.net) c.requires.searchable);
      unmarked = is.marking;
      at = c.start-cursor.ensures.at;
      same = c.start-cursor.ensures.transition ∙ sym is.transition;
      ascending = subst (IsStrictlySortedBy (slice_cmp value_cmp)) (sym c.start-cursor.ensures.all) (choices_ascend (widths_of x.net.now.declarations) x.sorts);
    }

pub returns-clause-all : goal.returns-clause-all
returns-clause-all c =
    let x = c.in_ok-fronts.fronts in
    let is = c.in_ok-fronts.ensures in
    begun c.args.net.now x.net.now c.args.transition x.transition c.args.sorts x.sorts _ is.net is.transition is.sorts c.start-cursor.ensures.all c.requires.sorts c.requires.searchable
