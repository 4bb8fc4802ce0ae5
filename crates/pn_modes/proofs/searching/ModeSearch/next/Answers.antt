use Rattle.std.proofs.Common.{subst, ◌∙◌, option_copied}
use Rattle.pn_facts.proofs.Results.{if_ok}
use Rattle.pn_modes.specs.Parts.{carriers_of}
use Rattle.pn_modes.specs.Search.{to_come}
use Rattle.pn_modes.specs.Searching.{IsAdvanced}
use Rattle.pn_modes.proofs.ListingLemmas.{advanced_by, ascends_after}
use Rattle.pn_modes.proofs.searching.ModeSearch.next.Goals as goal

pub invariant_of-self : goal.invariant_of-self
invariant_of-self c =
    let x = c.self.inside.fronts in
    let cs = carriers_of x.net.now x.sorts in
    let was = c.self.invariant in
    record {
      plan = was.plan;
      searchable = was.searchable;
      unmarked = was.unmarked;
      at = c.next.ensures.at;
      same = c.next.ensures.transition ∙ was.same;
      ascending = ascends_after x.net.now x.transition c.self.inside.cursor.front.transition (option_copied x.marking) (to_come cs c.self.inside.cursor) (to_come cs c.next.new.cursor) c.next.result was.unmarked was.same was.ascending c.next.ensures.next c.next.ensures.err;
    }

pub returns-clause-next : goal.returns-clause-next
returns-clause-next c =
    let x = c.self.inside.fronts in
    let cs = carriers_of x.net.now x.sorts in
    let was = c.self.invariant in
    if_ok _ _ c.next.result (λ o next. subst (λ old. IsAdvanced old o (record { flat = x.net.now; transition = x.transition; choices = to_come cs c.next.new.cursor })) c.self.view_is
    (advanced_by x.net.now x.transition c.self.inside.cursor.front.transition (option_copied x.marking) (to_come cs c.self.inside.cursor) (to_come cs c.next.new.cursor) o was.unmarked was.same was.ascending next))
    c.next.ensures.next
