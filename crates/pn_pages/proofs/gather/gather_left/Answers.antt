use Rattle.std.proofs.Common.{[], ◌∷◌, map, reverse, ap, ◌∙◌}
use Rattle.std.proofs.lemmas.List.{map-append}
use Rattle.pn_net.specs.Ids.{page_holder}
use Rattle.pn_objects.specs.declared.net.Page.TheViews.{out-Page}
use Rattle.pn_net.specs.Objects.{declared_by}
use Rattle.pn_pages.specs.Gathering.{title_holder, title_of}
use Rattle.pn_pages.proofs.GatherLemmas.{one_more, smaller_left}
use Rattle.pn_pages.proofs.gather.gather_left.Goals as goal

pub loop-page-smaller : goal.loop-page-smaller
loop-page-smaller c = smaller_left c.loop-page.left c.pop.new.self c.add_page.new.left c.in-Some.page c.in-Some.ensures c.in_ok-add_page.ensures.left

pub loop-page-preserved : goal.loop-page-preserved
loop-page-preserved c =
    let old = c.args.all.now in
    let pages = reverse c.args.left.now in
    let now = c.loop-page.all in
    let next = c.add_page.new.all in
    let made = c.in_ok-add_page.ensures.all in
    let before = c.loop-page.invariant in
    let p = c.in-Some.page in
    record {
      titles = one_more (λ q. title_of q ∷ []) old.titles pages now.titles next.titles c.loop-page.left c.pop.new.self c.add_page.new.left p c.in-Some.ensures c.in_ok-add_page.ensures.left (ap (λ g. g.titles) made) before.titles;
      held = one_more (λ q. page_holder q ∷ []) (map title_holder old.titles) pages (map title_holder now.titles) (map title_holder next.titles) c.loop-page.left c.pop.new.self c.add_page.new.left p c.in-Some.ensures c.in_ok-add_page.ensures.left (ap (λ g. map title_holder g.titles) made ∙ map-append title_holder now.titles (title_of (out-Page p) ∷ [])) before.held;
      declarations = one_more (λ q. declared_by q.declarations) old.declarations pages now.declarations next.declarations c.loop-page.left c.pop.new.self c.add_page.new.left p c.in-Some.ensures c.in_ok-add_page.ensures.left (ap (λ g. g.declarations) made) before.declarations;
      places = one_more (λ q. q.places) old.places pages now.places next.places c.loop-page.left c.pop.new.self c.add_page.new.left p c.in-Some.ensures c.in_ok-add_page.ensures.left (ap (λ g. g.places) made) before.places;
      transitions = one_more (λ q. q.transitions) old.transitions pages now.transitions next.transitions c.loop-page.left c.pop.new.self c.add_page.new.left p c.in-Some.ensures c.in_ok-add_page.ensures.left (ap (λ g. g.transitions) made) before.transitions;
      place_refs = one_more (λ q. q.place_refs) old.place_refs pages now.place_refs next.place_refs c.loop-page.left c.pop.new.self c.add_page.new.left p c.in-Some.ensures c.in_ok-add_page.ensures.left (ap (λ g. g.place_refs) made) before.place_refs;
      transition_refs = one_more (λ q. q.transition_refs) old.transition_refs pages now.transition_refs next.transition_refs c.loop-page.left c.pop.new.self c.add_page.new.left p c.in-Some.ensures c.in_ok-add_page.ensures.left (ap (λ g. g.transition_refs) made) before.transition_refs;
      arcs = one_more (λ q. q.arcs) old.arcs pages now.arcs next.arcs c.loop-page.left c.pop.new.self c.add_page.new.left p c.in-Some.ensures c.in_ok-add_page.ensures.left (ap (λ g. g.arcs) made) before.arcs;
    }
