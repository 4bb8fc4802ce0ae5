use Rattle.std.proofs.Common.{rules, subst}
use Rattle.pn_objects.specs.declared.net.Page.TheViews.{out-Page, the_lemmas}
use Rattle.pn_spelling.specs.Writing.{all_kids}
use Rattle.pn_spelling.specs.WriteNets.{own_kids, page_element}
use Rattle.pn_writer.specs.Giving.{MayTakeElement}
use Rattle.pn_writer.proofs.GivingLemmas.{entry, first_of, first_kids_fit, other_kids_fit, next_fits}
use Rattle.pn_spelling.proofs.WriteLemmas.{page_made}
use Rattle.pn_writer.proofs.nets.+add_page.Goals as goal

pub add_page-begin_with_id-requires-clause-room : goal.add_page-begin_with_id-requires-clause-room
add_page-begin_with_id-requires-clause-room t c = (entry _ _ _ _ _ (subst (λ e. MayTakeElement e c.args.into.now) (page_made c.args.page.now) c.requires)).room

pub add_page-begin_with_id-requires-clause-id : goal.add_page-begin_with_id-requires-clause-id
add_page-begin_with_id-requires-clause-id t c = (first_of _ _ _ _ _ _ _ (subst (λ e. MayTakeElement e c.args.into.now) (page_made c.args.page.now) c.requires)).value

pub add_page-add_own-requires : goal.add_page-add_own-requires
add_page-add_own-requires t c =
    let page = out-Page c.args.page.now in
    first_kids_fit _ _ (own_kids page) (all_kids page_element page.pages) _ _ _ _ (subst (λ e. MayTakeElement e c.args.into.now) (page_made c.args.page.now) c.requires) c.in_ok-begin_with_id.ensures

pub add_page-add_pages-requires : goal.add_page-add_pages-requires
add_page-add_pages-requires t c =
    let page = out-Page c.args.page.now in (
      search (rules, the_lemmas),
      rw c.as_slice.ensures (other_kids_fit _ _ (own_kids page) (all_kids page_element page.pages) _ _ _ _ _ (subst (λ e. MayTakeElement e c.args.into.now) (page_made c.args.page.now) c.requires) c.in_ok-begin_with_id.ensures c.in_ok-add_own.ensures),
    )

pub add_pages-add_page-requires : goal.add_pages-add_page-requires
add_pages-add_page-requires t c = (search (rules, the_lemmas), next_fits page_element c.args.pages.now _ c.loop-page.page-index c.page-item.result c.args.into.now c.loop-page.into c.requires c.loop-page.invariant c.loop-page-test.true c.page-item.is)
