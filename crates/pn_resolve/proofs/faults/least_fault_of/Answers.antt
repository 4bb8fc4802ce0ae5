use Rattle.std.proofs.Common.{◌≡◌, ◌∙◌, ap, arith, get_or, false}
use Rattle.pn_faults.specs.Least.{least_fault, lower}
use Rattle.pn_resolve.specs.Listing.{faults_of}
use Rattle.pn_resolve.specs.Telling.{known_by}
use Rattle.pn_resolve.proofs.ListingLemmas.{next_so_far, whole_least}
use Rattle.pn_resolve.proofs.ResolveLemmas.{all_told, all_stand}
use Rattle.pn_resolve.proofs.faults.least_fault_of.Goals as goal

pub loop-place-preserved : goal.loop-place-preserved
loop-place-preserved c =
    let known = known_by c.args.index.now c.args.table.now.extents in
    let extents : c.deref-in-loop-place.result.now ≡ c.args.table.now.extents = c.deref-in-loop-place.ensures.value ∙ ap (λ t. t.extents) c.table.view_is in
    next_so_far c.args.items.now known c.in_ok-cycles.cycles.items c.loop-place.place c.index-items-place.result c.loop-place.least c.keep_declaration.new.least c.loop-place-test.true c.index-items-place.is c.loop-place.invariant
    (c.in_ok-keep_declaration.ensures
    ∙ ap (λ xs. lower c.loop-place.least (least_fault (faults_of (known_by c.args.index.now xs) c.told_at-is_cyclic.result c.index-items-place.result))) extents
    ∙ ap (λ b. lower c.loop-place.least (least_fault (faults_of known b c.index-items-place.result))) (c.told_at-is_cyclic.ensures ∙ ap (λ l. get_or l c.loop-place.place false) c.deref.ensures.value))

pub returns : goal.returns
returns c =
    let known = known_by c.args.index.now c.args.table.now.extents in
    whole_least c.args.items.now known
    (λ e f stands. all_told c.args.items.now c.args.index.now c.args.table.now.extents c.args.table.now.sorts c.requires e f stands)
    (λ e f listed. all_stand c.args.items.now c.args.index.now c.args.table.now.extents c.args.table.now.sorts c.requires e f listed)
    c.in_ok-cycles.cycles.items c.in_ok-cycles.ensures.told c.loop-place.place c.loop-place.least (omega arith) c.loop-place.invariant
