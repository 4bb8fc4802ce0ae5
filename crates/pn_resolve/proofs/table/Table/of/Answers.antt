use Rattle.std.proofs.Common.{◌≡◌, ◌+◌, ◌<◌, rules, length, get_or, Some, ◌∙◌, refl, ap, sym, subst, arith}
use Rattle.std.specs.List.{slice_get}
use Rattle.std.proofs.lemmas.Option.{slice_get-get_or}
use Rattle.pn_cycles.specs.Orders.{ListsEachOnce, StandBehindTargets}
use Rattle.pn_names.specs.Names.{names_of}
use Rattle.pn_resolve.specs.Links.{IsGraph}
use Rattle.pn_resolve.specs.declared.links.Sources.TheVariants as source
use Rattle.pn_resolve.specs.Tables.{plain_expr, extents_with, sorts_with}
use Rattle.pn_resolve.proofs.LinkLemmas.{is_whole}
use Rattle.pn_resolve.proofs.MakeLemmas.{kept_whole}
use Rattle.pn_resolve.proofs.TableLemmas.{Progress, first_progress, next_progress}
use Rattle.pn_resolve.proofs.TruthLemmas.{table_is_right}
use Rattle.pn_resolve.proofs.table.Table.of.Goals as goal

pub order_of-requires : goal.order_of-requires
order_of-requires c =
    let is = subst (λ n. IsGraph c.args.items.now n source.Named c.in_ok-graph.graph) c.requires.index c.in_ok-graph.ensures in
    is_whole c.args.items.now source.Named c.in_ok-graph.graph is

pub loop-place-init : goal.loop-place-init
loop-place-init c =
    let is = subst (λ n. IsGraph c.args.items.now n source.Named c.in_ok-graph.graph) c.requires.index c.in_ok-graph.ensures in
    let each = subst (ListsEachOnce (length c.in_ok-graph.graph)) (sym c.nodes-place-items.ensures) c.in_ok-order.ensures.nodes in
    let behind = subst (StandBehindTargets c.in_ok-graph.graph) (sym c.nodes-place-items.ensures) c.in_ok-order.ensures.order in
    first_progress c.args.items.now c.in_ok-graph.graph is c.nodes-place-items.result.now c.in_ok-order.order.on_cycle c.in_ok-order.ensures.on_cycle each behind
    c.in_ok-extents.extents.items c.in_ok-sorts.sorts c.in_ok-extents.ensures.sized c.in_ok-sorts.ensures.sized c.in_ok-extents.ensures.own c.in_ok-sorts.ensures.own

pub loop-place-preserved : goal.loop-place-preserved
loop-place-preserved c =
    let is = subst (λ n. IsGraph c.args.items.now n source.Named c.in_ok-graph.graph) c.requires.index c.in_ok-graph.ensures in
    let each = subst (ListsEachOnce (length c.in_ok-graph.graph)) (sym c.nodes-place-items.ensures) c.in_ok-order.ensures.nodes in
    let behind = subst (StandBehindTargets c.in_ok-graph.graph) (sym c.nodes-place-items.ensures) c.in_ok-order.ensures.order in
    let place = get_or c.nodes-place-items.result.now c.loop-place.place-index 0 in
    let plain = plain_expr c.index-items-place.result in
    let extents : c.settle.new.extents ≡ extents_with (names_of c.args.items.now) c.is_on_cycle.result place plain c.loop-place.extents.items =
    c.in_ok-settle.ensures.extents ∙ ap (extents_with c.args.index.now c.is_on_cycle.result place plain) c.deref_mut.ensures.value ∙ ap (λ n. extents_with n c.is_on_cycle.result place plain c.loop-place.extents.items) c.requires.index in
    let sorts : c.settle.new.sorts ≡ sorts_with (names_of c.args.items.now) c.is_on_cycle.result place plain c.loop-place.extents.items c.loop-place.sorts =
    c.in_ok-settle.ensures.sorts ∙ ap (λ xs. sorts_with c.args.index.now c.is_on_cycle.result place plain xs c.loop-place.sorts) c.deref_mut.ensures.value ∙ ap (λ n. sorts_with n c.is_on_cycle.result place plain c.loop-place.extents.items c.loop-place.sorts) c.requires.index in
    let inside : place < length c.args.items.now = search rules in
    let stands : slice_get c.args.items.now place ≡ Some c.index-items-place.result =
    slice_get-get_or c.args.items.now place c.index-items-place.result inside ∙ ap Some (sym c.index-items-place.is) in
    let next = next_progress c.args.items.now c.in_ok-graph.graph is c.nodes-place-items.result.now c.in_ok-order.order.on_cycle c.in_ok-order.ensures.on_cycle each behind
    c.loop-place.place-index place c.index-items-place.result c.is_on_cycle.result c.loop-place.extents.items c.loop-place.sorts c.loop-place-test.true refl stands (sym c.is_on_cycle.ensures) c.loop-place.invariant in
    let first : length c.settle.new.extents ≡ c.loop-place.extents.len = ap length extents ∙ next.sized_extents ∙ sym c.loop-place.invariant.sized_extents ∙ sym c.loop-place.extents.ok.0 in
    subst (λ xs. Progress c.args.items.now c.nodes-place-items.result.now (c.loop-place.place-index + 1) xs c.settle.new.sorts)
    (sym (kept_whole c.settle.new.extents c.loop-place.extents.items c.loop-place.extents.len first ∙ extents))
    (subst (λ xs. Progress c.args.items.now c.nodes-place-items.result.now (c.loop-place.place-index + 1) (extents_with (names_of c.args.items.now) c.is_on_cycle.result place plain c.loop-place.extents.items) xs) (sym sorts) next)

pub returns : goal.returns
returns c =
    let is = subst (λ n. IsGraph c.args.items.now n source.Named c.in_ok-graph.graph) c.requires.index c.in_ok-graph.ensures in
    let each = subst (ListsEachOnce (length c.in_ok-graph.graph)) (sym c.nodes-place-items.ensures) c.in_ok-order.ensures.nodes in
    let behind = subst (StandBehindTargets c.in_ok-graph.graph) (sym c.nodes-place-items.ensures) c.in_ok-order.ensures.order in
    let end : c.loop-place.place-index ≡ length c.nodes-place-items.result.now = omega arith in
    table_is_right c.args.items.now c.in_ok-graph.graph is c.nodes-place-items.result.now c.in_ok-order.order.on_cycle c.in_ok-order.ensures.on_cycle each behind
    c.loop-place.extents.items c.loop-place.sorts (subst (λ i. Progress c.args.items.now c.nodes-place-items.result.now i c.loop-place.extents.items c.loop-place.sorts) end c.loop-place.invariant) c.args.index.now c.requires.index
