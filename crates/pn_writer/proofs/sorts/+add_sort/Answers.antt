use Rattle.std.proofs.Common.{rules, subst}
use Rattle.pn_syntax.specs.declared.sort_expr.SortNode.TheViews.{the_lemmas}
use Rattle.pn_spelling.specs.WriteSorts.{sort_element}
use Rattle.pn_writer.specs.Giving.{MayTakeElement}
use Rattle.pn_writer.proofs.GivingLemmas.{entry, inside, next_fits}
use Rattle.pn_spelling.proofs.WriteLemmas.{product_element, list_element}
use Rattle.pn_writer.proofs.sorts.+add_sort.Goals as goal

pub add_sort-begin-requires-clause-depth : goal.add_sort-begin-requires-clause-depth
add_sort-begin-requires-clause-depth t c =
    (entry _ _ _ _ _ (subst (λ e. MayTakeElement e c.args.into.now) (product_element c.args.expr.now c.in-Product.parts c.in-Product.is) c.requires)).room.room

pub add_sort-add_sorts-requires : goal.add_sort-add_sorts-requires
add_sort-add_sorts-requires t c =
    let may = subst (λ e. MayTakeElement e c.args.into.now) (product_element c.args.expr.now c.in-Product.parts c.in-Product.is) c.requires in
    (search (rules, the_lemmas), rw c.as_slice.ensures (inside _ _ _ _ _ _ _ may c.in_ok-begin-in-Product.ensures))

pub add_sort-begin-requires-in-List-clause-depth : goal.add_sort-begin-requires-in-List-clause-depth
add_sort-begin-requires-in-List-clause-depth t c =
    (entry _ _ _ _ _ (subst (λ e. MayTakeElement e c.args.into.now) (list_element c.args.expr.now c.in-List.item c.in-List.is) c.requires)).room.room

pub add_sort-add_sort-requires : goal.add_sort-add_sort-requires
add_sort-add_sort-requires t c =
    let may = subst (λ e. MayTakeElement e c.args.into.now) (list_element c.args.expr.now c.in-List.item c.in-List.is) c.requires in
    (search (rules, the_lemmas), rw c.get.ensures (inside _ _ _ _ _ _ _ may c.in_ok-begin-in-List.ensures))

pub add_sorts-add_sort-requires : goal.add_sorts-add_sort-requires
add_sorts-add_sort-requires t c = (search (rules, the_lemmas), next_fits sort_element c.args.parts.now _ c.loop-part.part-index c.part-item.result c.args.into.now c.loop-part.into c.requires c.loop-part.invariant c.loop-part-test.true c.part-item.is)
