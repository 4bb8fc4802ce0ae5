use Rattle.std.proofs.Common.{◌≡◌, ◌+◌, ◌-◌, [], sym, ◌∙◌, subst, arith, length, vec_len}
use Rattle.std.specs.declared.cmp.Ordering.TheVariants.{Less}
use Rattle.std.proofs.lemmas.Bool.{eqb-true, eqb-false}
use Rattle.std.proofs.lemmas.List.{nil_from_length}
use Rattle.pn_bag.specs.Counts.{Every}
use Rattle.pn_bag.proofs.Merging.{bag_front, takes_left, takes_right, takes_less, takes_more, takes_both, lasts_fit}
use Rattle.pn_bag.proofs.merges.take_greatest.Goals as goal

-- one list is empty
pub returns-then-is_empty-3-clause-right : goal.returns-then-is_empty-3-clause-right
returns-then-is_empty-3-clause-right g c = bag_front g.K.Ord.cmp _ _ _ c.take_last.ensures.items c.requires.right

pub returns-then-is_empty-3-clause-some : goal.returns-then-is_empty-3-clause-some
returns-then-is_empty-3-clause-some g c =
    let none : c.args.left.now.items ≡ [] = nil_from_length _ (omega (arith, eqb-true (vec_len c.args.left.now) 0 (sym c.is_empty-2.ensures ∙ c.if-is_empty-3.true))) in
    takes_right g.met.K.Ord.total _ _ _ _ c.take_last.ensures.items c.requires.right (subst (Every (λ z. g.K.Ord.cmp z.0 c.take_last.result.0 ≡ Less)) (sym none) tt)

pub returns-then-is_empty-4-clause-left : goal.returns-then-is_empty-4-clause-left
returns-then-is_empty-4-clause-left g c = bag_front g.K.Ord.cmp _ _ _ c.take_last-then-is_empty-4.ensures.items c.requires.left

pub returns-then-is_empty-4-clause-some : goal.returns-then-is_empty-4-clause-some
returns-then-is_empty-4-clause-some g c =
    let none : c.args.right.now.items ≡ [] = nil_from_length _ (omega (arith, eqb-true (vec_len c.args.right.now) 0 (sym c.is_empty-3.ensures ∙ c.if-is_empty-4.true))) in
    takes_left g.met.K.Ord.total _ _ _ _ c.take_last-then-is_empty-4.ensures.items (subst (Every (λ z. g.K.Ord.cmp z.0 c.take_last-then-is_empty-4.result.0 ≡ Less)) (sym none) tt)

-- the last key of the right list is greater
pub returns-in-Less-clause-right : goal.returns-in-Less-clause-right
returns-in-Less-clause-right g c = bag_front g.K.Ord.cmp _ _ _ c.take_last-in-Less.ensures.items c.requires.right

pub returns-in-Less-clause-some : goal.returns-in-Less-clause-some
returns-in-Less-clause-some g c =
    let left : c.len.result - 1 + 1 ≡ length c.args.left.now.items = omega (arith, eqb-false (vec_len c.args.left.now) 0 (sym c.is_empty-2.ensures ∙ c.if-is_empty-3.false), c.len.ensures) in
    let right : c.len-2.result - 1 + 1 ≡ length c.args.right.now.items = omega (arith, eqb-false (vec_len c.args.right.now) 0 (sym c.is_empty-3.ensures ∙ c.if-is_empty-4.false), c.len-2.ensures) in
    takes_less g.met.K.Ord.total _ _ [] _ _ _ _ _ left right c.index.ensures c.index-2.ensures c.requires.left c.requires.right _ c.take_last-in-Less.ensures.items (sym c.in-Less.ensures)

-- the last key of the left list is greater
pub returns-in-Greater-clause-left : goal.returns-in-Greater-clause-left
returns-in-Greater-clause-left g c = bag_front g.K.Ord.cmp _ _ _ c.take_last-in-Greater.ensures.items c.requires.left

pub returns-in-Greater-clause-some : goal.returns-in-Greater-clause-some
returns-in-Greater-clause-some g c =
    let left : c.len.result - 1 + 1 ≡ length c.args.left.now.items = omega (arith, eqb-false (vec_len c.args.left.now) 0 (sym c.is_empty-2.ensures ∙ c.if-is_empty-3.false), c.len.ensures) in
    let right : c.len-2.result - 1 + 1 ≡ length c.args.right.now.items = omega (arith, eqb-false (vec_len c.args.right.now) 0 (sym c.is_empty-3.ensures ∙ c.if-is_empty-4.false), c.len-2.ensures) in
    takes_more g.met.K.Ord.total _ _ _ [] _ _ _ _ left right c.index.ensures c.index-2.ensures c.requires.left c.requires.right _ c.take_last-in-Greater.ensures.items (sym c.in-Greater.ensures)

-- they are the same key
pub returns-in-Equal-clause-left : goal.returns-in-Equal-clause-left
returns-in-Equal-clause-left g c = bag_front g.K.Ord.cmp _ _ _ c.take_last-key.ensures.items c.requires.left

pub returns-in-Equal-clause-right : goal.returns-in-Equal-clause-right
returns-in-Equal-clause-right g c = bag_front g.K.Ord.cmp _ _ _ c.take_last-more.ensures.items c.requires.right

pub overflow_add-result : goal.overflow_add-result
overflow_add-result g c =
    let left : c.len.result - 1 + 1 ≡ length c.args.left.now.items = omega (arith, eqb-false (vec_len c.args.left.now) 0 (sym c.is_empty-2.ensures ∙ c.if-is_empty-3.false), c.len.ensures) in
    let right : c.len-2.result - 1 + 1 ≡ length c.args.right.now.items = omega (arith, eqb-false (vec_len c.args.right.now) 0 (sym c.is_empty-3.ensures ∙ c.if-is_empty-4.false), c.len-2.ensures) in
    omega (arith, lasts_fit g.met.K.Ord.total _ _ _ _ _ _ _ _ _ _ c.take_last-key.ensures.items c.take_last-more.ensures.items left right c.index.ensures c.index-2.ensures (sym c.in-Equal.ensures) c.requires.fits)

pub returns-in-Equal-clause-some : goal.returns-in-Equal-clause-some
returns-in-Equal-clause-some g c =
    let left : c.len.result - 1 + 1 ≡ length c.args.left.now.items = omega (arith, eqb-false (vec_len c.args.left.now) 0 (sym c.is_empty-2.ensures ∙ c.if-is_empty-3.false), c.len.ensures) in
    let right : c.len-2.result - 1 + 1 ≡ length c.args.right.now.items = omega (arith, eqb-false (vec_len c.args.right.now) 0 (sym c.is_empty-3.ensures ∙ c.if-is_empty-4.false), c.len-2.ensures) in
    takes_both g.met.K.Ord.total _ _ _ _ _ _ _ _ _ _ c.take_last-key.ensures.items c.take_last-more.ensures.items left right c.index.ensures c.index-2.ensures (sym c.in-Equal.ensures) c.requires.left c.requires.right
