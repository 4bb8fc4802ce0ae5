use Rattle.std.proofs.Common.{◌≡◌, refl, subst, sym, ap, ◌∙◌, rules, arith}
use Rattle.std.specs.List.{insert}
use Rattle.pn_bag.specs.declared.TheConstants.{MAX_COUNT}
use Rattle.pn_bag.specs.Bag.{IsBag}
use Rattle.pn_bag.specs.Places.{IsAt, IsGapFor}
use Rattle.pn_bag.proofs.Placing.{count_at, count_in_gap}
use Rattle.pn_bag.proofs.Walking.{count_bound}
use Rattle.pn_bag.proofs.Editing.{bag-insert, bag-set}
use Rattle.pn_bag.proofs.Joining.{added_in_gap, added_there}
use Rattle.pn_bag.proofs.edits.add_entry.Goals as goal

-- no count passes the greatest
pub returns-then-count-eq0-clause-too_large : goal.returns-then-count-eq0-clause-too_large
returns-then-count-eq0-clause-too_large g c =
    (λ never. absurd cc, λ large. absurd (omega (arith, count_bound g.met.K.Ord.total MAX_COUNT _ c.requires.rising c.requires.counted c.args.key)))

-- the key is there, with the count that was read
pub returns-then-count-has-clause-too_large : goal.returns-then-count-has-clause-too_large
returns-then-count-has-clause-too_large g c =
    let place = subst (λ xs. IsAt g.K.Ord.cmp xs c.args.key c.in-Ok.at) c.deref.ensures.value c.in-Ok.ensures.found in
    (λ never. omega (arith, count_at g.met.K.Ord.total _ _ c.index.result.now _ c.requires.rising place, ap (λ e. e.1) c.index.ensures), λ large. refl)

pub returns-else-count-has-clause-entries : goal.returns-else-count-has-clause-entries
returns-else-count-has-clause-entries g c =
    let place = subst (λ xs. IsAt g.K.Ord.cmp xs c.args.key c.in-Ok.at) c.deref.ensures.value c.in-Ok.ensures.found in
    added_there g.met.K.Ord.total _ _ _ _ _ _ place c.index_mut.ensures.value c.index.ensures (omega arith)

pub returns-else-count-has-clause-too_large : goal.returns-else-count-has-clause-too_large
returns-else-count-has-clause-too_large g c =
    let place = subst (λ xs. IsAt g.K.Ord.cmp xs c.args.key c.in-Ok.at) c.deref.ensures.value c.in-Ok.ensures.found in
    let bound = count_bound g.met.K.Ord.total MAX_COUNT _ c.requires.rising c.requires.counted c.args.key in
    (λ never. absurd cc, λ large. absurd (omega (arith, bound, count_at g.met.K.Ord.total _ _ c.index.result.now _ c.requires.rising place, ap (λ e. e.1) c.index.ensures)))

pub returns-else-count-has-clause-bag : goal.returns-else-count-has-clause-bag
returns-else-count-has-clause-bag g c =
    let place = subst (λ xs. IsAt g.K.Ord.cmp xs c.args.key c.in-Ok.at) c.deref.ensures.value c.in-Ok.ensures.found in
    let bound = count_bound g.met.K.Ord.total MAX_COUNT _ c.requires.rising c.requires.counted c.args.key in
    bag-set g.K.Ord.cmp _ _ c.index_mut.result.now _ c.requires place.within c.index_mut.ensures.value (omega arith) (omega (arith, bound, count_at g.met.K.Ord.total _ _ c.index.result.now _ c.requires.rising place, ap (λ e. e.1) c.index.ensures))

-- the key goes into its gap
pub returns-then-is_err-clause-too_large : goal.returns-then-is_err-clause-too_large
returns-then-is_err-clause-too_large g c =
    let place = subst (λ xs. IsGapFor g.K.Ord.cmp xs c.args.key c.in-Err.at) c.deref.ensures.value c.in-Err.ensures.absent in
    (λ never. absurd cc, λ large. absurd (omega (arith, count_in_gap g.met.K.Ord.total _ _ _ place)))

pub returns-else-is_err-clause-entries : goal.returns-else-is_err-clause-entries
returns-else-is_err-clause-entries g c =
    let place = subst (λ xs. IsGapFor g.K.Ord.cmp xs c.args.key c.in-Err.at) c.deref.ensures.value c.in-Err.ensures.absent in
    let items : c.insert.new.self.items ≡ insert c.args.entries.now.items c.in-Err.at (c.args.key, c.args.count) = search rules in
    items ∙ added_in_gap g.met.K.Ord.total _ _ _ _ place (omega arith)

pub returns-else-is_err-clause-too_large : goal.returns-else-is_err-clause-too_large
returns-else-is_err-clause-too_large g c =
    let place = subst (λ xs. IsGapFor g.K.Ord.cmp xs c.args.key c.in-Err.at) c.deref.ensures.value c.in-Err.ensures.absent in
    (λ never. absurd cc, λ large. absurd (omega (arith, count_in_gap g.met.K.Ord.total _ _ _ place)))

pub returns-else-is_err-clause-bag : goal.returns-else-is_err-clause-bag
returns-else-is_err-clause-bag g c =
    let place = subst (λ xs. IsGapFor g.K.Ord.cmp xs c.args.key c.in-Err.at) c.deref.ensures.value c.in-Err.ensures.absent in
    let items : c.insert.new.self.items ≡ insert c.args.entries.now.items c.in-Err.at (c.args.key, c.args.count) = search rules in
    subst (IsBag g.K.Ord.cmp) (sym items) (bag-insert g.K.Ord.cmp _ _ _ _ c.requires place (omega arith) (omega arith))

-- a key in its gap has no count
pub returns-then-is_err-clause-in_place : goal.returns-then-is_err-clause-in_place
returns-then-is_err-clause-in_place g c some failed =
    let place = subst (λ xs. IsGapFor g.K.Ord.cmp xs c.args.key c.in-Err.at) c.deref.ensures.value c.in-Err.ensures.absent in
    absurd (omega (arith, some, count_in_gap g.met.K.Ord.total _ _ _ place))
