use Rattle.std.proofs.Common.{◌≡◌, ◌≤◌, ◌-◌, ap, subst, sym, arith}
use Rattle.std.specs.declared.cmp.Ordering.TheVariants.{Less}
use Rattle.std.proofs.lemmas.List.{length-set, take-set}
use Rattle.pn_bag.specs.declared.TheConstants.{MAX_COUNT}
use Rattle.pn_bag.specs.Counts.{count_in, Every}
use Rattle.pn_bag.specs.Places.{IsAt, IsGapFor}
use Rattle.pn_bag.proofs.Everywhere.{every_set}
use Rattle.pn_bag.proofs.Placing.{count_at, count_in_gap}
use Rattle.pn_bag.proofs.Walking.{holds_read}
use Rattle.pn_bag.proofs.Editing.{count_of_lowered, count_in_zero, rising-set}
use Rattle.pn_bag.proofs.takes.take_entry.Goals as goal

-- there is enough at the place
pub overflow_sub-index_mut : goal.overflow_sub-index_mut
overflow_sub-index_mut g c =
    let place = subst (λ xs. IsAt g.K.Ord.cmp xs c.args.key.now c.in-Ok.at) c.deref.ensures.value c.in-Ok.ensures.found in
    omega (arith, count_at g.met.K.Ord.total _ _ c.index_mut.result.now _ c.requires.rising place, ap (λ e. e.1) c.index_mut.ensures.value)

pub returns-in-Ok : goal.returns-in-Ok
returns-in-Ok g c =
    let xs = c.args.entries.now.items in
    let x = c.index_mut.result.now in
    let place = subst (λ ys. IsAt g.K.Ord.cmp ys c.args.key.now c.in-Ok.at) c.deref.ensures.value c.in-Ok.ensures.found in
    let enough : c.args.count ≤ x.1 = omega (arith, count_at g.met.K.Ord.total _ _ x _ c.requires.rising place, ap (λ e. e.1) c.index_mut.ensures.value) in
    record {
      within = omega (arith, place.within, length-set xs c.in-Ok.at (x.0, x.1 - c.args.count));
      before = subst (Every (λ e. g.K.Ord.cmp e.0 c.args.key.now ≡ Less)) (sym (take-set xs c.in-Ok.at (x.0, x.1 - c.args.count))) place.before;
      rising = rising-set g.K.Ord.cmp xs _ (x.0, x.1 - c.args.count) x c.requires.rising place.within (ap (λ e. e.0) (sym c.index_mut.ensures.value));
      most = every_set (λ e. e.1 ≤ MAX_COUNT) xs _ (x.0, x.1 - c.args.count) c.requires.most (omega (arith, holds_read (λ e. e.1 ≤ MAX_COUNT) _ xs x place.within c.index_mut.ensures.value c.requires.most));
      counts = count_of_lowered g.met.K.Ord.total xs _ _ x _ place c.index_mut.ensures.value enough;
    }

-- where the key is not there, nothing is taken away
pub returns-in-Err : goal.returns-in-Err
returns-in-Err g c =
    let xs = c.args.entries.now.items in
    let gap = subst (λ ys. IsGapFor g.K.Ord.cmp ys c.args.key.now c.in-Err.at) c.deref.ensures.value c.in-Err.ensures.absent in
    let none : c.args.count ≡ 0 = omega (arith, c.requires.enough, count_in_gap g.met.K.Ord.total _ _ _ gap) in
    record {
      within = gap.within;
      before = gap.before;
      rising = c.requires.rising;
      most = c.requires.most;
      counts = λ other. omega (arith, subst (λ n. count_in g.K.Ord.cmp (c.args.key.now, n) other ≡ 0) (sym none) (count_in_zero g.K.Ord.cmp c.args.key.now other));
    }
