use Rattle.std.proofs.Common.{◌≡◌, ◌+◌, ◌<◌, ◌≤◌, refl, sym, subst, rules, arith}
use Rattle.pn_bag.specs.declared.TheConstants.{MAX_COUNT}
use Rattle.pn_bag.specs.Algebra.{joined}
use Rattle.pn_bag.specs.Bag.{IsBag}
use Rattle.pn_bag.specs.Counts.{count_of}
use Rattle.pn_bag.proofs.Joining.{bag_joined}
use Rattle.pn_bag.proofs.merges.join_entries.Goals as goal

pub returns-clause-entries : goal.returns-clause-entries
returns-clause-entries g c = subst (λ own. c.merge.result.items ≡ joined g.K.Ord.cmp own.items c.args.other.items) c.replace-own.ensures.value c.merge.ensures

pub returns-clause-bag : goal.returns-clause-bag
returns-clause-bag g c =
    let own : IsBag g.K.Ord.cmp c.replace-own.result.items = search rules in
    let fits : (key : g.row.K.Denot) → count_of g.K.Ord.cmp c.replace-own.result.items key + count_of g.K.Ord.cmp c.args.other.items key ≤ MAX_COUNT = search rules in
    subst (IsBag g.K.Ord.cmp) (sym c.merge.ensures) (bag_joined g.met.K.Ord.total _ _ own fits)

pub returns-then-sum_passes-clause-too_large : goal.returns-then-sum_passes-clause-too_large
returns-then-sum_passes-clause-too_large g c =
    let passes : (key : g.row.K.Denot) × (MAX_COUNT < count_of g.K.Ord.cmp c.args.entries.now.items key + count_of g.K.Ord.cmp c.args.other.items key) = search rules in
    (λ is. passes, λ large. refl)

pub returns-in_default-clause-too_large : goal.returns-in_default-clause-too_large
returns-in_default-clause-too_large g c =
    let fits : (key : g.row.K.Denot) → count_of g.K.Ord.cmp c.args.entries.now.items key + count_of g.K.Ord.cmp c.args.other.items key ≤ MAX_COUNT =
    subst (λ own. (key : g.row.K.Denot) → count_of g.K.Ord.cmp own key + count_of g.K.Ord.cmp c.args.other.items key ≤ MAX_COUNT) c.deref.ensures.value (
    subst (λ other. (key : g.row.K.Denot) → count_of g.K.Ord.cmp c.deref.result.now key + count_of g.K.Ord.cmp other key ≤ MAX_COUNT) c.deref-2.ensures.value (
    c.sum_passes.ensures.fits c.if-sum_passes.false))
    in
    (λ is. absurd cc, λ large. absurd (omega (arith, fits large.0, large.1)))

pub returns-clause-too_large : goal.returns-clause-too_large
returns-clause-too_large g c =
    let fits : (key : g.row.K.Denot) → count_of g.K.Ord.cmp c.args.entries.now.items key + count_of g.K.Ord.cmp c.args.other.items key ≤ MAX_COUNT =
    subst (λ own. (key : g.row.K.Denot) → count_of g.K.Ord.cmp own key + count_of g.K.Ord.cmp c.args.other.items key ≤ MAX_COUNT) c.deref.ensures.value (
    subst (λ other. (key : g.row.K.Denot) → count_of g.K.Ord.cmp c.deref.result.now key + count_of g.K.Ord.cmp other key ≤ MAX_COUNT) c.deref-2.ensures.value (
    c.sum_passes.ensures.fits c.if-sum_passes.false))
    in
    (λ is. absurd cc, λ large. absurd (omega (arith, fits large.0, large.1)))
