use Rattle.std.proofs.Common.{ap, ◌∙◌, ◌+◌, ◌<◌, ◌≤◌, refl, subst, sym, rules}
use Rattle.pn_bag.specs.declared.TheConstants.{MAX_COUNT}
use Rattle.pn_bag.specs.Bag.{IsBag}
use Rattle.pn_bag.specs.Counts.{count_of, Includes}
use Rattle.pn_bag.proofs.Everywhere.{every_weaker}
use Rattle.pn_bag.proofs.Sifting.{count_of-counted, bag-counted}
use Rattle.pn_bag.proofs.Walking.{found_is_some}
use Rattle.pn_bag.proofs.takes.less_entries.Goals as goal

pub returns-in-Some-clause-exact : goal.returns-in-Some-clause-exact
returns-in-Some-clause-exact g c = (
  λ done. absurd cc,
  λ all. absurd (found_is_some _ _ c.in-Some.is (c.find_short.ensures.none.1 (subst (λ xs. Includes g.K.Ord.cmp xs c.args.other.now) (sym c.deref.ensures.value) all))),
)

pub returns-in-Some-clause-err : goal.returns-in-Some-clause-err
returns-in-Some-clause-err g c = refl

pub returns-in-Some-clause-bag : goal.returns-in-Some-clause-bag
returns-in-Some-clause-bag g c = c.requires.entries

pub take_away-requires-clause-most : goal.take_away-requires-clause-most
take_away-requires-clause-most g c = every_weaker (λ e. (0 < e.1) × (e.1 ≤ MAX_COUNT)) (λ e. e.1 ≤ MAX_COUNT) (λ e both. both.1) _ c.requires.entries.counted

pub returns-clause-counts : goal.returns-clause-counts
returns-clause-counts g c key =
    ap (λ xs. count_of g.K.Ord.cmp xs key + count_of g.K.Ord.cmp c.args.other.now key) c.drop_empty.ensures ∙ ap (λ n. n + count_of g.K.Ord.cmp c.args.other.now key) (count_of-counted g.K.Ord.cmp c.take_away.new.entries.items key) ∙ c.take_away.ensures.counts key

pub returns-clause-bag : goal.returns-clause-bag
returns-clause-bag g c = subst (IsBag g.K.Ord.cmp) (sym c.drop_empty.ensures) (bag-counted g.K.Ord.cmp _ c.take_away.ensures.rising c.take_away.ensures.most)

pub returns-clause-exact : goal.returns-clause-exact
returns-clause-exact g c =
    let includes : Includes g.K.Ord.cmp c.args.entries.now.items c.args.other.now = search rules in
    (λ done. includes, λ all. refl)
