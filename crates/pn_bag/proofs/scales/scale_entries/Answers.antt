use Rattle.std.proofs.Common.{◌/◌, ◌<◌, ◌≤◌, refl, subst, sym, ◌∙◌, arith}
use Rattle.std.proofs.lemmas.Bool.{false≢true}
use Rattle.pn_bag.specs.declared.TheConstants.{MAX_COUNT}
use Rattle.pn_bag.specs.Bag.{IsBag}
use Rattle.pn_bag.specs.Counts.{Every, count_of}
use Rattle.pn_bag.proofs.Sifting.{above_quotient, every_within, bag-multiplied}
use Rattle.pn_bag.proofs.scales.scale_entries.Goals as goal

-- no count passes the quotient
pub multiply-requires : goal.multiply-requires
multiply-requires g c =
    let most = subst (Every (λ e. e.1 ≤ MAX_COUNT / c.args.by)) c.deref.ensures.value (c.has_above.ensures.within c.if-has_above.false) in
    every_within MAX_COUNT c.args.by (omega arith) c.args.entries.now.items most

pub returns-clause-bag : goal.returns-clause-bag
returns-clause-bag g c =
    let most = subst (Every (λ e. e.1 ≤ MAX_COUNT / c.args.by)) c.deref.ensures.value (c.has_above.ensures.within c.if-has_above.false) in
    subst (IsBag g.K.Ord.cmp) (sym c.multiply.ensures) (bag-multiplied g.K.Ord.cmp c.args.by (omega arith) _ c.requires (every_within MAX_COUNT c.args.by (omega arith) c.args.entries.now.items most))

-- a key that passes the quotient passes the greatest count, and no other key does
pub returns-then-has_above-clause-too_large : goal.returns-then-has_above-clause-too_large
returns-then-has_above-clause-too_large g c =
    let above = c.has_above.ensures.above.0 c.if-has_above.true in
    let past : MAX_COUNT / c.args.by < count_of g.K.Ord.cmp c.args.entries.now.items above.0 = subst (λ xs. MAX_COUNT / c.args.by < count_of g.K.Ord.cmp xs above.0) c.deref.ensures.value above.1 in
    (λ is. (above.0, (above_quotient MAX_COUNT c.args.by _ (omega arith)).0 past), λ large. refl)

pub returns-clause-too_large : goal.returns-clause-too_large
returns-clause-too_large g c = (
  λ is. absurd cc,
  λ large.
      let past : MAX_COUNT / c.args.by < count_of g.K.Ord.cmp c.args.entries.now.items large.0 = (above_quotient MAX_COUNT c.args.by _ (omega arith)).1 large.1 in
      let above = c.has_above.ensures.above.1 (large.0, subst (λ xs. MAX_COUNT / c.args.by < count_of g.K.Ord.cmp xs large.0) (sym c.deref.ensures.value) past) in
      absurd (false≢true (sym c.if-has_above.false ∙ above)),
)
