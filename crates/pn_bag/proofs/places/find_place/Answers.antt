use Rattle.std.proofs.Common.{◌≡◌, ◌-◌, suc, sym, subst, arith, length, ◌∙◌}
use Rattle.std.specs.declared.cmp.Ordering.TheVariants.{Less}
use Rattle.pn_bag.specs.Places.{IsBefore}
use Rattle.pn_bag.proofs.Counting.{less_from_index}
use Rattle.pn_bag.proofs.Placing.{smaller_to, gap_at_end}
use Rattle.pn_bag.proofs.places.find_place.Goals as goal

pub returns-then-eq-clause-absent : goal.returns-then-eq-clause-absent
returns-then-eq-clause-absent g c =
    let less : c.cmp.result ≡ Less = less_from_index c.cmp.result (sym c.eq.ensures ∙ c.if-eq.true) in
    gap_at_end g.met.K.Ord.total _ _ (subst (IsBefore g.K.Ord.cmp c.args.entries.now c.args.key.now) {x = suc (length c.args.entries.now - 1)} (omega arith) (smaller_to g.met.K.Ord.total _ _ c.index-entries-count.result _ c.requires.rising (omega arith) (sym c.cmp.ensures ∙ less)))
