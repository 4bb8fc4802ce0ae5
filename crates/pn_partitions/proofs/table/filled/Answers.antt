use Rattle.std.proofs.Common.{ℕ, refl, sym, subst, map, None, Contains}
use Rattle.std.specs.List.{flat_map}
use Rattle.pn_partitions.specs.Tables.{places_in, AreEachOnce}
use Rattle.pn_partitions.proofs.TableLemmas.{gap_left, spoilt_now, none_answered}
use Rattle.pn_partitions.proofs.table.filled.Goals as goal

pub returns-then-enter_elements-clause-refused : goal.returns-then-enter_elements-clause-refused
returns-then-enter_elements-clause-refused c =
    let places = places_in c.args.index.now c.args.base.now in
    none_answered c.all_entries.result (Contains c.enter_elements.new.table None) _ _
    (λ gap each. gap_left (map places c.args.elements.now) (flat_map places c.args.elements.now) c.enter_elements.new.table (c.if-enter_elements.ensures.entered refl) gap
    (subst (λ (n : ℕ). AreEachOnce n (flat_map places c.args.elements.now)) (sym c.enter_elements.auto.table) each)) c.all_entries.ensures

pub returns-else-enter_elements-clause-refused : goal.returns-else-enter_elements-clause-refused
returns-else-enter_elements-clause-refused c = spoilt_now _ _ (c.if-enter_elements.ensures.refused refl)
