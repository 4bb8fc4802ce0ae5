use Rattle.std.proofs.Common.{SFits, w64, rules, sym, ◌∙◌}
use Rattle.std.proofs.lemmas.Int.{to_z-of_z}
use Rattle.std.proofs.lemmas.Option.{IfSome_then}
use Rattle.pn_partitions.proofs.BaseLemmas.{enumeration_size, no_enumeration, range_size}
use Rattle.pn_partitions.proofs.table.base_size.Goals as goal

pub returns-in-Some-clause-sized : goal.returns-in-Some-clause-sized
returns-in-Some-clause-sized c =
    c.constant_count.ensures
    ∙ sym (enumeration_size c.args.items.now c.args.base.now c.in-Enumeration.place c.in-Some.item.now c.in-Enumeration.is c.in-Some.ensures.lookup.3.0 c.in-Some.ensures.lookup.1)

pub returns-in-None-clause-sized : goal.returns-in-None-clause-sized
returns-in-None-clause-sized c = sym (no_enumeration c.args.items.now c.args.base.now c.in-Enumeration.place c.in-Enumeration.is c.in-None.ensures.lookup.3)

pub returns-in-Range-clause-sized : goal.returns-in-Range-clause-sized
returns-in-Range-clause-sized c =
    let first : SFits w64 c.in-Range.start = search rules in
    let last : SFits w64 c.in-Range.end = search rules in
    let sized = c.range_size.ensures.sized in
    IfSome_then c.range_size.result (simp to_z-of_z at sized) (λ n h. h ∙ sym (range_size c.args.items.now c.args.base.now c.in-Range.start c.in-Range.end c.in-Range.is))
