use Rattle.std.proofs.Common.{◌≡◌, ◌<◌, [], length, map, sym, ◌∙◌, arith}
use Rattle.std.proofs.lemmas.Bool.{eqb-true, eqb-false}
use Rattle.std.proofs.lemmas.List.{nil_from_length}
use Rattle.pn_facts.proofs.Results.{if_ok}
use Rattle.pn_marking.specs.Flows.{AreMerged}
use Rattle.pn_marking.specs.Moves.{AreMoves}
use Rattle.pn_marking.specs.Modes.{IsMode}
use Rattle.pn_marking.proofs.MoveLemmas.{every_part, moves_empty, moves_parts}
use Rattle.pn_marking.proofs.sums.+sum.Goals as goal

pub returns-then-is_empty : goal.returns-then-is_empty
returns-then-is_empty t c =
    let none : c.args.entries.now ≡ [] = nil_from_length _ (omega (arith, eqb-true (length c.args.entries.now) 0 (sym c.is_empty.ensures ∙ c.if-is_empty.true))) in
    moves_empty c.args.net.now (λ entry. (entry.0.now, entry.1)) c.args.entries.now c.new.result.items none c.new.ensures.items

pub sum-requires : goal.sum-requires
sum-requires t c =
    let some = eqb-false (length c.args.entries.now) 0 (sym c.is_empty.ensures ∙ c.if-is_empty.false) in
    let less : length c.split_at.result.0.now < t = omega (arith, some, c.split_at.ensures.front_len, c.decreases) in
    (less, (every_part (λ entry. IsMode c.args.net.now entry.0) (λ entry. (entry.0.now, entry.1)) c.args.entries.now c.split_at.result.0.now c.split_at.result.1.now c.split_at.ensures.by_index.0 c.requires).0)

pub sum-requires-2 : goal.sum-requires-2
sum-requires-2 t c =
    let some = eqb-false (length c.args.entries.now) 0 (sym c.is_empty.ensures ∙ c.if-is_empty.false) in
    let less : length c.split_at.result.1.now < t = omega (arith, some, c.if-entries-eq1.false, c.split_at.ensures.front_len, c.split_at.ensures.back_len, c.decreases) in
    (less, (every_part (λ entry. IsMode c.args.net.now entry.0) (λ entry. (entry.0.now, entry.1)) c.args.entries.now c.split_at.result.0.now c.split_at.result.1.now c.split_at.ensures.by_index.0 c.requires).1)

pub returns : goal.returns
returns t c =
    if_ok (λ all. AreMerged c.in_ok-front.front.items c.in_ok-back.back.items all.items) (λ all. AreMoves c.args.net.now (map (λ entry. (entry.0.now, entry.1)) c.args.entries.now) all.items) c.merge.result
    (λ all merged. moves_parts c.args.net.now (λ entry. (entry.0.now, entry.1)) c.args.entries.now c.split_at.result.0.now c.split_at.result.1.now c.in_ok-front.front.items c.in_ok-back.back.items all.items c.split_at.ensures.by_index.0 c.in_ok-front.ensures c.in_ok-back.ensures merged) c.merge.ensures
