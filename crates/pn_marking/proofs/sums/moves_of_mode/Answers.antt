use Rattle.pn_facts.proofs.Results.{if_ok}
use Rattle.pn_marking.specs.Flows.{AreMerged}
use Rattle.pn_marking.specs.Moves.{AreMoves}
use Rattle.std.proofs.Common.{◌∷◌, []}
use Rattle.pn_marking.proofs.MoveLemmas.{moves_one}
use Rattle.pn_marking.proofs.sums.moves_of_mode.Goals as goal

pub returns : goal.returns
returns c =
    if_ok (λ all. AreMerged c.in_ok-taken.taken.items c.in_ok-put.put.items all.items) (λ all. AreMoves c.args.net.now ((c.args.mode.now, c.args.count) ∷ []) all.items) c.merge.result
    (λ all merged. moves_one c.args.net.now c.args.mode.now c.args.count c.in_ok-taken.taken.items c.in_ok-put.put.items all.items c.in_ok-taken.ensures c.in_ok-put.ensures merged) c.merge.ensures
