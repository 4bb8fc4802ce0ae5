use Rattle.std.proofs.Common.{◌≡◌, ◌+◌, ◌∷◌, ◌++◌, [], get_or, take, ap, sym, ◌∙◌, add-one, arith}
use Rattle.std.proofs.Math.Seq.{take-suc}
use Rattle.pn_ids.specs.Names.{named_in}
use Rattle.pn_net.specs.Typed.{transitions_from}
use Rattle.pn_net.proofs.NameLemmas.{noted_one, transitions_last}
use Rattle.pn_net.proofs.RowLemmas.{length_front}
use Rattle.pn_net.proofs.tables.transition_ids.Goals as goal

pub loop-i-preserved : goal.loop-i-preserved
loop-i-preserved c id =
    let ts = c.args.transitions.now in
    let i = c.loop-i.i in
    let t = get_or ts i c.index-transitions-i.result in
    let long = length_front ts i c.loop-i-test.true in
    let all : transitions_from 0 (take (i + 1) ts) ≡ transitions_from 0 (take i ts) ++ (c.as_str.result.now, i) ∷ []
    = ap (transitions_from 0) (rw add-one (take-suc ts i c.index-transitions-i.result c.loop-i-test.true))
    ∙ transitions_last 0 i (take i ts) t (omega (arith, long))
    ∙ ap (λ name. transitions_from 0 (take i ts) ++ (name, i) ∷ []) (sym c.as_str.ensures) in
    noted_one c.loop-i.ids c.note.new.self (transitions_from 0 (take i ts)) (c.as_str.result.now, i) c.in_ok-note.field-0 c.loop-i.invariant c.in_ok-note.ensures.fresh c.in_ok-note.ensures.noted c.in_ok-note.ensures.kept id
    ∙ ap (λ ns. named_in ns id) (sym all)
