use Rattle.std.proofs.Common.{◌≡◌, length, subst, ap, refl, arith, rules}
use Rattle.pn_cycles.specs.declared.search.Mark.TheVariants.{Done}
use Rattle.pn_cycles.specs.Searches.{mark_of, IsFinish}
use Rattle.pn_cycles.proofs.Finishing.{finish_more}
use Rattle.pn_cycles.proofs.search.finish.Goals as goal

pub loop-at-preserved : goal.loop-at-preserved
loop-at-preserved c =
    let old = c.loop-at.invariant in
    finish_more _ _ _ _ _ _ _ _ _ _ _ _ old c.loop-at.auto.at c.loop-at-test.true
    (λ a b in_a in_b same. let x = c.requires.open a in_a in let y = c.requires.open b in_b in let z = ap (mark_of c.args.marks.now) same in cc)
    (omega (arith, old.marks_sized, c.requires.marks c.loop-at.at c.loop-at-test.true))
    (omega (arith, old.cyclic_sized, c.requires.cyclic c.loop-at.at c.loop-at-test.true))
    (ap (λ n. lib.ListN.set c.loop-at.marks (lib.ListN.get_or c.args.stack.now c.loop-at.at 0) (Done n)) (search rules))
    (search rules) refl

pub returns : goal.returns
returns c =
    let end : c.loop-at.at ≡ length c.args.stack.now = omega arith in
    record { finish = subst (λ n. IsFinish c.args.stack.now c.args.group n c.args.marks.now c.args.nodes.now.items c.args.cyclic.now c.loop-at.marks c.loop-at.nodes.items c.loop-at.cyclic) end c.loop-at.invariant }
