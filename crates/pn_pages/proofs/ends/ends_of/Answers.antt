use Rattle.std.proofs.Common.{take, add-one, sym, subst}
use Rattle.std.proofs.Math.Seq.{take-suc}
use Rattle.pn_net.proofs.RowLemmas.{zip_push}
use Rattle.pn_pages.specs.Linking.{AreEnds}
use Rattle.pn_pages.specs.Naming.{FindsNode}
use Rattle.pn_pages.proofs.ends.ends_of.Goals as goal

pub loop-arc-preserved : goal.loop-arc-preserved
loop-arc-preserved c o hs least named =
    let xs = c.args.arcs.now in
    let i = c.loop-arc.arc-index in
    let x = c.arc-item.result in
    rw (add-one, take-suc xs i x c.loop-arc-test.true, c.in_ok-push.ensures.items, sym c.arc-item.is)
    (zip_push (AreEnds o hs) (take i xs) c.loop-arc.ends.items x _ (c.loop-arc.invariant o hs least named) (
      subst (λ id. FindsNode o hs id c.find-source.result) c.as_str.ensures (c.find-source.ensures o hs least named),
      subst (λ id. FindsNode o hs id c.find-target.result) c.as_str-in-loop-arc.ensures (c.find-target.ensures o hs least named),
    ))
