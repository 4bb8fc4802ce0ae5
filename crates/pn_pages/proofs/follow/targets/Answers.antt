use Rattle.std.proofs.Common.{take, add-one, sym, subst}
use Rattle.std.proofs.Math.Seq.{take-suc}
use Rattle.pn_net.proofs.RowLemmas.{zip_push}
use Rattle.pn_pages.specs.Following.{IsTarget}
use Rattle.pn_pages.specs.Naming.{FindsNode}
use Rattle.pn_pages.proofs.follow.targets.Goals as goal

pub loop-reference-preserved : goal.loop-reference-preserved
loop-reference-preserved c o hs least named =
    let rs = c.args.references.now in
    let i = c.loop-reference.reference-index in
    let x = c.reference-item.result in
    rw (add-one, take-suc rs i x c.loop-reference-test.true, c.in_ok-push.ensures.items, sym c.reference-item.is)
    (zip_push (IsTarget o hs) (take i rs) c.loop-reference.targets.items x c.find.result (c.loop-reference.invariant o hs least named)
    (subst (λ id. FindsNode o hs id c.find.result) c.as_str.ensures (c.find.ensures o hs least named)))
