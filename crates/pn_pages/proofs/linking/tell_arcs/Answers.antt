use Rattle.pn_pages.specs.Linking.{IsArcFault}
use Rattle.pn_pages.proofs.LoopLemmas.{ends_at}
use Rattle.pn_pages.proofs.TellingLemmas.{tells_all, tells_at, tells_in}
use Rattle.pn_pages.proofs.linking.tell_arcs.Goals as goal

pub loop-i-preserved : goal.loop-i-preserved
loop-i-preserved c n o counts have =
    let xs = c.args.arcs.now in
    let i = c.loop-i.i in
    let x = c.index-arcs-i.result in
    tells_at n (λ k. IsArcFault n) xs i x c.args.least.now c.loop-i.least c.tell_arc.new.least c.loop-i-test.true c.index-arcs-i.is (c.loop-i.invariant n o counts have)
    (c.in_ok-tell_arc.ensures n o counts (ends_at n o xs c.args.ends.now have i x c.loop-i-test.true c.index-arcs-i.is _).0 (ends_at n o xs c.args.ends.now have i x c.loop-i-test.true c.index-arcs-i.is _).1)

pub returns : goal.returns
returns c n o counts have =
    let xs = c.args.arcs.now in
    tells_in n (IsArcFault n) xs c.args.least.now c.loop-i.least (tells_all n (λ k. IsArcFault n) xs c.loop-i.i c.args.least.now c.loop-i.least c.loop-i-test.false (c.loop-i.invariant n o counts have))
