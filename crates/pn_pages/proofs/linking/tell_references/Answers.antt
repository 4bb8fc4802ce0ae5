use Rattle.std.proofs.Common.{None}
use Rattle.pn_pages.specs.Following.{lost}
use Rattle.pn_pages.specs.Linking.{IsReferenceFault, reference_side}
use Rattle.pn_pages.proofs.LoopLemmas.{followed_at}
use Rattle.pn_pages.proofs.TellingLemmas.{tells_all, tells_at}
use Rattle.pn_pages.proofs.linking.tell_references.Goals as goal

pub loop-i-preserved : goal.loop-i-preserved
loop-i-preserved c n o counts followed =
    let xs = c.args.references.now in
    let i = c.loop-i.i in
    let x = c.index-references-i.result in
    let small = c.loop-i-test.true in
    let is = c.index-references-i.is in
    tells_at n (λ k r. IsReferenceFault n (reference_side c.args.place_refs k) r) xs i x c.args.least.now c.loop-i.least c.tell_reference.new.least small is (c.loop-i.invariant n o counts followed)
    (c.in_ok-tell_reference.ensures n o counts
    (followed_at n o xs c.args.targets.now c.args.goals.now followed c.requires.targets c.requires.goals i x small is _ lost).0
    (followed_at n o xs c.args.targets.now c.args.goals.now followed c.requires.targets c.requires.goals i x small is None _).1)

pub returns : goal.returns
returns c n o counts followed =
    let xs = c.args.references.now in
    tells_all n (λ k r. IsReferenceFault n (reference_side c.args.place_refs k) r) xs c.loop-i.i c.args.least.now c.loop-i.least c.loop-i-test.false (c.loop-i.invariant n o counts followed)
