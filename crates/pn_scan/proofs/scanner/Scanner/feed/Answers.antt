use Rattle.std.proofs.Common.{◌≡◌, ◌⊎◌, ◌-◌, ◌++◌, length, take, Err, refl, sym, subst, ◌∙◌}
use Rattle.pn_scan.specs.Reading.{IsMemory, HasRead}
use Rattle.pn_scan.specs.declared.scanner.ScanFault.TheVariants.{Broken, TooLong}
use Rattle.pn_scan.proofs.ReadingLemmas.{answer_goes, answer_broken, answer_breaks, answer_too_long, answer_longer}
use Rattle.pn_scan.proofs.OrdinaryLemmas.{piece_on, within_on}
use Rattle.pn_scan.proofs.scanner.Scanner.feed.Goals as goal

pub loop-at-preserved : goal.loop-at-preserved
loop-at-preserved c =
    let bs = c.args.piece.now in
    let at = c.loop-at.at in
    let m = length bs - at in
    let n = c.take_front-at.result in
    record {
      within = within_on bs at m n refl c.loop-at.invariant.within c.take_front-at.ensures.within;
      read = λ b h. subst (HasRead c.take_front-at.new.self) (piece_on b bs at m n refl) (c.take_front-at.ensures.read (b ++ take at bs) (c.loop-at.invariant.read b h));
      again = λ f h. c.take_front-at.ensures.again f (c.loop-at.invariant.again f h);
    }

pub returns-clause-broken : goal.returns-clause-broken
returns-clause-broken c b k h is = let s = c.loop-at.self in answer_broken s.fault s.tree s.kept s.context s.opened s.count b k h (sym c.answer.ensures ∙ is)

pub returns-clause-breaks : goal.returns-clause-breaks
returns-clause-breaks c b k h w =
    let s = c.loop-at.self in
    subst (λ r. (r ≡ Err (Broken k)) ⊎ IsMemory r) (sym c.answer.ensures) (answer_breaks s.fault s.tree s.kept s.context s.opened s.count b k h w)

pub returns-clause-too_long : goal.returns-clause-too_long
returns-clause-too_long c b h is = let s = c.loop-at.self in answer_too_long s.fault s.tree s.kept s.context s.opened s.count b h (sym c.answer.ensures ∙ is)

pub returns-clause-longer : goal.returns-clause-longer
returns-clause-longer c b h w =
    let s = c.loop-at.self in
    subst (λ r. (r ≡ Err TooLong) ⊎ IsMemory r) (sym c.answer.ensures) (answer_longer s.fault s.tree s.kept s.context s.opened s.count b h w)

pub returns-clause-goes : goal.returns-clause-goes
returns-clause-goes c b h is = let s = c.loop-at.self in answer_goes s.fault s.tree s.kept s.context s.opened s.count b h is
