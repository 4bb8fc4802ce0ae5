use Rattle.std.proofs.Common.{arith, sym, subst, ◌+◌, ◌==◌, ◌≡◌, ◌-◌, length, take, get_or}
use Rattle.pn_words.specs.Languages.{IsRead, Broken, Closed}
use Rattle.pn_words.specs.Numbers.{Decimal, HasBegun}
use Rattle.pn_words.specs.Turns.{so_far}
use Rattle.pn_words.proofs.PlaceLemmas.{equal_from}
use Rattle.pn_words.proofs.SameLemmas.{got_at, rest_whole}
use Rattle.pn_words.proofs.DigitLemmas.{number_stops, number_ends}
use Rattle.pn_words.proofs.numbers.number.Goals as goal

pub returns-in-End : goal.returns-in-End
returns-in-End c =
    let a = c.args in
    let l = c.loop-at in
    let x = get_or a.bytes.now l.at 0 in
    let end = c.in-End.ensures in
    subst (λ r. IsRead (Closed (Decimal a.low a.high) a.marks.now) a.bytes.now (l.number, x) r) (sym (rest_whole (l.at + 1) a.bytes.now))
    (number_ends a.low a.high a.marks.now a.bytes.now l.at l.number x c.requires.marks (omega (arith, c.ranges.high.fits)) l.invariant.2
    (subst (λ t. HasBegun a.low a.high t l.number) end.0 l.invariant.0) (subst (λ t. take l.at a.bytes.now ≡ so_far t l.number) end.0 l.invariant.1)
    end.1 end.2 (got_at a.bytes.now l.at c.loop-at-test.true))

pub returns-in-Stop : goal.returns-in-Stop
returns-in-Stop c =
    let a = c.args in
    let l = c.loop-at in
    let x = get_or a.bytes.now l.at 0 in
    number_stops a.low a.high a.marks.now a.bytes.now l.at (l.at == 0) l.number x c.requires.some c.requires.marks (omega (arith, c.ranges.high.fits)) l.invariant.2
    (equal_from l.at 0) l.invariant.0 l.invariant.1 l.auto.at-end (λ lt. (got_at a.bytes.now l.at lt, c.in-Stop.ensures))

pub returns : goal.returns
returns c =
    let a = c.args in
    let l = c.loop-at in
    let all : length a.bytes.now - l.at ≡ 0 = omega (arith, c.loop-at-test.false) in
    subst (Broken (Closed (Decimal a.low a.high) a.marks.now) a.bytes.now) all
    (number_stops a.low a.high a.marks.now a.bytes.now l.at (l.at == 0) l.number 0 c.requires.some c.requires.marks (omega (arith, c.ranges.high.fits)) l.invariant.2
    (equal_from l.at 0) l.invariant.0 l.invariant.1 l.auto.at-end (λ lt. absurd (omega (arith, lt, c.loop-at-test.false))))
