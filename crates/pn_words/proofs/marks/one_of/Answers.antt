use Rattle.std.proofs.Common.{◌+◌, ◌≡◌, suc, length, map, sym, subst, arith}
use Rattle.pn_words.specs.Languages.{Broken, Closed, Listed}
use Rattle.pn_words.proofs.MarkLemmas.{listed_found, listed_next, mapped_at}
use Rattle.pn_words.proofs.marks.one_of.Goals as goal

pub returns-in-Ok : goal.returns-in-Ok
returns-in-Ok c =
    let a = c.args in
    let l = c.loop-place in
    listed_found (map (λ t. t.now) a.texts.now) (length a.texts.now) l.place _ a.marks.now a.bytes.now c.in-Ok.mark c.in-Ok.rest.now c.requires.apart (omega (arith, c.loop-place-test.true))
    (mapped_at (λ t. t.now) a.texts.now l.place _ c.loop-place-test.true) c.in-Ok.ensures

pub loop-place-preserved : goal.loop-place-preserved
loop-place-preserved c =
    let a = c.args in
    let l = c.loop-place in
    let texts = map (λ t. t.now) a.texts.now in
    let next : suc l.place ≡ l.place + 1 = omega arith in
    subst (λ n. Broken (Closed (Listed texts n) a.marks.now) a.bytes.now c.min-left.result) next
    (subst (Broken (Closed (Listed texts (suc l.place)) a.marks.now) a.bytes.now) (sym c.min-left.ensures)
    (listed_next texts l.place _ a.marks.now a.bytes.now l.left c.in-Err.less (mapped_at (λ t. t.now) a.texts.now l.place _ c.loop-place-test.true) l.invariant c.in-Err.ensures))
