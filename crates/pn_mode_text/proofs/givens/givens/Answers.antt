use Rattle.std.proofs.Common.{ℕ, List, Bor, get_or, arith, subst}
use Rattle.std.proofs.lemmas.Option.{slice_get-get_or}
use Rattle.pn_facts.proofs.Contained.{contains_at}
use Rattle.pn_values.specs.declared.value.Value.{Value}
use Rattle.pn_words.specs.Languages.{Broken, Closed, IsRead}
use Rattle.pn_mode_text.specs.ModeReadings.{AreGivenTexts, IsGivenText}
use Rattle.pn_mode_text.specs.Texts.{IsTypedVariable}
use Rattle.pn_mode_text.proofs.GivenLemmas.{all_given, given_breaks, given_next, have_members}
use Rattle.pn_mode_text.proofs.ReadingLemmas.{breaks_on}
use Rattle.pn_mode_text.proofs.VariableLemmas.{zip_as_many, zip_at}
use Rattle.pn_mode_text.proofs.givens.givens.Goals as goal

pub given-requires-clause-declared : goal.given-requires-clause-declared
given-requires-clause-declared c =
    let v = get_or c.args.vars.now c.loop-i.i 0 in
    c.requires.declared v (contains_at c.args.vars.now c.loop-i.i v (slice_get-get_or c.args.vars.now c.loop-i.i 0 c.loop-i-test.true))

pub returns-in-Err : goal.returns-in-Err
returns-in-Err c = λ typed are.
    let a = c.args in
    let l = c.loop-i in
    let items = a.decls.now in
    let x = zip_at (IsTypedVariable items) a.vars.now typed l.i (get_or a.vars.now l.i 0) are (slice_get-get_or a.vars.now l.i 0 c.loop-i-test.true) in
    let many = zip_as_many (IsTypedVariable items) a.vars.now typed are in
    breaks_on {T = (Value × ℕ) × Bor (List ℕ)} {S = Bor (List ℕ)} (AreGivenTexts items typed) a.bytes.now (Closed (IsGivenText items x.0) c.mark_behind.result.now) l.rest.now (λ y. y.0) (λ y. y.1.now) (λ y. l.values) (λ y. y.now) c.in-Err.fault
    (λ left h. given_breaks items typed a.bytes.now l.i l.values l.rest.now x.0 left (have_members items a.vars.now typed c.requires.inhabited are) x.1 (l.invariant typed are)
    (subst (λ marks. Broken (Closed (IsGivenText items x.0) marks) l.rest.now left) (c.mark_behind.ensures.mark typed many) h))
    (c.in-Err.ensures x.0 x.2)

pub loop-i-preserved : goal.loop-i-preserved
loop-i-preserved c = λ typed are.
    let a = c.args in
    let l = c.loop-i in
    let items = a.decls.now in
    let x = zip_at (IsTypedVariable items) a.vars.now typed l.i (get_or a.vars.now l.i 0) are (slice_get-get_or a.vars.now l.i 0 c.loop-i-test.true) in
    let many = zip_as_many (IsTypedVariable items) a.vars.now typed are in
    given_next items typed a.bytes.now l.i l.values _ l.rest.now c.in-Ok.read.1.now x.0 c.in-Ok.read.0.0 c.in-Ok.read.0.1 (have_members items a.vars.now typed c.requires.inhabited are) x.1
    c.in-Ok-push.ensures.ok (l.invariant typed are)
    (subst (λ marks. IsRead (Closed (IsGivenText items x.0) marks) l.rest.now (c.in-Ok.read.0.0, c.in-Ok.read.0.1) c.in-Ok.read.1.now) (c.mark_behind.ensures.mark typed many) (c.in-Ok.ensures x.0 x.2))

pub returns : goal.returns
returns c = λ typed are.
    let a = c.args in
    let l = c.loop-i in
    let many = zip_as_many (IsTypedVariable a.decls.now) a.vars.now typed are in
    all_given a.decls.now typed a.bytes.now l.i l.values l.rest.now (omega (arith, many, c.loop-i-test.false)) (l.invariant typed are)
