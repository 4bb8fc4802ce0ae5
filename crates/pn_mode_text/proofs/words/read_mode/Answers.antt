use Rattle.std.proofs.Common.{◌≡◌, ◌-◌, ◌<◌, ℕ, List, Bor, length, refl, sym, subst, arith}
use Rattle.std.proofs.lemmas.Bool.Decides.{nat_tests}
use Rattle.pn_net.specs.declared.mode.Mode.{Mode}
use Rattle.pn_words.specs.Languages.{IsBadPlace}
use Rattle.pn_mode_text.specs.ModeReadings.{IsWord}
use Rattle.pn_mode_text.specs.Words.{IsModeWord}
use Rattle.pn_mode_text.specs.declared.words.ModeTextFault.TheVariants as ModeTextFault
use Rattle.pn_mode_text.proofs.WordLemmas.{more_place, no_more, only_word, told_none, told_place}
use Rattle.pn_mode_text.proofs.words.read_mode.Goals as goal

pub returns-in-Err-clause-place : goal.returns-in-Err-clause-place
returns-in-Err-clause-place c = λ k bad.
    let f = c.args.net.now in
    let b = c.as_bytes-bytes.result.now in
    let is : c.told.result ≡ ModeTextFault.BadMode k = cc in
    subst (λ l. IsBadPlace (IsWord f) l k) c.as_bytes-bytes.ensures.value
    (told_place {T = (ℕ × Mode) × Bor (List ℕ)} f b (λ x. x.0) (λ x. x.1.now) c.in-Err.fault c.told.result (length b) k refl c.told.ensures is c.in-Err.ensures)

pub returns-in-Err-clause-none : goal.returns-in-Err-clause-none
returns-in-Err-clause-none c = λ k bad q m h.
    let f = c.args.net.now in
    let b = c.as_bytes-bytes.result.now in
    let is : c.told.result ≡ ModeTextFault.BadMode k = cc in
    told_none {T = (ℕ × Mode) × Bor (List ℕ)} f b (λ x. x.0) (λ x. x.1.now) c.in-Err.fault c.told.result (length b) k c.told.ensures is c.in-Err.ensures q m
    (subst (λ l. IsModeWord f l q m) (sym c.as_bytes-bytes.ensures.value) h)

pub returns-then-not-is_empty-clause-place : goal.returns-then-not-is_empty-clause-place
returns-then-not-is_empty-clause-place c = λ k bad.
    let f = c.args.net.now in
    let b = c.as_bytes-bytes.result.now in
    let rest = c.in-Ok.read.1.now in
    let some : 0 < length rest = grind (arith, nat_tests, c.is_empty.ensures, c.if-not-is_empty.true) in
    let is : length b - length rest ≡ k = cc in
    subst (λ l. IsBadPlace (IsWord f) l k) c.as_bytes-bytes.ensures.value (subst (IsBadPlace (IsWord f) b) is (more_place f b c.in-Ok.read.0 rest some c.in-Ok.ensures))

pub returns-then-not-is_empty-clause-none : goal.returns-then-not-is_empty-clause-none
returns-then-not-is_empty-clause-none c = λ k bad q m h.
    let f = c.args.net.now in
    let rest = c.in-Ok.read.1.now in
    let some : 0 < length rest = grind (arith, nat_tests, c.is_empty.ensures, c.if-not-is_empty.true) in
    no_more f c.as_bytes-bytes.result.now c.in-Ok.read.0 rest some c.in-Ok.ensures q m (subst (λ l. IsModeWord f l q m) (sym c.as_bytes-bytes.ensures.value) h)

pub returns-clause-only : goal.returns-clause-only
returns-clause-only c = λ q m h.
    let f = c.args.net.now in
    let rest = c.in-Ok.read.1.now in
    let none : length rest ≡ 0 = grind (arith, nat_tests, c.is_empty.ensures, c.if-not-is_empty.false) in
    only_word f c.as_bytes-bytes.result.now c.in-Ok.read.0 rest none c.in-Ok.ensures q m (subst (λ l. IsModeWord f l q m) (sym c.as_bytes-bytes.ensures.value) h)
