use Rattle.std.proofs.Common.{[], ◌∷◌, ◌∙◌, subst}
use Rattle.pn_lines.specs.Escapes.{escaped}
use Rattle.pn_words.specs.Languages.{Broken, Closed, IsRead, Only}
use Rattle.pn_mode_text.specs.ModeReadings.{IsGivenText}
use Rattle.pn_mode_text.specs.Readings.{IsValueText, ReadsOr}
use Rattle.pn_mode_text.proofs.GivenLemmas.{id_breaks, value_goes_on}
use Rattle.pn_mode_text.proofs.ReadingLemmas.{reads_on}
use Rattle.pn_mode_text.proofs.VariableLemmas.{typed_once}
use Rattle.pn_mode_text.proofs.givens.given.Goals as goal

pub returns-in-Ok : goal.returns-in-Ok
returns-in-Ok c = λ x is.
    let a = c.args in
    let items = a.decls.now in
    let marks = a.marks.now in
    let rest = c.in-Ok.rest.now in
    let told = typed_once items a.variable c.variable_id-id.result.now c.variable_sort-sort.result.now x c.variable_id-id.ensures c.variable_sort-sort.ensures is in
    reads_on (Closed (IsGivenText items x) marks) a.bytes.now (Closed (IsValueText items x.sort) marks) rest (λ u. u) (λ y. y.0) (λ y. y.1.now) c.value.result
    (value_goes_on items x marks a.bytes.now c.in-Ok.field-0-0 rest c.requires.some (c.requires.inhabited is.0.sort x.sort is.3)
    (subst (λ t. IsRead (Closed (Only (escaped t)) (61 ∷ [])) a.bytes.now (tt, c.in-Ok.field-0-0) rest) (c.as_bytes.ensures.value ∙ told.0) c.in-Ok.ensures))
    (subst (λ s. ReadsOr (Closed (IsValueText items s) marks) rest (λ y. y.0) (λ y. y.1.now) c.value.result) told.1 c.value.ensures)

pub returns-in-Err : goal.returns-in-Err
returns-in-Err c = λ x is.
    let a = c.args in
    let items = a.decls.now in
    let told = typed_once items a.variable c.variable_id-id.result.now c.variable_sort-sort.result.now x c.variable_id-id.ensures c.variable_sort-sort.ensures is in
    id_breaks items x a.marks.now a.bytes.now c.in-Err.left c.requires.some (c.requires.inhabited is.0.sort x.sort is.3)
    (subst (λ t. Broken (Closed (Only (escaped t)) (61 ∷ [])) a.bytes.now c.in-Err.left) (c.as_bytes.ensures.value ∙ told.0) c.in-Err.ensures)
