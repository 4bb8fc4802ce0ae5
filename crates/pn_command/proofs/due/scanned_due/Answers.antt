use Rattle.std.proofs.Common.{refl, subst}
use Rattle.std.proofs.lemmas.Result.{IfOk-weaker}
use Rattle.pn_markup.proofs.OrderLemmas.{document_rises}
use Rattle.pn_command.specs.Answer.{broken, for_tree, refusal_answer}
use Rattle.pn_command.specs.Reading.{IsScanned}
use Rattle.pn_command.specs.declared.lines.Refusal.TheVariants as refusals
use Rattle.pn_command.proofs.due.scanned_due.Goals as goal

pub returns-in-Document-clause-due : goal.returns-in-Document-clause-due
returns-in-Document-clause-due c =
    IfOk-weaker c.tree_due.result _ _ (λ d due bytes is.
    let document = subst (IsScanned bytes) c.in-Document.is is in
    let said = due (document_rises c.in-Document.tree bytes document.0) in
    (said.0, said.1, for_tree c.in-Document.tree (record { within = document.1; is_document = document.0 }) said.2))
    c.tree_due.ensures.due

pub returns-in-Broken-clause-due : goal.returns-in-Broken-clause-due
returns-in-Broken-clause-due c = λ bytes is. (refusal_answer (refusals.Broken c.in-Broken.at), refl, broken c.in-Broken.at (subst (IsScanned bytes) c.in-Broken.is is) refl)
