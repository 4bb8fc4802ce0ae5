use Rattle.std.proofs.Common.{◌≡◌, Some, ap, codes, sym, ◌∙◌, subst}
use Rattle.pn_facts.proofs.Results.{on_ok}
use Rattle.pn_net.specs.Labels.{said}
use Rattle.pn_checks.specs.LabelFaults.{IsTruth, LabelStands}
use Rattle.pn_checks.specs.SoundLabels.{HasSoundTerm}
use Rattle.pn_checks.proofs.NetSortLemmas.{said_none, said_some}
use Rattle.pn_checks.proofs.SortedLemmas.{sorted_said, sorted_unsaid}
use Rattle.pn_checks.proofs.typing.keep_transition.Goals as goal

pub keep_condition-requires-clause-sound : goal.keep_condition-requires-clause-sound
keep_condition-requires-clause-sound c =
    let is : said c.args.transition.now.condition ≡ Some c.get.result.now.value = ap said c.in-Some.is ∙ ap (λ l. Some l.value) (sym c.get.ensures) in
    subst (HasSoundTerm c.args.decls.now) is c.requires.sound

pub returns-in-Some-clause-least : goal.returns-in-Some-clause-least
returns-in-Some-clause-least c =
    let is : said c.args.transition.now.condition ≡ Some c.get.result.now.value = ap said c.in-Some.is ∙ ap (λ l. Some l.value) (sym c.get.ensures) in
    on_ok c.keep_condition.result (said_some (LabelStands c.args.decls.now IsTruth (codes "condition")) (said c.args.transition.now.condition) c.get.result.now.value c.args.least.now c.keep_condition.new.least is) c.keep_condition.ensures.least

pub returns-in-None-clause-least : goal.returns-in-None-clause-least
returns-in-None-clause-least c = said_none (LabelStands c.args.decls.now IsTruth (codes "condition")) (said c.args.transition.now.condition) c.args.least.now (ap said c.in-None.is)

pub returns-in-Some-clause-sorted : goal.returns-in-Some-clause-sorted
returns-in-Some-clause-sorted c =
    let is : said c.args.transition.now.condition ≡ Some c.get.result.now.value = ap said c.in-Some.is ∙ ap (λ l. Some l.value) (sym c.get.ensures) in
    on_ok c.keep_condition.result (λ sorted none. sorted_said c.args.decls.now (said c.args.transition.now.condition) c.get.result.now.value is (sorted none)) c.keep_condition.ensures.sorted

pub returns-in-None-clause-sorted : goal.returns-in-None-clause-sorted
returns-in-None-clause-sorted c none = sorted_unsaid c.args.decls.now (said c.args.transition.now.condition) (ap said c.in-None.is)
