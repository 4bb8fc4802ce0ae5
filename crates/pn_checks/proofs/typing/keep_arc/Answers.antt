use Rattle.std.proofs.Common.{◌≡◌, Some, ap, sym, ◌∙◌, subst}
use Rattle.pn_facts.proofs.Results.{on_ok}
use Rattle.pn_net.specs.Labels.{said}
use Rattle.pn_checks.specs.LabelFaults.{InscriptionStands}
use Rattle.pn_checks.specs.SoundLabels.{HasSoundTerm}
use Rattle.pn_checks.proofs.NetSortLemmas.{said_none, said_some}
use Rattle.pn_checks.proofs.SortedLemmas.{sorted_said, sorted_unsaid}
use Rattle.pn_checks.proofs.ValueLemmas.{of_inscription}
use Rattle.pn_checks.proofs.typing.keep_arc.Goals as goal

pub keep_inscription-requires-clause-sound : goal.keep_inscription-requires-clause-sound
keep_inscription-requires-clause-sound c =
    let is : said c.args.arc.now.arc.inscription ≡ Some c.get.result.now.value = ap said c.in-Some.is ∙ ap (λ l. Some l.value) (sym c.get.ensures) in
    subst (HasSoundTerm c.args.decls.now) is c.requires.sound

pub returns-in-Some-clause-least : goal.returns-in-Some-clause-least
returns-in-Some-clause-least c =
    let items = c.args.decls.now in
    let i = c.args.arc.now.place in
    let is : said c.args.arc.now.arc.inscription ≡ Some c.get.result.now.value = ap said c.in-Some.is ∙ ap (λ l. Some l.value) (sym c.get.ensures) in
    on_ok c.keep_inscription.result
    (λ keeps places p got is_sort.
    said_some (InscriptionStands items places i) (said c.args.arc.now.arc.inscription) c.get.result.now.value c.args.least.now c.keep_inscription.new.least is
    (of_inscription items places i p c.args.sort.now c.get.result.now.value got is_sort c.args.least.now c.keep_inscription.new.least keeps)) c.keep_inscription.ensures.least

pub returns-in-None-clause-least : goal.returns-in-None-clause-least
returns-in-None-clause-least c places p got is_sort = said_none (InscriptionStands c.args.decls.now places c.args.arc.now.place) (said c.args.arc.now.arc.inscription) c.args.least.now (ap said c.in-None.is)

pub returns-in-Some-clause-sorted : goal.returns-in-Some-clause-sorted
returns-in-Some-clause-sorted c =
    let is : said c.args.arc.now.arc.inscription ≡ Some c.get.result.now.value = ap said c.in-Some.is ∙ ap (λ l. Some l.value) (sym c.get.ensures) in
    on_ok c.keep_inscription.result (λ sorted none. sorted_said c.args.decls.now (said c.args.arc.now.arc.inscription) c.get.result.now.value is (sorted none)) c.keep_inscription.ensures.sorted

pub returns-in-None-clause-sorted : goal.returns-in-None-clause-sorted
returns-in-None-clause-sorted c none = sorted_unsaid c.args.decls.now (said c.args.arc.now.arc.inscription) (ap said c.in-None.is)
