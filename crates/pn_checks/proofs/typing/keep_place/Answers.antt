use Rattle.std.proofs.Common.{◌≡◌, Some, ap, sym, ◌∙◌, subst}
use Rattle.pn_facts.proofs.Results.{always, on_ok}
use Rattle.pn_net.specs.Labels.{said}
use Rattle.pn_checks.specs.LabelFaults.{MarkingStands}
use Rattle.pn_checks.specs.NoValue.{SaysMultiset}
use Rattle.pn_checks.specs.SoundLabels.{HasSoundTerm}
use Rattle.pn_checks.specs.Tokens.{number_tokens}
use Rattle.pn_checks.proofs.NetSortLemmas.{said_none, said_some}
use Rattle.pn_checks.proofs.ValueLemmas.{first_number, first_said}
use Rattle.pn_checks.proofs.typing.keep_place.Goals as goal

pub keep_marking-requires-clause-sound : goal.keep_marking-requires-clause-sound
keep_marking-requires-clause-sound c =
    let is : said c.args.place.now.hl_marking ≡ Some c.get.result.now.value = ap said c.in-Some.is ∙ ap (λ l. Some l.value) (sym c.get.ensures) in
    subst (HasSoundTerm c.args.decls.now) is c.requires.sound

pub returns-in-Some-clause-least : goal.returns-in-Some-clause-least
returns-in-Some-clause-least c =
    let p = c.args.place.now in
    let is : said p.hl_marking ≡ Some c.get.result.now.value = ap said c.in-Some.is ∙ ap (λ l. Some l.value) (sym c.get.ensures) in
    on_ok c.keep_marking.result
    (λ keeps. said_some (MarkingStands c.args.decls.now p) (said p.hl_marking) c.get.result.now.value c.args.least.now c.keep_marking.new.least is (keeps p c.requires.sort)) c.keep_marking.ensures.least

pub returns-in-Some-clause-gets : goal.returns-in-Some-clause-gets
returns-in-Some-clause-gets c =
    let p = c.args.place.now in
    let is : said p.hl_marking ≡ Some c.get.result.now.value = ap said c.in-Some.is ∙ ap (λ l. Some l.value) (sym c.get.ensures) in
    on_ok c.keep_marking.result
    (λ gets none. let found = gets none in (found.0, first_said (SaysMultiset c.args.decls.now) (said p.hl_marking) (said p.marking) c.get.result.now.value found.0 is found.1, found.2)) c.keep_marking.ensures.gets

pub returns-in-None-clause-least : goal.returns-in-None-clause-least
returns-in-None-clause-least c =
    let p = c.args.place.now in
    always c.put_number.result (said_none (MarkingStands c.args.decls.now p) (said p.hl_marking) c.args.least.now (ap said c.in-None.is))

pub returns-in-None-clause-gets : goal.returns-in-None-clause-gets
returns-in-None-clause-gets c =
    let p = c.args.place.now in
    on_ok c.put_number.result
    (λ gets none. (number_tokens (said p.marking), first_number (SaysMultiset c.args.decls.now) (said p.hl_marking) (said p.marking) (ap said c.in-None.is), gets)) c.put_number.ensures.gets
