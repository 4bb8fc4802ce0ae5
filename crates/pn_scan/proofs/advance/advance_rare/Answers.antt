use Rattle.std.proofs.Common.{◌≡◌, Option, sym, ap, subst, ◌∙◌}
use Rattle.std.specs.Option.{option_map}
use Rattle.pn_tree.proofs.BuildLemmas.{if_ok_then}
use Rattle.pn_scan.specs.NextState.{next_state}
use Rattle.pn_scan.specs.Nestings.{nesting_of}
use Rattle.pn_scan.specs.Contexts.{state_of, Admits}
use Rattle.pn_scan.specs.declared.context.Context.{Context}
use Rattle.pn_scan.proofs.advance.advance_rare.Goals as goal

pub returns-in-Start-clause-state : goal.returns-in-Start-clause-state
returns-in-Start-clause-state c =
    let p = nesting_of c.args.tree.now in
    let k = c.args.kept.now in
    c.start.ensures.state p k (subst (Admits p) c.in-Start.is c.requires.fits) ∙ sym (ap (λ m. next_state (state_of p k m) c.args.at c.args.byte) c.in-Start.is)

pub returns-in-First-clause-state : goal.returns-in-First-clause-state
returns-in-First-clause-state c =
    let p = nesting_of c.args.tree.now in
    let k = c.args.kept.now in
    c.outside.ensures.state p k (subst (Admits p) c.in-First.is c.requires.fits) ∙ sym (ap (λ m. next_state (state_of p k m) c.args.at c.args.byte) c.in-First.is)

pub returns-in-Comment-clause-fits : goal.returns-in-Comment-clause-fits
returns-in-Comment-clause-fits c = c.comment.ensures.fits (nesting_of c.args.tree.now)

pub returns-in-Instruction-clause-fits : goal.returns-in-Instruction-clause-fits
returns-in-Instruction-clause-fits c = c.instruction.ensures.fits (nesting_of c.args.tree.now)

pub returns-in-Declaration-clause-state : goal.returns-in-Declaration-clause-state
returns-in-Declaration-clause-state c =
    let p = nesting_of c.args.tree.now in
    let k = c.args.kept.now in
    c.declaration.ensures.state p k (subst (Admits p) c.in-Declaration.is c.requires.fits) ∙ sym (ap (λ m. next_state (state_of p k m) c.args.at c.args.byte) c.in-Declaration.is)

pub returns-in-BeforePartEquals-clause-state : goal.returns-in-BeforePartEquals-clause-state
returns-in-BeforePartEquals-clause-state c =
    let p = nesting_of c.args.tree.now in
    let k = c.args.kept.now in
    c.part_equals.ensures.state p k ∙ sym (ap (λ m. next_state (state_of p k m) c.args.at c.args.byte) c.in-BeforePartEquals.is)

pub returns-in-BehindPartEquals-clause-state : goal.returns-in-BehindPartEquals-clause-state
returns-in-BehindPartEquals-clause-state c =
    let p = nesting_of c.args.tree.now in
    let k = c.args.kept.now in
    c.part_quote.ensures.state p ∙ sym (ap (λ m. next_state (state_of p k m) c.args.at c.args.byte) c.in-BehindPartEquals.is)

pub returns-in-PartValue-clause-state : goal.returns-in-PartValue-clause-state
returns-in-PartValue-clause-state c =
    let p = nesting_of c.args.tree.now in
    let k = c.args.kept.now in
    let k2 = c.part_value.new.kept in
    let is = ap (λ m. next_state (state_of p k m) c.args.at c.args.byte) c.in-PartValue.is in
    if_ok_then c.part_value.result _ (λ (m : Option Context). option_map (state_of p k2) m ≡ next_state (state_of p k c.args.context) c.args.at c.args.byte) (λ m h. h p ∙ sym is)
    c.part_value.ensures.state

pub returns-in-First-clause-fits : goal.returns-in-First-clause-fits
returns-in-First-clause-fits c = c.outside.ensures.fits (nesting_of c.args.tree.now)

pub returns-in-Bang-clause-state : goal.returns-in-Bang-clause-state
returns-in-Bang-clause-state c =
    let p = nesting_of c.args.tree.now in
    let k = c.args.kept.now in
    c.bang.ensures.state p k c.nesting.ensures ∙ sym (ap (λ m. next_state (state_of p k m) c.args.at c.args.byte) c.in-Bang.is)
