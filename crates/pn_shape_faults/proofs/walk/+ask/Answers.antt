use Rattle.std.proofs.Common.{Some, None, [], ◌++◌, take, sym, ap, ◌∙◌, arith}
use Rattle.pn_tree.specs.Views.{element_of}
use Rattle.pn_tree.specs.declared.element.Child.TheVariants as children
use Rattle.pn_shape.specs.Rules.{said_by}
use Rattle.pn_shape.specs.Faults.{told, own_text, text_fault, attrs_faults, lacks_faults, missing_faults, all_faults, kids_faults}
use Rattle.pn_shape.specs.Spots.{spot_in}
use Rattle.pn_facts.proofs.Results.{on_ok, always}
use Rattle.pn_facts.proofs.Lists.{got}
use Rattle.pn_shape_faults.proofs.KeepLemmas.{keeps_then, keeps_told}
use Rattle.pn_shape_faults.proofs.CountLemmas.{counts_below, text_counted, placeless_counted, placed_counted}
use Rattle.pn_shape_faults.proofs.WalkLemmas.{opaque_kept, row_kept, text_kept, element_kept, counted_as, kids_next, placed_kept}
use Rattle.pn_shape_faults.proofs.walk.+ask.Goals as goal

pub ask-returns-then-is_opaque : goal.ask-returns-then-is_opaque
ask-returns-then-is_opaque t c =
    opaque_kept c.args.least.now c.args.kind c.args.tag (element_of c.args.view) c.rule_of-rule.result c.rule_of-rule.ensures.row (sym c.is_opaque.ensures ∙ c.if-is_opaque.true)

pub ask-returns-in-Some : goal.ask-returns-in-Some
ask-returns-in-Some t c =
    on_ok c.ask_row.result
    (row_kept c.args.least.now c.ask_row.new.least c.args.kind c.args.tag (element_of c.args.view) c.rule_of-rule.result (Some c.in-Some.inside) c.rule_of-rule.ensures.row
    (sym c.is_opaque.ensures ∙ c.if-is_opaque.false) (sym c.in-Some.is ∙ c.kind_inside.ensures)) c.ask_row.ensures

pub ask-returns-in-None : goal.ask-returns-in-None
ask-returns-in-None t c =
    on_ok c.ask_row-in-None.result
    (row_kept c.args.least.now c.ask_row-in-None.new.least c.args.kind c.args.tag (element_of c.args.view) c.rule_of-rule.result None c.rule_of-rule.ensures.row
    (sym c.is_opaque.ensures ∙ c.if-is_opaque.false) (sym c.in-None.is ∙ c.kind_inside.ensures)) c.ask_row-in-None.ensures

pub ask_element-returns-in-Some-clause-counted : goal.ask_element-returns-in-Some-clause-counted
ask_element-returns-in-Some-clause-counted t c =
    always c.ask_placed.result
    (λ before. placed_counted c.args.kind c.args.slots.now c.args.counts.now c.count_one-past.new.counts before (element_of c.args.kid) c.in-Some.spot
    (sym c.in-Some.is ∙ (c.spot_among.ensures.spot ∙ ap (λ name. spot_in c.args.kind name 0 c.args.slots.now) c.name.ensures))
    (omega (arith, c.in-Some.ensures.within, c.requires.few)) c.count_one-past.ensures.counts)

pub ask_element-returns-in-None-clause-counted : goal.ask_element-returns-in-None-clause-counted
ask_element-returns-in-None-clause-counted t c =
    always c.ask_unknown.result
    (λ before. placeless_counted c.args.kind c.args.slots.now c.args.counts.now before (element_of c.args.kid)
    (sym c.in-None.is ∙ (c.spot_among.ensures.spot ∙ ap (λ name. spot_in c.args.kind name 0 c.args.slots.now) c.name.ensures)))

pub ask_kid-ask_element-requires : goal.ask_kid-ask_element-requires
ask_kid-ask_element-requires t c = (
  omega (arith, c.in-Element.ensures.depth),
  (
    c.requires.few,
    counts_below c.args.kind c.args.rule.slots.now c.args.counts.now (element_of c.args.view).kids c.args.i 18446744073709551615 c.requires.counted c.requires.room,
  ),
)

pub ask_kid-returns-in-Text-clause-kept : goal.ask_kid-returns-in-Text-clause-kept
ask_kid-returns-in-Text-clause-kept t c =
    on_ok c.keep.result
    (text_kept c.args.least.now c.keep.new.least c.args.asks c.args.kind (said_by c.args.rule) (element_of c.args.view) (take c.args.i (element_of c.args.view).kids) c.args.i c.in-Text.text.now
    c.at.result c.name.result.now c.stray_fault-reason.result c.in-Text.ensures.kid c.at.ensures c.name.ensures c.stray_fault-reason.ensures) c.keep.ensures

pub ask_kid-returns-in-Text-clause-counted : goal.ask_kid-returns-in-Text-clause-counted
ask_kid-returns-in-Text-clause-counted t c =
    always c.keep.result
    (counted_as c.args.kind c.args.rule.slots.now c.args.counts.now (element_of c.args.view).kids c.args.i (children.Text c.in-Text.text.now) c.in-Text.ensures.kid
    (text_counted c.args.kind c.args.rule.slots.now c.args.counts.now (take c.args.i (element_of c.args.view).kids) c.in-Text.text.now c.requires.counted))

pub ask_kid-returns-in-Element-clause-kept : goal.ask_kid-returns-in-Element-clause-kept
ask_kid-returns-in-Element-clause-kept t c =
    on_ok c.ask_element.result
    (λ kept. element_kept c.args.least.now c.ask_element.new.least c.args.asks c.args.kind (said_by c.args.rule) (element_of c.args.view) (take c.args.i (element_of c.args.view).kids) c.args.i
    (element_of c.in-Element.kid) c.in-Element.ensures.kid (kept (take c.args.i (element_of c.args.view).kids) c.requires.counted)) c.ask_element.ensures.kept

pub ask_kid-returns-in-Element-clause-counted : goal.ask_kid-returns-in-Element-clause-counted
ask_kid-returns-in-Element-clause-counted t c =
    on_ok c.ask_element.result
    (λ counted. counted_as c.args.kind c.args.rule.slots.now c.ask_element.new.counts (element_of c.args.view).kids c.args.i (children.Element (element_of c.in-Element.kid)) c.in-Element.ensures.kid
    (counted (take c.args.i (element_of c.args.view).kids) c.requires.counted)) c.ask_element.ensures.counted

pub ask_kids-loop-i-preserved : goal.ask_kids-loop-i-preserved
ask_kids-loop-i-preserved t c =
    let e = element_of c.args.view in
    let there = got e.kids c.loop-i.i (omega (arith, c.loop-i-test.true, c.kid_count-i-end.ensures)) in
    record {
      kept =
          kids_next c.args.least.now c.loop-i.least c.ask_kid.new.least (kids_faults all_faults c.args.asks c.args.kind (said_by c.args.rule) e [] e.kids) c.args.asks c.args.kind (said_by c.args.rule) e c.loop-i.i there.0 there.1
          c.loop-i.invariant.kept (c.in_ok-ask_kid.ensures.kept there.0 there.1);
      counted = c.in_ok-ask_kid.ensures.counted;
      size = c.ask_kid.ensures.size ∙ c.loop-i.invariant.size;
    }

pub ask_placed-returns-then-asks_inside : goal.ask_placed-returns-then-asks_inside
ask_placed-returns-then-asks_inside t c =
    on_ok c.ask.result
    (placed_kept c.args.least.now c.keep.new.least c.ask.new.least c.args.asks c.args.kind (element_of c.args.kid) c.args.past c.args.tag c.if-not-asks.false (sym c.if-asks_inside.ensures)
    (keeps_told c.args.least.now c.keep.new.least _ _ _ _ _ _ c.at.ensures c.name.ensures c.over_reason.ensures c.in_ok-keep.ensures)) c.ask.ensures

pub ask_row-returns : goal.ask_row-returns
ask_row-returns t c =
    let e = element_of c.args.view in
    let says = said_by c.args.rule in
    let missing = missing_faults c.args.kind says.slots e 0 says.slots in
    let kids = kids_faults all_faults c.args.asks c.args.kind says e [] e.kids in
    let text = told e.at e.name (text_fault says.content (own_text e.kids)) in
    on_ok c.ask_missing.result
    (λ last. keeps_then c.args.least.now c.ask_attrs.new.least c.ask_missing.new.least (attrs_faults says e) (lacks_faults says e ++ (text ++ (kids ++ missing))) c.in_ok-ask_attrs.ensures
    (keeps_then c.ask_attrs.new.least c.ask_lacks.new.least c.ask_missing.new.least (lacks_faults says e) (text ++ (kids ++ missing)) c.in_ok-ask_lacks.ensures
    (keeps_then c.ask_lacks.new.least c.ask_text.new.least c.ask_missing.new.least text (kids ++ missing) c.in_ok-ask_text.ensures
    (keeps_then c.ask_text.new.least c.ask_kids.new.least c.ask_missing.new.least kids missing c.in_ok-ask_kids.ensures.kept last)))) c.ask_missing.ensures
