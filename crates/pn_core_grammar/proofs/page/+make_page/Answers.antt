use Rattle.std.proofs.Common.{◌∙◌}
use Rattle.pn_tree.specs.Views.{element_of}
use Rattle.pn_core_grammar.proofs.PartsLemmas.{page_made, parts_element, parts_text}
use Rattle.pn_core_grammar.proofs.page.+make_page.Goals as goal
use Rattle.pn_core_grammar.proofs.page.+make_page.Goals.{page_parts-in-Element+in_ok-add, page_parts-in_default}

pub make_page-returns : goal.make_page-returns
make_page-returns t c = page_made (element_of c.args.view) c.in_ok-id.id c.in_ok-parts.parts c.at.result c.in_ok-id.ensures c.in_ok-parts.ensures c.at.ensures

pub page_parts-loop-i-preserved : goal.page_parts-loop-i-preserved
page_parts-loop-i-preserved t c =
    let ks = (element_of c.args.view).kids in
    elim c.match-kid.branch [
      | page_parts-in-Element+in_ok-add w ↦ parts_element ks c.loop-i.i (element_of w.in-Element.part) c.loop-i.parts c.match-kid.parts w.in-Element.ensures.kid c.loop-i.invariant
          (w.parts-is ∙ w.in_ok-add.ensures)
      | page_parts-in_default w ↦ w.parts-is ∙ parts_text ks c.loop-i.i w.in_default.field-0.now c.loop-i.parts w.in_default.ensures.kid c.loop-i.invariant
    ]
