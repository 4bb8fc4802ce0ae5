use Rattle.std.proofs.Common.{sym, ap, ◌∙◌}
use Rattle.std.specs.List.{slice_get}
use Rattle.pn_tree.specs.Views.{element_of}
use Rattle.pn_spelling.proofs.PartLemmas.{from_element, from_text}
use Rattle.pn_spelling.proofs.parts.first_element.Goals as goal

pub returns-in-Element-clause-first : goal.returns-in-Element-clause-first
returns-in-Element-clause-first c =
    sym (ap (λ xs. slice_get xs 0) (c.loop-i.invariant ∙ from_element (element_of c.args.view).kids c.loop-i.i (element_of c.in-Element.inner) c.in-Element.ensures.kid))

pub loop-i-preserved : goal.loop-i-preserved
loop-i-preserved c = c.loop-i.invariant ∙ from_text (element_of c.args.view).kids c.loop-i.i c.in_default.field-0.now c.in_default.ensures.kid
