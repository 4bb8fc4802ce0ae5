use Rattle.std.proofs.Common.{◌+◌, ◌++◌, ◌∷◌, [], Some, not, sym, ap, ◌∙◌}
use Rattle.std.specs.Option.{option_map}
use Rattle.pn_facts.proofs.Options.{none_unless_some}
use Rattle.pn_tree.specs.Views.{element_of}
use Rattle.pn_spelling.specs.ReadDeclarations.{part_read}
use Rattle.pn_hl_grammar.proofs.SplitLemmas.{split_as, split_first, split_next, split_part, split_text}
use Rattle.pn_hl_grammar.proofs.declarations.split_partition.Goals as goal
use Rattle.pn_hl_grammar.proofs.declarations.split_partition.Goals.{in-Element+then-has_name+in_ok-make_part+in_ok-push, in-Element+else-has_name+then-is_none, in-Element+else-has_name+else-is_none, in_default}

pub loop-i-preserved : goal.loop-i-preserved
loop-i-preserved c =
    let e = element_of c.args.view in
    let old = c.args.elements.now in
    let new = c.loop-i.elements in
    let found = c.loop-i.base in
    let now = c.match-kid.elements in
    let base = c.match-kid.base in
    elim c.match-kid.branch [
      | in-Element+then-has_name+in_ok-make_part+in_ok-push w ↦
          let x = element_of w.in-Element.inner in
          split_as e (c.loop-i.i + 1) old (new ++ part_read x ∷ []) now found base
          (w.elements-is ∙ w.in_ok-push.ensures.ok ∙ ap (λ p. new ++ p ∷ []) w.in_ok-make_part.ensures) w.base-is
          (split_part e c.loop-i.i x old new (option_map element_of found) c.loop-i.invariant w.in-Element.ensures.kid (sym w.has_name.ensures ∙ w.if-has_name.true))
      | in-Element+else-has_name+then-is_none w ↦
          let x = element_of w.in-Element.inner in
          split_as e (c.loop-i.i + 1) old new now (Some w.in-Element.inner) base w.elements-is w.base-is
          (split_first e c.loop-i.i x old new (option_map element_of found)
          (ap (option_map element_of) (none_unless_some found (w.is_none.ensures ∙ ap not w.if-is_none.true)))
          c.loop-i.invariant w.in-Element.ensures.kid (sym w.has_name.ensures ∙ w.if-has_name.false))
      | in-Element+else-has_name+else-is_none w ↦
          let x = element_of w.in-Element.inner in
          split_as e (c.loop-i.i + 1) old new now found base w.elements-is w.base-is
          (split_next e c.loop-i.i x old new found (w.is_none.ensures ∙ ap not w.if-is_none.false)
          c.loop-i.invariant w.in-Element.ensures.kid (sym w.has_name.ensures ∙ w.if-has_name.false))
      | in_default w ↦
          split_as e (c.loop-i.i + 1) old new now found base w.elements-is w.base-is
          (split_text e c.loop-i.i w.in_default.field-0.now old new (option_map element_of found) c.loop-i.invariant w.in_default.ensures.kid)
    ]
