use Rattle.std.proofs.Common.{◌∷◌, [], ◌++◌, map, refl, sym, ap, ◌∙◌}
use Rattle.std.specs.List.{flat_map}
use Rattle.std.proofs.lemmas.Bool.{false≢true}
use Rattle.pn_outside.proofs.TakingLemmas.{puts_then, puts_stop, puts_failed}
use Rattle.pn_tree.specs.Canonical.{element_text, child_text, content_text, escaped_text}
use Rattle.pn_tree.specs.Views.{element_of, child_of}
use Rattle.pn_tree.proofs.PutLemmas.{content_pieces, empty_pieces, full_pieces, puts_as, shown_failed, shown_taken}
use Rattle.pn_tree.proofs.ElementLemmas.{child_text-element, child_text-text}
use Rattle.pn_tree.proofs.put.+put.Goals as goal

pub put_element-returns-in_err-put_start-clause-puts : goal.put_element-returns-in_err-put_start-clause-puts
put_element-returns-in_err-put_start-clause-puts g t c =
    let e = element_of c.args.part in
    let r = c.from_residual.result in
    puts_as _ _ _ _ r (content_pieces e) (puts_stop _ _ _ _ (content_text e.name (map child_text e.kids)) r c.from_residual.ensures.0 c.in_err-put_start.ensures.puts.front)

pub put_element-returns-then-is_empty-clause-puts : goal.put_element-returns-then-is_empty-clause-puts
put_element-returns-then-is_empty-clause-puts g t c =
    let r = c.put_text.result in
    puts_as _ _ _ _ r (empty_pieces (element_of c.args.part) (c.if-is_empty.ensures.0 refl)) (puts_then _ _ _ _ _ r c.in_ok-put_start.ensures.puts.all c.put_text.ensures.puts)

pub put_element-returns-in_err-put_text-clause-puts : goal.put_element-returns-in_err-put_text-clause-puts
put_element-returns-in_err-put_text-clause-puts g t c =
    let e = element_of c.args.part in
    let r = c.from_residual-in_err-put_text.result in
    puts_as _ _ _ _ r (full_pieces e e.kids e.name refl refl (λ none. false≢true (c.if-is_empty.ensures.1 none)))
    (puts_then _ _ _ _ _ r c.in_ok-put_start.ensures.puts.all
    (puts_stop _ _ _ _ (flat_map child_text e.kids ++ (60 ∷ 47 ∷ (e.name ++ 62 ∷ []))) r c.from_residual-in_err-put_text.ensures.0 c.in_err-put_text.ensures.puts.front))

pub put_element-returns-in_err-put_kids-clause-puts : goal.put_element-returns-in_err-put_kids-clause-puts
put_element-returns-in_err-put_kids-clause-puts g t c =
    let e = element_of c.args.part in
    let r = c.from_residual-in_err-put_kids.result in
    puts_as _ _ _ _ r (full_pieces e e.kids e.name refl refl (λ none. false≢true (c.if-is_empty.ensures.1 none)))
    (puts_then _ _ _ _ _ r c.in_ok-put_start.ensures.puts.all
    (puts_then _ _ _ _ _ r c.in_ok-put_text.ensures.puts.all
    (puts_stop _ _ _ _ (60 ∷ 47 ∷ (e.name ++ 62 ∷ [])) r c.from_residual-in_err-put_kids.ensures.0 c.in_err-put_kids.ensures.puts.front)))

pub put_element-returns-clause-puts : goal.put_element-returns-clause-puts
put_element-returns-clause-puts g t c =
    let e = element_of c.args.part in
    let r = c.put_name.result in
    puts_as _ _ _ _ r (full_pieces e e.kids c.name.result.now refl c.name.ensures (λ none. false≢true (c.if-is_empty.ensures.1 none)))
    (puts_then _ _ _ _ _ r c.in_ok-put_start.ensures.puts.all
    (puts_then _ _ _ _ _ r c.in_ok-put_text.ensures.puts.all (puts_then _ _ _ _ _ r c.in_ok-put_kids.ensures.puts.all c.put_name.ensures.puts)))

pub put_kids-returns-in_err-put_child-clause-puts : goal.put_kids-returns-in_err-put_child-clause-puts
put_kids-returns-in_err-put_child-clause-puts g t c =
    puts_failed _ _ _ _ c.from_residual.result c.from_residual.ensures.0
    (shown_failed _ _ _ child_text (element_of c.args.part).kids c.loop-i.i _ c.kid.ensures.kid c.loop-i.invariant.takes c.in_err-put_child.ensures.puts.front)

pub put_kids-loop-i-preserved : goal.put_kids-loop-i-preserved
put_kids-loop-i-preserved g t c = record {
  takes = shown_taken _ _ _ child_text (element_of c.args.part).kids c.loop-i.i _ c.kid.ensures.kid c.loop-i.invariant.takes c.in_ok-put_child.ensures.puts.all;
  unfailed = c.in_ok-put_child.ensures.counted ∙ c.loop-i.invariant.unfailed;
}

pub put_child-returns-in-Element-clause-puts : goal.put_child-returns-in-Element-clause-puts
put_child-returns-in-Element-clause-puts g t c =
    puts_as _ _ (element_text (element_of c.in-Element.part)) (child_text (child_of c.args.kid)) c.put_element.result
    (sym (ap (λ k. child_text (child_of k)) c.in-Element.is ∙ child_text-element (element_of c.in-Element.part))) c.put_element.ensures.puts

pub put_child-returns-in-Text-clause-puts : goal.put_child-returns-in-Text-clause-puts
put_child-returns-in-Text-clause-puts g t c =
    puts_as _ _ (escaped_text c.in-Text.text.now) (child_text (child_of c.args.kid)) c.put_escaped.result
    (sym (ap (λ k. child_text (child_of k)) c.in-Text.is ∙ child_text-text c.in-Text.text.now)) c.put_escaped.ensures.puts
