-- The tree of a document is a tree.
use Rattle.std.proofs.Common.{◌≡◌, ℕ, zero, suc, true, List, [], ◌∷◌, ◌++◌, codes, length, sym, ap, ◌∙◌, subst, append_assoc, arith}
use Rattle.pn_tree.specs.Building.{with_text, with_kid}
use Rattle.pn_text.specs.Characters.{is_text}
use Rattle.pn_tree.specs.Elements.{is_element, IsTree}
use Rattle.pn_tree.specs.declared.element.Element.{Element}
use Rattle.pn_tree.specs.declared.element.Child.TheVariants as children
use Rattle.pn_tree.proofs.OpenLemmas.{text_parts, kid_parts}
use Rattle.pn_tree.proofs.TreeLemmas.{Parts, of_parts}
use Rattle.pn_markup.specs.Bytes.{line_ends}
use Rattle.pn_markup.specs.Content.{ContentPieces, nothing, piece, element, Content, ElementOver, empty, whole, Spells}
use Rattle.pn_markup.specs.Document.{IsDocument}
use Rattle.pn_markup.proofs.CharacterLemmas.{Edge, cut_text, text_behind}
use Rattle.pn_markup.proofs.CutLemmas.{Bounded, bounded_edge, cut_behind, piece_bounded, piece_text}
use Rattle.pn_markup.proofs.LineEndLemmas.{line_ends_text}
use Rattle.pn_markup.proofs.ValueLemmas.{tag_parts}

end_tag_is : (name tag inner close space : List ℕ) → close ≡ codes "</" ++ (name ++ (space ++ codes ">"))
    → tag ++ (62 ∷ (inner ++ close)) ≡ (tag ++ (62 ∷ (inner ++ (codes "</" ++ (name ++ space))))) ++ (62 ∷ [])
end_tag_is name tag inner close space is =
    ap (λ l. tag ++ (62 ∷ (inner ++ l))) (is ∙ ap (λ l. codes "</" ++ l) (sym (append_assoc name space (62 ∷ []))))
    ∙ ap (λ l. tag ++ (62 ∷ l)) (sym (append_assoc inner (codes "</" ++ (name ++ space)) (62 ∷ [])))
    ∙ sym (append_assoc tag (62 ∷ (inner ++ (codes "</" ++ (name ++ space)))) (62 ∷ []))

-- an element begins with `<` and ends with `>`
element_bounded : (S : ℕ → Element → List ℕ → Type 0) (at : ℕ) (e : Element) (b : List ℕ) → ElementOver S at e b → Bounded b
element_bounded S at e b (empty _ _ _ tag t is) = record {
  first = 60;
  more = (t.name ++ t.attributes) ++ codes "/>";
  front = tag ++ codes "/";
  last = 62;
  first_low = omega arith;
  last_low = omega arith;
  begins = is ∙ ap (λ l. l ++ codes "/>") t.whole;
  ends = is ∙ sym (append_assoc tag (codes "/") (62 ∷ []));
}
element_bounded S at e b (whole _ _ started _ tag inner close next t content etag offset is) = record {
  first = 60;
  more = (t.name ++ t.attributes) ++ (62 ∷ (inner ++ close));
  front = tag ++ (62 ∷ (inner ++ (codes "</" ++ (started.name ++ etag.0))));
  last = 62;
  first_low = omega arith;
  last_low = omega arith;
  begins = is ∙ ap (λ l. l ++ (62 ∷ (inner ++ close))) t.whole;
  ends = is ∙ end_tag_is started.name tag inner close etag.0 etag.2;
}

pub spells_bounded : (n at : ℕ) (e : Element) (b : List ℕ) → Spells n at e b → Bounded b
spells_bounded zero at e b s = absurd s
spells_bounded (suc n) at e b s = element_bounded (Spells n) at e b s

module _ (n : ℕ) (fits : (at : ℕ) (e : Element) (b : List ℕ) → Spells n at e b → is_text b ≡ true → is_element n e ≡ true) where
  pieces_edge : (at : ℕ) (so_far complete : Element) (b : List ℕ) → ContentPieces (Spells n) at so_far complete b → Edge b
  pieces_edge at so_far complete b (nothing _ _ _ _ same is) = subst Edge (sym is) tt
  pieces_edge at so_far complete b (piece _ _ _ _ text bytes run rest next p r later offset is) = subst Edge (sym is) (bounded_edge bytes (run ++ rest) (piece_bounded text bytes p))
  pieces_edge at so_far complete b (element _ _ _ e _ bytes run rest next s r later offset is) = subst Edge (sym is) (bounded_edge bytes (run ++ rest) (spells_bounded n at e bytes s))

  pieces_parts : (at : ℕ) (so_far complete : Element) (b : List ℕ) → ContentPieces (Spells n) at so_far complete b → is_text b ≡ true → Parts n so_far → Parts n complete
  pieces_parts at so_far complete b (nothing _ _ _ _ same is) h p = subst (Parts n) (sym same) p
  pieces_parts at so_far complete b (piece _ _ _ _ text bytes run rest next q r later offset is) h p =
      let behind = cut_behind bytes (run ++ rest) (piece_bounded text bytes q) (sym (ap is_text is) ∙ h) in
      let given = with_text (line_ends run) (with_text text so_far) in
      let cut = cut_text run rest behind.1 (pieces_edge next given complete rest later) in
      pieces_parts next given complete rest later cut.1
      (text_parts n (with_text text so_far) (line_ends run) (line_ends_text run cut.0) (text_parts n so_far text (piece_text text bytes q behind.0) p))
  pieces_parts at so_far complete b (element _ _ _ e _ bytes run rest next s r later offset is) h p =
      let behind = cut_behind bytes (run ++ rest) (spells_bounded n at e bytes s) (sym (ap is_text is) ∙ h) in
      let given = with_text (line_ends run) (with_kid (children.Element e) so_far) in
      let cut = cut_text run rest behind.1 (pieces_edge next given complete rest later) in
      pieces_parts next given complete rest later cut.1
      (text_parts n (with_kid (children.Element e) so_far) (line_ends run) (line_ends_text run cut.0) (kid_parts n so_far e (fits at e bytes s behind.0) p))

  content_parts : (at : ℕ) (so_far complete : Element) (b : List ℕ) → Content (Spells n) at so_far complete b → is_text b ≡ true → Parts n so_far → Parts n complete
  content_parts at so_far complete b c h p =
      let given = with_text (line_ends c.run) so_far in
      let cut = cut_text c.run c.rest (sym (ap is_text c.whole) ∙ h) (pieces_edge c.next given complete c.rest c.are_pieces) in
      pieces_parts c.next given complete c.rest c.are_pieces cut.1 (text_parts n so_far (line_ends c.run) (line_ends_text c.run cut.0) p)

  element_parts : (at : ℕ) (e : Element) (b : List ℕ) → ElementOver (Spells n) at e b → is_text b ≡ true → Parts n e
  element_parts at e b (empty _ _ _ tag t is) h = tag_parts n at e tag t (cut_text tag (codes "/>") (sym (ap is_text is) ∙ h) (omega arith)).0
  element_parts at e b (whole _ _ started _ tag inner close next t content etag offset is) h =
      let cut = cut_text tag (62 ∷ (inner ++ close)) (sym (ap is_text is) ∙ h) (omega arith) in
      let behind = text_behind 62 (inner ++ close) cut.1 (omega arith) in
      let closing : Edge close = subst Edge (sym etag.2) (omega arith) in
      content_parts next started e inner content (cut_text inner close behind closing).0 (tag_parts n at started tag t cut.0)

spelled_fits : (n at : ℕ) (e : Element) (b : List ℕ) → Spells n at e b → is_text b ≡ true → is_element n e ≡ true
spelled_fits zero at e b s h = absurd s
spelled_fits (suc n) at e b s h = of_parts n e (element_parts n (λ at x bytes. spelled_fits n at x bytes) at e b s h)

-- the tree of a document is a tree
pub document_tree : (t : Element) (b : List ℕ) → IsDocument t b → IsTree t
document_tree t b d =
    let m = d.markup in
    let bounded = spells_bounded 256 (length m.prolog) t m.root m.is_root in
    let behind = (cut_text m.prolog (m.root ++ m.misc) (sym (ap is_text m.whole) ∙ d.characters) (bounded_edge m.root m.misc bounded)).1 in
    spelled_fits 256 (length m.prolog) t m.root m.is_root (cut_behind m.root m.misc bounded behind).0
