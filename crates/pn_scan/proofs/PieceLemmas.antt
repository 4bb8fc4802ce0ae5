-- What begins in the content of an element.
use Rattle.std.proofs.Common.{◌≡◌, ℕ, zero, suc, ◌+◌, false, List, [], ◌∷◌, ◌++◌, length, Some, refl, sym, ap, ◌∙◌, subst, append_assoc, arith, length-append}
use Rattle.pn_tree.specs.Building.{with_text, with_kid}
use Rattle.pn_tree.specs.declared.element.Child.TheVariants as children
use Rattle.pn_markup.specs.Bytes.{line_ends}
use Rattle.pn_markup.specs.Tags.{ETag}
use Rattle.pn_markup.specs.Content.{CharData, Piece, ContentPieces, ElementOver, Spells}
use Rattle.pn_markup.specs.Content as content
use Rattle.pn_tree.specs.declared.element.Element.{Element}
use Rattle.pn_scan.specs.State.{Nesting, within, no_bracket, room_at}
use Rattle.pn_scan.specs.Rest.{Marked, Running, BehindElement, Resumed, Begun, a_comment, an_instruction, a_section, a_reference, an_end, a_tag}
use Rattle.pn_scan.proofs.ElementLemmas.{Tagged, pieces_running, over_tagged, tagged_over, name_kept}

pub some_is : {A : Type 0} (a b : A) → Some a ≡ Some b → a ≡ b
some_is a b h = cc

pub within_is : (l m : ℕ) (p q : Element) (ps qs : List Element) → within l p ps ≡ within m q qs → (l ≡ m) × (p ≡ q) × (ps ≡ qs)
within_is l m p q ps qs h = (cc, cc, cc)

module _ (N : ℕ) (t : Element) where
  -- the length of a piece, the run behind it and the rest
  far : (at next : ℕ) (c bytes run pieces more : List ℕ) → at + length c ≡ N → next ≡ at + length bytes + length run → c ≡ bytes ++ (run ++ (pieces ++ more)) → next + length (pieces ++ more) ≡ N
  far at next c bytes run pieces more offset n w =
      omega (arith, offset, n, ap length w ∙ length-append bytes (run ++ (pieces ++ more)) ∙ ap (λ k. length bytes + k) (length-append run (pieces ++ more)))

  near : (at next : ℕ) (c bytes run more : List ℕ) → at + length c ≡ N → next + length more ≡ N → c ≡ bytes ++ (run ++ more) → next ≡ at + length bytes + length run
  near at next c bytes run more offset n w =
      omega (arith, offset, n, ap length w ∙ length-append bytes (run ++ more) ∙ ap (λ k. length bytes + k) (length-append run more))

  -- in an element, from the grammar

  -- what follows the pieces that begin in p
  record After (levels : ℕ) (p : Element) (outer : List Element) (whole : Element) (close rest : List ℕ) : Type 0 where
    is_close : ETag p.name close
    goes_on : BehindElement N t (suc levels) outer whole rest

  element_at : (levels at : ℕ) (p e : Element) (outer : List Element) (c bytes rest : List ℕ) → at + length c ≡ N → Spells levels at e bytes
      → Running (BehindElement N t (suc levels) outer) N levels (with_kid (children.Element e) p) [] no_bracket false rest → c ≡ bytes ++ rest → Begun N t at (within levels p outer) c
  element_at zero at p e outer c bytes rest offset s k w = absurd s
  element_at (suc levels) at p e outer c bytes rest offset s k w =
      let g = over_tagged N t at levels (p ∷ outer) c offset (record { element = e; bytes = bytes; rest = rest; is_element = s; goes_on = k; is = w }) in
      a_tag (within (suc levels) p outer) c levels (p ∷ outer) g.element g.tag g.rest refl g.is_tag g.is_end g.is

  piece_at : (levels at : ℕ) (p : Element) (outer : List Element) (c text bytes rest : List ℕ) → Piece text bytes
      → Resumed N t (within levels (with_text text p) outer) rest → c ≡ bytes ++ rest → Begun N t at (within levels p outer) c
  piece_at levels at p outer c text bytes rest (content.reference _ _ r) k w = a_reference (within levels p outer) c levels p outer text bytes rest refl r k w
  piece_at levels at p outer c text bytes rest (content.section _ _ raw s i) k w =
      a_section (within levels p outer) c levels p outer raw bytes rest refl s (subst (λ l. Resumed N t (within levels (with_text l p) outer) rest) i k) w
  piece_at levels at p outer c text bytes rest (content.comment _ _ m i) k w =
      a_comment (within levels p outer) c bytes rest m (subst (λ l. Resumed N t (within levels (with_text l p) outer) rest) i k) w
  piece_at levels at p outer c text bytes rest (content.instruction _ _ m i) k w =
      an_instruction (within levels p outer) c bytes rest m (subst (λ l. Resumed N t (within levels (with_text l p) outer) rest) i k) w

  pieces_at : (levels at : ℕ) (p whole : Element) (outer : List Element) (c pieces close rest : List ℕ) → at + length c ≡ N → ContentPieces (Spells levels) at p whole pieces
      → ETag p.name close → BehindElement N t (suc levels) outer whole rest → c ≡ pieces ++ (close ++ rest) → Begun N t at (within levels p outer) c
  pieces_at levels at p whole outer c pieces close rest offset (content.nothing _ _ _ _ i j) e k w =
      an_end (within levels p outer) c levels p outer close rest refl e (subst (λ f. BehindElement N t (suc levels) outer f rest) i k) (w ∙ ap (λ l. l ++ (close ++ rest)) j)
  pieces_at levels at p whole outer c pieces close rest offset (content.piece _ _ _ _ text bytes run later next pc r more n j) e k w =
      let all : c ≡ bytes ++ (run ++ (later ++ (close ++ rest))) =
      w ∙ ap (λ l. l ++ (close ++ rest)) j ∙ append_assoc bytes (run ++ later) (close ++ rest) ∙ ap (λ l. bytes ++ l) (append_assoc run later (close ++ rest)) in
      piece_at levels at p outer c text bytes (run ++ (later ++ (close ++ rest))) pc
      (pieces_running (BehindElement N t (suc levels) outer) N levels (with_text text p) whole run later close rest next r more (subst (λ l. ETag l close) (sym (name_kept text p)) e) k
      (far at next c bytes run later (close ++ rest) offset n all)) all
  pieces_at levels at p whole outer c pieces close rest offset (content.element _ _ _ f _ bytes run later next s r more n j) e k w =
      let all : c ≡ bytes ++ (run ++ (later ++ (close ++ rest))) =
      w ∙ ap (λ l. l ++ (close ++ rest)) j ∙ append_assoc bytes (run ++ later) (close ++ rest) ∙ ap (λ l. bytes ++ l) (append_assoc run later (close ++ rest)) in
      element_at levels at p f outer c bytes (run ++ (later ++ (close ++ rest))) offset s
      (pieces_running (BehindElement N t (suc levels) outer) N levels (with_kid (children.Element f) p) whole run later close rest next r more e k
      (far at next c bytes run later (close ++ rest) offset n all)) all

  pub marked_begun : (levels at : ℕ) (p : Element) (outer : List Element) (c : List ℕ) → at + length c ≡ N → Marked (BehindElement N t (suc levels) outer) N levels p c → Begun N t at (within levels p outer) c
  marked_begun levels at p outer c offset m =
      let same : m.at ≡ at = omega (arith, offset, m.offset) in
      pieces_at levels at p m.complete outer c m.pieces m.close m.rest offset (subst (λ n. ContentPieces (Spells levels) n p m.complete m.pieces) same m.are_pieces) m.is_close m.goes_on m.whole

  -- and back

  piece_marked : (levels at : ℕ) (p : Element) (outer : List Element) (c text bytes rest : List ℕ) → at + length c ≡ N → Piece text bytes
      → Running (BehindElement N t (suc levels) outer) N levels (with_text text p) [] no_bracket false rest → c ≡ bytes ++ rest → Marked (BehindElement N t (suc levels) outer) N levels p c
  piece_marked levels at p outer c text bytes rest offset pc r w =
      let m = r.goes_on in
      let all : c ≡ bytes ++ (r.run ++ r.rest) = w ∙ ap (λ l. bytes ++ l) r.whole in
      record {
        complete = m.complete;
        pieces = bytes ++ (r.run ++ m.pieces);
        close = m.close;
        rest = m.rest;
        at = at;
        are_pieces = content.piece at p m.complete (bytes ++ (r.run ++ m.pieces)) text bytes r.run m.pieces m.at pc (record { are_run = r.are_run; unmarked = r.unmarked }) m.are_pieces
            (near at m.at c bytes r.run r.rest offset m.offset all) refl;
        is_close = subst (λ l. ETag l m.close) (name_kept (line_ends r.run) (with_text text p) ∙ name_kept text p) m.is_close;
        goes_on = m.goes_on;
        offset = offset;
        whole = all ∙ ap (λ l. bytes ++ (r.run ++ l)) m.whole ∙ ap (λ l. bytes ++ l) (sym (append_assoc r.run m.pieces (m.close ++ m.rest))) ∙ sym (append_assoc bytes (r.run ++ m.pieces) (m.close ++ m.rest));
      }

  element_marked : (levels at : ℕ) (p e : Element) (outer : List Element) (c bytes rest : List ℕ) → at + length c ≡ N → Spells levels at e bytes
      → Running (BehindElement N t (suc levels) outer) N levels (with_kid (children.Element e) p) [] no_bracket false rest → c ≡ bytes ++ rest → Marked (BehindElement N t (suc levels) outer) N levels p c
  element_marked levels at p e outer c bytes rest offset s r w =
      let m = r.goes_on in
      let all : c ≡ bytes ++ (r.run ++ r.rest) = w ∙ ap (λ l. bytes ++ l) r.whole in
      record {
        complete = m.complete;
        pieces = bytes ++ (r.run ++ m.pieces);
        close = m.close;
        rest = m.rest;
        at = at;
        are_pieces = content.element at p m.complete e (bytes ++ (r.run ++ m.pieces)) bytes r.run m.pieces m.at s (record { are_run = r.are_run; unmarked = r.unmarked }) m.are_pieces
            (near at m.at c bytes r.run r.rest offset m.offset all) refl;
        is_close = subst (λ l. ETag l m.close) (name_kept (line_ends r.run) (with_kid (children.Element e) p)) m.is_close;
        goes_on = m.goes_on;
        offset = offset;
        whole = all ∙ ap (λ l. bytes ++ (r.run ++ l)) m.whole ∙ ap (λ l. bytes ++ l) (sym (append_assoc r.run m.pieces (m.close ++ m.rest))) ∙ sym (append_assoc bytes (r.run ++ m.pieces) (m.close ++ m.rest));
      }

  tag_marked : (levels at : ℕ) (p : Element) (outer : List Element) (c : List ℕ) (m : ℕ) (es : List Element) → at + length c ≡ N → room_at (within levels p outer) ≡ Some (m, es)
      → Tagged N t at m es c → Marked (BehindElement N t (suc levels) outer) N levels p c
  tag_marked zero at p outer c m es offset h g = absurd cc
  tag_marked (suc levels) at p outer c m es offset h g =
      let pair : (levels, p ∷ outer) ≡ (m, es) = some_is (levels, p ∷ outer) (m, es) h in
      let g2 = subst (λ (q : ℕ × List Element). Tagged N t at q.0 q.1 c) (sym pair) g in
      let o = tagged_over N t at levels (p ∷ outer) c offset g2 in
      element_marked (suc levels) at p o.element outer c o.bytes o.rest offset o.is_element o.goes_on o.is

  within_same : (levels at l : ℕ) (p e : Element) (outer es : List Element) (c : List ℕ) (Q : ℕ → Element → List Element → Type 0) → within levels p outer ≡ within l e es → Q l e es → Q levels p outer
  within_same levels at l p e outer es c Q h q =
      let i = within_is levels l p e outer es h in
      subst (λ n. Q n p outer) (sym i.0) (subst (λ f. Q l f outer) (sym i.1) (subst (λ fs. Q l e fs) (sym i.2) q))

  pub begun_marked : (levels at : ℕ) (p : Element) (outer : List Element) (c : List ℕ) → at + length c ≡ N → Begun N t at (within levels p outer) c → Marked (BehindElement N t (suc levels) outer) N levels p c
  begun_marked levels at p outer c offset b = go (within levels p outer) c b refl offset
    where
      K : Element → List ℕ → Type 0
      K = BehindElement N t (suc levels) outer

      go : (nesting : Nesting) (d : List ℕ) → Begun N t at nesting d → within levels p outer ≡ nesting → at + length d ≡ N → Marked (BehindElement N t (suc levels) outer) N levels p d
      go nesting d (a_comment _ _ bytes rest m r w) h o =
          piece_marked levels at p outer d [] bytes rest o (content.comment [] bytes m refl) (subst (λ q. Resumed N t q rest) (sym h) r) w
      go nesting d (an_instruction _ _ bytes rest m r w) h o =
          piece_marked levels at p outer d [] bytes rest o (content.instruction [] bytes m refl) (subst (λ q. Resumed N t q rest) (sym h) r) w
      go nesting d (a_section _ _ l e es raw bytes rest i s r w) h o =
          piece_marked levels at p outer d (line_ends raw) bytes rest o (content.section (line_ends raw) bytes raw s refl)
          (within_same levels at l p e outer es d (λ n f fs. Resumed N t (within n (with_text (line_ends raw) f) fs) rest) (h ∙ i) r) w
      go nesting d (a_reference _ _ l e es text bytes rest i s r w) h o =
          piece_marked levels at p outer d text bytes rest o (content.reference text bytes s)
          (within_same levels at l p e outer es d (λ n f fs. Resumed N t (within n (with_text text f) fs) rest) (h ∙ i) r) w
      go nesting d (an_end _ _ l e es bytes rest i s r w) h o =
          record {
            complete = p;
            pieces = [];
            close = bytes;
            rest = rest;
            at = at;
            are_pieces = content.nothing at p p [] refl refl;
            is_close = within_same levels at l p e outer es d (λ n f fs. ETag f.name bytes) (h ∙ i) s;
            goes_on = within_same levels at l p e outer es d (λ n f fs. BehindElement N t (suc n) fs f rest) (h ∙ i) r;
            offset = o;
            whole = w;
          }
      go nesting d (a_tag _ _ l es e bytes rest i s r w) h o =
          tag_marked levels at p outer d l es o (ap room_at h ∙ i) (record { element = e; tag = bytes; rest = rest; is_tag = s; is_end = r; is = w })
