-- Elements in the grammar, and a tag with what follows it.
use Rattle.std.proofs.Common.{◌≡◌, ℕ, suc, ◌+◌, false, List, [], ◌∷◌, ◌++◌, codes, length, refl, sym, ap, ◌∙◌, subst, append_assoc, arith, length-append}
use Rattle.pn_tree.specs.Building.{with_text}
use Rattle.pn_markup.specs.Bytes.{line_ends}
use Rattle.pn_markup.specs.Tags.{Tag, ETag}
use Rattle.pn_markup.specs.Content.{CharData, ContentPieces, Content, ElementOver, empty, whole, Spells}
use Rattle.pn_tree.specs.declared.element.Element.{Element}
use Rattle.pn_scan.specs.State.{no_bracket}
use Rattle.pn_scan.specs.Rest.{Running, BehindElement, TagEnd, opens, closes_empty}

pub name_kept : (text : List ℕ) (e : Element) → (with_text text e).name ≡ e.name
name_kept [] e = refl
name_kept (x ∷ xs) e = refl

-- a run and the pieces behind it
pub pieces_running : (K : Element → List ℕ → Type 0) (N levels : ℕ) (p complete : Element) (run pieces close rest : List ℕ) (next : ℕ) → CharData run
    → ContentPieces (Spells levels) next (with_text (line_ends run) p) complete pieces → ETag p.name close → K complete rest → next + length (pieces ++ (close ++ rest)) ≡ N
    → Running K N levels p [] no_bracket false (run ++ (pieces ++ (close ++ rest)))
pieces_running K N levels p complete run pieces close rest next r i c k offset =
    record {
      run = run;
      rest = pieces ++ (close ++ rest);
      are_run = r.are_run;
      unmarked = r.unmarked;
      goes_on = record { complete = complete; pieces = pieces; close = close; rest = rest; at = next; are_pieces = i; is_close = with_name; goes_on = k; offset = offset; whole = refl };
      whole = refl;
    }
  where
    with_name : ETag (with_text (line_ends run) p).name close
    with_name = subst (λ l. ETag l close) (sym (name_kept (line_ends run) p)) c

-- a tag and what follows it
pub record Tagged (N : ℕ) (t : Element) (at levels : ℕ) (outer : List Element) (c : List ℕ) : Type 0 where
  pub element : Element
  pub tag : List ℕ
  pub rest : List ℕ
  pub is_tag : Tag at element tag
  pub is_end : TagEnd N t levels outer element rest
  pub is : c ≡ tag ++ rest

-- an element and what follows it
pub record Over (N : ℕ) (t : Element) (at levels : ℕ) (outer : List Element) (c : List ℕ) : Type 0 where
  pub element : Element
  pub bytes : List ℕ
  pub rest : List ℕ
  pub is_element : ElementOver (Spells levels) at element bytes
  pub goes_on : BehindElement N t (suc levels) outer element rest
  pub is : c ≡ bytes ++ rest

pub over_tagged : (N : ℕ) (t : Element) (at levels : ℕ) (outer : List Element) (c : List ℕ) → at + length c ≡ N → Over N t at levels outer c → Tagged N t at levels outer c
over_tagged N t at levels outer c offset o = go o.element o.bytes o.is_element o.goes_on o.is
  where
    go : (e : Element) (bytes : List ℕ) → ElementOver (Spells levels) at e bytes → BehindElement N t (suc levels) outer e o.rest → c ≡ bytes ++ o.rest → Tagged N t at levels outer c
    go e bytes (empty _ _ _ tag is_tag w) k is =
        record { element = e; tag = tag; rest = codes "/>" ++ o.rest; is_tag = is_tag; is_end = closes_empty o.rest k refl; is = is ∙ ap (λ l. l ++ o.rest) w ∙ append_assoc tag (codes "/>") o.rest }
    go e bytes (whole _ _ started _ tag inner close next is_tag content is_close n w) k is =
        let all : c ≡ tag ++ (62 ∷ (content.run ++ (content.rest ++ (close ++ o.rest)))) =
        is ∙ ap (λ l. l ++ o.rest) (w ∙ ap (λ l. tag ++ (62 ∷ (l ++ close))) content.whole) ∙ append_assoc tag (62 ∷ ((content.run ++ content.rest) ++ close)) o.rest
        ∙ ap (λ l. tag ++ (62 ∷ l)) (append_assoc (content.run ++ content.rest) close o.rest ∙ append_assoc content.run content.rest (close ++ o.rest)) in
        let long : length c ≡ length tag + suc (length content.run + length (content.rest ++ (close ++ o.rest))) =
        ap length all ∙ length-append tag (62 ∷ (content.run ++ (content.rest ++ (close ++ o.rest)))) ∙ ap (λ n. length tag + suc n) (length-append content.run (content.rest ++ (close ++ o.rest))) in
        record {
          element = started;
          tag = tag;
          rest = 62 ∷ (content.run ++ (content.rest ++ (close ++ o.rest)));
          is_tag = is_tag;
          is_end = opens (content.run ++ (content.rest ++ (close ++ o.rest)))
              (pieces_running (BehindElement N t (suc levels) outer) N levels started e content.run content.rest close o.rest content.next content.is_run content.are_pieces is_close k
              (omega (arith, content.offset, n, offset, long))) refl;
          is = all;
        }

pub tagged_over : (N : ℕ) (t : Element) (at levels : ℕ) (outer : List Element) (c : List ℕ) → at + length c ≡ N → Tagged N t at levels outer c → Over N t at levels outer c
tagged_over N t at levels outer c offset g = go g.rest g.is_end g.is
  where
    go : (rest : List ℕ) → TagEnd N t levels outer g.element rest → c ≡ g.tag ++ rest → Over N t at levels outer c
    go rest (closes_empty after k w) is =
        record {
          element = g.element;
          bytes = g.tag ++ codes "/>";
          rest = after;
          is_element = empty at g.element (g.tag ++ codes "/>") g.tag g.is_tag refl;
          goes_on = k;
          is = is ∙ ap (λ l. g.tag ++ l) w ∙ sym (append_assoc g.tag (codes "/>") after);
        }
    go rest (opens after r w) is =
        let m = r.goes_on in
        let inner = r.run ++ m.pieces in
        let bytes = g.tag ++ (62 ∷ (inner ++ m.close)) in
        let all : c ≡ g.tag ++ (62 ∷ (r.run ++ (m.pieces ++ (m.close ++ m.rest)))) = is ∙ ap (λ l. g.tag ++ l) (w ∙ ap (λ l. 62 ∷ l) (r.whole ∙ ap (λ l. r.run ++ l) m.whole)) in
        let long : length c ≡ length g.tag + suc (length r.run + length r.rest) =
        ap length (is ∙ ap (λ l. g.tag ++ l) (w ∙ ap (λ l. 62 ∷ l) r.whole)) ∙ length-append g.tag (62 ∷ (r.run ++ r.rest)) ∙ ap (λ n. length g.tag + suc n) (length-append r.run r.rest) in
        let content : Content (Spells levels) (at + length g.tag + 1) g.element m.complete inner =
        record {
          run = r.run;
          rest = m.pieces;
          next = m.at;
          is_run = record { are_run = r.are_run; unmarked = r.unmarked };
          are_pieces = m.are_pieces;
          offset = omega (arith, m.offset, offset, long);
          whole = refl;
        } in
        record {
          element = m.complete;
          bytes = bytes;
          rest = m.rest;
          is_element = whole at m.complete g.element bytes g.tag inner m.close (at + length g.tag + 1) g.is_tag content (subst (λ l. ETag l m.close) (name_kept (line_ends r.run) g.element) m.is_close) refl refl;
          goes_on = m.goes_on;
          is = all ∙ ap (λ l. g.tag ++ (62 ∷ l)) (sym (append_assoc r.run m.pieces (m.close ++ m.rest)) ∙ sym (append_assoc inner m.close m.rest)) ∙ sym (append_assoc g.tag (62 ∷ (inner ++ m.close)) m.rest);
        }
