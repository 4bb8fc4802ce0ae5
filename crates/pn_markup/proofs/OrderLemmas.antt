-- The offsets in the tree of a document rise.
use Rattle.std.proofs.Common.{◌≡◌, ℕ, zero, suc, ◌+◌, ◌≤◌, List, [], ◌∷◌, ◌++◌, codes, length, refl, sym, ap, ◌∙◌, subst, append-nil, length-append, arith}
use Rattle.std.specs.List.{flat_map}
use Rattle.std.proofs.lemmas.Grind.{flat_map-append}
use Rattle.pn_tree.specs.Building.{with_attr, with_text, with_kid, joined, joined_last}
use Rattle.pn_tree.specs.declared.element.Element.{Element}
use Rattle.pn_tree.specs.declared.element.Child.{Child}
use Rattle.pn_tree.specs.declared.element.Child.TheOpen as layer
use Rattle.pn_tree.specs.declared.element.Child.TheVariants as children
use Rattle.pn_tree.specs.declared.element.Child.TheVariants.{rolls-Text}
use Rattle.pn_tree.specs.declared.element.Child.TheViews.{out-Child, roll-Child, roll-out-Child}
use Rattle.pn_markup.specs.Bytes.{line_ends}
use Rattle.pn_markup.specs.Content.{ContentPieces, nothing, piece, element, Content, ElementOver, empty, whole, Spells}
use Rattle.pn_markup.specs.Document.{IsDocument}
use Rattle.pn_markup.specs.Offsets.{offsets_of, kid_offsets, AreRising, HasRisingOffsets}
use Rattle.pn_markup.specs.Tags.{Attributes, none, more, named, Tag}
use Rattle.pn_markup.proofs.OffsetLemmas.{offsets_are, kid_offsets-element, kid_offsets-text}

-- numbers rise from one to below another
Between : ℕ → List ℕ → ℕ → Type 0
Between low [] high = low ≤ high
Between low (n ∷ ns) high = (low ≤ n) × Between (suc n) ns high

between_from : (low least : ℕ) (ns : List ℕ) (high : ℕ) → least ≤ low → Between low ns high → Between least ns high
unfolding Between
between_from low least [] high le p = omega arith
between_from low least (n ∷ ns) high le p = (omega (arith, p.0), p.1)

between_to : (low : ℕ) (ns : List ℕ) (high most : ℕ) → high ≤ most → Between low ns high → Between low ns most
unfolding Between
between_to low [] high most le p = omega arith
between_to low (n ∷ ns) high most le p = (p.0, between_to (suc n) ns high most le p.1)

between-append : (low : ℕ) (ns : List ℕ) (middle : ℕ) (ms : List ℕ) (high : ℕ) → Between low ns middle → Between middle ms high → Between low (ns ++ ms) high
unfolding Between
between-append low [] middle ms high p q = between_from middle low ms high p q
between-append low (n ∷ ns) middle ms high p q = (p.0, between-append (suc n) ns middle ms high p.1 q)

between_rising : (low : ℕ) (ns : List ℕ) (high : ℕ) → Between low ns high → AreRising ns
unfolding Between
between_rising low [] high p = tt
between_rising low (n ∷ []) high p = tt
between_rising low (n ∷ m ∷ ns) high p = (omega (arith, p.1.0), between_rising (suc n) (m ∷ ns) high p.1)

-- what an element is given

text_offsets : (k : Child) (t : List ℕ) → out-Child k ≡ layer.Text t → kid_offsets k ≡ []
text_offsets k t is = ap kid_offsets (sym (roll-out-Child k) ∙ ap roll-Child is ∙ rolls-Text t) ∙ kid_offsets-text t

last_offsets : (text : List ℕ) (k : Child) (l : layer.Child-F Child Element) → out-Child k ≡ l → flat_map kid_offsets (joined_last text k l) ≡ kid_offsets k ++ []
last_offsets text k (layer.Element e) is = ap (λ l. kid_offsets k ++ (l ++ [])) (kid_offsets-text text)
last_offsets text k (layer.Text t) is = ap (λ l. l ++ []) (kid_offsets-text (t ++ text) ∙ sym (text_offsets k t is))

joined_offsets : (text : List ℕ) (ks : List Child) → flat_map kid_offsets (joined text ks) ≡ flat_map kid_offsets ks
joined_offsets text [] = ap (λ l. l ++ []) (kid_offsets-text text)
joined_offsets text (k ∷ []) = last_offsets text k (out-Child k) refl
joined_offsets text (k ∷ l ∷ ks) = ap (λ m. kid_offsets k ++ m) (joined_offsets text (l ∷ ks))

with_text_offsets : (t : List ℕ) (e : Element) → flat_map kid_offsets (with_text t e).kids ≡ flat_map kid_offsets e.kids
with_text_offsets [] e = refl
with_text_offsets (b ∷ bs) e = joined_offsets (b ∷ bs) e.kids

with_kid_offsets : (k e : Element) → flat_map kid_offsets (with_kid (children.Element k) e).kids ≡ flat_map kid_offsets e.kids ++ offsets_of k
with_kid_offsets k e =
    flat_map-append kid_offsets e.kids (children.Element k ∷ [])
    ∙ ap (λ l. flat_map kid_offsets e.kids ++ l) (append-nil (kid_offsets (children.Element k)) ∙ kid_offsets-element k)

with_text_at : (t : List ℕ) (e : Element) → (with_text t e).at ≡ e.at
with_text_at [] e = refl
with_text_at (b ∷ bs) e = refl

-- tags

record Untouched (so_far complete : Element) : Type 0 where
  at : complete.at ≡ so_far.at
  kids : complete.kids ≡ so_far.kids

attributes_untouched : (so_far complete : Element) (b : List ℕ) → Attributes so_far complete b → Untouched so_far complete
attributes_untouched so_far complete b (none _ _ _ is space) = record { at = ap (λ (e : Element). e.at) is; kids = ap (λ (e : Element). e.kids) is }
attributes_untouched so_far complete b (more _ _ _ space name value bytes rest s a new later is) =
    let u = attributes_untouched (with_attr name value so_far) complete rest later in record { at = u.at; kids = u.kids }

tag_untouched : (at : ℕ) (e : Element) (b : List ℕ) → Tag at e b → (e.at ≡ at) × (e.kids ≡ [])
tag_untouched at e b t = let u = attributes_untouched (named t.name at) e t.attributes t.are_attributes in (u.at, u.kids)

-- content

module _ (S : ℕ → Element → List ℕ → Type 0) (rise : (at : ℕ) (e : Element) (b : List ℕ) → S at e b → Between at (offsets_of e) (at + length b)) (low : ℕ) where
  Reached : Element → ℕ → Type 0
  Reached e at = Between low (flat_map kid_offsets e.kids) at

  pieces_reach : (at : ℕ) (so_far complete : Element) (b : List ℕ) → ContentPieces S at so_far complete b → Reached so_far at → Reached complete (at + length b)
  unfolding Reached
  pieces_reach at so_far complete b (nothing _ _ _ _ same is) p =
      between_to low (flat_map kid_offsets complete.kids) at (at + length b) (omega arith)
      (subst (λ (e : Element). Between low (flat_map kid_offsets e.kids) at) (sym same) p)
  pieces_reach at so_far complete b (piece _ _ _ _ text bytes run rest next q r later offset is) p =
      let given = with_text (line_ends run) (with_text text so_far) in
      let same : flat_map kid_offsets given.kids ≡ flat_map kid_offsets so_far.kids = with_text_offsets (line_ends run) (with_text text so_far) ∙ with_text_offsets text so_far in
      let here : Between low (flat_map kid_offsets given.kids) next =
      subst (λ l. Between low l next) (sym same) (between_to low (flat_map kid_offsets so_far.kids) at next (omega arith) p) in
      let size : length b ≡ length bytes + (length run + length rest) = ap length is ∙ length-append bytes (run ++ rest) ∙ ap (λ n. length bytes + n) (length-append run rest) in
      between_to low (flat_map kid_offsets complete.kids) (next + length rest) (at + length b) (omega arith) (pieces_reach next given complete rest later here)
  pieces_reach at so_far complete b (element _ _ _ e _ bytes run rest next s r later offset is) p =
      let given = with_text (line_ends run) (with_kid (children.Element e) so_far) in
      let same : flat_map kid_offsets given.kids ≡ flat_map kid_offsets so_far.kids ++ offsets_of e =
      with_text_offsets (line_ends run) (with_kid (children.Element e) so_far) ∙ with_kid_offsets e so_far in
      let both = between-append low (flat_map kid_offsets so_far.kids) at (offsets_of e) (at + length bytes) p (rise at e bytes s) in
      let here : Between low (flat_map kid_offsets given.kids) next =
      subst (λ l. Between low l next) (sym same) (between_to low (flat_map kid_offsets so_far.kids ++ offsets_of e) (at + length bytes) next (omega arith) both) in
      let size : length b ≡ length bytes + (length run + length rest) = ap length is ∙ length-append bytes (run ++ rest) ∙ ap (λ n. length bytes + n) (length-append run rest) in
      between_to low (flat_map kid_offsets complete.kids) (next + length rest) (at + length b) (omega arith) (pieces_reach next given complete rest later here)

  content_reach : (at : ℕ) (so_far complete : Element) (b : List ℕ) → Content S at so_far complete b → Reached so_far at → Reached complete (at + length b)
  unfolding Reached
  content_reach at so_far complete b c p =
      let given = with_text (line_ends c.run) so_far in
      let start : c.next ≡ at + length c.run = c.offset in
      let here : Between low (flat_map kid_offsets given.kids) c.next =
      subst (λ l. Between low l c.next) (sym (with_text_offsets (line_ends c.run) so_far)) (between_to low (flat_map kid_offsets so_far.kids) at c.next (omega arith) p) in
      let size : length b ≡ length c.run + length c.rest = ap length c.whole ∙ length-append c.run c.rest in
      between_to low (flat_map kid_offsets complete.kids) (c.next + length c.rest) (at + length b) (omega arith) (pieces_reach c.next given complete c.rest c.are_pieces here)

pieces_at : (S : ℕ → Element → List ℕ → Type 0) (at : ℕ) (so_far complete : Element) (b : List ℕ) → ContentPieces S at so_far complete b → complete.at ≡ so_far.at
pieces_at S at so_far complete b (nothing _ _ _ _ same is) = ap (λ (e : Element). e.at) same
pieces_at S at so_far complete b (piece _ _ _ _ text bytes run rest next q r later offset is) =
    pieces_at S next (with_text (line_ends run) (with_text text so_far)) complete rest later ∙ with_text_at (line_ends run) (with_text text so_far) ∙ with_text_at text so_far
pieces_at S at so_far complete b (element _ _ _ e _ bytes run rest next s r later offset is) =
    pieces_at S next (with_text (line_ends run) (with_kid (children.Element e) so_far)) complete rest later ∙ with_text_at (line_ends run) (with_kid (children.Element e) so_far)

-- elements

element_rises : (S : ℕ → Element → List ℕ → Type 0) → ((at : ℕ) (e : Element) (b : List ℕ) → S at e b → Between at (offsets_of e) (at + length b)) → (at : ℕ) (e : Element) (b : List ℕ)
    → ElementOver S at e b → Between at (offsets_of e) (at + length b)
unfolding Between Reached
element_rises S rise at e b (empty _ _ _ tag t is) =
    let u = tag_untouched at e tag t in
    let size : length b ≡ length tag + 2 = ap length is ∙ length-append tag (codes "/>") in
    subst (λ l. Between at l (at + length b)) (sym (offsets_are e ∙ ap (λ n. n ∷ flat_map kid_offsets e.kids) u.0 ∙ ap (λ (ks : List Child). at ∷ flat_map kid_offsets ks) u.1))
    (omega arith, omega arith)
element_rises S rise at e b (whole _ _ started _ tag inner close next t c etag offset is) =
    let u = tag_untouched at started tag t in
    let size : length b ≡ length tag + suc (length inner + length close) = ap length is ∙ length-append tag (62 ∷ (inner ++ close)) ∙ ap (λ n. length tag + suc n) (length-append inner close) in
    let begun : Between (suc at) (flat_map kid_offsets started.kids) next = subst (λ (ks : List Child). Between (suc at) (flat_map kid_offsets ks) next) (sym u.1) (omega arith) in
    let kids : Between (suc at) (flat_map kid_offsets e.kids) (next + length inner) = content_reach S rise (suc at) next started e inner c begun in
    let same : e.at ≡ at = pieces_at S c.next (with_text (line_ends c.run) started) e c.rest c.are_pieces ∙ with_text_at (line_ends c.run) started ∙ u.0 in
    subst (λ l. Between at l (at + length b)) (sym (offsets_are e ∙ ap (λ n. n ∷ flat_map kid_offsets e.kids) same))
    (omega arith, between_to (suc at) (flat_map kid_offsets e.kids) (next + length inner) (at + length b) (omega arith) kids)

spelled_rises : (n at : ℕ) (e : Element) (b : List ℕ) → Spells n at e b → Between at (offsets_of e) (at + length b)
spelled_rises zero at e b s = absurd s
spelled_rises (suc n) at e b s = element_rises (Spells n) (λ at x bytes. spelled_rises n at x bytes) at e b s

-- the offsets in the tree of a document rise
pub document_rises : (t : Element) (b : List ℕ) → IsDocument t b → HasRisingOffsets t
document_rises t b d =
    let m = d.markup in between_rising (length m.prolog) (offsets_of t) (length m.prolog + length m.root) (spelled_rises 256 (length m.prolog) t m.root m.is_root)
