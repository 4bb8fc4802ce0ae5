-- A text that the innermost element was given.
use Rattle.std.proofs.Common.{◌≡◌, ℕ, ◌+◌, ◌≤◌, true, List, [], ◌∷◌, ◌++◌, length, take, map, Option, Some, None, MatchOption, refl, sym, ap, ◌∙◌, subst, arith, length-append, append-nil, append_assoc, length-take}
use Rattle.std.specs.List.{All}
use Rattle.std.specs.Str.{IsUtf8}
use Rattle.std.proofs.lemmas.List.{map-append, take-append-drop}
use Rattle.std.proofs.lemmas.List.Elements.{All-append}
use Rattle.std.proofs.lemmas.Str.{IsUtf8-append}
use Rattle.pn_text.specs.Characters.{is_text}
use Rattle.pn_tree.specs.Tables.{cut, TableLists, content, kid_in, element_in, IsTextIn, IsSlotIn, AreWithin, IsPut}
use Rattle.pn_tree.specs.Changes.{HasBytes, HasNoText, IsTextTaken, joined_span, IsTextAdded}
use Rattle.pn_tree.specs.Building.{with_text, joined}
use Rattle.pn_tree.specs.Frames.{so_far, stacked, IsOpen, IsSite}
use Rattle.pn_tree.specs.declared.element.Element.{Element}
use Rattle.pn_tree.specs.declared.element.Child.TheVariants as children
use Rattle.pn_tree.specs.declared.tables.Span.{Span}
use Rattle.pn_tree.specs.declared.tables.Slot.{Slot}
use Rattle.pn_tree.specs.declared.tables.Slot.TheVariants as slots
use Rattle.pn_tree.specs.declared.tables.Node.{Node}
use Rattle.pn_tree.specs.declared.site.Site.{Site}
use Rattle.pn_tree.proofs.CutLemmas.{cut_rest, cut_push, cut_joined, all_one, all_first, all_front, all_back, all_cut, last_same}
use Rattle.pn_tree.proofs.BuildLemmas.{joined-push, joined_last-text, joined_last-element}
use Rattle.pn_tree.proofs.OpenLemmas.{text_parts}
use Rattle.pn_tree.proofs.TableLemmas.{head_grown, heads_grown, slots_grown, same_element, kids_grown, name_grown, attrs_grown, element_grown}
use Rattle.pn_tree.proofs.SiteLemmas.{put_says, put_there, bytes_grown, stacked_grown, Changed, fits_changed, of_inner}

with_text_is : (text : List ℕ) (e : Element) → (text ≡ [] → ⊥) → ◌≡◌ {A = Element} (record e { kids = joined text e.kids }) (with_text text e)
with_text_is [] e some = absurd (some refl)
with_text_is (b ∷ bs) e some = refl

joined_one : (text : List ℕ) (e : ℕ → Element) (bytes : List ℕ) (k : Slot) → ((s : Span) → k ≡ slots.Text s → ⊥)
    → joined text (kid_in e bytes k ∷ []) ≡ kid_in e bytes k ∷ children.Text text ∷ []
joined_one text e bytes (slots.Element i) none = joined_last-element text (e i)
joined_one text e bytes (slots.Text s) none = absurd (none s refl)

-- where no text stands last
joined_apart : (text : List ℕ) (e : ℕ → Element) (bytes : List ℕ) (ks : List Slot) → ((front : List Slot) (s : Span) → ks ≡ front ++ (slots.Text s ∷ []) → ⊥)
    → joined text (map (kid_in e bytes) ks) ≡ map (kid_in e bytes) ks ++ (children.Text text ∷ [])
joined_apart text e bytes [] none = refl
joined_apart text e bytes (k ∷ []) none = joined_one text e bytes k (λ s is. none [] s (ap (λ x. x ∷ []) is))
joined_apart text e bytes (k ∷ l ∷ ks) none =
    ap (λ r. kid_in e bytes k ∷ r) (joined_apart text e bytes (l ∷ ks) (λ front s is. none (k ∷ front) s (ap (λ r. k ∷ r) is)))

no_text_last : (s : Span) (ps : List Slot) → s.start ≤ s.end → s.end ≡ length ps → HasNoText s.start ps → (front : List Slot) (r : Span) → cut s ps ≡ front ++ (slots.Text r ∷ []) → ⊥
no_text_last s ps o e none front r is =
    none (take s.start ps ++ front) r
    (sym (take-append-drop s.start ps) ∙ ap (λ l. take s.start ps ++ l) (sym (cut_rest s ps e) ∙ is) ∙ sym (append_assoc (take s.start ps) front (slots.Text r ∷ [])))
    (omega (arith, length-append (take s.start ps) front, length-take s.start ps))

-- a text that now stands last
text_put : (t u : TableLists) (ps qs front a : List Slot) (outer : List Node) (f : Node) (text : List ℕ) (end : ℕ) (x : Span) → HasBytes t u → AreWithin t → IsOpen t ps outer f
    → is_text text ≡ true → (text ≡ [] → ⊥) → ps ≡ front ++ a → qs ≡ front ++ (slots.Text x ∷ []) → f.kids.start ≤ length front → IsTextIn u.bytes x → x.end ≡ length u.bytes
    → end ≡ length qs → map (kid_in (element_in 256 u) u.bytes) (cut (record { start = f.kids.start; end = end }) qs) ≡ joined text (map (kid_in (element_in 256 t) t.bytes) (cut f.kids ps))
    → Changed t u ps qs outer f (record f { kids = record { start = f.kids.start; end = end } }) (with_text text)
text_put t u ps qs front a outer f text end x h w o is some ps_is qs_is le there last e kids =
    let g = bytes_grown t u h in
    let made : Node = record f { kids = record { start = f.kids.start; end = end } } in
    let own : so_far u qs made ≡ with_text text (so_far t ps f) =
    same_element f.at (name_grown t u g f o.head) (attrs_grown t u g w.attrs f o.head) kids ∙ with_text_is text (so_far t ps f) some in
    let around : stacked u qs outer [] ≡ stacked t ps outer [] =
    stacked_grown t u g w front a (slots.Text x ∷ []) ps qs ps_is qs_is o.places 0 outer f.kids.start o.around le o.heads [] in
    let count : end ≡ length front + 1 = e ∙ ap length qs_is ∙ length-append front (slots.Text x ∷ []) in
    let kept : All (IsSlotIn t.bytes (length t.nodes)) front = all_front (IsSlotIn t.bytes (length t.nodes)) front a (subst (All (IsSlotIn t.bytes (length t.nodes))) ps_is o.places) in
    record {
      opened = record {
        places =
            subst (All (IsSlotIn u.bytes (length u.nodes))) (sym qs_is)
            (All-append (IsSlotIn u.bytes (length u.nodes)) front (slots.Text x ∷ []) (slots_grown t u g front kept) (all_one (IsSlotIn u.bytes (length u.nodes)) (slots.Text x) there));
        heads = heads_grown t u g outer o.heads;
        head = record { name = (head_grown t u g f o.head).name; attrs = (head_grown t u g f o.head).attrs };
        around = o.around;
        ordered = omega (arith, le, count);
        whole = e;
        attrs_last = λ (empty : f.kids.start ≡ end). absurd (omega (arith, le, count, empty));
        text_last = λ fr s s_is s_le.
            let same : slots.Text x ≡ slots.Text s = last_same front fr (slots.Text x) (slots.Text s) (sym qs_is ∙ s_is) in let spans : x ≡ s = cc in sym (ap (λ (r : Span). r.end) spans) ∙ last;
        fits = fits_changed t u ps qs outer f made (with_text text) own around (λ k p. text_parts k (so_far t ps f) text is p) o.fits;
      };
      own = own;
      around = around;
    }

text_apart : (t u : TableLists) (ps qs : List Slot) (outer : List Node) (f : Node) (text : List ℕ) (end : ℕ) (x : Span) → HasBytes t u → AreWithin t → IsOpen t ps outer f
    → is_text text ≡ true → (text ≡ [] → ⊥) → IsPut t.bytes u.bytes text x → HasNoText f.kids.start ps → qs ≡ ps ++ (slots.Text x ∷ []) → end ≡ length qs
    → Changed t u ps qs outer f (record f { kids = record { start = f.kids.start; end = end } }) (with_text text)
text_apart t u ps qs outer f text end x h w o is some put none qs_is e =
    let g = bytes_grown t u h in
    let new : Span = record { start = f.kids.start; end = end } in
    let count : end ≡ length ps + 1 = e ∙ ap length qs_is ∙ length-append ps (slots.Text x ∷ []) in
    let kids : map (kid_in (element_in 256 u) u.bytes) (cut new qs) ≡ joined text (map (kid_in (element_in 256 t) t.bytes) (cut f.kids ps)) =
    ap (λ l. map (kid_in (element_in 256 u) u.bytes) (cut new l)) qs_is
    ∙ ap (map (kid_in (element_in 256 u) u.bytes)) (cut_push f.kids new ps (slots.Text x) o.ordered o.whole refl count)
    ∙ map-append (kid_in (element_in 256 u) u.bytes) (cut f.kids ps) (slots.Text x ∷ [])
    ∙ ap (λ b. map (kid_in (element_in 256 u) u.bytes) (cut f.kids ps) ++ (children.Text b ∷ [])) (put_says t.bytes u.bytes text x put)
    ∙ ap (λ l. l ++ (children.Text text ∷ []))
    (kids_grown (element_in 256 u) (element_in 256 t) t u g (λ i lt. element_grown 256 t u g w i lt) (cut f.kids ps) (cut f.kids ps) refl
    (all_cut (IsSlotIn t.bytes (length t.nodes)) f.kids ps o.places))
    ∙ sym (joined_apart text (element_in 256 t) t.bytes (cut f.kids ps) (no_text_last f.kids ps o.ordered o.whole none)) in
    text_put t u ps qs ps [] outer f text end x h w o is some (sym (append-nil ps)) qs_is (omega (arith, o.ordered, o.whole)) (put_there t.bytes u.bytes text x put) put.last e kids

text_joined : (t u : TableLists) (ps qs front : List Slot) (outer : List Node) (f : Node) (text : List ℕ) (end : ℕ) (s y : Span) → HasBytes t u → AreWithin t → IsOpen t ps outer f
    → is_text text ≡ true → (text ≡ [] → ⊥) → IsPut t.bytes u.bytes text y → ps ≡ front ++ (slots.Text s ∷ []) → f.kids.start ≤ length front
    → qs ≡ front ++ (slots.Text (joined_span (Some s) y) ∷ []) → end ≡ length qs
    → Changed t u ps qs outer f (record f { kids = record { start = f.kids.start; end = end } }) (with_text text)
text_joined t u ps qs front outer f text end s y h w o is some put ps_is le qs_is e =
    let g = bytes_grown t u h in
    let x : Span = joined_span (Some s) y in
    let new : Span = record { start = f.kids.start; end = end } in
    let own : Span = record { start = f.kids.start; end = length front } in
    let count : end ≡ length front + 1 = e ∙ ap length qs_is ∙ length-append front (slots.Text x ∷ []) in
    let counted : f.kids.end ≡ length front + 1 = o.whole ∙ ap length ps_is ∙ length-append front (slots.Text s ∷ []) in
    let all : All (IsSlotIn t.bytes (length t.nodes)) (front ++ (slots.Text s ∷ [])) = subst (All (IsSlotIn t.bytes (length t.nodes))) ps_is o.places in
    let there : IsTextIn t.bytes s = all_first (IsSlotIn t.bytes (length t.nodes)) (slots.Text s) [] (all_back (IsSlotIn t.bytes (length t.nodes)) front (slots.Text s ∷ []) all) in
    let ends : s.end ≡ length t.bytes = o.text_last front s ps_is le in
    let says : cut x u.bytes ≡ cut s t.bytes ++ text =
    ap (cut x) put.bytes ∙ cut_joined s x t.bytes text there.span.ordered ends refl (put.last ∙ ap length put.bytes) in
    let valid : IsTextIn u.bytes x = record {
      span = record {
        ordered = omega (arith, there.span.ordered, ends, put.last, ap length put.bytes, length-append t.bytes text);
        within = omega (arith, put.last);
      };
      utf8 = subst IsUtf8 (sym says) (IsUtf8-append (cut s t.bytes) text there.utf8 put.utf8);
    } in
    let kid_t = kid_in (element_in 256 t) t.bytes in
    let kid_u = kid_in (element_in 256 u) u.bytes in
    let old : joined text (map kid_t (cut f.kids ps)) ≡ map kid_t (cut own front) ++ (children.Text (cut s t.bytes ++ text) ∷ []) =
    ap (λ l. joined text (map kid_t (cut f.kids l))) ps_is
    ∙ ap (λ l. joined text (map kid_t l)) (cut_push own f.kids front (slots.Text s) le refl refl counted)
    ∙ ap (joined text) (map-append kid_t (cut own front) (slots.Text s ∷ []))
    ∙ joined-push text (map kid_t (cut own front)) (children.Text (cut s t.bytes))
    ∙ ap (λ l. map kid_t (cut own front) ++ l) (joined_last-text text (cut s t.bytes)) in
    let kids : map kid_u (cut new qs) ≡ joined text (map kid_t (cut f.kids ps)) =
    ap (λ l. map kid_u (cut new l)) qs_is
    ∙ ap (map kid_u) (cut_push own new front (slots.Text x) le refl refl count)
    ∙ map-append kid_u (cut own front) (slots.Text x ∷ [])
    ∙ ap (λ b. map kid_u (cut own front) ++ (children.Text b ∷ [])) says
    ∙ ap (λ l. l ++ (children.Text (cut s t.bytes ++ text) ∷ []))
    (kids_grown (element_in 256 u) (element_in 256 t) t u g (λ i lt. element_grown 256 t u g w i lt) (cut own front) (cut own front) refl
    (all_cut (IsSlotIn t.bytes (length t.nodes)) own front (all_front (IsSlotIn t.bytes (length t.nodes)) front (slots.Text s ∷ []) all)))
    ∙ sym old in
    text_put t u ps qs front (slots.Text s ∷ []) outer f text end x h w o is some ps_is qs_is le valid put.last e kids

pub text_changed : (t u : TableLists) (ps qs : List Slot) (outer : List Node) (f : Node) (text : List ℕ) (end : ℕ) → HasBytes t u → AreWithin t → IsOpen t ps outer f
    → is_text text ≡ true → (text ≡ [] → ⊥) → IsTextAdded f.kids.start t u ps qs text → end ≡ length qs
    → Changed t u ps qs outer f (record f { kids = record { start = f.kids.start; end = end } }) (with_text text)
text_changed t u ps qs outer f text end h w o is some added e = by added.placed.last added.placed.front added.placed.taken added.placed.placed
  where
    by : (last : Option Span) (front : List Slot) → MatchOption last ((front ≡ ps) × HasNoText f.kids.start ps) (IsTextTaken f.kids.start ps front)
        → qs ≡ front ++ (slots.Text (joined_span last added.span) ∷ []) → Changed t u ps qs outer f (record f { kids = record { start = f.kids.start; end = end } }) (with_text text)
    by None front taken qs_is =
        text_apart t u ps qs outer f text end added.span h w o is some added.put taken.1 (qs_is ∙ ap (λ l. l ++ (slots.Text added.span ∷ [])) taken.0) e
    by (Some s) front taken qs_is = text_joined t u ps qs front outer f text end s added.span h w o is some added.put taken.0 taken.1 qs_is e

pub text_at : (s : Site) (u : TableLists) (qs : List Slot) (f : Node) (text : List ℕ) (end : ℕ) → HasBytes (content s.tables) u → IsSite s → s.inner ≡ Some f
    → is_text text ≡ true → (text ≡ [] → ⊥) → IsTextAdded f.kids.start (content s.tables) u s.pending.items qs text → end ≡ length qs
    → Changed (content s.tables) u s.pending.items qs s.outer.items f (record f { kids = record { start = f.kids.start; end = end } }) (with_text text)
text_at s u qs f text end h k is t some added e =
    text_changed (content s.tables) u s.pending.items qs s.outer.items f text end h k.tables
    (of_inner s.inner f (IsOpen (content s.tables) s.pending.items s.outer.items) is k.opened) t some added e
