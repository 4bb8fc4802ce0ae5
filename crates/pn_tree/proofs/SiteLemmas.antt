-- What a builder's calls make of its tables and its open elements.
use Rattle.std.proofs.Common.{◌≡◌, ℕ, suc, ◌+◌, ◌^◌, ◌<◌, ◌≤◌, true, List, [], ◌∷◌, ◌++◌, length, drop, map, Option, Some, None, IfSome, refl, sym, ap, ◌∙◌, subst, arith, length-append, append-nil, append_assoc, length-drop}
use Rattle.std.specs.List.{All}
use Rattle.std.specs.Option.{option_map}
use Rattle.std.specs.Str.{IsUtf8}
use Rattle.std.specs.Vec.{vec_len}
use Rattle.pn_text.specs.Characters.{is_name, is_text}
use Rattle.std.proofs.lemmas.List.{length-map, map-append}
use Rattle.pn_tree.specs.Tables.{cut, TableLists, attr_in, kid_in, element_in, IsSpan, IsTextIn, IsPairIn, IsSlotIn, IsHeadIn, IsNodeIn, AreWithin, HaveGrown, IsPut}
use Rattle.pn_tree.specs.Changes.{HasBytes, IsPairPut, HasAttr}
use Rattle.pn_tree.specs.Building.{Building, innermost, at_innermost, with_attr}
use Rattle.pn_tree.specs.Elements.{attr_value}
use Rattle.pn_tree.specs.Frames.{so_far, stacked, all_open, are_open, AreSideBySide, IsOpen, HasSpare, IsRoot, IsSite, built}
use Rattle.pn_tree.specs.declared.element.Element.{Element}
use Rattle.pn_tree.specs.declared.tables.Span.{Span}
use Rattle.pn_tree.specs.declared.tables.Pair.{Pair}
use Rattle.pn_tree.specs.declared.tables.Slot.{Slot}
use Rattle.pn_tree.specs.declared.tables.Slot.TheVariants as slots
use Rattle.pn_tree.specs.declared.tables.Node.{Node}
use Rattle.pn_tree.specs.declared.tables.Tables.{Tables}
use Rattle.pn_tree.specs.declared.site.Site.{Site}
use Rattle.pn_tree.specs.Packed.{SlotList, NodeList}
use Rattle.pn_tree.specs.Tables.{content}
use Rattle.pn_tree.proofs.CutLemmas.{cut_more, cut_rest, cut_last, cut_push, all_one, all_none, all_first, all_others, all_cut}
use Rattle.pn_tree.proofs.TreeLemmas.{Parts}
use Rattle.pn_tree.proofs.OpenLemmas.{open_changed, attr_parts}
use Rattle.pn_tree.proofs.TableLemmas.{text_more, text_grown, heads_grown, slots_grown, within_more, same_element, attrs_same, kids_grown, name_grown, made_grown, element_grown, root_grown, root_same}

-- bytes

pub put_says : (old new text : List ℕ) (s : Span) → IsPut old new text s → cut s new ≡ text
put_says old new text s p = ap (cut s) p.bytes ∙ cut_last s old text p.first (p.last ∙ ap length p.bytes)

pub put_there : (old new text : List ℕ) (s : Span) → IsPut old new text s → IsTextIn new s
put_there old new text s p = record {
  span = record { ordered = omega (arith, p.first, p.last, ap length p.bytes, length-append old text); within = omega (arith, p.last) };
  utf8 = subst IsUtf8 (sym (put_says old new text s p)) p.utf8;
}

abbrev pub bytes_grown : (t u : TableLists) → HasBytes t u → HaveGrown t u
bytes_grown t u h = record {
  bytes = h.bytes;
  attrs = ([], h.attrs ∙ sym (append-nil t.attrs));
  kids = ([], h.kids ∙ sym (append-nil t.kids));
  nodes = ([], h.nodes ∙ sym (append-nil t.nodes));
}

pub bytes_within : (t u : TableLists) → HasBytes t u → AreWithin t → AreWithin u
bytes_within t u h w =
    within_more t u (bytes_grown t u h) w (all_none (IsPairIn u.bytes)) (all_none (IsSlotIn u.bytes (length u.nodes))) (all_none (IsNodeIn u))

-- there is no open element
pub none_open : (new : Site) → new.inner ≡ None → AreWithin (content new.tables) → IfSome new.root (IsRoot (content new.tables)) → IsSite new
none_open new none w r = record {
  tables = w;
  root = r;
  opened = subst (λ i. IfSome i (IsOpen (content new.tables) new.pending.items new.outer.items)) (sym none) tt;
  room = subst (λ i. IfSome i (λ _. HasSpare (suc (vec_len new.outer)) (suc (vec_len new.outer)) new.tables new.pending)) (sym none) tt;
}

-- a call failed
pub failed : (old new : Site) → new.inner ≡ None → new.root ≡ old.root → HasBytes (content old.tables) (content new.tables) → IsSite old → IsSite new
failed old new none same h k =
    none_open new none (bytes_within (content old.tables) (content new.tables) h k.tables)
    (subst (λ r. IfSome r (IsRoot (content new.tables))) (sym same)
    (root_grown (content old.tables) (content new.tables) (bytes_grown (content old.tables) (content new.tables) h) k.tables old.root k.root))

-- what holds where there is an innermost element holds of it
pub of_inner : (i : Option Node) (f : Node) (P : Node → Type 0) → i ≡ Some f → IfSome i P → P f
of_inner i f P is h = subst (λ j. IfSome j P) is h

-- the open elements around the innermost one

pub side_le : (low : ℕ) (fs : List Node) (high : ℕ) → AreSideBySide low fs high → low ≤ high
side_le low [] high h = omega (arith, h)
side_le low (f ∷ fs) high h = omega (arith, h.1, side_le f.kids.end fs high h.2)

pub side_push : (low : ℕ) (fs : List Node) (high : ℕ) (f : Node) → AreSideBySide low fs high → f.kids.start ≡ high → high ≤ f.kids.end → AreSideBySide low (fs ++ (f ∷ [])) f.kids.end
side_push low [] high f h is le = (is ∙ sym h, omega (arith, h, le), refl)
side_push low (g ∷ fs) high f h is le = (h.0, h.1, side_push g.kids.end fs high f h.2 is le)

-- the last one of them ends where the rest begins
pub record SideLast (low : ℕ) (fs : List Node) (f : Node) (high : ℕ) : Type 0 where
  pub around : AreSideBySide low fs f.kids.start
  pub ordered : f.kids.start ≤ f.kids.end
  pub ends : f.kids.end ≡ high

pub side_last : (low : ℕ) (fs : List Node) (f : Node) (high : ℕ) → AreSideBySide low (fs ++ (f ∷ [])) high → SideLast low fs f high
side_last low [] f high h = record { around = sym h.0; ordered = omega (arith, h.0, h.1); ends = h.2 }
side_last low (g ∷ fs) f high h =
    let r = side_last g.kids.end fs f high h.2 in record { around = (h.0, h.1, r.around); ordered = r.ordered; ends = r.ends }

pub stacked-push : (t : TableLists) (ps : List Slot) (fs : List Node) (f : Node) (es : List Element) → stacked t ps (fs ++ (f ∷ [])) es ≡ so_far t ps f ∷ stacked t ps fs es
stacked-push t ps [] f es = refl
stacked-push t ps (g ∷ fs) f es = stacked-push t ps fs f (so_far t ps g ∷ es)

cut_front : (s : Span) (front a b ps qs : List Slot) → IsSpan (length front) s → ps ≡ front ++ a → qs ≡ front ++ b → cut s qs ≡ cut s ps
cut_front s front a b ps qs p is js = ap (cut s) js ∙ cut_more s front b p ∙ sym (cut_more s front a p) ∙ ap (cut s) (sym is)

-- an open element whose kids stay
pub so_far_grown : (t u : TableLists) → HaveGrown t u → AreWithin t → (front a b ps qs : List Slot) → ps ≡ front ++ a → qs ≡ front ++ b
    → All (IsSlotIn t.bytes (length t.nodes)) ps → (f : Node) → IsHeadIn t f → IsSpan (length front) f.kids → so_far u qs f ≡ so_far t ps f
so_far_grown t u g w front a b ps qs is js places f head span =
    made_grown (element_in 256 u) (element_in 256 t) t u g (λ i lt. element_grown 256 t u g w i lt) w.attrs f head ps qs (cut_front f.kids front a b ps qs span is js)
    (all_cut (IsSlotIn t.bytes (length t.nodes)) f.kids ps places)

pub stacked_grown : (t u : TableLists) → HaveGrown t u → AreWithin t → (front a b ps qs : List Slot) → ps ≡ front ++ a → qs ≡ front ++ b
    → All (IsSlotIn t.bytes (length t.nodes)) ps → (low : ℕ) (fs : List Node) (high : ℕ) → AreSideBySide low fs high → high ≤ length front → All (IsHeadIn t) fs → (es : List Element)
    → stacked u qs fs es ≡ stacked t ps fs es
stacked_grown t u g w front a b ps qs is js places low [] high side le heads es = refl
stacked_grown t u g w front a b ps qs is js places low (f ∷ fs) high side le heads es =
    let span : IsSpan (length front) f.kids = record { ordered = omega (arith, side.0, side.1); within = omega (arith, le, side_le f.kids.end fs high side.2) } in
    stacked_grown t u g w front a b ps qs is js places f.kids.end fs high side.2 le (all_others (IsHeadIn t) f fs heads) (so_far u qs f ∷ es)
    ∙ ap (λ e. stacked t ps fs (e ∷ es)) (so_far_grown t u g w front a b ps qs is js places f (all_first (IsHeadIn t) f fs heads) span)

-- the innermost element was changed

pub record Changed (t u : TableLists) (ps qs : List Slot) (outer : List Node) (f g : Node) (change : Element → Element) : Type 0 where
  pub opened : IsOpen u qs outer g
  pub own : so_far u qs g ≡ change (so_far t ps f)
  pub around : stacked u qs outer [] ≡ stacked t ps outer []

pub changed_built : (t u : TableLists) (ps qs : List Slot) (outer : List Node) (f g : Node) (change : Element → Element) → Changed t u ps qs outer f g change
    → HaveGrown t u → AreWithin t → (root : Option ℕ) → IfSome root (IsRoot t) → (i : Option Node) → i ≡ Some f
    → ◌≡◌ {A = Building} (record { root = option_map (element_in 256 u) root; open_elements = so_far u qs g ∷ stacked u qs outer [] })
    (at_innermost change (record { root = option_map (element_in 256 t) root; open_elements = all_open t ps i outer }))
changed_built t u ps qs outer f g change c h w root r i is =
    let same = root_same t u h w root r in
    let own = c.own in
    let around = c.around in
    subst (λ j. ◌≡◌ {A = Building} (record { root = option_map (element_in 256 u) root; open_elements = so_far u qs g ∷ stacked u qs outer [] }) (at_innermost change (record { root = option_map (element_in 256 t) root; open_elements = all_open t ps j outer }))) (sym is)
    (λ k. record { root = same k; open_elements = own k ∷ around k })

pub fits_changed : (t u : TableLists) (ps qs : List Slot) (outer : List Node) (f g : Node) (change : Element → Element) → so_far u qs g ≡ change (so_far t ps f)
    → stacked u qs outer [] ≡ stacked t ps outer [] → ((k : ℕ) → Parts k (so_far t ps f) → Parts k (change (so_far t ps f)))
    → are_open (so_far t ps f ∷ stacked t ps outer []) ≡ true → are_open (so_far u qs g ∷ stacked u qs outer []) ≡ true
fits_changed t u ps qs outer f g change own around keeps h =
    let same : (so_far u qs g ∷ stacked u qs outer []) ≡ (change (so_far t ps f) ∷ stacked t ps outer []) = λ k. own k ∷ around k in
    ap are_open same ∙ open_changed change (so_far t ps f) (stacked t ps outer []) (λ k _ p. keeps k p) h

-- an attribute

pub pair_says : (old new name value : List ℕ) (a : Pair) → IsPairPut old new name value a → attr_in new a ≡ record { name = name; value = value }
pair_says old new name value a p =
    let middle = put_there old p.middle name a.name p.called in
    let n : cut a.name new ≡ name = ap (cut a.name) p.is.bytes ∙ cut_more a.name p.middle value middle.span ∙ put_says old p.middle name a.name p.called in
    let v : cut a.value new ≡ value = put_says p.middle new value a.value p.is in
    λ k. record { name = n k; value = v k }

pub pair_there : (old new name value : List ℕ) (a : Pair) → IsPairPut old new name value a → IsPairIn new a
pair_there old new name value a p = record {
  name = subst (λ b. IsTextIn b a.name) (sym p.is.bytes) (text_more p.middle value a.name (put_there old p.middle name a.name p.called));
  value = put_there p.middle new value a.value p.is;
}

abbrev pub attr_grown : (t u : TableLists) (name value : List ℕ) → HasAttr t u name value → HaveGrown t u
attr_grown t u name value h = record {
  bytes = (name ++ value, h.bytes.is.bytes ∙ ap (λ l. l ++ value) h.bytes.called.bytes ∙ append_assoc t.bytes name value);
  attrs = (h.pair ∷ [], h.attrs);
  kids = ([], h.kids ∙ sym (append-nil t.kids));
  nodes = ([], h.nodes ∙ sym (append-nil t.nodes));
}

pub attr_within : (t u : TableLists) (name value : List ℕ) → HasAttr t u name value → AreWithin t → AreWithin u
attr_within t u name value h w =
    within_more t u (attr_grown t u name value h) w (all_one (IsPairIn u.bytes) h.pair (pair_there t.bytes u.bytes name value h.pair h.bytes))
    (all_none (IsSlotIn u.bytes (length u.nodes))) (all_none (IsNodeIn u))

no_kids : (t : TableLists) (ps : List Slot) (f : Node) → f.kids.start ≤ f.kids.end → f.kids.end ≡ length ps → (so_far t ps f).kids ≡ [] → f.kids.start ≡ f.kids.end
no_kids t ps f o e none =
    let len : length (cut f.kids ps) ≡ 0 = sym (length-map (cut f.kids ps) (kid_in (element_in 256 t) t.bytes)) ∙ ap length none in
    let rest : length (drop f.kids.start ps) ≡ 0 = sym (ap length (cut_rest f.kids ps e)) ∙ len in
    omega (arith, o, e, rest, length-drop f.kids.start ps)

pub attr_changed : (t u : TableLists) (ps : List Slot) (outer : List Node) (f : Node) (name value : List ℕ) (end : ℕ) → HasAttr t u name value → AreWithin t → IsOpen t ps outer f
    → end ≡ length t.attrs + 1 → is_name name ≡ true → is_text value ≡ true → (so_far t ps f).kids ≡ [] → attr_value name (so_far t ps f).attrs ≡ None
    → Changed t u ps ps outer f (record f { attrs = record { start = f.attrs.start; end = end } }) (with_attr name value)
attr_changed t u ps outer f name value end h w o e n v none new =
    let g = attr_grown t u name value h in
    let made : Node = record f { attrs = record { start = f.attrs.start; end = end } } in
    let empty = no_kids t ps f o.ordered o.whole none in
    let last = o.attrs_last empty in
    let count : length u.attrs ≡ end = ap length h.attrs ∙ length-append t.attrs (h.pair ∷ []) ∙ sym e in
    let itself : ps ≡ ps ++ [] = sym (append-nil ps) in
    let attrs : map (attr_in u.bytes) (cut made.attrs u.attrs) ≡ map (attr_in t.bytes) (cut f.attrs t.attrs) ++ (record { name = name; value = value } ∷ []) =
    ap (λ l. map (attr_in u.bytes) (cut made.attrs l)) h.attrs
    ∙ ap (map (attr_in u.bytes)) (cut_push f.attrs made.attrs t.attrs h.pair o.head.attrs.ordered last refl e)
    ∙ map-append (attr_in u.bytes) (cut f.attrs t.attrs) (h.pair ∷ [])
    ∙ ap (λ a. map (attr_in u.bytes) (cut f.attrs t.attrs) ++ (a ∷ [])) (pair_says t.bytes u.bytes name value h.pair h.bytes)
    ∙ ap (λ b. map (attr_in b) (cut f.attrs t.attrs) ++ (record { name = name; value = value } ∷ [])) g.bytes.1
    ∙ ap (λ l. l ++ (record { name = name; value = value } ∷ [])) (attrs_same t.bytes g.bytes.0 (cut f.attrs t.attrs) (all_cut (IsPairIn t.bytes) f.attrs t.attrs w.attrs)) in
    let own : so_far u ps made ≡ with_attr name value (so_far t ps f) =
    same_element f.at (name_grown t u g f o.head) attrs
    (kids_grown (element_in 256 u) (element_in 256 t) t u g (λ i lt. element_grown 256 t u g w i lt) (cut f.kids ps) (cut f.kids ps) refl
    (all_cut (IsSlotIn t.bytes (length t.nodes)) f.kids ps o.places)) in
    let around : stacked u ps outer [] ≡ stacked t ps outer [] =
    stacked_grown t u g w ps [] [] ps ps itself itself o.places 0 outer f.kids.start o.around (omega (arith, o.ordered, o.whole)) o.heads [] in
    record {
      opened = record {
        places = slots_grown t u g ps o.places;
        heads = heads_grown t u g outer o.heads;
        head = record {
          name = text_grown t.bytes u.bytes g.bytes f.name o.head.name;
          attrs = record { ordered = omega (arith, o.head.attrs.ordered, last, e); within = omega (arith, count) };
        };
        around = o.around;
        ordered = o.ordered;
        whole = o.whole;
        attrs_last = λ _. sym count;
        text_last = λ front s is le. absurd (omega (arith, le, empty, o.whole, ap length is, length-append front (slots.Text s ∷ [])));
        fits = fits_changed t u ps ps outer f made (with_attr name value) own around (λ k p. attr_parts k (so_far t ps f) name value n v new p) o.fits;
      };
      own = own;
      around = around;
    }

pub innermost_of : (t : TableLists) (ps : List Slot) (outer : List Node) (root : Option Element) (i : Option Node) (f : Node) (P : Element → Type 0) → i ≡ Some f
    → IfSome (innermost (record { root = root; open_elements = all_open t ps i outer })) P → P (so_far t ps f)
innermost_of t ps outer root i f P is h = subst (λ j. IfSome (innermost (record { root = root; open_elements = all_open t ps j outer })) P) is h

pub attr_at : (s : Site) (u : TableLists) (f : Node) (name value : List ℕ) (end : ℕ) → HasAttr (content s.tables) u name value → IsSite s → s.inner ≡ Some f
    → end ≡ length (content s.tables).attrs + 1 → is_name name ≡ true → is_text value ≡ true → IfSome (innermost (built s)) (λ e. e.kids ≡ [])
    → IfSome (innermost (built s)) (λ e. attr_value name e.attrs ≡ None)
    → Changed (content s.tables) u s.pending.items s.pending.items s.outer.items f (record f { attrs = record { start = f.attrs.start; end = end } }) (with_attr name value)
attr_at s u f name value end h k is e n v none new =
    let t = content s.tables in
    let ps = s.pending.items in
    let root = option_map (element_in 256 t) s.root in
    attr_changed t u ps s.outer.items f name value end h k.tables (of_inner s.inner f (IsOpen t ps s.outer.items) is k.opened) e n v
    (innermost_of t ps s.outer.items root s.inner f (λ x. x.kids ≡ []) is none)
    (innermost_of t ps s.outer.items root s.inner f (λ x. attr_value name x.attrs ≡ None) is new)

pub room_same : (many more : ℕ) (t u : Tables) (ps : SlotList) → u.kids ≡ t.kids → u.nodes ≡ t.nodes → HasSpare many more t ps → HasSpare many more u ps
room_same many more t u ps k n r = record {
  nodes = subst (λ (v : NodeList). length v.items + many ≤ v.capacity) (sym n) r.nodes;
  nodes_fit = subst (λ (v : NodeList). length v.items + many < 2 ^ 32) (sym n) r.nodes_fit;
  kids = subst (λ (v : SlotList). length v.items + (length ps.items + more) ≤ v.capacity) (sym k) r.kids;
  kids_fit = subst (λ (v : SlotList). length v.items + (length ps.items + more) < 2 ^ 32) (sym k) r.kids_fit;
  places = r.places;
}

pub changed_at : (s : Site) (u : TableLists) (qs : List Slot) (f g : Node) (change : Element → Element) → Changed (content s.tables) u s.pending.items qs s.outer.items f g change
    → HaveGrown (content s.tables) u → IsSite s → s.inner ≡ Some f
    → ◌≡◌ {A = Building} (record { root = option_map (element_in 256 u) s.root; open_elements = so_far u qs g ∷ stacked u qs s.outer.items [] }) (at_innermost change (built s))
changed_at s u qs f g change c h k is = changed_built (content s.tables) u s.pending.items qs s.outer.items f g change c h k.tables s.root k.root s.inner is
