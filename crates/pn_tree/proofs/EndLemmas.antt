-- An element that was begun, and one that was ended.
use Rattle.std.proofs.Common.{◌≡◌, ℕ, ◌+◌, ◌-◌, ◌<◌, ◌≤◌, true, List, [], ◌∷◌, ◌++◌, length, drop, map, get_or, Option, Some, None, IfSome, refl, sym, ap, ◌∙◌, subst, arith, length-append, append-nil, length-take, min}
use Rattle.std.specs.List.{All}
use Rattle.std.specs.Option.{option_map}
use Rattle.std.proofs.Math.Seq.{get_or-append_seam}
use Rattle.std.proofs.lemmas.List.{map-append, take-append-drop}
use Rattle.std.proofs.lemmas.List.Elements.{All-append}
use Rattle.pn_facts.proofs.Truths.{and_left}
use Rattle.pn_text.specs.Characters.{is_name}
use Rattle.pn_tree.specs.Tables.{cut, TableLists, attr_in, kid_in, made_of, no_node, element_in, IsSpan, IsPairIn, IsSlotIn, IsHeadIn, IsNodeIn, AreWithin, HaveGrown}
use Rattle.pn_tree.specs.Changes.{IsNewNode, HasBytes, IsEnclosed, IsClosed}
use Rattle.pn_tree.specs.Building.{Building, begun, with_kid, ended}
use Rattle.pn_tree.specs.Elements.{is_element, IsTree}
use Rattle.pn_tree.specs.Frames.{so_far, stacked, all_open, are_open, AreSideBySide, IsOpen, IsRoot}
use Rattle.pn_tree.specs.declared.element.Child.TheVariants as children
use Rattle.pn_tree.specs.declared.tables.Span.{Span}
use Rattle.pn_tree.specs.declared.tables.Slot.{Slot}
use Rattle.pn_tree.specs.declared.tables.Slot.TheVariants as slots
use Rattle.pn_tree.specs.declared.tables.Node.{Node}
use Rattle.pn_tree.proofs.CutLemmas.{cut_more, cut_rest, cut_last, cut_push, cut_empty, all_one, all_none, all_first, all_front, all_back, all_drop, all_cut, last_same}
use Rattle.pn_tree.proofs.OpenLemmas.{open_begun, open_closed, parts_at}
use Rattle.pn_tree.proofs.TableLemmas.{head_grown, heads_grown, slots_grown, within_more, same_element, kids_grown, name_grown, attrs_grown, element_grown, element_is, levels_same, kids_levels_same, root_same}
use Rattle.pn_tree.proofs.SiteLemmas.{bytes_grown, SideLast, side_push, side_last, stacked-push, so_far_grown, stacked_grown}

-- the beginning of an element

pub record WasBegun (t u : TableLists) (ps qs : List Slot) (outer around : List Node) (i : Option Node) (g : Node) (name : List ℕ) (at : ℕ) : Type 0 where
  pub opened : IsOpen u qs around g
  pub own : so_far u qs g ≡ record { name = name; at = at; attrs = []; kids = [] }
  pub others : stacked u qs around [] ≡ all_open t ps i outer

begun_own : (t u : TableLists) (qs : List Slot) (g : Node) (name : List ℕ) (at attrs kids : ℕ) → IsNewNode u.bytes name at attrs kids g
    → so_far u qs g ≡ record { name = name; at = at; attrs = []; kids = [] }
begun_own t u qs g name at attrs kids b =
    let n : cut g.name u.bytes ≡ name = b.called in
    let o : g.at ≡ at = b.offset in
    let a : map (attr_in u.bytes) (cut g.attrs u.attrs) ≡ [] =
    ap (λ s. map (attr_in u.bytes) (cut s u.attrs)) b.own_attrs ∙ ap (map (attr_in u.bytes)) (cut_empty (record { start = attrs; end = attrs }) u.attrs refl) in
    let k : map (kid_in (element_in 256 u) u.bytes) (cut g.kids qs) ≡ [] =
    ap (λ s. map (kid_in (element_in 256 u) u.bytes) (cut s qs)) b.own_kids ∙ ap (map (kid_in (element_in 256 u) u.bytes)) (cut_empty (record { start = kids; end = kids }) qs refl) in
    λ j. record { name = n j; at = o j; attrs = a j; kids = k j }

begun_all : (t u : TableLists) (ps qs : List Slot) (outer around : List Node) (i : Option Node) (g : Node) (name : List ℕ) (at : ℕ) → HasBytes t u
    → IsNewNode u.bytes name at (length t.attrs) (length qs) g → is_name name ≡ true → length (all_open t ps i outer) < 256 → are_open (all_open t ps i outer) ≡ true
    → All (IsSlotIn u.bytes (length u.nodes)) qs → All (IsHeadIn u) around → AreSideBySide 0 around (length qs) → stacked u qs around [] ≡ all_open t ps i outer
    → WasBegun t u ps qs outer around i g name at
begun_all t u ps qs outer around i g name at h b n lt fits places heads side others =
    let own = begun_own t u qs g name at (length t.attrs) (length qs) b in
    let first : g.kids.start ≡ length qs = ap (λ (s : Span). s.start) b.own_kids in
    let end : g.kids.end ≡ length qs = ap (λ (s : Span). s.end) b.own_kids in
    let count : length u.attrs ≡ length t.attrs = ap length h.attrs in
    let attrs_end : g.attrs.end ≡ length u.attrs = ap (λ (s : Span). s.end) b.own_attrs ∙ sym count in
    let same : (so_far u qs g ∷ stacked u qs around []) ≡ (record { name = name; at = at; attrs = []; kids = [] } ∷ all_open t ps i outer) = λ j. own j ∷ others j in
    record {
      opened = record {
        places = places;
        heads = heads;
        head = record {
          name = b.there;
          attrs = record { ordered = omega (arith, ap (λ (s : Span). s.start) b.own_attrs, ap (λ (s : Span). s.end) b.own_attrs); within = omega (arith, attrs_end) };
        };
        around = subst (AreSideBySide 0 around) (sym first) side;
        ordered = omega (arith, first, end);
        whole = end;
        attrs_last = λ _. attrs_end;
        text_last = λ front s is le. absurd (omega (arith, le, first, ap length is, length-append front (slots.Text s ∷ [])));
        fits = ap are_open same ∙ open_begun name at (all_open t ps i outer) n lt fits;
      };
      own = own;
      others = others;
    }

pub begun_changed : (t u : TableLists) (ps qs : List Slot) (outer around : List Node) (i : Option Node) (g : Node) (name : List ℕ) (at : ℕ) → HasBytes t u
    → IsNewNode u.bytes name at (length t.attrs) (length qs) g → IsEnclosed i outer ps around qs → AreWithin t → IfSome i (IsOpen t ps outer) → is_name name ≡ true
    → length (all_open t ps i outer) < 256 → WasBegun t u ps qs outer around i g name at
begun_changed t u ps qs outer around None g name at h b e w o n lt =
    begun_all t u ps qs outer around None g name at h b n lt refl (subst (All (IsSlotIn u.bytes (length u.nodes))) (sym e.1) (all_none (IsSlotIn u.bytes (length u.nodes))))
    (subst (All (IsHeadIn u)) (sym e.0) (all_none (IsHeadIn u)))
    (subst (λ l. AreSideBySide 0 l (length qs)) (sym e.0) (sym (ap length e.1)))
    (ap (λ l. stacked u qs l []) e.0)
begun_changed t u ps qs outer around (Some f) g name at h b e w o n lt =
    let more = bytes_grown t u h in
    let places : All (IsSlotIn t.bytes (length t.nodes)) qs = subst (All (IsSlotIn t.bytes (length t.nodes))) (sym e.1) o.places in
    let heads : All (IsHeadIn u) (outer ++ (f ∷ [])) =
    All-append (IsHeadIn u) outer (f ∷ []) (heads_grown t u more outer o.heads) (all_one (IsHeadIn u) f (head_grown t u more f o.head)) in
    let side : AreSideBySide 0 (outer ++ (f ∷ [])) (length qs) =
    subst (AreSideBySide 0 (outer ++ (f ∷ []))) (o.whole ∙ sym (ap length e.1)) (side_push 0 outer f.kids.start f o.around refl o.ordered) in
    let itself : ps ≡ ps ++ [] = sym (append-nil ps) in
    let also : qs ≡ ps ++ [] = e.1 ∙ itself in
    let span : IsSpan (length ps) f.kids = record { ordered = o.ordered; within = omega (arith, o.whole) } in
    let own : so_far u qs f ≡ so_far t ps f = so_far_grown t u more w ps [] [] ps qs itself also o.places f o.head span in
    let rest : stacked u qs outer [] ≡ stacked t ps outer [] =
    stacked_grown t u more w ps [] [] ps qs itself also o.places 0 outer f.kids.start o.around (omega (arith, o.ordered, o.whole)) o.heads [] in
    begun_all t u ps qs outer around (Some f) g name at h b n lt o.fits (slots_grown t u more qs places) (subst (All (IsHeadIn u)) (sym e.0) heads)
    (subst (λ l. AreSideBySide 0 l (length qs)) (sym e.0) side)
    (ap (λ l. stacked u qs l []) e.0 ∙ stacked-push u qs outer f [] ∙ (λ j. own j ∷ rest j))

pub begun_built : (t u : TableLists) (ps qs : List Slot) (outer around : List Node) (i : Option Node) (g : Node) (name : List ℕ) (at : ℕ) (root : Option ℕ)
    → WasBegun t u ps qs outer around i g name at → HasBytes t u → AreWithin t → IfSome root (IsRoot t)
    → ◌≡◌ {A = Building} (record { root = option_map (element_in 256 u) root; open_elements = so_far u qs g ∷ stacked u qs around [] })
    (begun name at (record { root = option_map (element_in 256 t) root; open_elements = all_open t ps i outer }))
begun_built t u ps qs outer around i g name at root b h w r =
    let same = root_same t u (bytes_grown t u h) w root r in
    let own = b.own in
    let others = b.others in
    λ j. record { root = same j; open_elements = own j ∷ others j }

-- the end of an element

abbrev pub closed_grown : (t u : TableLists) (ps rs : List Slot) (f : Node) → IsClosed t u ps rs f → HaveGrown t u
closed_grown t u ps rs f h = record {
  bytes = ([], h.bytes ∙ sym (append-nil t.bytes));
  attrs = ([], h.attrs ∙ sym (append-nil t.attrs));
  kids = (drop f.kids.start ps, h.kids);
  nodes = (record f { kids = record { start = length t.kids; end = length u.kids } } ∷ [], h.nodes);
}

pub closed_within : (t u : TableLists) (ps rs : List Slot) (outer : List Node) (f : Node) → IsClosed t u ps rs f → AreWithin t → IsOpen t ps outer f → AreWithin u
closed_within t u ps rs outer f h w o =
    let g = closed_grown t u ps rs f h in
    let n : Node = record f { kids = record { start = length t.kids; end = length u.kids } } in
    let head = head_grown t u g f o.head in
    let there : IsNodeIn u n = record {
      head = record { name = head.name; attrs = head.attrs };
      kids = record { ordered = omega (arith, ap length h.kids, length-append t.kids (drop f.kids.start ps)); within = omega arith };
    } in
    within_more t u g w (all_none (IsPairIn u.bytes))
    (slots_grown t u g (drop f.kids.start ps) (all_drop (IsSlotIn t.bytes (length t.nodes)) f.kids.start ps o.places)) (all_one (IsNodeIn u) n there)

-- the node is the element that was open
pub closed_is : (t u : TableLists) (ps rs : List Slot) (outer : List Node) (f : Node) → IsClosed t u ps rs f → AreWithin t → IsOpen t ps outer f
    → element_in 256 u (length t.nodes) ≡ so_far t ps f
closed_is t u ps rs outer f h w o =
    let g = closed_grown t u ps rs f h in
    let n : Node = record f { kids = record { start = length t.kids; end = length u.kids } } in
    let e = so_far t ps f in
    let es = stacked t ps outer [] in
    let parts = parts_at (256 - length es) e (and_left (is_element (256 - length es) e) (are_open es) o.fits) in
    let node : get_or u.nodes (length t.nodes) no_node ≡ n = ap (λ l. get_or l (length t.nodes) no_node) h.nodes ∙ get_or-append_seam t.nodes n [] no_node in
    let places : cut n.kids u.kids ≡ cut f.kids ps =
    ap (cut n.kids) h.kids ∙ cut_last n.kids t.kids (drop f.kids.start ps) refl (ap length h.kids) ∙ sym (cut_rest f.kids ps o.whole) in
    let few : parts.0 ≤ 255 = omega (arith, parts.1) in
    let many : parts.0 ≤ 256 = omega (arith, few) in
    let kids : map (kid_in (element_in 255 u) u.bytes) (cut n.kids u.kids) ≡ map (kid_in (element_in 256 t) t.bytes) (cut f.kids ps) =
    kids_grown (element_in 255 u) (element_in 255 t) t u g (λ i lt. element_grown 255 t u g w i lt) (cut f.kids ps) (cut n.kids u.kids) places
    (all_cut (IsSlotIn t.bytes (length t.nodes)) f.kids ps o.places)
    ∙ kids_levels_same (is_element parts.0) (element_in 256 t) (element_in 255 t) t.bytes (λ j b. levels_same parts.0 256 255 t j many few b) (cut f.kids ps) parts.2.kids in
    element_is 255 u (length t.nodes) ∙ ap (made_of (element_in 255 u) u u.kids) node
    ∙ same_element f.at (name_grown t u g f o.head) (attrs_grown t u g w.attrs f o.head) kids

-- it was the root
pub closed_root : (t u : TableLists) (ps rs : List Slot) (outer : List Node) (f : Node) → IsClosed t u ps rs f → AreWithin t → IsOpen t ps outer f → outer ≡ []
    → IsRoot u (length t.nodes)
closed_root t u ps rs outer f h w o none = record {
  there = omega (arith, ap length h.nodes, length-append t.nodes (record f { kids = record { start = length t.kids; end = length u.kids } } ∷ []));
  is_tree =
      subst IsTree (sym (closed_is t u ps rs outer f h w o))
      (and_left (is_element 256 (so_far t ps f)) true (subst (λ l. are_open (so_far t ps f ∷ stacked t ps l []) ≡ true) none o.fits));
}

pub root_built : (t u : TableLists) (ps rs : List Slot) (outer : List Node) (f : Node) (root : Option ℕ) (i : Option Node) → IsClosed t u ps rs f → AreWithin t → IsOpen t ps outer f
    → i ≡ Some f → outer ≡ []
    → ◌≡◌ {A = Building} (record { root = Some (element_in 256 u (length t.nodes)); open_elements = [] })
    (ended (record { root = option_map (element_in 256 t) root; open_elements = all_open t ps i outer }))
root_built t u ps rs outer f root i h w o is none =
    let says = closed_is t u ps rs outer f h w o in
    let first : ◌≡◌ {A = Building} (record { root = Some (element_in 256 u (length t.nodes)); open_elements = [] }) (record { root = Some (so_far t ps f); open_elements = [] }) =
    λ j. record { root = Some (says j); open_elements = [] } in
    subst
    (λ j. ◌≡◌ {A = Building} (record { root = Some (element_in 256 u (length t.nodes)); open_elements = [] })
    (ended (record { root = option_map (element_in 256 t) root; open_elements = all_open t ps j outer })))
    (sym is)
    (subst
    (λ l. ◌≡◌ {A = Building} (record { root = Some (element_in 256 u (length t.nodes)); open_elements = [] })
    (ended (record { root = option_map (element_in 256 t) root; open_elements = all_open t ps (Some f) l })))
    (sym none) first)

-- it was within another
pub record WasEnded (t u : TableLists) (ps qs : List Slot) (front : List Node) (f p q : Node) : Type 0 where
  pub opened : IsOpen u qs front q
  pub own : so_far u qs q ≡ with_kid (children.Element (so_far t ps f)) (so_far t ps p)
  pub around : stacked u qs front [] ≡ stacked t ps front []

pub closed_within_other : (t u : TableLists) (ps rs qs : List Slot) (outer front : List Node) (f p : Node) → IsClosed t u ps rs f → AreWithin t → IsOpen t ps outer f
    → outer ≡ front ++ (p ∷ []) → qs ≡ rs ++ (slots.Element (length t.nodes) ∷ [])
    → WasEnded t u ps qs front f p (record p { kids = record { start = p.kids.start; end = length qs } })
closed_within_other t u ps rs qs outer front f p h w o is qs_is =
    let g = closed_grown t u ps rs f h in
    let q : Node = record p { kids = record { start = p.kids.start; end = length qs } } in
    let a = drop f.kids.start ps in
    let x = slots.Element (length t.nodes) in
    let split : ps ≡ rs ++ a = sym (take-append-drop f.kids.start ps) ∙ ap (λ l. l ++ a) (sym h.left) in
    let len : length rs ≡ f.kids.start = ap length h.left ∙ length-take f.kids.start ps ∙ least f.kids.start (length ps) (omega (arith, o.ordered, o.whole)) in
    let side : SideLast 0 front p f.kids.start = side_last 0 front p f.kids.start (subst (λ l. AreSideBySide 0 l f.kids.start) is o.around) in
    let heads : All (IsHeadIn t) (front ++ (p ∷ [])) = subst (All (IsHeadIn t)) is o.heads in
    let head : IsHeadIn t p = all_first (IsHeadIn t) p [] (all_back (IsHeadIn t) front (p ∷ []) heads) in
    let ends : p.kids.end ≡ length rs = side.ends ∙ sym len in
    let count : length qs ≡ length rs + 1 = ap length qs_is ∙ length-append rs (x ∷ []) in
    let span : IsSpan (length rs) p.kids = record { ordered = side.ordered; within = omega (arith, ends) } in
    let own_places : cut p.kids rs ≡ cut p.kids ps = sym (ap (cut p.kids) split ∙ cut_more p.kids rs a span) in
    let kid_u = kid_in (element_in 256 u) u.bytes in
    let kids : map kid_u (cut q.kids qs) ≡ map (kid_in (element_in 256 t) t.bytes) (cut p.kids ps) ++ (children.Element (so_far t ps f) ∷ []) =
    ap (λ l. map kid_u (cut q.kids l)) qs_is
    ∙ ap (map kid_u) (cut_push p.kids q.kids rs x side.ordered ends refl count)
    ∙ map-append kid_u (cut p.kids rs) (x ∷ [])
    ∙ ap (λ e. map kid_u (cut p.kids rs) ++ (children.Element e ∷ [])) (closed_is t u ps rs outer f h w o)
    ∙ ap (λ l. l ++ (children.Element (so_far t ps f) ∷ []))
    (kids_grown (element_in 256 u) (element_in 256 t) t u g (λ i lt. element_grown 256 t u g w i lt) (cut p.kids ps) (cut p.kids rs) own_places
    (all_cut (IsSlotIn t.bytes (length t.nodes)) p.kids ps o.places)) in
    let own : so_far u qs q ≡ with_kid (children.Element (so_far t ps f)) (so_far t ps p) =
    same_element p.at (name_grown t u g p head) (attrs_grown t u g w.attrs p head) kids in
    let around : stacked u qs front [] ≡ stacked t ps front [] =
    stacked_grown t u g w rs a (x ∷ []) ps qs split qs_is o.places 0 front p.kids.start side.around (omega (arith, span.ordered, span.within))
    (all_front (IsHeadIn t) front (p ∷ []) heads) [] in
    let nodes : length u.nodes ≡ length t.nodes + 1 =
    ap length h.nodes ∙ length-append t.nodes (record f { kids = record { start = length t.kids; end = length u.kids } } ∷ []) in
    let old : are_open (so_far t ps f ∷ so_far t ps p ∷ stacked t ps front []) ≡ true =
    subst (λ es. are_open (so_far t ps f ∷ es) ≡ true) (ap (λ l. stacked t ps l []) is ∙ stacked-push t ps front p []) o.fits in
    let same : (so_far u qs q ∷ stacked u qs front []) ≡ (with_kid (children.Element (so_far t ps f)) (so_far t ps p) ∷ stacked t ps front []) = λ j. own j ∷ around j in
    record {
      opened = record {
        places =
            subst (All (IsSlotIn u.bytes (length u.nodes))) (sym qs_is)
            (All-append (IsSlotIn u.bytes (length u.nodes)) rs (x ∷ [])
            (slots_grown t u g rs
            (all_front (IsSlotIn t.bytes (length t.nodes)) rs a (subst (All (IsSlotIn t.bytes (length t.nodes))) split o.places)))
            (all_one (IsSlotIn u.bytes (length u.nodes)) x (omega (arith, nodes))));
        heads = heads_grown t u g front (all_front (IsHeadIn t) front (p ∷ []) heads);
        head = record { name = (head_grown t u g p head).name; attrs = (head_grown t u g p head).attrs };
        around = side.around;
        ordered = omega (arith, span.ordered, span.within, count);
        whole = refl;
        attrs_last = λ (empty : p.kids.start ≡ length qs). absurd (omega (arith, empty, span.ordered, span.within, count));
        text_last = λ fr s s_is s_le. let no : x ≡ slots.Text s = last_same rs fr x (slots.Text s) (sym qs_is ∙ s_is) in absurd cc;
        fits = ap are_open same ∙ open_closed (so_far t ps f) (so_far t ps p) (stacked t ps front []) old;
      };
      own = own;
      around = around;
    }
  where
    least : (m n : ℕ) → m ≤ n → min m n ≡ m
    least m n le = omega arith

pub within_built : (t u : TableLists) (ps rs qs : List Slot) (outer front : List Node) (f p q : Node) (root : Option ℕ) (i : Option Node) → WasEnded t u ps qs front f p q
    → IsClosed t u ps rs f → AreWithin t → IfSome root (IsRoot t) → i ≡ Some f → outer ≡ front ++ (p ∷ [])
    → ◌≡◌ {A = Building} (record { root = option_map (element_in 256 u) root; open_elements = so_far u qs q ∷ stacked u qs front [] })
    (ended (record { root = option_map (element_in 256 t) root; open_elements = all_open t ps i outer }))
within_built t u ps rs qs outer front f p q root i c h w r is outer_is =
    let same = root_same t u (closed_grown t u ps rs f h) w root r in
    let own = c.own in
    let around = c.around in
    let new : Building = record { root = option_map (element_in 256 u) root; open_elements = so_far u qs q ∷ stacked u qs front [] } in
    let old = option_map (element_in 256 t) root in
    let first : new ≡ record { root = old; open_elements = with_kid (children.Element (so_far t ps f)) (so_far t ps p) ∷ stacked t ps front [] } =
    λ j. record { root = same j; open_elements = own j ∷ around j } in
    let others : stacked t ps outer [] ≡ so_far t ps p ∷ stacked t ps front [] = ap (λ l. stacked t ps l []) outer_is ∙ stacked-push t ps front p [] in
    subst (λ j. new ≡ ended (record { root = old; open_elements = all_open t ps j outer })) (sym is)
    (subst (λ es. new ≡ ended (record { root = old; open_elements = so_far t ps f ∷ es })) (sym others) first)
