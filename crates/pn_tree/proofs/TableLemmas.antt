-- Tables that grow keep their elements.
use Rattle.std.proofs.Common.{◌≡◌, ℕ, zero, suc, ◌<◌, ◌≤◌, Bool, true, List, [], ◌∷◌, ◌++◌, length, map, get_or, Option, Some, None, IfSome, refl, sym, ap, ◌∙◌, subst, arith, length-append}
use Rattle.std.specs.List.{All, list_all}
use Rattle.std.specs.Option.{option_map}
use Rattle.std.specs.Str.{IsUtf8}
use Rattle.std.proofs.lemmas.List.{get_or_append_left}
use Rattle.std.proofs.lemmas.List.Elements.{All-append}
use Rattle.pn_facts.proofs.Truths.{and_left, and_right}
use Rattle.pn_tree.specs.Tables.{cut, TableLists, attr_in, kid_in, made_of, no_node, element_in, IsSpan, IsTextIn, IsPairIn, IsSlotIn, IsHeadIn, IsNodeIn, AreWithin, HasGrown, HaveGrown}
use Rattle.pn_tree.specs.Elements.{is_kid, is_element, IsTree}
use Rattle.pn_tree.specs.Frames.{IsRoot}
use Rattle.pn_tree.specs.declared.element.Attr.{Attr}
use Rattle.pn_tree.specs.declared.element.Element.{Element}
use Rattle.pn_tree.specs.declared.element.Child.{Child}
use Rattle.pn_tree.specs.declared.element.Child.TheVariants as children
use Rattle.pn_tree.specs.declared.tables.Span.{Span}
use Rattle.pn_tree.specs.declared.tables.Pair.{Pair}
use Rattle.pn_tree.specs.declared.tables.Slot.{Slot}
use Rattle.pn_tree.specs.declared.tables.Slot.TheVariants as slots
use Rattle.pn_tree.specs.declared.tables.Node.{Node}
use Rattle.pn_tree.proofs.CutLemmas.{cut_more, all_first, all_others, all_cut, all_each}
use Rattle.pn_tree.proofs.ElementLemmas.{is_kid-element}
use Rattle.pn_tree.proofs.TreeLemmas.{Parts, parts_of, not_element-zero}

-- what points into the tables still does

pub span_more : (m n : ℕ) (s : Span) → m ≤ n → IsSpan m s → IsSpan n s
span_more m n s le p = let w = p.within in record { ordered = p.ordered; within = omega arith }

pub text_more : (bytes more : List ℕ) (s : Span) → IsTextIn bytes s → IsTextIn (bytes ++ more) s
text_more bytes more s p = record {
  span = span_more (length bytes) (length (bytes ++ more)) s (omega (arith, length-append bytes more)) p.span;
  utf8 = subst IsUtf8 (sym (cut_more s bytes more p.span)) p.utf8;
}

pub pair_more : (bytes more : List ℕ) (a : Pair) → IsPairIn bytes a → IsPairIn (bytes ++ more) a
pair_more bytes more a p = record { name = text_more bytes more a.name p.name; value = text_more bytes more a.value p.value }

pub slot_more : (bytes more : List ℕ) (m n : ℕ) → m ≤ n → (k : Slot) → IsSlotIn bytes m k → IsSlotIn (bytes ++ more) n k
slot_more bytes more m n le (slots.Element i) p = omega arith
slot_more bytes more m n le (slots.Text s) p = text_more bytes more s p

longer : {X : Type 0} (xs ys : List X) → HasGrown xs ys → length xs ≤ length ys
longer xs ys f = omega (arith, ap length f.1, length-append xs f.0)

pub text_grown : (old new : List ℕ) → HasGrown old new → (s : Span) → IsTextIn old s → IsTextIn new s
text_grown old new f s p = subst (λ b. IsTextIn b s) (sym f.1) (text_more old f.0 s p)

pub head_grown : (t u : TableLists) → HaveGrown t u → (n : Node) → IsHeadIn t n → IsHeadIn u n
head_grown t u g n p = record {
  name = text_grown t.bytes u.bytes g.bytes n.name p.name;
  attrs = span_more (length t.attrs) (length u.attrs) n.attrs (longer t.attrs u.attrs g.attrs) p.attrs;
}

node_grown : (t u : TableLists) → HaveGrown t u → (n : Node) → IsNodeIn t n → IsNodeIn u n
node_grown t u g n p = record {
  head = head_grown t u g n p.head;
  kids = span_more (length t.kids) (length u.kids) n.kids (longer t.kids u.kids g.kids) p.kids;
}

pub slot_grown : (t u : TableLists) → HaveGrown t u → (k : Slot) → IsSlotIn t.bytes (length t.nodes) k → IsSlotIn u.bytes (length u.nodes) k
slot_grown t u g k p =
    subst (λ b. IsSlotIn b (length u.nodes) k) (sym g.bytes.1) (slot_more t.bytes g.bytes.0 (length t.nodes) (length u.nodes) (longer t.nodes u.nodes g.nodes) k p)

pub slots_grown : (t u : TableLists) → HaveGrown t u → (ks : List Slot) → All (IsSlotIn t.bytes (length t.nodes)) ks → All (IsSlotIn u.bytes (length u.nodes)) ks
slots_grown t u g ks h = all_each (IsSlotIn t.bytes (length t.nodes)) (IsSlotIn u.bytes (length u.nodes)) (slot_grown t u g) ks h

pub heads_grown : (t u : TableLists) → HaveGrown t u → (fs : List Node) → All (IsHeadIn t) fs → All (IsHeadIn u) fs
heads_grown t u g fs h = all_each (IsHeadIn t) (IsHeadIn u) (head_grown t u g) fs h

all_put : {X : Type 0} (P Q : X → Type 0) → ((x : X) → P x → Q x) → (xs ys : List X) → (f : HasGrown xs ys) → All P xs → All Q f.0 → All Q ys
all_put P Q each xs ys f h k = subst (All Q) (sym f.1) (All-append Q xs f.0 (all_each P Q each xs h) k)

-- tables that grew by what points into them
pub within_more : (t u : TableLists) → (g : HaveGrown t u) → AreWithin t → All (IsPairIn u.bytes) g.attrs.0 → All (IsSlotIn u.bytes (length u.nodes)) g.kids.0
    → All (IsNodeIn u) g.nodes.0 → AreWithin u
within_more t u g w a k n = record {
  attrs = all_put (IsPairIn t.bytes) (IsPairIn u.bytes) (λ (x : Pair) p. subst (λ b. IsPairIn b x) (sym g.bytes.1) (pair_more t.bytes g.bytes.0 x p)) t.attrs u.attrs g.attrs w.attrs a;
  kids = all_put (IsSlotIn t.bytes (length t.nodes)) (IsSlotIn u.bytes (length u.nodes)) (slot_grown t u g) t.kids u.kids g.kids w.kids k;
  nodes = all_put (IsNodeIn t) (IsNodeIn u) (node_grown t u g) t.nodes u.nodes g.nodes w.nodes n;
}

-- the elements stay

pub same_element : (a : ℕ) {n m : List ℕ} {xs ys : List Attr} {ks ls : List Child} → n ≡ m → xs ≡ ys → ks ≡ ls
    → ◌≡◌ {A = Element} (record { name = n; at = a; attrs = xs; kids = ks }) (record { name = m; at = a; attrs = ys; kids = ls })
same_element a p q r = λ i. record { name = p i; at = a; attrs = q i; kids = r i }

pub attrs_same : (bytes more : List ℕ) (xs : List Pair) → All (IsPairIn bytes) xs → map (attr_in (bytes ++ more)) xs ≡ map (attr_in bytes) xs
attrs_same bytes more [] h = refl
attrs_same bytes more (a ∷ xs) h =
    let p = all_first (IsPairIn bytes) a xs h in
    let n : cut a.name (bytes ++ more) ≡ cut a.name bytes = cut_more a.name bytes more p.name.span in
    let v : cut a.value (bytes ++ more) ≡ cut a.value bytes = cut_more a.value bytes more p.value.span in
    λ i. record { name = n i; value = v i } ∷ attrs_same bytes more xs (all_others (IsPairIn bytes) a xs h) i

kid_same : (e d : ℕ → Element) (bytes more : List ℕ) (nodes : ℕ) → ((i : ℕ) → i < nodes → e i ≡ d i) → (k : Slot) → IsSlotIn bytes nodes k
    → kid_in e (bytes ++ more) k ≡ kid_in d bytes k
kid_same e d bytes more nodes f (slots.Element i) h = ap children.Element (f i h)
kid_same e d bytes more nodes f (slots.Text s) h = ap children.Text (cut_more s bytes more h.span)

pub kids_same : (e d : ℕ → Element) (bytes more : List ℕ) (nodes : ℕ) → ((i : ℕ) → i < nodes → e i ≡ d i) → (ks : List Slot) → All (IsSlotIn bytes nodes) ks
    → map (kid_in e (bytes ++ more)) ks ≡ map (kid_in d bytes) ks
kids_same e d bytes more nodes f [] h = refl
kids_same e d bytes more nodes f (k ∷ ks) h =
    let first = kid_same e d bytes more nodes f k (all_first (IsSlotIn bytes nodes) k ks h) in
    λ i. first i ∷ kids_same e d bytes more nodes f ks (all_others (IsSlotIn bytes nodes) k ks h) i

-- the kids of a node whose places are the same
pub kids_grown : (e d : ℕ → Element) (t u : TableLists) → HaveGrown t u → ((i : ℕ) → i < length t.nodes → e i ≡ d i) → (ks ls : List Slot) → ls ≡ ks
    → All (IsSlotIn t.bytes (length t.nodes)) ks → map (kid_in e u.bytes) ls ≡ map (kid_in d t.bytes) ks
kids_grown e d t u g f ks ls same h =
    ap (map (kid_in e u.bytes)) same ∙ ap (λ b. map (kid_in e b) ks) g.bytes.1 ∙ kids_same e d t.bytes g.bytes.0 (length t.nodes) f ks h

pub name_grown : (t u : TableLists) → HaveGrown t u → (n : Node) → IsHeadIn t n → cut n.name u.bytes ≡ cut n.name t.bytes
name_grown t u g n p = ap (cut n.name) g.bytes.1 ∙ cut_more n.name t.bytes g.bytes.0 p.name.span

pub attrs_grown : (t u : TableLists) → HaveGrown t u → All (IsPairIn t.bytes) t.attrs → (n : Node) → IsHeadIn t n
    → map (attr_in u.bytes) (cut n.attrs u.attrs) ≡ map (attr_in t.bytes) (cut n.attrs t.attrs)
attrs_grown t u g w n p =
    ap (λ l. map (attr_in u.bytes) (cut n.attrs l)) g.attrs.1 ∙ ap (map (attr_in u.bytes)) (cut_more n.attrs t.attrs g.attrs.0 p.attrs)
    ∙ ap (λ b. map (attr_in b) (cut n.attrs t.attrs)) g.bytes.1 ∙ attrs_same t.bytes g.bytes.0 (cut n.attrs t.attrs) (all_cut (IsPairIn t.bytes) n.attrs t.attrs w)

pub made_grown : (e d : ℕ → Element) (t u : TableLists) → HaveGrown t u → ((i : ℕ) → i < length t.nodes → e i ≡ d i) → All (IsPairIn t.bytes) t.attrs
    → (n : Node) → IsHeadIn t n → (ps qs : List Slot) → cut n.kids qs ≡ cut n.kids ps → All (IsSlotIn t.bytes (length t.nodes)) (cut n.kids ps)
    → made_of e u qs n ≡ made_of d t ps n
made_grown e d t u g f w n p ps qs same h =
    same_element n.at (name_grown t u g n p) (attrs_grown t u g w n p) (kids_grown e d t u g f (cut n.kids ps) (cut n.kids qs) same h)

pub element_grown : (levels : ℕ) (t u : TableLists) → HaveGrown t u → AreWithin t → (i : ℕ) → i < length t.nodes → element_in levels u i ≡ element_in levels t i
unfolding element_in
element_grown zero t u g w i lt = refl
element_grown (suc levels) t u g w i lt =
    let n = get_or t.nodes i no_node in
    let there : IsNodeIn t n = w.nodes i no_node lt in
    let same : get_or u.nodes i no_node ≡ n = ap (λ l. get_or l i no_node) g.nodes.1 ∙ get_or_append_left t.nodes g.nodes.0 no_node i lt in
    ap (made_of (element_in levels u) u u.kids) same
    ∙ made_grown (element_in levels u) (element_in levels t) t u g (λ j b. element_grown levels t u g w j b) w.attrs n there.head t.kids u.kids
    (ap (cut n.kids) g.kids.1 ∙ cut_more n.kids t.kids g.kids.0 there.kids) (all_cut (IsSlotIn t.bytes (length t.nodes)) n.kids t.kids w.kids)

-- the element of a node
pub element_is : (levels : ℕ) (t : TableLists) (i : ℕ) → element_in (suc levels) t i ≡ made_of (element_in levels t) t t.kids (get_or t.nodes i no_node)
unfolding element_in
element_is levels t i = refl

-- more levels change nothing where the element is one of a tree

kid_levels_same : (p : Element → Bool) (e d : ℕ → Element) (bytes : List ℕ) → ((i : ℕ) → p (e i) ≡ true → d i ≡ e i) → (k : Slot) → is_kid p (kid_in e bytes k) ≡ true
    → kid_in d bytes k ≡ kid_in e bytes k
kid_levels_same p e d bytes f (slots.Element i) h = ap children.Element (f i (sym (is_kid-element p (e i)) ∙ h))
kid_levels_same p e d bytes f (slots.Text s) h = refl

pub kids_levels_same : (p : Element → Bool) (e d : ℕ → Element) (bytes : List ℕ) → ((i : ℕ) → p (e i) ≡ true → d i ≡ e i) → (ks : List Slot)
    → list_all (is_kid p) (map (kid_in e bytes) ks) ≡ true → map (kid_in d bytes) ks ≡ map (kid_in e bytes) ks
kids_levels_same p e d bytes f [] h = refl
kids_levels_same p e d bytes f (k ∷ ks) h =
    let first = kid_levels_same p e d bytes f k (and_left (is_kid p (kid_in e bytes k)) (list_all (is_kid p) (map (kid_in e bytes) ks)) h) in
    λ i. first i ∷ kids_levels_same p e d bytes f ks (and_right (is_kid p (kid_in e bytes k)) (list_all (is_kid p) (map (kid_in e bytes) ks)) h) i

pub levels_same : (m n k : ℕ) (t : TableLists) (i : ℕ) → m ≤ n → m ≤ k → is_element m (element_in n t i) ≡ true → element_in k t i ≡ element_in n t i
levels_same zero n k t i le ge h = absurd (not_element-zero (element_in n t i) h)
levels_same (suc m) zero k t i le ge h = absurd (omega arith)
levels_same (suc m) (suc n) zero t i le ge h = absurd (omega arith)
levels_same (suc m) (suc n) (suc k) t i le ge h =
    let x = get_or t.nodes i no_node in
    let p : Parts m (made_of (element_in n t) t t.kids x) = parts_of m (made_of (element_in n t) t t.kids x) (subst (λ e. is_element (suc m) e ≡ true) (element_is n t i) h) in
    element_is k t i
    ∙ same_element x.at refl refl
    (kids_levels_same (is_element m) (element_in n t) (element_in k t) t.bytes (λ j b. levels_same m n k t j (omega arith) (omega arith) b) (cut x.kids t.kids) p.kids)
    ∙ sym (element_is n t i)

-- the root stays one
pub root_grown : (t u : TableLists) → HaveGrown t u → AreWithin t → (r : Option ℕ) → IfSome r (IsRoot t) → IfSome r (IsRoot u)
root_grown t u g w None h = h
root_grown t u g w (Some r) h = record {
  there = omega (arith, h.there, longer t.nodes u.nodes g.nodes);
  is_tree = subst IsTree (sym (element_grown 256 t u g w r h.there)) h.is_tree;
}

pub root_same : (t u : TableLists) → HaveGrown t u → AreWithin t → (r : Option ℕ) → IfSome r (IsRoot t) → option_map (element_in 256 u) r ≡ option_map (element_in 256 t) r
root_same t u g w None h = refl
root_same t u g w (Some r) h = ap Some (element_grown 256 t u g w r h.there)
