-- The canonical text of an element is spelled as elements are.
use Rattle.std.proofs.Common.{◌≡◌, ℕ, zero, suc, ◌+◌, Bool, true, false, ◌&&◌, not, List, [], ◌∷◌, ◌++◌, length, map, refl, sym, ap, ◌∙◌, subst, append_assoc, append-nil}
use Rattle.std.specs.List.{list_all, flat_map}
use Rattle.std.proofs.lemmas.Bool.{false≢true}
use Rattle.std.proofs.lemmas.List.{map-append}
use Rattle.std.proofs.lemmas.List.Folds.{list_all-append}
use Rattle.pn_tree.specs.Building.{with_text, with_kid}
use Rattle.pn_tree.specs.Canonical.{text_escape, attr_text, element_text, child_text, escaped_text}
use Rattle.pn_tree.specs.Elements.{is_text_kid, begins_with_text, are_apart, is_kid, is_element}
use Rattle.pn_tree.specs.declared.element.Element.{Element}
use Rattle.pn_tree.specs.declared.element.Child.{Child}
use Rattle.pn_tree.specs.declared.element.Child.TheOpen as layer
use Rattle.pn_tree.specs.declared.element.Child.TheVariants as children
use Rattle.pn_tree.specs.declared.element.Child.TheVariants.{rolls-Element, rolls-Text}
use Rattle.pn_tree.specs.declared.element.Child.TheViews.{out-Child, roll-Child, roll-out-Child}
use Rattle.pn_tree.proofs.ElementLemmas.{is_kid-element, is_kid-text, is_text_kid-text, child_text-element, child_text-text}
use Rattle.pn_tree.proofs.PutLemmas.{empty_pieces, full_pieces}
use Rattle.pn_tree.proofs.TreeLemmas.{Parts, parts_of, not_element-zero}
use Rattle.pn_facts.proofs.Truths.{and_left, and_right, and_both}
use Rattle.pn_markup.specs.Bytes.{line_ends}
use Rattle.pn_markup.specs.Content.{reference, nothing, piece, element, Content, empty, whole, Spells}
use Rattle.pn_markup.specs.Offsets.{without_offsets, kid_without_offsets}
use Rattle.pn_markup.proofs.AttributeLemmas.{tagged, tag_text}
use Rattle.pn_markup.proofs.JoinLemmas.{with_text-append, fresh_text}
use Rattle.pn_markup.proofs.OffsetLemmas.{without_offsets_is, kid_without-element}
use Rattle.pn_markup.proofs.RunLemmas.{is_unescaped, Written, as_is, by_reference, text_written, unescaped_run, unescaped_ends}

-- a kid is an element or a text
pub data KidIs (k : Child) : Type 0 where
  an_element : (e : Element) → k ≡ children.Element e → KidIs k
  a_text : (t : List ℕ) → k ≡ children.Text t → KidIs k

pub kid_is : (k : Child) → KidIs k
kid_is k = by (out-Child k) (sym (roll-out-Child k))
  where
    by : (l : layer.Child-F Child Element) → k ≡ roll-Child l → KidIs k
    by (layer.Element e) is = an_element e (is ∙ rolls-Element e)
    by (layer.Text t) is = a_text t (is ∙ rolls-Text t)

-- bytes are the content of an element that was begun, and it becomes another but for the offsets
pub record Filled (S : ℕ → Element → List ℕ → Type 0) (at : ℕ) (so_far target : Element) (b : List ℕ) : Type 0 where
  pub tree : Element
  pub content : Content S at so_far tree b
  pub alike : without_offsets tree ≡ without_offsets target

-- where an element has been read so far, a part of its last text perhaps only as a run that goes on, bytes lead to another
abbrev pub Leads : (ℕ → Element → List ℕ → Type 0) → Element → Element → List ℕ → Type 0
Leads S so_far target b =
    (at : ℕ) (seen : List ℕ) (before : Element) → list_all is_unescaped seen ≡ true → with_text seen before ≡ so_far → Filled S at before target (seen ++ b)

leads_nowhere : (S : ℕ → Element → List ℕ → Type 0) (e target : Element) → without_offsets e ≡ without_offsets target → Leads S e target []
leads_nowhere S e target alike at seen before h is = record {
  tree = with_text (line_ends seen) before;
  content = record {
    run = seen;
    rest = [];
    next = at + length seen;
    is_run = unescaped_run seen h;
    are_pieces = nothing (at + length seen) (with_text (line_ends seen) before) (with_text (line_ends seen) before) [] refl refl;
    offset = refl;
    whole = refl;
  };
  alike = ap (λ r. without_offsets (with_text r before)) (unescaped_ends seen h) ∙ ap without_offsets is ∙ alike;
}

-- one more byte of a text

leads_byte : (S : ℕ → Element → List ℕ → Type 0) (c : ℕ) (e target : Element) (out b : List ℕ) → Written is_unescaped c out → Leads S (with_text (c ∷ []) e) target b
    → Leads S e target (out ++ b)
leads_byte S c e target out b (as_is p same) f at seen before h is =
    let both : list_all is_unescaped (seen ++ (c ∷ [])) ≡ true =
    list_all-append is_unescaped seen (c ∷ []) ∙ and_both (list_all is_unescaped seen) (is_unescaped c && true) h (and_both (is_unescaped c) true p refl) in
    subst (Filled S at before target) (append_assoc seen (c ∷ []) b ∙ ap (λ l. seen ++ (l ++ b)) (sym same))
    (f at (seen ++ (c ∷ [])) before both (with_text-append seen (c ∷ []) before ∙ ap (with_text (c ∷ [])) is))
leads_byte S c e target out b (by_reference r low) f at seen before h is =
    let given = with_text (c ∷ []) (with_text (line_ends seen) before) in
    let same : given ≡ with_text (c ∷ []) e = ap (λ l. with_text (c ∷ []) (with_text l before)) (unescaped_ends seen h) ∙ ap (with_text (c ∷ [])) is in
    let later = f (at + length seen + length out) [] given refl same in
    record {
      tree = later.tree;
      content = record {
        run = seen;
        rest = out ++ b;
        next = at + length seen;
        is_run = unescaped_run seen h;
        are_pieces =
            piece (at + length seen) (with_text (line_ends seen) before) later.tree (out ++ b) (c ∷ []) out later.content.run later.content.rest later.content.next
            (reference (c ∷ []) out r) later.content.is_run later.content.are_pieces later.content.offset (ap (λ l. out ++ l) later.content.whole);
        offset = refl;
        whole = refl;
      };
      alike = later.alike;
    }

leads_text : (S : ℕ → Element → List ℕ → Type 0) (t : List ℕ) (e target : Element) (b : List ℕ) → Leads S (with_text t e) target b → Leads S e target (escaped_text t ++ b)
leads_text S [] e target b f = f
leads_text S (c ∷ t) e target b f =
    subst (Leads S e target) (sym (append_assoc (text_escape c) (escaped_text t) b))
    (leads_byte S c e target (text_escape c) (escaped_text t ++ b) (text_written c)
    (leads_text S t (with_text (c ∷ []) e) target b (subst (λ x. Leads S x target b) (with_text-append (c ∷ []) t e) f)))

-- an element among the kids

pub record Spelled (S : ℕ → Element → List ℕ → Type 0) (at : ℕ) (e : Element) (b : List ℕ) : Type 0 where
  pub tree : Element
  pub spells : S at tree b
  pub alike : without_offsets tree ≡ without_offsets e

leads_element : (S : ℕ → Element → List ℕ → Type 0) (k e target : Element) (out b : List ℕ) → ((at : ℕ) → Spelled S at k out)
    → ((t : Element) → without_offsets t ≡ without_offsets k → Leads S (with_kid (children.Element t) e) target b) → Leads S e target (out ++ b)
leads_element S k e target out b spelled f at seen before h is =
    let kid = spelled (at + length seen) in
    let given = with_kid (children.Element kid.tree) (with_text (line_ends seen) before) in
    let same : given ≡ with_kid (children.Element kid.tree) e =
    ap (λ l. with_kid (children.Element kid.tree) (with_text l before)) (unescaped_ends seen h) ∙ ap (with_kid (children.Element kid.tree)) is in
    let later = f kid.tree kid.alike (at + length seen + length out) [] given refl same in
    record {
      tree = later.tree;
      content = record {
        run = seen;
        rest = out ++ b;
        next = at + length seen;
        is_run = unescaped_run seen h;
        are_pieces =
            element (at + length seen) (with_text (line_ends seen) before) later.tree kid.tree (out ++ b) out later.content.run later.content.rest later.content.next
            kid.spells later.content.is_run later.content.are_pieces later.content.offset (ap (λ l. out ++ l) later.content.whole);
        offset = refl;
        whole = refl;
      };
      alike = later.alike;
    }

-- kids

-- an element with more kids
abbrev with_kids : Element → List Child → Element
with_kids e ks = record e { kids = e.kids ++ ks }

one_kid : (e : Element) (k l : Child) (ks : List Child) → kid_without_offsets l ≡ kid_without_offsets k
    → without_offsets (with_kids (with_kid l e) ks) ≡ without_offsets (with_kids e (k ∷ ks))
one_kid e k l ks same =
    without_offsets_is (with_kids (with_kid l e) ks)
    ∙ ap (λ (m : List Child). record { name = e.name; at = 0; attrs = e.attrs; kids = m })
    (ap (map kid_without_offsets) (append_assoc e.kids (l ∷ []) ks) ∙ map-append kid_without_offsets e.kids (l ∷ ks)
    ∙ ap (λ m. map kid_without_offsets e.kids ++ (m ∷ map kid_without_offsets ks)) same ∙ sym (map-append kid_without_offsets e.kids (k ∷ ks)))
    ∙ sym (without_offsets_is (with_kids e (k ∷ ks)))

no_kids : (e : Element) → with_kids e [] ≡ e
no_kids e = ap (λ (ks : List Child). record e { kids = ks }) (append-nil e.kids)

-- a text is a kid of its own behind what was read so far
abbrev IsFresh : Element → Type 0
IsFresh e = (b : ℕ) (bs : List ℕ) → with_text (b ∷ bs) e ≡ with_kid (children.Text (b ∷ bs)) e

no_text_behind : (k b : Bool) → k ≡ true → not (k && b) ≡ true → b ≡ true → ⊥
no_text_behind true true t h e = false≢true h
no_text_behind true false t h e = false≢true e
no_text_behind false b t h e = false≢true t

kid_step : (n : ℕ) (k : Child) (ks : List Child) (e target : Element) → ((at : ℕ) (x : Element) → is_element n x ≡ true → Spelled (Spells n) at x (element_text x))
    → ((l : Child) → kid_without_offsets l ≡ kid_without_offsets k → (begins_with_text ks ≡ true → IsFresh (with_kid l e)) → Leads (Spells n) (with_kid l e) target (flat_map child_text ks))
    → is_kid (is_element n) k ≡ true → not (is_text_kid k && begins_with_text ks) ≡ true → (is_text_kid k ≡ true → IsFresh e) → KidIs k
    → Leads (Spells n) e target (child_text k ++ flat_map child_text ks)
kid_step n k ks e target spell later fits apart fresh (an_element x is) =
    let is_element_x : is_element n x ≡ true = sym (is_kid-element (is_element n) x) ∙ ap (is_kid (is_element n)) (sym is) ∙ fits in
    subst (λ l. Leads (Spells n) e target (l ++ flat_map child_text ks)) (sym (ap child_text is ∙ child_text-element x))
    (leads_element (Spells n) x e target (element_text x) (flat_map child_text ks) (λ at. spell at x is_element_x)
    (λ t alike.
    later (children.Element t) (kid_without-element t ∙ ap children.Element alike ∙ sym (kid_without-element x) ∙ ap kid_without_offsets (sym is))
    (λ begins b bs. fresh_text b bs t e)))
kid_step n k ks e target spell later fits apart fresh (a_text [] is) =
    absurd (false≢true (sym (is_kid-text (is_element n) []) ∙ ap (is_kid (is_element n)) (sym is) ∙ fits))
kid_step n k ks e target spell later fits apart fresh (a_text (c ∷ t) is) =
    let is_text_k : is_text_kid k ≡ true = ap is_text_kid is ∙ is_text_kid-text (c ∷ t) in
    subst (λ l. Leads (Spells n) e target (l ++ flat_map child_text ks)) (sym (ap child_text is ∙ child_text-text (c ∷ t)))
    (leads_text (Spells n) (c ∷ t) e target (flat_map child_text ks)
    (subst (λ x. Leads (Spells n) x target (flat_map child_text ks)) (sym (fresh is_text_k c t ∙ ap (λ l. with_kid l e) (sym is)))
    (later k refl (λ begins. absurd (no_text_behind (is_text_kid k) (begins_with_text ks) is_text_k apart begins)))))

leads_kids : (n : ℕ) → ((at : ℕ) (x : Element) → is_element n x ≡ true → Spelled (Spells n) at x (element_text x)) → (ks : List Child) (e target : Element)
    → list_all (is_kid (is_element n)) ks ≡ true → are_apart ks ≡ true → (begins_with_text ks ≡ true → IsFresh e) → without_offsets (with_kids e ks) ≡ without_offsets target
    → Leads (Spells n) e target (flat_map child_text ks)
leads_kids n spell [] e target fit apart fresh alike = leads_nowhere (Spells n) e target (ap without_offsets (sym (no_kids e)) ∙ alike)
leads_kids n spell (k ∷ ks) e target fit apart fresh alike =
    kid_step n k ks e target spell
    (λ l same f.
    leads_kids n spell ks (with_kid l e) target (and_right (is_kid (is_element n) k) (list_all (is_kid (is_element n)) ks) fit)
    (and_right (not (is_text_kid k && begins_with_text ks)) (are_apart ks) apart) f (one_kid e k l ks same ∙ alike))
    (and_left (is_kid (is_element n) k) (list_all (is_kid (is_element n)) ks) fit) (and_left (not (is_text_kid k && begins_with_text ks)) (are_apart ks) apart) fresh (kid_is k)

spelled_empty : (n at : ℕ) (e : Element) → Parts n e → e.kids ≡ [] → Spelled (Spells (suc n)) at e (element_text e)
spelled_empty n at e p no_kid = record {
  tree = tagged e.name at e.attrs;
  spells =
      empty at (tagged e.name at e.attrs) (element_text e) (60 ∷ (e.name ++ flat_map attr_text e.attrs)) (tag_text e.name at e.attrs p.name p.attrs) (sym (empty_pieces e no_kid));
  alike =
      without_offsets_is (tagged e.name at e.attrs)
      ∙ ap (λ (ks : List Child). record { name = e.name; at = 0; attrs = e.attrs; kids = map kid_without_offsets ks }) (sym no_kid) ∙ sym (without_offsets_is e);
}

spelled_full : (n at : ℕ) (e : Element) → Parts n e → (e.kids ≡ [] → ⊥) → ((at : ℕ) (x : Element) → is_element n x ≡ true → Spelled (Spells n) at x (element_text x))
    → Spelled (Spells (suc n)) at e (element_text e)
spelled_full n at e p some spell =
    let started = tagged e.name at e.attrs in
    let tag = 60 ∷ (e.name ++ flat_map attr_text e.attrs) in
    let alike : without_offsets (with_kids started e.kids) ≡ without_offsets e = without_offsets_is (with_kids started e.kids) ∙ sym (without_offsets_is e) in
    let f = leads_kids n spell e.kids started e p.kids p.apart (λ begins b bs. refl) alike (at + length tag + 1) [] started refl refl in
    record {
      tree = f.tree;
      spells =
          whole at f.tree started (element_text e) tag (flat_map child_text e.kids) (60 ∷ 47 ∷ (e.name ++ (62 ∷ []))) (at + length tag + 1) (tag_text e.name at e.attrs p.name p.attrs)
          f.content ([], refl, refl) refl (sym (full_pieces e e.kids e.name refl refl some));
      alike = f.alike;
    }

spelled_parts : (n at : ℕ) (e : Element) (ks : List Child) → e.kids ≡ ks → Parts n e → ((at : ℕ) (x : Element) → is_element n x ≡ true → Spelled (Spells n) at x (element_text x))
    → Spelled (Spells (suc n)) at e (element_text e)
spelled_parts n at e [] is p spell = spelled_empty n at e p is
spelled_parts n at e (k ∷ ks) is p spell = spelled_full n at e p (λ no_kid. absurd cc) spell

-- the text of an element spells it but for the offsets, wherever it stands
pub spelled : (n at : ℕ) (e : Element) → is_element n e ≡ true → Spelled (Spells n) at e (element_text e)
spelled zero at e h = absurd (not_element-zero e h)
spelled (suc n) at e h = spelled_parts n at e e.kids refl (parts_of n e h) (λ at x. spelled n at x)
