-- A copy of an element, given piece by piece.
use Rattle.std.proofs.Common.{◌≡◌, ℕ, zero, suc, ◌+◌, ◌*◌, ◌<◌, ◌≤◌, Bool, true, false, ◌&&◌, not, cond, List, [], ◌∷◌, ◌++◌, length, take, Option, Some, None, IsSome, IfSome, refl, sym, ap, ◌∙◌, subst, arith, append_assoc}
use Rattle.std.specs.List.{list_all, slice_get}
use Rattle.std.specs.Option.{is_none}
use Rattle.std.specs.Str.{bytes_eq}
use Rattle.std.proofs.lemmas.Bool.{false≢true}
use Rattle.pn_facts.proofs.Truths.{and_left, and_right}
use Rattle.pn_facts.proofs.Options.{cond_none, none_from}
use Rattle.pn_facts.proofs.Bytes.{bytes_differ}
use Rattle.pn_text.specs.Characters.{is_name, is_text}
use Rattle.pn_tree.specs.Elements.{attr_value, are_attrs, is_text_kid, is_text_layer, begins_with_text, are_apart, is_kid, is_kid_text, is_element, IsTree}
use Rattle.pn_tree.specs.Building.{Building, innermost, at_first, at_innermost, with_attr, with_text, joined, joined_last}
use Rattle.pn_tree.specs.Copies.{IsBlank, HasNoKids, with_attrs, with_kids, with_shown, KidFits}
use Rattle.pn_tree.specs.Depth.{depth_of}
use Rattle.pn_tree.specs.Walks.{kid_size}
use Rattle.pn_tree.specs.Views.{element_of, child_of, IsShallower}
use Rattle.pn_tree.specs.declared.element.Attr.{Attr}
use Rattle.pn_tree.specs.declared.element.Element.{Element}
use Rattle.pn_tree.specs.declared.element.Child.{Child}
use Rattle.pn_tree.specs.declared.element.Child.TheOpen as layer
use Rattle.pn_tree.specs.declared.element.Child.TheVariants as children
use Rattle.pn_tree.specs.declared.element.Child.TheViews.{out-Child}
use Rattle.pn_tree.specs.declared.view.Kid.{Kid}
use Rattle.pn_tree.specs.declared.view.Kid.TheVariants as kids
use Rattle.pn_tree.proofs.CutLemmas.{list_all_at}
use Rattle.pn_tree.proofs.ElementLemmas.{is_text_kid-text, is_kid-text}
use Rattle.pn_tree.proofs.TreeLemmas.{parts_of}

pub take_next : {X : Type 0} (xs : List X) (i : ℕ) (x : X) → slice_get xs i ≡ Some x → take (i + 1) xs ≡ take i xs ++ (x ∷ [])
take_next xs i x is = let next : i + 1 ≡ suc i = omega arith in ap (λ n. take n xs) next ∙ by xs i is
  where
    by : (ys : List _) (k : ℕ) → slice_get ys k ≡ Some x → take (suc k) ys ≡ take k ys ++ (x ∷ [])
    by [] k e = absurd cc
    by (y ∷ ys) zero e = let same : y ≡ x = cc in ap (λ z. z ∷ []) same
    by (y ∷ ys) (suc k) e = ap (λ l. y ∷ l) (by ys k e)

-- attributes

absent_at : (name : List ℕ) (xs : List Attr) (i : ℕ) (a : Attr) → attr_value name xs ≡ None → slice_get xs i ≡ Some a → bytes_eq a.name name ≡ false
absent_at name [] i a none is = absurd cc
absent_at name (x ∷ xs) zero a none is =
    let same : x ≡ a = cc in subst (λ (y : Attr). bytes_eq y.name name ≡ false) same (cond_none (bytes_eq x.name name) x.value (attr_value name xs) none).0
absent_at name (x ∷ xs) (suc i) a none is = absent_at name xs i a (cond_none (bytes_eq x.name name) x.value (attr_value name xs) none).1 is

pub record Valid (xs : List Attr) (i : ℕ) (a : Attr) : Type 0 where
  pub name : is_name a.name ≡ true
  pub value : is_text a.value ≡ true
  pub new : attr_value a.name (take i xs) ≡ None

pub attr_valid : (xs : List Attr) (i : ℕ) (a : Attr) → slice_get xs i ≡ Some a → are_attrs xs ≡ true → Valid xs i a
attr_valid [] i a is h = absurd cc
attr_valid (x ∷ xs) zero a is h =
    let same : x ≡ a = cc in
    let more = and_right (is_name x.name) (is_text x.value && (is_none (attr_value x.name xs) && are_attrs xs)) h in
    record {
      name = subst (λ (y : Attr). is_name y.name ≡ true) same (and_left (is_name x.name) (is_text x.value && (is_none (attr_value x.name xs) && are_attrs xs)) h);
      value = subst (λ (y : Attr). is_text y.value ≡ true) same (and_left (is_text x.value) (is_none (attr_value x.name xs) && are_attrs xs) more);
      new = refl;
    }
attr_valid (x ∷ xs) (suc i) a is h =
    let more = and_right (is_name x.name) (is_text x.value && (is_none (attr_value x.name xs) && are_attrs xs)) h in
    let last = and_right (is_text x.value) (is_none (attr_value x.name xs) && are_attrs xs) more in
    let rest = attr_valid xs i a is (and_right (is_none (attr_value x.name xs)) (are_attrs xs) last) in
    let other = bytes_differ a.name x.name (absent_at x.name xs i a (none_from (attr_value x.name xs) (and_left (is_none (attr_value x.name xs)) (are_attrs xs) last)) is) in
    record { name = rest.name; value = rest.value; new = ap (λ b. cond b (Some x.value) (attr_value a.name (take i xs))) other ∙ rest.new }

pub record Ready (b : Building) (a : Attr) : Type 0 where
  pub is_open : IsSome (innermost b)
  pub before_kids : IfSome (innermost b) (λ e. e.kids ≡ [])
  pub new : IfSome (innermost b) (λ e. attr_value a.name e.attrs ≡ None)

ready_first : (root : Option Element) (opens : List Element) (xs : List Attr) (i : ℕ) (a : Attr) → IsBlank (innermost (record { root = root; open_elements = opens }))
    → attr_value a.name (take i xs) ≡ None → Ready (at_innermost (with_attrs (take i xs)) (record { root = root; open_elements = opens })) a
ready_first root [] xs i a blank new = absurd blank
ready_first root (e ∷ es) xs i a blank new = record {
  is_open = refl;
  before_kids = blank.1;
  new = subst (λ l. attr_value a.name (l ++ take i xs) ≡ None) (sym blank.0) new;
}

pub ready : (b d : Building) (xs : List Attr) (i : ℕ) (a : Attr) → d ≡ at_innermost (with_attrs (take i xs)) b → IsBlank (innermost b) → Valid xs i a → Ready d a
ready b d xs i a is blank valid = subst (λ x. Ready x a) (sym is) (ready_first b.root b.open_elements xs i a blank valid.new)

attrs_first : (opens : List Element) (xs : List Attr) (i : ℕ) (a : Attr) → take (i + 1) xs ≡ take i xs ++ (a ∷ [])
    → at_first (with_attr a.name a.value) (at_first (with_attrs (take i xs)) opens) ≡ at_first (with_attrs (take (i + 1) xs)) opens
attrs_first [] xs i a next = refl
attrs_first (e ∷ es) xs i a next =
    let same : (e.attrs ++ take i xs) ++ (a ∷ []) ≡ e.attrs ++ take (i + 1) xs = append_assoc e.attrs (take i xs) (a ∷ []) ∙ ap (λ l. e.attrs ++ l) (sym next) in
    λ j. record e { attrs = same j } ∷ es

pub attrs_more : (b d f : Building) (xs : List Attr) (i : ℕ) (a : Attr) → d ≡ at_innermost (with_attrs (take i xs)) b → f ≡ at_innermost (with_attr a.name a.value) d
    → slice_get xs i ≡ Some a → f ≡ at_innermost (with_attrs (take (i + 1) xs)) b
attrs_more b d f xs i a old new is =
    let same = attrs_first b.open_elements xs i a (take_next xs i a is) in
    new ∙ ap (at_innermost (with_attr a.name a.value)) old ∙ (λ j. record { root = b.root; open_elements = same j })

-- kids

after_kid : (t : List ℕ) (k : Child) (l : layer.Child-F Child Element) → out-Child k ≡ l → is_text_kid k ≡ false → joined_last t k l ≡ k ∷ children.Text t ∷ []
after_kid t k (layer.Element e) is other = refl
after_kid t k (layer.Text s) is other = absurd (false≢true (sym other ∙ ap is_text_layer is))

not_text : (k : Child) (t : List ℕ) (rest : List Child) → are_apart (k ∷ children.Text t ∷ rest) ≡ true → is_text_kid k ≡ false
not_text k t rest h =
    by (is_text_kid k) refl (and_left (not (is_text_kid k && is_text_kid (children.Text t))) (are_apart (children.Text t ∷ rest)) h)
  where
    by : (b : Bool) → is_text_kid k ≡ b → not (is_text_kid k && is_text_kid (children.Text t)) ≡ true → is_text_kid k ≡ false
    by false e g = e
    by true e g = absurd (false≢true (sym (ap (λ x. not (x && is_text_kid (children.Text t))) e ∙ ap not (is_text_kid-text t)) ∙ g))

-- a text of a tree stands behind no text
joined_next : (ks : List Child) (i : ℕ) (t : List ℕ) → are_apart ks ≡ true → slice_get ks i ≡ Some (children.Text t) → joined t (take i ks) ≡ take i ks ++ (children.Text t ∷ [])
joined_next [] i t h is = absurd cc
joined_next (k ∷ ks) zero t h is = refl
joined_next (k ∷ []) (suc i) t h is = absurd cc
joined_next (k ∷ l ∷ ks) (suc zero) t h is =
    let same : l ≡ children.Text t = cc in
    after_kid t k (out-Child k) refl (not_text k t ks (subst (λ x. are_apart (k ∷ x ∷ ks) ≡ true) same h))
joined_next (k ∷ l ∷ ks) (suc (suc i)) t h is =
    ap (λ r. k ∷ r) (joined_next (l ∷ ks) (suc i) t (and_right (not (is_text_kid k && begins_with_text (l ∷ ks))) (are_apart (l ∷ ks)) h) is)

text_given : (t : List ℕ) (e : Element) → is_kid_text t ≡ true → ◌≡◌ {A = Element} (with_text t e) (record e { kids = joined t e.kids })
text_given [] e h = absurd (false≢true h)
text_given (x ∷ t) e h = refl

shown_first : (e : Element) (es : List Element) (ks : List Child) (i : ℕ) (k : Kid) → e.kids ≡ [] → are_apart ks ≡ true → list_all (is_kid (is_element 255)) ks ≡ true
    → slice_get ks i ≡ Some (child_of k) → with_shown k (with_kids (take i ks) e) ≡ with_kids (take (i + 1) ks) e
shown_first e es ks i (kids.Element v) none apart all is =
    let same : (e.kids ++ take i ks) ++ (children.Element (element_of v) ∷ []) ≡ e.kids ++ take (i + 1) ks =
    append_assoc e.kids (take i ks) (children.Element (element_of v) ∷ []) ∙ ap (λ l. e.kids ++ l) (sym (take_next ks i (children.Element (element_of v)) is)) in
    λ j. record e { kids = same j }
shown_first e es ks i (kids.Text t) none apart all is =
    let some : is_kid_text t.now ≡ true = sym (is_kid-text (is_element 255) t.now) ∙ list_all_at (is_kid (is_element 255)) ks i (children.Text t.now) is all in
    let same : joined t.now (e.kids ++ take i ks) ≡ e.kids ++ take (i + 1) ks =
    ap (λ l. joined t.now (l ++ take i ks)) none ∙ joined_next ks i t.now apart is ∙ sym (take_next ks i (children.Text t.now) is) ∙ sym (ap (λ l. l ++ take (i + 1) ks) none) in
    text_given t.now (with_kids (take i ks) e) some ∙ (λ j. record e { kids = same j })

shown_all : (opens : List Element) (root : Option Element) (ks : List Child) (i : ℕ) (k : Kid) → HasNoKids (innermost (record { root = root; open_elements = opens })) → are_apart ks ≡ true
    → list_all (is_kid (is_element 255)) ks ≡ true → slice_get ks i ≡ Some (child_of k)
    → at_first (with_shown k) (at_first (with_kids (take i ks)) opens) ≡ at_first (with_kids (take (i + 1) ks)) opens
shown_all [] root ks i k none apart all is = refl
shown_all (e ∷ es) root ks i k none apart all is = ap (λ x. x ∷ es) (shown_first e es ks i k none apart all is)

pub kids_more : (b d f : Building) (e : Element) (i : ℕ) (k : Kid) → IsTree e → d ≡ at_innermost (with_kids (take i e.kids)) b → f ≡ at_innermost (with_shown k) d
    → HasNoKids (innermost b) → slice_get e.kids i ≡ Some (child_of k) → f ≡ at_innermost (with_kids (take (i + 1) e.kids)) b
kids_more b d f e i k tree old new none is =
    let p = parts_of 255 e tree in
    let same = shown_all b.open_elements b.root e.kids i k none p.apart p.kids is in
    new ∙ ap (at_innermost (with_shown k)) old ∙ (λ j. record { root = b.root; open_elements = same j })

same_count : (change : Element → Element) (opens : List Element) → length (at_first change opens) ≡ length opens
same_count change [] = refl
same_count change (e ∷ es) = refl

still_open : (change : Element → Element) (root : Option Element) (opens : List Element) → HasNoKids (innermost (record { root = root; open_elements = opens }))
    → IsSome (innermost (at_innermost change (record { root = root; open_elements = opens })))
still_open change root [] none = absurd none
still_open change root (e ∷ es) none = refl

pub kid_open : (b d : Building) (change : Element → Element) → d ≡ at_innermost change b → HasNoKids (innermost b) → IsSome (innermost d)
kid_open b d change is none = subst (λ x. IsSome (innermost x)) (sym is) (still_open change b.root b.open_elements none)

kid_fits : (n m : ℕ) (k : Kid) (ks : List Child) (i : ℕ) → list_all (is_kid (is_element 255)) ks ≡ true → slice_get ks i ≡ Some (child_of k) → IsShallower k m → n + m ≤ 257 → KidFits n k
kid_fits n m (kids.Element v) ks i all is less le = omega arith
kid_fits n m (kids.Text t) ks i all is less le =
    by t.now (sym (is_kid-text (is_element 255) t.now) ∙ list_all_at (is_kid (is_element 255)) ks i (children.Text t.now) is all)
  where
    by : (l : List ℕ) → is_kid_text l ≡ true → is_text l ≡ true
    by [] h = absurd (false≢true h)
    by (x ∷ l) h = h

pub fits : (b d : Building) (change : Element → Element) (e : Element) (k : Kid) (i : ℕ) → d ≡ at_innermost change b → IsTree e → slice_get e.kids i ≡ Some (child_of k)
    → IsShallower k (depth_of e) → length b.open_elements + depth_of e ≤ 257 → KidFits (length d.open_elements) k
fits b d change e k i same tree is less le =
    let count : length d.open_elements ≡ length b.open_elements = ap (λ (x : Building). length x.open_elements) same ∙ same_count change b.open_elements in
    kid_fits (length d.open_elements) (depth_of e) k e.kids i (parts_of 255 e tree).kids is less (omega (arith, count, le))

pub size_less : (k : Kid) (levels : ℕ) → IsShallower k levels → kid_size k < 3 * levels + 1
size_less (kids.Element v) levels less = omega arith
size_less (kids.Text t) levels less = omega arith
