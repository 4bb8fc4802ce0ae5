-- The open elements of a builder stay such that their ends make a tree.
use Rattle.std.proofs.Common.{◌≡◌, ℕ, zero, suc, ◌-◌, ◌<◌, Bool, true, false, ◌&&◌, not, cond, List, [], ◌∷◌, ◌++◌, length, Some, None, refl, sym, ap, ◌∙◌, subst, arith}
use Rattle.std.specs.List.{list_all}
use Rattle.std.specs.Option.{is_none}
use Rattle.std.specs.Str.{bytes_eq}
use Rattle.std.proofs.lemmas.Bool.{false≢true}
use Rattle.std.proofs.lemmas.List.Folds.{list_all-append}
use Rattle.pn_text.specs.Characters.{is_name, is_text}
use Rattle.pn_tree.specs.Elements.{attr_value, are_attrs, is_text_kid, is_text_layer, begins_with_text, are_apart, is_kid, is_kid_layer, is_kid_text, is_element}
use Rattle.pn_tree.specs.Building.{with_attr, with_kid, with_text, joined, joined_last}
use Rattle.pn_tree.specs.Frames.{are_open}
use Rattle.pn_tree.specs.declared.element.Attr.{Attr}
use Rattle.pn_tree.specs.declared.element.Element.{Element}
use Rattle.pn_tree.specs.declared.element.Child.{Child}
use Rattle.pn_tree.specs.declared.element.Child.TheOpen as layer
use Rattle.pn_tree.specs.declared.element.Child.TheVariants as children
use Rattle.pn_tree.specs.declared.element.Child.TheViews.{out-Child}
use Rattle.pn_tree.proofs.ElementLemmas.{is_text_kid-element, is_text_kid-text, is_kid-element, is_kid-text}
use Rattle.pn_text.proofs.TextLemmas.{is_text-append}
use Rattle.pn_tree.proofs.TreeLemmas.{Parts, parts_of, of_parts, not_element-zero}
use Rattle.pn_facts.proofs.Truths.{and_left, and_right, and_both}
use Rattle.pn_facts.proofs.Options.{cond_none, none_from}
use Rattle.pn_facts.proofs.Bytes.{bytes_differ}

-- attributes

value_absent : (name : List ℕ) (a : Attr) (more : List Attr) → attr_value name (a ∷ more) ≡ None → (bytes_eq a.name name ≡ false) × (attr_value name more ≡ None)
value_absent name a more h = cond_none (bytes_eq a.name name) a.value (attr_value name more) h

value_push : (name : List ℕ) (given : List Attr) (a : Attr) → attr_value name given ≡ None → bytes_eq a.name name ≡ false → attr_value name (given ++ (a ∷ [])) ≡ None
value_push name [] a h d = ap (λ b. cond b (Some a.value) None) d
value_push name (x ∷ xs) a h d =
    let s = value_absent name x xs h in
    ap (λ b. cond b (Some x.value) (attr_value name (xs ++ (a ∷ [])))) s.0 ∙ value_push name xs a s.1 d

are_attrs-push : (given : List Attr) (a : Attr) → are_attrs given ≡ true → is_name a.name ≡ true → is_text a.value ≡ true → attr_value a.name given ≡ None → are_attrs (given ++ (a ∷ [])) ≡ true
are_attrs-push [] a h n v new = and_both (is_name a.name) (is_text a.value && true) n (and_both (is_text a.value) true v refl)
are_attrs-push (x ∷ xs) a h n v new =
    let absent = is_none (attr_value x.name xs) in
    let more = and_right (is_name x.name) (is_text x.value && (absent && are_attrs xs)) h in
    let last = and_right (is_text x.value) (absent && are_attrs xs) more in
    let s = value_absent a.name x xs new in
    let others = value_push x.name xs a (none_from (attr_value x.name xs) (and_left absent (are_attrs xs) last)) (bytes_differ x.name a.name s.0) in
    let after = is_none (attr_value x.name (xs ++ (a ∷ []))) in
    let rest = are_attrs (xs ++ (a ∷ [])) in
    and_both (is_name x.name) (is_text x.value && (after && rest)) (and_left (is_name x.name) (is_text x.value && (absent && are_attrs xs)) h)
    (and_both (is_text x.value) (after && rest) (and_left (is_text x.value) (absent && are_attrs xs) more)
    (and_both after rest (ap is_none others) (are_attrs-push xs a (and_right absent (are_attrs xs) last) n v s.1)))

-- kids

alone : (b : Bool) → (not (b && false) && true) ≡ true
alone true = refl
alone false = refl

apart_two : (a b : Bool) → b ≡ false → (not (a && b) && (not (b && false) && true)) ≡ true
apart_two true true h = absurd (false≢true (sym h))
apart_two true false h = refl
apart_two false true h = refl
apart_two false false h = refl

apart_first : (a b : Bool) → a ≡ false → (not (a && b) && (not (b && false) && true)) ≡ true
apart_first true b h = absurd (false≢true (sym h))
apart_first false true h = refl
apart_first false false h = refl

-- a kid that is no text may stand behind any
are_apart-push : (ks : List Child) (k : Child) → is_text_kid k ≡ false → are_apart ks ≡ true → are_apart (ks ++ (k ∷ [])) ≡ true
are_apart-push [] k other h = alone (is_text_kid k)
are_apart-push (x ∷ []) k other h = apart_two (is_text_kid x) (is_text_kid k) other
are_apart-push (x ∷ y ∷ ks) k other h =
    let first = not (is_text_kid x && is_text_kid y) in
    and_both first (are_apart ((y ∷ ks) ++ (k ∷ []))) (and_left first (are_apart (y ∷ ks)) h)
    (are_apart-push (y ∷ ks) k other (and_right first (are_apart (y ∷ ks)) h))

joined_last_begins : (more : List ℕ) (k : Child) (l : layer.Child-F Child Element) → out-Child k ≡ l → begins_with_text (joined_last more k l) ≡ is_text_kid k
joined_last_begins more k (layer.Element e) is = refl
joined_last_begins more k (layer.Text t) is = is_text_kid-text (t ++ more) ∙ sym (ap is_text_layer is)

joined_begins : (more : List ℕ) (k : Child) (ks : List Child) → begins_with_text (joined more (k ∷ ks)) ≡ is_text_kid k
joined_begins more k [] = joined_last_begins more k (out-Child k) refl
joined_begins more k (x ∷ ks) = refl

joined_last_apart : (more : List ℕ) (k : Child) (l : layer.Child-F Child Element) → out-Child k ≡ l → are_apart (joined_last more k l) ≡ true
joined_last_apart more k (layer.Element e) is = apart_first (is_text_kid k) (is_text_kid (children.Text more)) (ap is_text_layer is)
joined_last_apart more k (layer.Text t) is = alone (is_text_kid (children.Text (t ++ more)))

are_apart-joined : (more : List ℕ) (ks : List Child) → are_apart ks ≡ true → are_apart (joined more ks) ≡ true
are_apart-joined more [] h = alone (is_text_kid (children.Text more))
are_apart-joined more (k ∷ []) h = joined_last_apart more k (out-Child k) refl
are_apart-joined more (k ∷ x ∷ ks) h =
    let first = not (is_text_kid k && is_text_kid x) in
    and_both (not (is_text_kid k && begins_with_text (joined more (x ∷ ks)))) (are_apart (joined more (x ∷ ks)))
    (ap (λ b. not (is_text_kid k && b)) (joined_begins more x ks) ∙ and_left first (are_apart (x ∷ ks)) h)
    (are_apart-joined more (x ∷ ks) (and_right first (are_apart (x ∷ ks)) h))

kid_text-append : (t more : List ℕ) → is_kid_text t ≡ true → is_text more ≡ true → is_kid_text (t ++ more) ≡ true
kid_text-append [] more h k = absurd (false≢true h)
kid_text-append (b ∷ bs) more h k = is_text-append (b ∷ bs) more h k

last_kids : (test : Element → Bool) (more : List ℕ) (k : Child) (l : layer.Child-F Child Element) → out-Child k ≡ l → is_kid_text more ≡ true → is_text more ≡ true
    → is_kid test k ≡ true → list_all (is_kid test) (joined_last more k l) ≡ true
last_kids test more k (layer.Element e) is m t h =
    and_both (is_kid test k) (is_kid test (children.Text more) && true) h (and_both (is_kid test (children.Text more)) true (is_kid-text test more ∙ m) refl)
last_kids test more k (layer.Text s) is m t h =
    and_both (is_kid test (children.Text (s ++ more))) true
    (is_kid-text test (s ++ more) ∙ kid_text-append s more (sym (ap (is_kid_layer test) is) ∙ h) t) refl

kids-joined : (test : Element → Bool) (more : List ℕ) (ks : List Child) → is_kid_text more ≡ true → is_text more ≡ true → list_all (is_kid test) ks ≡ true
    → list_all (is_kid test) (joined more ks) ≡ true
kids-joined test more [] m t h = and_both (is_kid test (children.Text more)) true (is_kid-text test more ∙ m) refl
kids-joined test more (k ∷ []) m t h = last_kids test more k (out-Child k) refl m t (and_left (is_kid test k) true h)
kids-joined test more (k ∷ x ∷ ks) m t h =
    let rest = list_all (is_kid test) (x ∷ ks) in
    and_both (is_kid test k) (list_all (is_kid test) (joined more (x ∷ ks))) (and_left (is_kid test k) rest h)
    (kids-joined test more (x ∷ ks) m t (and_right (is_kid test k) rest h))

-- an element and what it is given

pub begun_parts : (levels : ℕ) (name : List ℕ) (at : ℕ) → is_name name ≡ true → Parts levels (record { name = name; at = at; attrs = []; kids = [] })
begun_parts levels name at h = record { name = h; attrs = refl; apart = refl; kids = refl }

pub attr_parts : (levels : ℕ) (e : Element) (name value : List ℕ) → is_name name ≡ true → is_text value ≡ true → attr_value name e.attrs ≡ None → Parts levels e
    → Parts levels (with_attr name value e)
attr_parts levels e name value n v new p = record {
  name = p.name;
  attrs = are_attrs-push e.attrs (record { name = name; value = value }) p.attrs n v new;
  apart = p.apart;
  kids = p.kids;
}

pub text_parts : (levels : ℕ) (e : Element) (text : List ℕ) → is_text text ≡ true → Parts levels e → Parts levels (with_text text e)
text_parts levels e [] t p = p
text_parts levels e (b ∷ bs) t p = record {
  name = p.name;
  attrs = p.attrs;
  apart = are_apart-joined (b ∷ bs) e.kids p.apart;
  kids = kids-joined (is_element levels) (b ∷ bs) e.kids t t p.kids;
}

pub kid_parts : (levels : ℕ) (e k : Element) → is_element levels k ≡ true → Parts levels e → Parts levels (with_kid (children.Element k) e)
kid_parts levels e k h p = record {
  name = p.name;
  attrs = p.attrs;
  apart = are_apart-push e.kids (children.Element k) (is_text_kid-element k) p.apart;
  kids =
      list_all-append (is_kid (is_element levels)) e.kids (children.Element k ∷ [])
      ∙ and_both (list_all (is_kid (is_element levels)) e.kids) (is_kid (is_element levels) (children.Element k) && true) p.kids
      (and_both (is_kid (is_element levels) (children.Element k)) true (is_kid-element (is_element levels) k ∙ h) refl);
}

-- the open elements

pub parts_at : (n : ℕ) (e : Element) → is_element n e ≡ true → (k : ℕ) × (n ≡ suc k) × Parts k e
parts_at zero e h = absurd (not_element-zero e h)
parts_at (suc k) e h = (k, refl, parts_of k e h)

element_at : (n k : ℕ) (e : Element) → n ≡ suc k → Parts k e → is_element n e ≡ true
element_at n k e is p = subst (λ m. is_element m e ≡ true) (sym is) (of_parts k e p)

-- the innermost one was changed
pub open_changed : (change : Element → Element) (e : Element) (es : List Element) → ((k : ℕ) → 256 - length es ≡ suc k → Parts k e → Parts k (change e))
    → are_open (e ∷ es) ≡ true → are_open (change e ∷ es) ≡ true
open_changed change e es keeps h =
    let p = parts_at (256 - length es) e (and_left (is_element (256 - length es) e) (are_open es) h) in
    and_both (is_element (256 - length es) (change e)) (are_open es) (element_at (256 - length es) p.0 (change e) p.1 (keeps p.0 p.1 p.2))
    (and_right (is_element (256 - length es) e) (are_open es) h)

-- one was begun
pub open_begun : (name : List ℕ) (at : ℕ) (es : List Element) → is_name name ≡ true → length es < 256 → are_open es ≡ true
    → are_open (record { name = name; at = at; attrs = []; kids = [] } ∷ es) ≡ true
open_begun name at es n lt h =
    let e : Element = record { name = name; at = at; attrs = []; kids = [] } in
    let is : 256 - length es ≡ suc (255 - length es) = omega arith in
    and_both (is_element (256 - length es) e) (are_open es) (element_at (256 - length es) (255 - length es) e is (begun_parts (255 - length es) name at n)) h

-- it was ended
pub open_closed : (e p : Element) (es : List Element) → are_open (e ∷ p ∷ es) ≡ true → are_open (with_kid (children.Element e) p ∷ es) ≡ true
open_closed e p es h =
    let own = is_element (256 - length (p ∷ es)) e in
    open_changed (with_kid (children.Element e)) p es
    (λ n is q. kid_parts n p e (subst (λ m. is_element m e ≡ true) (one_less (length es) n is) (and_left own (are_open (p ∷ es)) h)) q)
    (and_right own (are_open (p ∷ es)) h)
  where
    one_less : (l n : ℕ) → 256 - l ≡ suc n → 256 - suc l ≡ n
    one_less l n is = omega arith
