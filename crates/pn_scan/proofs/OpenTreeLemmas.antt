-- What is kept beside the builder goes with what it holds after each change.
use Rattle.std.proofs.Common.{◌≡◌, ℕ, zero, suc, ◌-◌, ◌<◌, ◌≤◌, Bool, true, false, nat_lt, List, [], ◌∷◌, ◌++◌, length, length-append, Option, Some, None, IfSome, refl, sym, ap, ◌∙◌, subst, arith}
use Rattle.std.specs.Option.{is_some}
use Rattle.std.proofs.lemmas.Bool.Decides.{nat_tests}
use Rattle.pn_tree.specs.Building.{Building, innermost, at_innermost, at_first, begun, with_attr, with_text, joined, joined_last}
use Rattle.pn_tree.specs.declared.element.Element.{Element}
use Rattle.pn_tree.specs.declared.element.Child.{Child}
use Rattle.pn_tree.specs.declared.element.Child.TheOpen as layer
use Rattle.pn_tree.specs.declared.element.Child.TheViews.{out-Child}
use Rattle.pn_scan.specs.State.{before, within, room_at}
use Rattle.pn_scan.specs.Nestings.{nesting_in, nesting_of, is_inside, inner_of, outer_of, names_of, levels_for, outer_for, HasRoom, IsRoom, Belongs}
use Rattle.pn_scan.specs.Names.{Holds, AreNoted}
use Rattle.pn_scan.specs.declared.names.AttributeNames.{AttributeNames}
use Rattle.pn_scan.specs.declared.open_tree.OpenTree.{OpenTree}
use Rattle.pn_scan.proofs.ElementLemmas.{name_kept}

names_changed : (change : Element → Element) → ((e : Element) → (change e).name ≡ e.name) → (es : List Element) → names_of (at_first change es) ≡ names_of es
names_changed change same [] = refl
names_changed change same (e ∷ es) = ap (λ n. names_of es ++ (n ∷ [])) (same e)

pub names_length : (es : List Element) → length (names_of es) ≡ length es
names_length [] = refl
names_length (e ∷ es) = omega (arith, length-append (names_of es) (e.name ∷ []), names_length es)

-- within an element its name is the last
pub names_inside : (es : List Element) (root : Option Element) → is_inside (nesting_in es root) ≡ true
    → names_of es ≡ names_of (outer_of (nesting_in es root)) ++ ((inner_of (nesting_in es root)).name ∷ [])
names_inside [] None h = absurd (cc)
names_inside [] (Some r) h = absurd (cc)
names_inside (e ∷ es) root h = refl

length_changed : (change : Element → Element) (es : List Element) → length (at_first change es) ≡ length es
length_changed change [] = refl
length_changed change (e ∷ es) = refl

none_changed : (change : Element → Element) (es : List Element) → es ≡ [] → at_first change es ≡ []
none_changed change [] h = refl
none_changed change (e ∷ es) h = absurd (cc)

-- attributes

abbrev pub Knows : AttributeNames → Element → Type 0
Knows t e = e.kids ≡ [] → AreNoted t e.attrs

joined_last_some : (more : List ℕ) (k : Child) (l : layer.Child-F Child Element) → joined_last more k l ≡ [] → ⊥
joined_last_some more k (layer.Element e) h = cc
joined_last_some more k (layer.Text t) h = cc

joined_some : (more : List ℕ) (ks : List Child) → joined more ks ≡ [] → ⊥
joined_some more [] h = cc
joined_some more (k ∷ []) h = joined_last_some more k (out-Child k) h
joined_some more (k ∷ x ∷ ks) h = cc

knows_text : (t : AttributeNames) (text : List ℕ) (e : Element) → Knows t e → Knows t (with_text text e)
knows_text t [] e h = h
knows_text t (b ∷ bs) e h = λ none. absurd (joined_some (b ∷ bs) e.kids none)

knows_first : (t u : AttributeNames) (change : Element → Element) (root : Option Element) (es : List Element)
    → ((e : Element) → Knows t e → Knows u (change e)) → IfSome (innermost (record { root = root; open_elements = es })) (Knows t)
    → IfSome (innermost (record { root = root; open_elements = at_first change es })) (Knows u)
knows_first t u change root [] keeps h = tt
knows_first t u change root (e ∷ es) keeps h = keeps e h

pub belongs_text : (t : OpenTree) (b : Building) (text : List ℕ) → Belongs t → b ≡ at_innermost (with_text text) t.builder → Belongs (record t { builder = b })
belongs_text t b text h is =
    let change = with_text text in
    let es = t.builder.open_elements in
    record {
      names = subst (λ l. Holds l t.names) (sym (ap (λ (v : Building). names_of v.open_elements) is ∙ names_changed change (name_kept text) es)) h.names;
      attributes =
          subst (λ (v : Building). IfSome (innermost v) (Knows t.attributes)) (sym is)
          (knows_first t.attributes t.attributes change t.builder.root es (λ e k. knows_text t.attributes text e k) h.attributes);
      depth = subst (λ (v : Building). length v.open_elements ≤ 256) (sym is) (subst (λ n. n ≤ 256) (sym (length_changed change es)) h.depth);
      root = h.root ∙ sym (ap (λ (v : Building). is_some v.root) is);
      rooted = λ ended. ap (λ (v : Building). v.open_elements) is ∙ none_changed change es (h.rooted ended);
    }

pub belongs_attr : (t u : OpenTree) (name value : List ℕ) → Belongs t → u.names ≡ t.names → u.ended ≡ t.ended → u.builder ≡ at_innermost (with_attr name value) t.builder
    → ((e : Element) → AreNoted t.attributes e.attrs → AreNoted u.attributes (with_attr name value e).attrs) → Belongs u
belongs_attr t u name value h same_names same_end is more =
    let change = with_attr name value in
    let es = t.builder.open_elements in
    record {
      names = subst (Holds (names_of u.builder.open_elements)) (sym same_names)
          (subst (λ l. Holds l t.names) (sym (ap (λ (v : Building). names_of v.open_elements) is ∙ names_changed change (λ e. refl) es)) h.names);
      attributes =
          subst (λ (v : Building). IfSome (innermost v) (Knows u.attributes)) (sym is)
          (knows_first t.attributes u.attributes change t.builder.root es (λ e k none. more e (k none)) h.attributes);
      depth = subst (λ (v : Building). length v.open_elements ≤ 256) (sym is) (subst (λ n. n ≤ 256) (sym (length_changed change es)) h.depth);
      root = same_end ∙ h.root ∙ sym (ap (λ (v : Building). is_some v.root) is);
      rooted = λ ended. ap (λ (v : Building). v.open_elements) is ∙ none_changed change es (h.rooted (sym same_end ∙ ended));
    }

not_ended : (b : Building) → HasRoom (nesting_in b.open_elements b.root) → is_some b.root ≡ true → b.open_elements ≡ [] → ⊥
not_ended b room root none = go b.open_elements b.root room root none
  where
    go : (es : List Element) (r : Option Element) → room_at (nesting_in es r) ≡ Some (levels_for (nesting_in es r), outer_for (nesting_in es r)) → is_some r ≡ true → es ≡ [] → ⊥
    go [] (Some r) h k n = cc
    go [] None h k n = cc
    go (e ∷ es) r h k n = cc

room_depth : (es : List Element) (r : Option Element) → room_at (nesting_in es r) ≡ Some (levels_for (nesting_in es r), outer_for (nesting_in es r)) → length es < 256
room_depth [] r h = omega arith
room_depth (e ∷ es) r h = go (256 - length (e ∷ es)) refl h
  where
    go : (n : ℕ) → 256 - length (e ∷ es) ≡ n → room_at (within n e es) ≡ Some (n - 1, e ∷ es) → length (e ∷ es) < 256
    go zero is k = absurd (cc)
    go (suc n) is k = omega arith

pub belongs_begun : (t u : OpenTree) (name : List ℕ) (at : ℕ) → Belongs t → HasRoom (nesting_of t) → ((names : List (List ℕ)) → Holds names t.names → Holds (names ++ (name ∷ [])) u.names)
    → u.ended ≡ t.ended → u.builder ≡ begun name at t.builder → AreNoted u.attributes [] → Belongs u
belongs_begun t u name at h room more_names same_end is none =
    let es = t.builder.open_elements in
    record {
      names = subst (λ (v : Building). Holds (names_of v.open_elements) u.names) (sym is) (more_names (names_of es) h.names);
      attributes = subst (λ (v : Building). IfSome (innermost v) (Knows u.attributes)) (sym is) (λ _. none);
      depth =
          subst (λ (v : Building). length v.open_elements ≤ 256) (sym is) (let l : length es < 256 = room_depth es t.builder.root room in omega arith);
      root = same_end ∙ h.root ∙ sym (ap (λ (v : Building). is_some v.root) is);
      rooted = λ ended. absurd (not_ended t.builder room (sym h.root ∙ sym same_end ∙ ended) (h.rooted (sym same_end ∙ ended)));
    }

room_by : (levels : ℕ) (e : Element) (outer : List Element) (b : Bool) → nat_lt 0 levels ≡ b → IsRoom b (within levels e outer)
room_by zero e outer true h = absurd (cc)
room_by zero e outer false h = refl
room_by (suc m) e outer true h = let same : m ≡ suc m - 1 = omega arith in ap (λ k. Some (k, e ∷ outer)) same
room_by (suc m) e outer false h = absurd (grind (arith, nat_tests))

-- there is room where fewer than 256 elements are open and the root is not ended
pub room_is : (es : List Element) (root : Option Element) (n : ℕ) → n ≡ length (names_of es) → is_some root ≡ false → IsRoom (nat_lt n 256) (nesting_in es root)
room_is [] None n is h = let none : n ≡ 0 = is in subst (λ k. IsRoom (nat_lt k 256) before) (sym none) refl
room_is [] (Some r) n is h = absurd (cc)
room_is (e ∷ es) root n is h =
    let size : n ≡ length (e ∷ es) = is ∙ names_length (e ∷ es) in
    room_by (256 - length (e ∷ es)) e es (nat_lt n 256) (grind (arith, nat_tests))
