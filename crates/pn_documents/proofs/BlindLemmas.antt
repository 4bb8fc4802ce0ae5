-- An element without its offsets has the elements, names, values and texts that it has.
use Rattle.std.proofs.Common.{◌≡◌, ℕ, Bool, true, false, cond, List, [], ◌∷◌, ◌++◌, map, Option, Some, None, refl, sym, ap, ◌∙◌}
use Rattle.std.specs.List.{cons_option, filter, find, slice_get}
use Rattle.std.specs.Option.{option_map, unwrap_or}
use Rattle.std.proofs.lemmas.Option.{slice_get-map}
use Rattle.pn_markup.specs.Offsets.{at_zero, kid_without_offsets, without_offsets}
use Rattle.pn_markup.proofs.OffsetLemmas.{kid_without-element, without_offsets_is}
use Rattle.pn_shape.proofs.LevelLemmas.{kid_is}
use Rattle.pn_shape.specs.Faults as faults
use Rattle.pn_shape.specs.Faults.{layer_text}
use Rattle.pn_spelling.specs.Parts.{attribute_of, child_elements, child_named, children_named, element_in_layer, elements_among, first_child, has_name, own_text}
use Rattle.pn_tree.proofs.ElementLemmas.{out_element, out_text}
use Rattle.pn_tree.specs.declared.element.Child.{Child}
use Rattle.pn_tree.specs.declared.element.Child.TheFolds.{fold-roll-Child}
use Rattle.pn_tree.specs.declared.element.Child.TheOpen as layer
use Rattle.pn_tree.specs.declared.element.Child.TheVariants as children
use Rattle.pn_tree.specs.declared.element.Child.TheVariants.{rolls-Text}
use Rattle.pn_tree.specs.declared.element.Child.TheViews.{out-Child, roll-Child, roll-out-Child}
use Rattle.pn_tree.specs.declared.element.Element.{Element}

-- ---- what is the same on both sides of a test, and of each of some things

pub cond_each : {A B : Type 0} (f : A → B) (b : Bool) (x y : A) (u v : B) → u ≡ f x → v ≡ f y → cond b u v ≡ f (cond b x y)
cond_each f true x y u v p q = p
cond_each f false x y u v p q = q

pub map_each : {A B C D : Type 0} (f : B → D) (g : A → B) (h : C → D) (k : A → C) → ((x : A) → f (g x) ≡ h (k x)) → (xs : List A) → map f (map g xs) ≡ map h (map k xs)
map_each f g h k same [] = refl
map_each f g h k same (x ∷ xs) = ap (λ y. y ∷ map f (map g xs)) (same x) ∙ ap (λ ys. h (k x) ∷ ys) (map_each f g h k same xs)

pub option_each : {A B C D : Type 0} (f : B → D) (g : A → B) (h : C → D) (k : A → C) → ((x : A) → f (g x) ≡ h (k x)) → (o : Option A) → option_map f (option_map g o) ≡ option_map h (option_map k o)
option_each f g h k same None = refl
option_each f g h k same (Some x) = ap Some (same x)

-- what is read of the first, or else this
pub or_else_each : {A B C D : Type 0} (f : B → D) (g : A → B) (h : C → D) (k : A → C) (c : C) (d : D) → ((x : A) → f (g x) ≡ h (k x)) → d ≡ h c → (o : Option A)
    → unwrap_or (option_map f (option_map g o)) d ≡ h (unwrap_or (option_map k o) c)
or_else_each f g h k c d same none None = none
or_else_each f g h k c d same none (Some x) = same x

-- ---- kids

text_is : (c : Child) (t : List ℕ) → out-Child c ≡ layer.Text t → c ≡ children.Text t
text_is c t is = sym (roll-out-Child c) ∙ ap roll-Child is ∙ rolls-Text t

kid_without-text : (t : List ℕ) → kid_without_offsets (children.Text t) ≡ children.Text t
kid_without-text t = ap kid_without_offsets (sym (rolls-Text t)) ∙ fold-roll-Child Child Element roll-Child at_zero (layer.Text t) ∙ rolls-Text t

-- a kid, as its layer shows it
abbrev pub bare_layer : layer.Child-F Child Element → layer.Child-F Child Element
bare_layer (layer.Element e) = layer.Element (without_offsets e)
bare_layer (layer.Text t) = layer.Text t

out_at : (k : Child) (l : layer.Child-F Child Element) → out-Child k ≡ l → out-Child (kid_without_offsets k) ≡ bare_layer l
out_at k (layer.Element e) is = ap (λ c. out-Child (kid_without_offsets c)) (kid_is k e is) ∙ ap out-Child (kid_without-element e) ∙ out_element (without_offsets e)
out_at k (layer.Text t) is = ap (λ c. out-Child (kid_without_offsets c)) (text_is k t is) ∙ ap out-Child (kid_without-text t) ∙ out_text t

pub out_bare : (k : Child) → out-Child (kid_without_offsets k) ≡ bare_layer (out-Child k)
out_bare k = out_at k (out-Child k) refl

cons_bare : (l : layer.Child-F Child Element) (xs : List Element) → cons_option (element_in_layer (bare_layer l)) (map without_offsets xs) ≡ map without_offsets (cons_option (element_in_layer l) xs)
cons_bare (layer.Element e) xs = refl
cons_bare (layer.Text t) xs = refl

elements_bare : (ks : List Child) → elements_among (map kid_without_offsets ks) ≡ map without_offsets (elements_among ks)
elements_bare [] = refl
elements_bare (k ∷ ks) =
    ap (λ l. cons_option (element_in_layer l) (elements_among (map kid_without_offsets ks))) (out_bare k)
    ∙ ap (cons_option (element_in_layer (bare_layer (out-Child k)))) (elements_bare ks) ∙ cons_bare (out-Child k) (elements_among ks)

text_bare : (l : layer.Child-F Child Element) → layer_text (bare_layer l) ≡ layer_text l
text_bare (layer.Element e) = refl
text_bare (layer.Text t) = refl

pub texts_bare : (ks : List Child) → faults.own_text (map kid_without_offsets ks) ≡ faults.own_text ks
texts_bare [] = refl
texts_bare (k ∷ ks) = ap (λ t. t ++ faults.own_text (map kid_without_offsets ks)) (ap layer_text (out_bare k) ∙ text_bare (out-Child k)) ∙ ap (λ t. layer_text (out-Child k) ++ t) (texts_bare ks)

-- ---- the parts of an element

pub children_bare : (e : Element) → child_elements (without_offsets e) ≡ map without_offsets (child_elements e)
children_bare e = ap child_elements (without_offsets_is e) ∙ elements_bare e.kids

pub own_text_bare : (e : Element) → own_text (without_offsets e) ≡ own_text e
own_text_bare e = ap own_text (without_offsets_is e) ∙ texts_bare e.kids

pub name_bare : (name : List ℕ) (e : Element) → has_name name (without_offsets e) ≡ has_name name e
name_bare name e = ap (has_name name) (without_offsets_is e)

pub attribute_bare : (name : List ℕ) (e : Element) → attribute_of name (without_offsets e) ≡ attribute_of name e
attribute_bare name e = ap (attribute_of name) (without_offsets_is e)

module _ (p : Element → Bool) (same : (x : Element) → p (without_offsets x) ≡ p x) where
  pub filter_bare : (xs : List Element) → filter p (map without_offsets xs) ≡ map without_offsets (filter p xs)
  filter_bare [] = refl
  filter_bare (x ∷ xs) =
      ap (λ b. cond b (without_offsets x ∷ filter p (map without_offsets xs)) (filter p (map without_offsets xs))) (same x)
      ∙ cond_each (map without_offsets) (p x) (x ∷ filter p xs) (filter p xs) (without_offsets x ∷ filter p (map without_offsets xs)) (filter p (map without_offsets xs)) (ap (λ l. without_offsets x ∷ l) (filter_bare xs)) (filter_bare xs)

  pub find_bare : (xs : List Element) → find p (map without_offsets xs) ≡ option_map without_offsets (find p xs)
  find_bare [] = refl
  find_bare (x ∷ xs) =
      ap (λ b. cond b (Some (without_offsets x)) (find p (map without_offsets xs))) (same x)
      ∙ cond_each (option_map without_offsets) (p x) (Some x) (find p xs) (Some (without_offsets x)) (find p (map without_offsets xs)) refl (find_bare xs)

pub children_named_bare : (name : List ℕ) (e : Element) → children_named name (without_offsets e) ≡ map without_offsets (children_named name e)
children_named_bare name e = ap (filter (has_name name)) (children_bare e) ∙ filter_bare (has_name name) (name_bare name) (child_elements e)

pub child_named_bare : (name : List ℕ) (e : Element) → child_named name (without_offsets e) ≡ option_map without_offsets (child_named name e)
child_named_bare name e = ap (find (has_name name)) (children_bare e) ∙ find_bare (has_name name) (name_bare name) (child_elements e)

pub first_child_bare : (e : Element) → first_child (without_offsets e) ≡ option_map without_offsets (first_child e)
first_child_bare e = ap (λ xs. slice_get xs 0) (children_bare e) ∙ slice_get-map without_offsets (child_elements e) 0
