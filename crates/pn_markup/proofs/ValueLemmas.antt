-- The names and values of attributes in a document are names and texts.
use Rattle.std.proofs.Common.{◌≡◌, ℕ, true, List, [], ◌∷◌, ◌++◌, refl, sym, ap, ◌∙◌, subst, append_assoc, arith}
use Rattle.pn_tree.specs.Building.{with_attr}
use Rattle.pn_text.specs.Characters.{is_text, is_name}
use Rattle.pn_tree.specs.declared.element.Element.{Element}
use Rattle.pn_tree.proofs.OpenLemmas.{begun_parts, attr_parts}
use Rattle.pn_text.proofs.TextLemmas.{is_text-append}
use Rattle.pn_tree.proofs.TreeLemmas.{Parts}
use Rattle.pn_markup.specs.Bytes.{MaybeSpace, spaced}
use Rattle.pn_markup.specs.Tags.{ValueText, run, reference, Eq, Attribute, Attributes, none, more, named, Tag}
use Rattle.pn_markup.proofs.CharacterLemmas.{Edge, cut_text, text_behind}
use Rattle.pn_markup.proofs.CutLemmas.{bounded_edge, cut_behind, quote_low, space_edge, behind_space, some_space, some_space_edge, reference_bounded, reference_text}
use Rattle.pn_markup.proofs.LineEndLemmas.{spaced_text}
use Rattle.pn_markup.proofs.NameLemmas.{name_of_bytes}

value_is_text : (quote : ℕ) (so_far whole b : List ℕ) → ValueText quote so_far whole b → is_text so_far ≡ true → is_text b ≡ true → is_text whole ≡ true
value_is_text quote so_far whole b (run _ _ _ are is) s h = ap is_text is ∙ is_text-append so_far (spaced b) s (spaced_text b h)
value_is_text quote so_far whole b (reference _ _ _ front text bytes rest are r later is) s h =
    let bounded = reference_bounded text bytes r in
    let cut = cut_text front (bytes ++ rest) (sym (ap is_text is) ∙ h) (bounded_edge bytes rest bounded) in
    let front_text = is_text-append so_far (spaced front) s (spaced_text front cut.0) in
    value_is_text quote ((so_far ++ spaced front) ++ text) whole rest later
    (is_text-append (so_far ++ spaced front) text front_text (reference_text text bytes r)) (cut_behind bytes rest bounded cut.1).1

-- an attribute and what follows it
record AttributeTexts (name value rest : List ℕ) : Type 0 where
  name_is : is_name name ≡ true
  value_is : is_text value ≡ true
  rest_is : is_text rest ≡ true

equals_edge : (b rest : List ℕ) → Eq b → Edge (b ++ rest)
equals_edge b rest e =
    subst Edge (sym (append_assoc e.0 (61 ∷ e.1) rest) ∙ ap (λ l. l ++ rest) (sym e.4)) (space_edge e.0 (61 ∷ (e.1 ++ rest)) e.2 (omega arith))

behind_equals : (b rest : List ℕ) → Eq b → is_text (b ++ rest) ≡ true → is_text rest ≡ true
behind_equals b rest e h =
    let split : is_text (e.0 ++ (61 ∷ (e.1 ++ rest))) ≡ true = ap is_text (sym (append_assoc e.0 (61 ∷ e.1) rest) ∙ ap (λ l. l ++ rest) (sym e.4)) ∙ h in
    behind_space e.1 rest e.3 (text_behind 61 (e.1 ++ rest) (behind_space e.0 (61 ∷ (e.1 ++ rest)) e.2 split) (omega arith))

attribute_texts : (name value bytes rest : List ℕ) → Attribute name value bytes → is_text (bytes ++ rest) ≡ true → AttributeTexts name value rest
attribute_texts name value bytes rest a h =
    let v = a.is_value in
    let behind_value = v.quote ∷ rest in
    let quoted_is : a.quoted ++ rest ≡ v.quote ∷ (v.text ++ behind_value) = ap (λ l. l ++ rest) v.whole ∙ ap (λ l. v.quote ∷ l) (append_assoc v.text (v.quote ∷ []) rest) in
    let bytes_are : bytes ++ rest ≡ name ++ (a.equals ++ (v.quote ∷ (v.text ++ behind_value))) =
    ap (λ l. l ++ rest) a.whole ∙ append_assoc name (a.equals ++ a.quoted) rest ∙ ap (λ l. name ++ l) (append_assoc a.equals a.quoted rest)
    ∙ ap (λ l. name ++ (a.equals ++ l)) quoted_is in
    let low = quote_low v.quote v.quoted in
    let cut = cut_text name (a.equals ++ (v.quote ∷ (v.text ++ behind_value))) (sym (ap is_text bytes_are) ∙ h) (equals_edge a.equals (v.quote ∷ (v.text ++ behind_value)) a.is_equals) in
    let inner = text_behind v.quote (v.text ++ behind_value) (behind_equals a.equals (v.quote ∷ (v.text ++ behind_value)) a.is_equals cut.1) low in
    let value_cut = cut_text v.text behind_value inner low in
    record {
      name_is = name_of_bytes name cut.0 a.is_name;
      value_is = value_is_text v.quote [] value v.text v.spells refl value_cut.0;
      rest_is = text_behind v.quote rest value_cut.1 low;
    }

attributes_parts : (n : ℕ) (so_far whole : Element) (b : List ℕ) → Attributes so_far whole b → is_text b ≡ true → Parts n so_far → Parts n whole
attributes_parts n so_far whole b (none _ _ _ is space) h p = subst (Parts n) (sym is) p
attributes_parts n so_far whole b (more _ _ _ space name value bytes rest s a new later is) h p =
    let t = attribute_texts name value bytes rest a (behind_space space (bytes ++ rest) (some_space space s) (sym (ap is_text is) ∙ h)) in
    attributes_parts n (with_attr name value so_far) whole rest later t.rest_is (attr_parts n so_far name value t.name_is t.value_is new p)

attributes_edge : (so_far whole : Element) (b : List ℕ) → Attributes so_far whole b → Edge b
attributes_edge so_far whole b (none _ _ _ is space) = maybe_edge b space
  where
    maybe_edge : (s : List ℕ) → MaybeSpace s → Edge s
    maybe_edge [] h = tt
    maybe_edge (x ∷ xs) h = space_edge (x ∷ xs) [] h tt
attributes_edge so_far whole b (more _ _ _ space name value bytes rest s a new later is) = subst Edge (sym is) (some_space_edge space (bytes ++ rest) s)

-- the element of a tag has what a tree's has
pub tag_parts : (n at : ℕ) (e : Element) (b : List ℕ) → Tag at e b → is_text b ≡ true → Parts n e
tag_parts n at e b t h =
    let inner = text_behind 60 (t.name ++ t.attributes) (sym (ap is_text t.whole) ∙ h) (omega arith) in
    let cut = cut_text t.name t.attributes inner (attributes_edge (named t.name at) e t.attributes t.are_attributes) in
    attributes_parts n (named t.name at) e t.attributes t.are_attributes cut.1 (begun_parts n t.name at (name_of_bytes t.name cut.0 t.is_name))
