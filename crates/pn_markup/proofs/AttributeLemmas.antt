-- The canonical text of attributes is spelled as attributes are.
use Rattle.std.proofs.Common.{◌≡◌, ℕ, Bool, true, false, cond, ◌&&◌, List, [], ◌∷◌, ◌++◌, codes, Option, Some, None, is_none, refl, sym, ap, ◌∙◌, subst, append_assoc, append-nil}
use Rattle.std.specs.List.{list_all, flat_map}
use Rattle.std.specs.Str.{bytes_eq}
use Rattle.std.proofs.lemmas.Bool.{false≢true}
use Rattle.std.proofs.lemmas.List.Folds.{list_all-append}
use Rattle.pn_tree.specs.Canonical.{value_escape, escaped_value, attr_text}
use Rattle.pn_text.specs.Characters.{is_text, is_name}
use Rattle.pn_tree.specs.Elements.{attr_value, are_attrs}
use Rattle.pn_tree.specs.declared.element.Attr.{Attr}
use Rattle.pn_tree.specs.declared.element.Element.{Element}
use Rattle.pn_facts.proofs.Truths.{and_left, and_right, and_both}
use Rattle.pn_markup.specs.Bytes.{spaced}
use Rattle.pn_markup.specs.Tags.{is_value_byte, ValueText, run, reference, Attribute, Attributes, none, more, Tag}
use Rattle.pn_markup.proofs.NameLemmas.{name_is}
use Rattle.pn_markup.proofs.RunLemmas.{is_unescaped_value, Written, as_is, by_reference, value_written, unescaped_value, unescaped_spaced}
use Rattle.pn_facts.proofs.Bytes.{bytes_differ}

-- values

value_step : (x : ℕ) (v so_far seen whole b : List ℕ) → list_all is_unescaped_value seen ≡ true → whole ≡ (so_far ++ seen) ++ (x ∷ v) → b ≡ seen ++ (value_escape x ++ escaped_value v)
    → ((s r c : List ℕ) → list_all is_unescaped_value r ≡ true → whole ≡ (s ++ r) ++ v → c ≡ r ++ escaped_value v → ValueText 34 s whole c)
    → Written is_unescaped_value x (value_escape x) → ValueText 34 so_far whole b
value_step x v so_far seen whole b h w is f (as_is p out) =
    let one : (so_far ++ seen) ++ (x ∷ v) ≡ (so_far ++ (seen ++ (x ∷ []))) ++ v =
    sym (append_assoc (so_far ++ seen) (x ∷ []) v) ∙ ap (λ l. l ++ v) (append_assoc so_far seen (x ∷ [])) in
    f so_far (seen ++ (x ∷ [])) b
    (list_all-append is_unescaped_value seen (x ∷ []) ∙ and_both (list_all is_unescaped_value seen) (is_unescaped_value x && true) h (and_both (is_unescaped_value x) true p refl))
    (w ∙ one) (is ∙ ap (λ l. seen ++ (l ++ escaped_value v)) out ∙ sym (append_assoc seen (x ∷ []) (escaped_value v)))
value_step x v so_far seen whole b h w is f (by_reference r low) =
    let s = (so_far ++ spaced seen) ++ (x ∷ []) in
    let one : (so_far ++ seen) ++ (x ∷ v) ≡ (s ++ []) ++ v =
    ap (λ l. (so_far ++ l) ++ (x ∷ v)) (sym (unescaped_spaced seen h)) ∙ sym (append_assoc (so_far ++ spaced seen) (x ∷ []) v) ∙ ap (λ l. l ++ v) (sym (append-nil s)) in
    reference so_far whole b seen (x ∷ []) (value_escape x) (escaped_value v) (unescaped_value seen h) r (f s [] (escaped_value v) refl (w ∙ one) refl) is

value_text : (v so_far seen whole b : List ℕ) → list_all is_unescaped_value seen ≡ true → whole ≡ (so_far ++ seen) ++ v → b ≡ seen ++ escaped_value v → ValueText 34 so_far whole b
value_text [] so_far seen whole b h w is =
    let same : b ≡ seen = is ∙ append-nil seen in
    run so_far whole b (subst (λ l. list_all (is_value_byte 34) l ≡ true) (sym same) (unescaped_value seen h))
    (w ∙ append-nil (so_far ++ seen) ∙ ap (λ l. so_far ++ l) (sym (ap spaced same ∙ unescaped_spaced seen h)))
value_text (x ∷ v) so_far seen whole b h w is = value_step x v so_far seen whole b h w is (λ s r c. value_text v s r whole c) (value_written x)

attribute_text : (a : Attr) → is_name a.name ≡ true → Attribute a.name a.value (a.name ++ (codes "=\"" ++ (escaped_value a.value ++ codes "\"")))
attribute_text a h = record {
  equals = codes "=";
  quoted = 34 ∷ (escaped_value a.value ++ (34 ∷ []));
  is_name = name_is a.name h;
  is_equals = ([], [], refl, refl, refl);
  is_value = record { quote = 34; text = escaped_value a.value; quoted = refl; spells = value_text a.value [] [] a.value (escaped_value a.value) refl refl refl; whole = refl };
  whole = refl;
}

-- attributes with distinct names

chosen_none : {X : Type 0} (b : Bool) (x : X) (o : Option X) → is_none (cond b (Some x) o) ≡ true → (b ≡ false) × (is_none o ≡ true)
chosen_none true x o h = absurd (false≢true h)
chosen_none false x o h = (refl, h)

other_name : (name : List ℕ) (given rest : List Attr) (a : Attr) → is_none (attr_value name (given ++ (a ∷ rest))) ≡ true → bytes_eq a.name name ≡ false
other_name name [] rest a h = (chosen_none (bytes_eq a.name name) a.value (attr_value name rest) h).0
other_name name (x ∷ given) rest a h = other_name name given rest a (chosen_none (bytes_eq x.name name) x.value (attr_value name (given ++ (a ∷ rest))) h).1

-- what holds of the attributes from one on
pub record AttrParts (a : Attr) (rest : List Attr) : Type 0 where
  pub name : is_name a.name ≡ true
  pub value : is_text a.value ≡ true
  pub new : is_none (attr_value a.name rest) ≡ true
  pub others : are_attrs rest ≡ true

pub attr_parts_of : (a : Attr) (rest : List Attr) → are_attrs (a ∷ rest) ≡ true → AttrParts a rest
attr_parts_of a rest h =
    let absent = is_none (attr_value a.name rest) in
    let later = and_right (is_name a.name) (is_text a.value && (absent && are_attrs rest)) h in
    let last = and_right (is_text a.value) (absent && are_attrs rest) later in
    record {
      name = and_left (is_name a.name) (is_text a.value && (absent && are_attrs rest)) h;
      value = and_left (is_text a.value) (absent && are_attrs rest) later;
      new = and_left absent (are_attrs rest) last;
      others = and_right absent (are_attrs rest) last;
    }

attrs_behind : (given rest : List Attr) → are_attrs (given ++ rest) ≡ true → are_attrs rest ≡ true
attrs_behind [] rest h = h
attrs_behind (x ∷ given) rest h = attrs_behind given rest (attr_parts_of x (given ++ rest) h).others

name_is_new : (given rest : List Attr) (a : Attr) → are_attrs (given ++ (a ∷ rest)) ≡ true → attr_value a.name given ≡ None
name_is_new [] rest a h = refl
name_is_new (x ∷ given) rest a h =
    let p = attr_parts_of x (given ++ (a ∷ rest)) h in
    ap (λ b. cond b (Some x.value) (attr_value a.name given)) (bytes_differ a.name x.name (other_name x.name given rest a p.new))
    ∙ name_is_new given rest a p.others

-- an element with these attributes and no kids
abbrev pub tagged : List ℕ → ℕ → List Attr → Element
tagged name at attrs = record { name = name; at = at; attrs = attrs; kids = [] }

attributes_text : (name : List ℕ) (at : ℕ) (rest given all : List Attr) → all ≡ given ++ rest → are_attrs all ≡ true
    → Attributes (tagged name at given) (tagged name at all) (flat_map attr_text rest)
attributes_text name at [] given all is h = none (tagged name at given) (tagged name at all) [] (ap (tagged name at) (is ∙ append-nil given)) refl
attributes_text name at (a ∷ rest) given all is h =
    let split = subst (λ l. are_attrs l ≡ true) is h in
    more (tagged name at given) (tagged name at all) (attr_text a ++ flat_map attr_text rest) (codes " ") a.name a.value
    (a.name ++ (codes "=\"" ++ (escaped_value a.value ++ codes "\""))) (flat_map attr_text rest) refl
    (attribute_text a (attr_parts_of a rest (attrs_behind given (a ∷ rest) split)).name) (name_is_new given rest a split)
    (attributes_text name at rest (given ++ (a ∷ [])) all (is ∙ sym (append_assoc given (a ∷ []) rest)) h) refl

-- the front of a start tag
pub tag_text : (name : List ℕ) (at : ℕ) (attrs : List Attr) → is_name name ≡ true → are_attrs attrs ≡ true
    → Tag at (tagged name at attrs) (60 ∷ (name ++ flat_map attr_text attrs))
tag_text name at attrs n h = record {
  name = name;
  attributes = flat_map attr_text attrs;
  is_name = name_is name n;
  are_attributes = attributes_text name at attrs [] attrs refl h;
  whole = refl;
}
