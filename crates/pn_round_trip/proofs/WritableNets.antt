-- The net that a document without a fault of shape spells can be written.
use Rattle.std.proofs.Common.{◌≡◌, ℕ, zero, suc, Bool, true, false, cond, ◌&&◌, List, [], ◌∷◌, ◌++◌, map, codes, Some, None, refl, sym, ap, subst, ◌∙◌, arith}
use Rattle.std.specs.List.{filter, list_all}
use Rattle.std.specs.Option.{is_none, unwrap_or}
use Rattle.std.specs.Str.{bytes_eq}
use Rattle.std.proofs.lemmas.Bool.{false≢true}
use Rattle.std.proofs.lemmas.Slice.Eq.{bytes_eq-Decides}
use Rattle.pn_facts.proofs.Options.{cond_none, none_from}
use Rattle.pn_facts.proofs.Truths.{and_left, and_right, and_both}
use Rattle.pn_markup.specs.Bytes.{begins_with}
use Rattle.pn_text.specs.Characters.{is_name, is_text}
use Rattle.pn_operators.specs.declared.kind.Kind.{Kind}
use Rattle.pn_operators.specs.declared.kind.Kind.TheVariants as kind
use Rattle.pn_tree.specs.Elements.{are_attrs, attr_value, is_element, IsTree}
use Rattle.pn_tree.specs.declared.element.Attr.{Attr}
use Rattle.pn_tree.specs.declared.element.Element.{Element}
use Rattle.pn_tree.specs.declared.element.Child.TheVariants as children
use Rattle.pn_tree.proofs.TreeLemmas.{not_element-zero, parts_of}
use Rattle.pn_shape.specs.Faults.{shape_faults, IsShaped}
use Rattle.pn_shape.specs.Numbers.{address_of, namespace}
use Rattle.pn_shape.specs.Rules.{rule_for}
use Rattle.pn_shape.specs.Spots.{has_slot, spot_in, tag_of}
use Rattle.pn_shape.specs.declared.rule.Fill.TheVariants as fill
use Rattle.pn_shape.specs.declared.rule.Over.TheVariants as over
use Rattle.pn_shape.specs.declared.rule.Slot.{Slot}
use Rattle.pn_shape.specs.declared.search.Spot.{Spot}
use Rattle.pn_shape.specs.declared.tag.Tag.TheVariants as tag
use Rattle.pn_shape.proofs.PlaceLemmas.{fill_of, one_is}
use Rattle.pn_shape.proofs.ShapedLemmas.{net_shape}
use Rattle.pn_objects.specs.declared.net.Prefix.{Prefix}
use Rattle.pn_spelling.specs.Parts.{attribute_of, children_named}
use Rattle.pn_spelling.specs.ReadNets.{child_or_self, declarations_label, head_read, is_prefix, kind_read, net_of, net_read, page_read, prefix_read, prefixes_read}
use Rattle.pn_spelling.specs.Writable.{IsWritable}
use Rattle.pn_spelling.specs.Writing.{all_kids, attribute}
use Rattle.pn_spelling.specs.WriteNets.{declaration_label, head_kids, id_attr, net_element, page_element, prefix_attr, root_attrs, tree_of_net}
use Rattle.pn_round_trip.proofs.WritableLabels.{declarations_label_fits, head_fits}
use Rattle.pn_round_trip.proofs.WritableObjects.{HasTag, given}
use Rattle.pn_round_trip.proofs.WritablePages.{kids_fit, page_fits}
use Rattle.pn_round_trip.proofs.WritableParts.{IsSoundElement, both_fit, inner_first, made_fits, needed_named, one_fits, same_tag, whole_of}

-- the prefixes that a root binds

dropped : (name : List ℕ) (p : Attr → Bool) (attrs : List Attr) → attr_value name attrs ≡ None → attr_value name (filter p attrs) ≡ None
dropped name p [] none = refl
dropped name p (a ∷ attrs) none =
    let both = cond_none (bytes_eq a.name name) a.value (attr_value name attrs) none in step (p a) both.0 (dropped name p attrs both.1)
  where
    step : (b : Bool) → bytes_eq a.name name ≡ false → attr_value name (filter p attrs) ≡ None → attr_value name (cond b (a ∷ filter p attrs) (filter p attrs)) ≡ None
    step true other rest = ap (λ x. cond x (Some a.value) (attr_value name (filter p attrs))) other ∙ rest
    step false other rest = rest

some_attrs : (p : Attr → Bool) (attrs : List Attr) → are_attrs attrs ≡ true → are_attrs (filter p attrs) ≡ true
some_attrs p [] are = refl
some_attrs p (a ∷ attrs) are = step (p a) (some_attrs p attrs last)
  where
    absent : Bool
    absent = is_none (attr_value a.name attrs)

    more : (is_text a.value && (absent && are_attrs attrs)) ≡ true
    more = and_right (is_name a.name) (is_text a.value && (absent && are_attrs attrs)) are

    end : (absent && are_attrs attrs) ≡ true
    end = and_right (is_text a.value) (absent && are_attrs attrs) more

    last : are_attrs attrs ≡ true
    last = and_right absent (are_attrs attrs) end

    step : (b : Bool) → are_attrs (filter p attrs) ≡ true → are_attrs (cond b (a ∷ filter p attrs) (filter p attrs)) ≡ true
    step false rest = rest
    step true rest =
        let new = is_none (attr_value a.name (filter p attrs)) in
        and_both (is_name a.name) (is_text a.value && (new && are_attrs (filter p attrs))) (and_left (is_name a.name) (is_text a.value && (absent && are_attrs attrs)) are)
        (and_both (is_text a.value) (new && are_attrs (filter p attrs)) (and_left (is_text a.value) (absent && are_attrs attrs) more)
        (and_both new (are_attrs (filter p attrs)) (ap is_none (dropped a.name p attrs (none_from (attr_value a.name attrs) (and_left absent (are_attrs attrs) end)))) rest))

no_namespace : (attrs : List Attr) → attr_value (codes "xmlns") (filter is_prefix attrs) ≡ None
no_namespace [] = refl
no_namespace (a ∷ attrs) = step (is_prefix a) refl (no_namespace attrs)
  where
    other : (b : Bool) → bytes_eq a.name (codes "xmlns") ≡ b → is_prefix a ≡ true → b ≡ false
    other true same is = absurd (false≢true (ap (begins_with (codes "xmlns:")) (sym ((bytes_eq-Decides a.name (codes "xmlns")).0 same)) ∙ is))
    other false same is = refl

    step : (b : Bool) → is_prefix a ≡ b → attr_value (codes "xmlns") (filter is_prefix attrs) ≡ None → attr_value (codes "xmlns") (cond b (a ∷ filter is_prefix attrs) (filter is_prefix attrs)) ≡ None
    step true is rest = ap (λ x. cond x (Some a.value) (attr_value (codes "xmlns") (filter is_prefix attrs))) (other (bytes_eq a.name (codes "xmlns")) refl is) ∙ rest
    step false is rest = rest

written_prefixes : (attrs : List Attr) → map prefix_attr (map prefix_read attrs) ≡ attrs
written_prefixes [] = refl
written_prefixes (a ∷ attrs) = ap (λ l. a ∷ l) (written_prefixes attrs)

root_attrs_right : (e : Element) → are_attrs e.attrs ≡ true → are_attrs (root_attrs (prefixes_read e)) ≡ true
root_attrs_right e are =
    ap (λ l. are_attrs (attribute (codes "xmlns") namespace ∷ l)) (written_prefixes (filter is_prefix e.attrs))
    ∙ and_both (is_none (attr_value (codes "xmlns") (filter is_prefix e.attrs))) (are_attrs (filter is_prefix e.attrs)) (ap is_none (no_namespace e.attrs)) (some_attrs is_prefix e.attrs are)

all_prefixes : (attrs : List Attr) → list_all (λ p. is_prefix (prefix_attr p)) (map prefix_read (filter is_prefix attrs)) ≡ true
all_prefixes [] = refl
all_prefixes (a ∷ attrs) = step (is_prefix a) refl (all_prefixes attrs)
  where
    step : (b : Bool) → is_prefix a ≡ b → list_all (λ p. is_prefix (prefix_attr p)) (map prefix_read (filter is_prefix attrs)) ≡ true
        → list_all (λ p. is_prefix (prefix_attr p)) (map prefix_read (cond b (a ∷ filter is_prefix attrs) (filter is_prefix attrs))) ≡ true
    step true is rest = and_both (is_prefix a) (list_all (λ p. is_prefix (prefix_attr p)) (map prefix_read (filter is_prefix attrs))) is rest
    step false is rest = rest

-- the element of the net

address_is_text : (k : Kind) → is_text (address_of k) ≡ true
address_is_text kind.PtNet = refl
address_is_text kind.Symmetric = refl
address_is_text kind.HighLevel = refl

declaration_tag : (k : Kind) (s : Spot) → spot_in k (codes "declaration") 0 (rule_for tag.Net).slots ≡ Some s → HasTag k tag.Declaration s
unfolding rule_for tag_of spot_in
declaration_tag kind.PtNet s is = absurd (let nothing : None ≡ Some s = is in cc)
declaration_tag kind.Symmetric s is = (refl, same_tag 2 tag.Declaration s is)
declaration_tag kind.HighLevel s is = (refl, same_tag 2 tag.Declaration s is)

page_tag : (k : Kind) (s : Spot) → spot_in k (codes "page") 0 (rule_for tag.Net).slots ≡ Some s → s.tag ≡ tag.Page
unfolding rule_for tag_of spot_in
page_tag k s is = same_tag 3 tag.Page s is

net_fits : (n : ℕ) (k : Kind) (prefixes : List Prefix) (e : Element) → is_element n e ≡ true → IsShaped k tag.Net e → is_element n (net_element (net_read prefixes e)) ≡ true
net_fits zero k prefixes e fits shaped = absurd (not_element-zero e fits)
net_fits (suc n) k prefixes e fits shaped =
    let shape = net_shape k e shaped in
    let own = shape.0 in
    let w : IsSoundElement n own (rule_for tag.Net) e = record { parts = parts_of n e fits; shape = shape.2 } in
    let id = attribute_of (codes "id") e in
    let type = address_of (kind_read e) in
    let head = head_kids (head_read e) in
    let declarations = all_kids declaration_label (map declarations_label (children_named (codes "declaration") e)) in
    let pages = all_kids page_element (map page_read (children_named (codes "page") e)) in
    made_fits n (codes "net") (id_attr id ∷ attribute (codes "type") type ∷ []) (head ++ (declarations ++ pages)) refl
    (and_both (is_text id) (is_text type && true) (given n (codes "id") e w.parts) (and_both (is_text type) true (address_is_text (kind_read e)) refl))
    (both_fit n head (declarations ++ pages) (head_fits n e w.parts)
    (both_fit n declarations pages
    (kids_fit n own (rule_for tag.Net) (codes "declaration") declaration_label declarations_label e w
    (λ x s fit is shaped. let t = declaration_tag own s is in declarations_label_fits n own x t.0 fit (subst (λ u. IsShaped own u x) t.1 shaped)))
    (kids_fit n own (rule_for tag.Net) (codes "page") page_element page_read e w (λ x s fit is shaped. page_fits n own x fit (subst (λ u. IsShaped own u x) (page_tag own s is) shaped)))))

-- the root

abbrev the_net : Slot
the_net = record { fill = fill.One tag.Net; least = 1; most = Some 1; over = over.SecondNet }

net_tag : (k : Kind) (s : Spot) → spot_in k (codes "net") 0 (rule_for tag.Pnml).slots ≡ Some s → s.tag ≡ tag.Net
unfolding rule_for tag_of spot_in
net_tag k s is = same_tag 0 tag.Net s is

root_fits : (n : ℕ) (k : Kind) (e : Element) → is_element n e ≡ true → IsShaped k tag.Pnml e → is_element n (tree_of_net (net_of e)) ≡ true
unfolding rule_for has_slot
root_fits zero k e fits shaped = absurd (not_element-zero e fits)
root_fits (suc n) k e fits shaped =
    let w = whole_of n k tag.Pnml e refl fits shaped in
    let found = needed_named k (rule_for tag.Pnml) e 0 the_net tag.Net w.shape refl refl refl (omega arith) in
    let i = inner_first n k (rule_for tag.Pnml) e w (codes "net") found.0 found.1 in
    let net = net_fits n k (prefixes_read e) found.0 i.fits (subst (λ u. IsShaped k u found.0) (net_tag k i.spot i.found) i.shaped) in
    let is : child_or_self (codes "net") e ≡ found.0 = ap (λ o. unwrap_or o e) found.1 in
    made_fits n (codes "pnml") (root_attrs (prefixes_read e)) (children.Element (net_element (net_of e)) ∷ []) refl (root_attrs_right e w.parts.attrs)
    (one_fits n (net_element (net_of e)) (ap (λ x. is_element n (net_element (net_read (prefixes_read e) x))) is ∙ net))

pub writable : (e : Element) → IsTree e → shape_faults e ≡ [] → IsWritable (net_of e)
writable e tree shaped =
    let t = fill_of kind.PtNet (fill.One tag.Pnml) e shaped in
    record {
      tree = root_fits 256 kind.PtNet e tree (subst (λ u. IsShaped kind.PtNet u e) (one_is kind.PtNet e.name tag.Pnml t.0 t.1) t.2);
      prefixes = all_prefixes e.attrs;
    }
