-- A net that, offsets aside, the tree of a document without a fault of shape spells: its tree has none, and reads back as the same net.
use Rattle.std.proofs.Common.{◌≡◌, ℕ, true, cond, ◌==◌, List, [], ◌∷◌, ◌++◌, append_assoc, append-nil, map, codes, Option, Some, None, refl, sym, ap, subst, ◌∙◌, arith}
use Rattle.std.specs.Prelude.{is_some, option_to_list}
use Rattle.std.specs.List.{filter, AllByRecursion}
use Rattle.std.specs.Option.{option_and_then, option_map, unwrap_or}
use Rattle.std.proofs.lemmas.Bool.Decides.{nat_tests}
use Rattle.pn_facts.proofs.Truths.{and_left, and_right}
use Rattle.pn_faults.specs.declared.reason.Reason.TheVariants as reason
use Rattle.pn_operators.specs.declared.kind.Kind.{Kind}
use Rattle.pn_operators.specs.declared.kind.Kind.TheVariants as kind
use Rattle.pn_markup.specs.Bytes.{begins_with}
use Rattle.pn_objects.specs.declared.net.Net.{Net}
use Rattle.pn_objects.specs.declared.net.Prefix.{Prefix}
use Rattle.pn_objects.specs.Offsets.{declarations_without_offsets, net_without_offsets, page_without_offsets, IsSameNet}
use Rattle.pn_tree.specs.Depth.{depth_of}
use Rattle.pn_tree.specs.Elements.{attr_value}
use Rattle.pn_tree.specs.declared.element.Attr.{Attr}
use Rattle.pn_tree.specs.declared.element.Element.{Element}
use Rattle.pn_shape.specs.Attributes.{unless, attr_fault, lack_fault}
use Rattle.pn_shape.specs.Faults.{is_opaque, kind_inside, own_text, shape_faults, text_fault, IsShaped}
use Rattle.pn_shape.specs.Numbers.{net_kind}
use Rattle.pn_shape.specs.Rules.{rule_for, slot_of, is_had}
use Rattle.pn_shape.specs.Shaped.{HasShape}
use Rattle.pn_shape.specs.Spots.{has_slot, spot_at, spot_in, tag_of}
use Rattle.pn_shape.specs.declared.rule.AttrName.TheVariants as names
use Rattle.pn_shape.specs.declared.rule.AttrRule.{AttrRule}
use Rattle.pn_shape.specs.declared.rule.Content.{Content}
use Rattle.pn_shape.specs.declared.rule.Content.TheVariants as contents
use Rattle.pn_shape.specs.declared.rule.Fill.TheVariants as fill
use Rattle.pn_shape.specs.declared.rule.Form.TheVariants as form
use Rattle.pn_shape.specs.declared.rule.Over.TheVariants as over
use Rattle.pn_shape.specs.declared.rule.Slot.{Slot}
use Rattle.pn_shape.specs.declared.tag.Tag.TheVariants as tag
use Rattle.pn_shape.proofs.PlaceLemmas.{fill_of, of_fill, one_is}
use Rattle.pn_shape.proofs.ShapedLemmas.{net_shape, of_shape}
use Rattle.pn_shape.proofs.WrittenLemmas.{as_kids, kind_named}
use Rattle.pn_spelling.specs.Parts.{child_elements, children_named, has_name}
use Rattle.pn_spelling.specs.ReadNets.{declarations_label, is_prefix, kind_read, net_of, net_read, page_read, prefix_read, prefixes_read}
use Rattle.pn_spelling.specs.WriteNets.{declaration_label, head_kids, name_element, net_element, page_element, prefix_attr, tree_of_net}
use Rattle.pn_spelling.specs.Writing.{made}
use Rattle.pn_spelling.proofs.WriteLemmas.{page_made}
use Rattle.pn_facts.proofs.Each.{filtered}
use Rattle.pn_round_trip.proofs.KidLemmas.{elements_shape, shaped_elements}
use Rattle.pn_round_trip.proofs.GroupNetLaws.{Group, AreCalled, fit_shape, groups_shape, members_of}
use Rattle.pn_round_trip.proofs.LabelLaws.{Anything, opaque_slot, some_same}
use Rattle.pn_round_trip.proofs.ObjectNetLaws.{HeadRow, head_back, head_called, head_fits, head_kids_are, id_rule, id_there, joined_kids, list_field, name_group, name_slot, none_same, opaque_group, had_slot, head_such, id_fits}
use Rattle.pn_round_trip.proofs.PageLaws.{Shallow, declaration_law, pages_had, pages_return, subpages_shallow, with_had, without_had}
use Rattle.pn_round_trip.proofs.PartNetLaws.{PartLaw, NamedPlace, every_one, find_written, group_is, option_group_is, required_there, written_kept, written_named, list_such, option_such, IsGroup}
use Rattle.pn_round_trip.specs.Spellable.{AreSpelledDeclarations, IsBound, IsSpellableDeclaration, IsSpellableLabel, IsSpellableNet, IsSpellablePage}

-- the element `net`

abbrev type_rule : AttrRule
type_rule = record { name = names.Type; is_needed = true; form = form.NetType }

abbrev page_slot : Slot
page_slot = slot_of tag.Page 1 None

net_row : ((rule_for tag.Net).content ≡ contents.Net) × ((rule_for tag.Net).slots ≡ name_slot ∷ opaque_slot ∷ slot_of tag.Declaration 0 None ∷ page_slot ∷ []) × ((rule_for tag.Net).attrs ≡ id_rule ∷ type_rule ∷ [])
unfolding rule_for
net_row = (refl, refl, refl)

net_head : (k : Kind) → HeadRow k (rule_for tag.Net)
unfolding rule_for spot_in tag_of
net_head k = record {
  name = record { at = refl; here = refl; fills = refl; row = refl; spot = λ s h. some_same (spot_at 0 tag.Name) s h; there = λ had. refl };
  kept = record { most = refl; least = refl; graphics = refl; toolspecific = refl };
}

net_declaration : (k : Kind) → NamedPlace k (rule_for tag.Net) 2 (codes "declaration") tag.Declaration (slot_of tag.Declaration 0 None)
unfolding rule_for spot_in tag_of
net_declaration kind.PtNet = record { at = refl; here = refl; fills = refl; row = refl; spot = λ s h. none_same (spot_at 2 tag.Declaration) s h; there = λ had. absurd cc }
net_declaration kind.Symmetric = record { at = refl; here = refl; fills = refl; row = refl; spot = λ s h. some_same (spot_at 2 tag.Declaration) s h; there = λ had. refl }
net_declaration kind.HighLevel = record { at = refl; here = refl; fills = refl; row = refl; spot = λ s h. some_same (spot_at 2 tag.Declaration) s h; there = λ had. refl }

net_page : (k : Kind) → NamedPlace k (rule_for tag.Net) 3 (codes "page") tag.Page page_slot
unfolding rule_for spot_in tag_of
net_page k = record { at = refl; here = refl; fills = refl; row = refl; spot = λ s h. some_same (spot_at 3 tag.Page) s h; there = λ had. refl }

abbrev net_groups : Net → List Group
net_groups n =
    name_group n.head ∷ opaque_group n.head
    ∷ record { slot = slot_of tag.Declaration 0 None; called = Some (codes "declaration"); members = map declaration_label n.declarations }
    ∷ record { slot = page_slot; called = Some (codes "page"); members = map page_element n.pages } ∷ []

nested : (n o d g : List Element) → (n ++ o) ++ (d ++ g) ≡ n ++ (o ++ (d ++ (g ++ [])))
nested n o d g = simp (append-nil, append_assoc)

net_kids : (n : Net) → (net_element n).kids ≡ as_kids (members_of (net_groups n))
net_kids n =
    let names = map name_element (option_to_list n.head.name) in
    let d = map declaration_label n.declarations in
    let g = map page_element n.pages in
    joined_kids (head_kids n.head) (as_kids d ++ as_kids g) (names ++ n.head.opaque) (d ++ g) (head_kids_are n.head) (joined_kids (as_kids d) (as_kids g) d g refl refl)
    ∙ ap as_kids (nested names n.head.opaque d g)

-- the kind of a net is that of the elements in it
kind_is : (k own : Kind) (e : Element) (c : Content) → c ≡ contents.Net → kind_inside k c e.attrs ≡ Some own → kind_read e ≡ own
kind_is k own e c content inside = by (attr_value (codes "type") e.attrs) refl (ap (λ x. kind_inside k x e.attrs) (sym content) ∙ inside)
  where
    by : (o : Option (List ℕ)) → attr_value (codes "type") e.attrs ≡ o → option_and_then net_kind (attr_value (codes "type") e.attrs) ≡ Some own → kind_read e ≡ own
    by None is inside = let none : None ≡ Some own = ap (option_and_then net_kind) (sym is) ∙ inside in absurd cc
    by (Some v) is inside =
        ap (λ o. unwrap_or (net_kind (unwrap_or o [])) kind.PtNet) is ∙ ap (λ o. unwrap_or o kind.PtNet) (ap (option_and_then net_kind) (sym is) ∙ inside)

net_such : (k : Kind) (prefixes : List Prefix) → AllByRecursion IsBound prefixes → (e : Element) (n : Net) → IsShaped k tag.Net e → net_without_offsets n ≡ net_without_offsets (net_read prefixes e) → IsSpellableNet n
net_such k prefixes bound e n is alike =
    let in_net = net_shape k e is in
    let own = in_net.0 in
    let shape = in_net.2 in
    let says = rule_for tag.Net in
    let levels = depth_of e in
    let is_own : own ≡ n.kind = sym (ap (λ (x : Net). x.kind) alike ∙ kind_is k own e says.content net_row.0 in_net.1) in
    let declarations = list_such own says 2 (codes "declaration") tag.Declaration (slot_of tag.Declaration 0 None) (net_declaration own) Anything (IsSpellableLabel (AreSpelledDeclarations own)) declarations_label declaration_label declarations_without_offsets (λ x. refl)
    (declaration_law own) e n.declarations shape
    (every_one (children_named (codes "declaration") e)) (ap (λ (x : Net). x.declarations) alike) in
    let pages = list_such own says 3 (codes "page") tag.Page page_slot (net_page own) (Shallow levels) (IsSpellablePage own levels) page_read page_element page_without_offsets (λ x. ap (λ (e : Element). e.name) (page_made x))
    (λ had. pages_return own levels) e n.pages shape
    (subpages_shallow levels e (omega arith)) (ap (λ (x : Net). x.pages) alike) in
    record {
      id = id_there (id_rule ∷ type_rule ∷ []) e n.id (ap (λ (x : Net). x.id) alike) (subst (AllByRecursion (λ r. lack_fault e.attrs r ≡ None)) net_row.2 shape.lacks).0
          (subst (λ rules. AllByRecursion (λ a. attr_fault rules a ≡ None) e.attrs) net_row.2 shape.attrs) (λ v. refl);
      prefixes = subst (AllByRecursion IsBound) (sym (ap (λ (x : Net). x.prefixes) alike)) bound;
      head = head_such own says (net_head own) e n.head shape (ap (λ (x : Net). x.head) alike);
      declarations = subst (λ j. AllByRecursion (IsSpellableDeclaration j) n.declarations) is_own declarations.0;
      levels = levels;
      pages = subst (λ j. AllByRecursion (IsSpellablePage j levels) n.pages) is_own (without_had own tag.Page (IsSpellablePage own levels) n.pages pages.0);
      has_page = omega (arith, pages.1, shape.least 3 page_slot (net_page own).at (had_slot own tag.Page (pages_had own)));
    }

net_both : (k : Kind) (n : Net) → IsSpellableNet n → IsShaped k tag.Net (net_element n) × (net_without_offsets (net_read n.prefixes (net_element n)) ≡ net_without_offsets n)
net_both k n such =
    let own = n.kind in
    let w = net_element n in
    let says = rule_for tag.Net in
    let fits = head_fits own says (net_head own) n.head such.head in
    let named = head_called own says (net_head own) n.head such.head in
    let declarations = group_is own says 2 (codes "declaration") tag.Declaration (slot_of tag.Declaration 0 None) (net_declaration own) Anything (IsSpellableLabel (AreSpelledDeclarations own)) declarations_label declaration_label declarations_without_offsets (λ x. refl)
    (declaration_law own) n.declarations such.declarations tt (λ had. omega arith) in
    let pages = group_is own says 3 (codes "page") tag.Page page_slot (net_page own) (Shallow such.levels) (IsSpellablePage own such.levels) page_read page_element page_without_offsets (λ x. ap (λ (e : Element). e.name) (page_made x))
    (λ had. pages_return own such.levels) n.pages
    (with_had own tag.Page (IsSpellablePage own such.levels) (pages_had own) n.pages such.pages) tt (λ had. such.has_page) in
    let called : AreCalled (net_groups n) = (named.0, (named.1, (declarations.named, (pages.named, tt)))) in
    let kids = net_kids n in
    let type = ap (λ o. unless (is_some o) reason.WrongNetType) (kind_named n.kind) in
    let head = head_back own says (net_head own) n.head such.head w (written_named w (net_groups n) kids called (codes "name") refl) (written_kept w (net_groups n) kids called) in
    let declarations_back = list_field (codes "declaration") w declarations_label declaration_label declarations_without_offsets n.declarations
    (written_named w (net_groups n) kids called (codes "declaration") refl) declarations.again in
    let pages_back = list_field (codes "page") w page_read page_element page_without_offsets n.pages (written_named w (net_groups n) kids called (codes "page") refl) pages.again in
    let kind_back : kind_read w ≡ n.kind = ap (λ o. unwrap_or o kind.PtNet) (kind_named n.kind) in (
      of_shape k own tag.Net w (ap is_opaque net_row.0) (ap (λ c. kind_inside k c w.attrs) net_row.0 ∙ kind_named n.kind)
          (subst (λ ks. HasShape own says (made (codes "net") w.attrs ks)) (sym kids)
          (groups_shape own says (codes "net") w.attrs (net_groups n) (ap (λ c. text_fault c (own_text (as_kids (members_of (net_groups n))))) net_row.0) net_row.1
          (fits.0, (fits.1, (declarations.fits, (pages.fits, tt))))
          (subst (λ rules. AllByRecursion (λ a. attr_fault rules a ≡ None) w.attrs) (sym net_row.2) (id_fits n.id such.id, (type, tt)))
          (subst (AllByRecursion (λ r. lack_fault w.attrs r ≡ None)) (sym net_row.2) (refl, (refl, tt))))),
      λ j. record { id = n.id; kind = kind_back j; prefixes = n.prefixes; head = head j; declarations = declarations_back j; pages = pages_back j; at = 0 },
    )

-- the net, where these prefixes are bound
abbrev IsNetWith : List Prefix → Net → Type 0
IsNetWith prefixes n = IsSpellableNet n × (n.prefixes ≡ prefixes)

net_law : (k : Kind) (prefixes : List Prefix) → AllByRecursion IsBound prefixes → PartLaw k tag.Net Anything (IsNetWith prefixes) (net_read prefixes) net_element net_without_offsets
net_law k prefixes bound = record {
  such = λ e n about is alike. (net_such k prefixes bound e n is alike, ap (λ (x : Net). x.prefixes) alike);
  shaped = λ n such. (net_both k n such.0).0;
  same = λ n such. ap (λ ps. net_without_offsets (net_read ps (net_element n))) (sym such.1) ∙ (net_both k n such.0).1;
}

-- the prefixes of the root

begun : (ms bs : List ℕ) → begins_with ms bs ≡ true → (rest : List ℕ) × (ms ++ rest ≡ bs)
begun [] bs begins = (bs, refl)
begun (m ∷ ms) [] begins = absurd cc
begun (m ∷ ms) (b ∷ bs) begins =
    let first : m ≡ b = let is = and_left (m == b) (begins_with ms bs) begins in grind (arith, nat_tests) in
    let more = begun ms bs (and_right (m == b) (begins_with ms bs) begins) in
    (more.0, λ j. first j ∷ more.1 j)

abbrev namespace_rule : AttrRule
namespace_rule = record { name = names.Xmlns; is_needed = true; form = form.Namespace }

prefix_right : (p : Prefix) → IsBound p → attr_fault (namespace_rule ∷ []) (prefix_attr p) ≡ None
prefix_right p bound =
    let name = begun (codes "xmlns:") p.name bound in
    subst (λ name. attr_fault (namespace_rule ∷ []) (record { name = name; value = p.address }) ≡ None) name.1 refl

prefixes_right : (ps : List Prefix) → AllByRecursion IsBound ps → AllByRecursion (λ a. attr_fault (namespace_rule ∷ []) a ≡ None) (map prefix_attr ps)
prefixes_right [] bound = tt
prefixes_right (p ∷ ps) bound = (prefix_right p bound.0, prefixes_right ps bound.1)

prefixes_again : (ps : List Prefix) → AllByRecursion IsBound ps → map prefix_read (filter is_prefix (map prefix_attr ps)) ≡ ps
prefixes_again [] bound = refl
prefixes_again (p ∷ ps) bound =
    ap (λ b. map prefix_read (cond b (prefix_attr p ∷ filter is_prefix (map prefix_attr ps)) (filter is_prefix (map prefix_attr ps)))) bound.0 ∙ ap (λ qs. p ∷ qs) (prefixes_again ps bound.1)

read_bound : (attrs : List Attr) → AllByRecursion (λ a. is_prefix a ≡ true) attrs → AllByRecursion IsBound (map prefix_read attrs)
read_bound [] h = tt
read_bound (a ∷ attrs) h = (h.0, read_bound attrs h.1)

all_bound : (root : Element) → AllByRecursion IsBound (prefixes_read root)
all_bound root = read_bound (filter is_prefix root.attrs) (filtered (λ a. Unit {0}) (λ a. is_prefix a ≡ true) is_prefix (λ a h bound. bound) root.attrs (every_one root.attrs))

-- the root

abbrev net_slot : Slot
net_slot = record { fill = fill.One tag.Net; least = 1; most = Some 1; over = over.SecondNet }

root_row : ((rule_for tag.Pnml).content ≡ contents.Elements) × ((rule_for tag.Pnml).slots ≡ net_slot ∷ []) × ((rule_for tag.Pnml).attrs ≡ namespace_rule ∷ [])
unfolding rule_for
root_row = (refl, refl, refl)

root_net : NamedPlace kind.PtNet (rule_for tag.Pnml) 0 (codes "net") tag.Net net_slot
unfolding rule_for spot_in tag_of
root_net = record { at = refl; here = refl; fills = refl; row = refl; spot = λ s h. some_same (spot_at 0 tag.Net) s h; there = λ had. refl }

nets_there : has_slot kind.PtNet (fill.One tag.Net) ≡ true
unfolding rule_for has_slot
nets_there = refl

root_named : tag_of kind.PtNet (codes "pnml") (fill.One tag.Pnml) ≡ Some tag.Pnml
unfolding rule_for tag_of
root_named = refl

abbrev root_groups : Net → List Group
root_groups n = record { slot = net_slot; called = Some (codes "net"); members = net_element n ∷ [] } ∷ []

nets_had : is_had kind.PtNet tag.Net ≡ true
unfolding rule_for
nets_had = refl

-- the net of a document's tree without a fault of shape is such
pub net_spellable : (root : Element) (n : Net) → shape_faults root ≡ [] → IsSameNet n (net_of root) → IsSpellableNet n
net_spellable root n is alike =
    let tagged = fill_of kind.PtNet (fill.One tag.Pnml) root is in
    let says = rule_for tag.Pnml in
    let shaped = subst (λ t. IsShaped kind.PtNet t root) (one_is kind.PtNet root.name tag.Pnml tagged.0 tagged.1) tagged.2 in
    let shape = elements_shape kind.PtNet tag.Pnml root root_row.0 shaped in
    let prefixes = prefixes_read root in
    let there = required_there kind.PtNet says 0 (codes "net") tag.Net net_slot root_net root refl nets_there shape in
    let net_alike = ap Some (alike ∙ ap (λ o. net_without_offsets (net_read prefixes (unwrap_or o root))) there.1)
    ∙ sym (ap (λ o. option_map net_without_offsets (option_map (net_read prefixes) o)) there.1) in
    (option_such kind.PtNet says 0 (codes "net") tag.Net net_slot root_net Anything (IsNetWith prefixes) (net_read prefixes) net_element net_without_offsets (λ x. refl) (λ had. net_law kind.PtNet prefixes (all_bound root)) root (Some n) refl shape
    (every_one (children_named (codes "net") root)) net_alike).0.1.0

module _ (n : Net) (such : IsSpellableNet n) where
  net_group : IsGroup kind.PtNet (rule_for tag.Pnml) 0 (codes "net") tag.Net net_slot root_net Anything (IsNetWith n.prefixes) (net_read n.prefixes) net_element net_without_offsets (λ x. refl) (λ had. net_law kind.PtNet n.prefixes such.prefixes) (n ∷ [])
  net_group =
      option_group_is kind.PtNet (rule_for tag.Pnml) 0 (codes "net") tag.Net net_slot root_net Anything (IsNetWith n.prefixes) (net_read n.prefixes) net_element net_without_offsets (λ x. refl) (λ had. net_law kind.PtNet n.prefixes such.prefixes)
      (Some n) refl (nets_had, (such, refl)) (λ had. omega arith)

  root_called : AreCalled (root_groups n)
  root_called = (net_group.named, tt)

  -- its tree has no fault of shape
  pub spellable_shaped : shape_faults (tree_of_net n) ≡ []
  spellable_shaped =
      let w = tree_of_net n in
      of_fill kind.PtNet (fill.One tag.Pnml) w tag.Pnml root_named
      (shaped_elements kind.PtNet tag.Pnml w root_row.0
      (fit_shape kind.PtNet (rule_for tag.Pnml) (codes "pnml") w.attrs (root_groups n) root_row.0 root_row.1 (net_group.fits, tt)
      (subst (λ rules. AllByRecursion (λ a. attr_fault rules a ≡ None) w.attrs) (sym root_row.2) (refl, prefixes_right n.prefixes such.prefixes))
      (subst (AllByRecursion (λ r. lack_fault w.attrs r ≡ None)) (sym root_row.2) (refl, tt))))

  -- and spells the same net
  pub spellable_same : IsSameNet (net_of (tree_of_net n)) n
  spellable_same =
      let w = tree_of_net n in
      let found = find_written (has_name (codes "net")) net_element (Some n) (child_elements w) (written_named w (root_groups n) refl root_called (codes "net") refl) in
      let again = net_group.again in
      let back : net_without_offsets (net_read n.prefixes (net_element n)) ≡ net_without_offsets n = cc in
      ap (λ o. net_without_offsets (net_read (prefixes_read w) (unwrap_or o w))) found
      ∙ ap (λ ps. net_without_offsets (net_read ps (net_element n))) (prefixes_again n.prefixes such.prefixes) ∙ back

pub net_shaped_again : (root : Element) (n : Net) → shape_faults root ≡ [] → IsSameNet n (net_of root) → shape_faults (tree_of_net n) ≡ []
net_shaped_again root n is alike = spellable_shaped n (net_spellable root n is alike)

pub net_same_again : (root : Element) (n : Net) → shape_faults root ≡ [] → IsSameNet n (net_of root) → IsSameNet (net_of (tree_of_net n)) n
net_same_again root n is alike = spellable_same n (net_spellable root n is alike)

-- no other net returns
pub only_spellable : (n : Net) → shape_faults (tree_of_net n) ≡ [] → IsSameNet (net_of (tree_of_net n)) n → IsSpellableNet n
only_spellable n shaped same = net_spellable (tree_of_net n) n shaped (sym same)

-- offsets don't matter
pub spellable_alike : (n m : Net) → IsSpellableNet n → IsSameNet m n → IsSpellableNet m
spellable_alike n m such alike = net_spellable (tree_of_net n) m (spellable_shaped n such) (alike ∙ sym (spellable_same n such))
