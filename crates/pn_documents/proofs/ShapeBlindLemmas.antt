-- The faults of shape of an element without its offsets are those that it has, at the offset 0.
use Rattle.std.proofs.Common.{◌≡◌, ℕ, zero, suc, ◌+◌, Bool, cond, List, [], ◌∷◌, ◌++◌, map, Option, Some, None, refl, sym, ap, ◌∙◌, arith}
use Rattle.std.proofs.lemmas.List.{map-append}
use Rattle.std.specs.Prelude.{is_some}
use Rattle.std.specs.List.{flat_map, slice_index_or}
use Rattle.std.specs.Option.{unwrap_or}
use Rattle.pn_faults.specs.Order.{fault_at}
use Rattle.pn_faults.specs.declared.fault.Fault.{Fault}
use Rattle.pn_faults.specs.declared.reason.Reason.{Reason}
use Rattle.pn_faults.specs.declared.reason.Reason.TheVariants as reason
use Rattle.pn_markup.proofs.OffsetLemmas.{without_offsets_is}
use Rattle.pn_markup.specs.Offsets.{kid_without_offsets, without_offsets}
use Rattle.pn_operators.specs.declared.kind.Kind.{Kind}
use Rattle.pn_operators.specs.declared.kind.Kind.TheVariants as kind
use Rattle.pn_shape.proofs.LevelLemmas.{levels_add_nothing}
use Rattle.pn_shape.specs.Attributes.{attr_fault, lack_fault}
use Rattle.pn_shape.specs.Faults.{told, own_text, text_fault, stray_fault, over_fault, over_reason, asks_inside, spot_faults, placed_faults, element_faults, layer_faults, kids_faults, attrs_faults, lacks_faults, missing_fault, missing_faults, row_faults, faults_by, faults_of_row, kind_inside, is_opaque, faults_within, all_faults, tagged_faults, fill_faults, shape_faults, no_slot}
use Rattle.pn_shape.specs.Rules.{Saying, rule_for, fill_name, attr_name}
use Rattle.pn_shape.specs.Spots.{filled, is_at, spot_in, stands_in, stands_layer, tag_of}
use Rattle.pn_shape.specs.declared.rule.Fill.{Fill}
use Rattle.pn_shape.specs.declared.rule.Fill.TheVariants as fill
use Rattle.pn_shape.specs.declared.rule.Over.{Over}
use Rattle.pn_shape.specs.declared.rule.Slot.{Slot}
use Rattle.pn_shape.specs.declared.search.Spot.{Spot}
use Rattle.pn_shape.specs.declared.tag.Tag.{Tag}
use Rattle.pn_shape.specs.declared.tag.Tag.TheVariants as tag
use Rattle.pn_tree.specs.Depth.{depth_of}
use Rattle.pn_tree.specs.declared.element.Child.{Child}
use Rattle.pn_tree.specs.declared.element.Child.TheOpen as layer
use Rattle.pn_tree.specs.declared.element.Child.TheViews.{out-Child}
use Rattle.pn_tree.specs.declared.element.Element.{Element}
use Rattle.pn_documents.proofs.BlindLemmas.{bare_layer, cond_each, out_bare, texts_bare}

-- a fault at the offset 0
abbrev pub clear : Fault → Fault
clear f = fault_at f.reason 0 f.detail

told_clear : (offset : ℕ) (detail : List ℕ) (r : Option Reason) → told 0 detail r ≡ map clear (told offset detail r)
told_clear offset detail None = refl
told_clear offset detail (Some r) = refl

-- the element at the offset 0, with its kids without theirs
abbrev bare_of : Element → Element
bare_of e = record { name = e.name; at = 0; attrs = e.attrs; kids = map kid_without_offsets e.kids }

told_all : {A : Type 0} (offset : ℕ) (name : A → List ℕ) (r : A → Option Reason) (xs : List A) → flat_map (λ x. told 0 (name x) (r x)) xs ≡ map clear (flat_map (λ x. told offset (name x) (r x)) xs)
told_all offset name r [] = refl
told_all offset name r (x ∷ xs) =
    ap (λ fs. fs ++ flat_map (λ y. told 0 (name y) (r y)) xs) (told_clear offset (name x) (r x)) ∙ ap (λ fs. map clear (told offset (name x) (r x)) ++ fs) (told_all offset name r xs)
    ∙ sym (map-append clear (told offset (name x) (r x)) (flat_map (λ y. told offset (name y) (r y)) xs))

-- ---- places

stands_bare : (k : Kind) (slots : List Slot) (i : ℕ) (l : layer.Child-F Child Element) → stands_layer k slots i (bare_layer l) ≡ stands_layer k slots i l
stands_bare k slots i (layer.Element e) = ap (λ x. is_at i (spot_in k x.name 0 slots)) (without_offsets_is e)
stands_bare k slots i (layer.Text t) = refl

filled_bare : (k : Kind) (slots : List Slot) (i : ℕ) (ks : List Child) → filled k slots i (map kid_without_offsets ks) ≡ filled k slots i ks
filled_bare k slots i [] = refl
filled_bare k slots i (c ∷ cs) =
    ap (λ b. cond b 1 0 + filled k slots i (map kid_without_offsets cs)) (ap (stands_layer k slots i) (out_bare c) ∙ stands_bare k slots i (out-Child c))
    ∙ ap (λ n. cond (stands_in k slots i c) 1 0 + n) (filled_bare k slots i cs)

missing_bare : (k : Kind) (all : List Slot) (e : Element) (i : ℕ) (slots : List Slot) → missing_faults k all (bare_of e) i slots ≡ map clear (missing_faults k all e i slots)
missing_bare k all e i [] = refl
missing_bare k all e i (s ∷ slots) =
    ap (λ n. told 0 (fill_name s.fill) (missing_fault k s n) ++ missing_faults k all (bare_of e) (i + 1) slots) (filled_bare k all i e.kids)
    ∙ ap (λ fs. fs ++ missing_faults k all (bare_of e) (i + 1) slots) (told_clear e.at (fill_name s.fill) (missing_fault k s (filled k all i e.kids)))
    ∙ ap (λ fs. map clear (told e.at (fill_name s.fill) (missing_fault k s (filled k all i e.kids))) ++ fs) (missing_bare k all e (i + 1) slots)
    ∙ sym (map-append clear (told e.at (fill_name s.fill) (missing_fault k s (filled k all i e.kids))) (missing_faults k all e (i + 1) slots))

-- ---- kids

abbrev AskedAt : Type 0
AskedAt = Kind → Tag → Element → List Fault

module _ (f : AskedAt) (same : (k : Kind) (t : Tag) (x : Element) → f k t (without_offsets x) ≡ map clear (f k t x)) where
  spot_bare : (k : Kind) (x : Element) (past : Option Over) (t : Tag) → spot_faults f k (without_offsets x) past t ≡ map clear (spot_faults f k x past t)
  spot_bare k x past t =
      ap (λ y. told y.at y.name (over_reason past) ++ cond (asks_inside past) (f k t (without_offsets x)) []) (without_offsets_is x)
      ∙ ap (λ fs. fs ++ cond (asks_inside past) (f k t (without_offsets x)) []) (told_clear x.at x.name (over_reason past))
      ∙ ap (λ fs. map clear (told x.at x.name (over_reason past)) ++ fs) (cond_each (map clear) (asks_inside past) (f k t x) [] (f k t (without_offsets x)) [] (same k t x) refl)
      ∙ sym (map-append clear (told x.at x.name (over_reason past)) (cond (asks_inside past) (f k t x) []))

  placed_bare : (k : Kind) (slots : List Slot) (before : List Child) (x : Element) (s : Option Spot) → placed_faults f k slots (map kid_without_offsets before) (without_offsets x) s ≡ map clear (placed_faults f k slots before x s)
  placed_bare k slots before x None = ap (λ y. fault_at reason.UnknownElement y.at y.name ∷ []) (without_offsets_is x)
  placed_bare k slots before x (Some s) =
      ap (λ n. spot_faults f k (without_offsets x) (over_fault (slice_index_or slots s.place no_slot) n) s.tag) (filled_bare k slots s.place before)
      ∙ spot_bare k x (over_fault (slice_index_or slots s.place no_slot) (filled k slots s.place before)) s.tag

  element_bare : (asks : Bool) (k : Kind) (slots : List Slot) (before : List Child) (x : Element) → element_faults f asks k slots (map kid_without_offsets before) (without_offsets x) ≡ map clear (element_faults f asks k slots before x)
  element_bare asks k slots before x =
      ap (λ y. cond asks (placed_faults f k slots (map kid_without_offsets before) (without_offsets x) (spot_in k y.name 0 slots)) []) (without_offsets_is x)
      ∙ cond_each (map clear) asks (placed_faults f k slots before x (spot_in k x.name 0 slots)) [] (placed_faults f k slots (map kid_without_offsets before) (without_offsets x) (spot_in k x.name 0 slots)) []
      (placed_bare k slots before x (spot_in k x.name 0 slots)) refl

  layer_bare : (asks : Bool) (k : Kind) (says : Saying) (e : Element) (before : List Child) (l : layer.Child-F Child Element)
      → layer_faults f asks k says (bare_of e) (map kid_without_offsets before) (bare_layer l) ≡ map clear (layer_faults f asks k says e before l)
  layer_bare asks k says e before (layer.Element x) = element_bare asks k says.slots before x
  layer_bare asks k says e before (layer.Text t) = told_clear e.at e.name (stray_fault says.content t)

  kids_bare : (asks : Bool) (k : Kind) (says : Saying) (e : Element) (before cs : List Child)
      → kids_faults f asks k says (bare_of e) (map kid_without_offsets before) (map kid_without_offsets cs) ≡ map clear (kids_faults f asks k says e before cs)
  kids_bare asks k says e before [] = refl
  kids_bare asks k says e before (c ∷ cs) =
      ap (λ l. layer_faults f asks k says (bare_of e) (map kid_without_offsets before) l ++ kids_faults f asks k says (bare_of e) (map kid_without_offsets before ++ kid_without_offsets c ∷ []) (map kid_without_offsets cs)) (out_bare c)
      ∙ ap (λ fs. fs ++ kids_faults f asks k says (bare_of e) (map kid_without_offsets before ++ kid_without_offsets c ∷ []) (map kid_without_offsets cs)) (layer_bare asks k says e before (out-Child c))
      ∙ ap (λ ks. map clear (layer_faults f asks k says e before (out-Child c)) ++ kids_faults f asks k says (bare_of e) ks (map kid_without_offsets cs)) (sym (map-append kid_without_offsets before (c ∷ [])))
      ∙ ap (λ fs. map clear (layer_faults f asks k says e before (out-Child c)) ++ fs) (kids_bare asks k says e (before ++ c ∷ []) cs)
      ∙ sym (map-append clear (layer_faults f asks k says e before (out-Child c)) (kids_faults f asks k says e (before ++ c ∷ []) cs))

  row_parts : (asks : Bool) (k : Kind) (says : Saying) (e : Element) → row_faults f asks k says (bare_of e) ≡ map clear (row_faults f asks k says e)
  row_parts asks k says e =
      let attrs = attrs_faults says e in
      let lacks = lacks_faults says e in
      let text = told e.at e.name (text_fault says.content (own_text e.kids)) in
      let kids = kids_faults f asks k says e [] e.kids in
      let missing = missing_faults k says.slots e 0 says.slots in
      (λ i. told_all e.at (λ a. a.name) (λ a. attr_fault says.attrs a) e.attrs i
      ++ (told_all e.at (λ r. attr_name r.name) (λ r. lack_fault e.attrs r) says.attrs i
      ++ ((ap (λ t. told 0 e.name (text_fault says.content t)) (texts_bare e.kids) ∙ told_clear e.at e.name (text_fault says.content (own_text e.kids))) i
      ++ (kids_bare asks k says e [] e.kids i ++ missing_bare k says.slots e 0 says.slots i))))
      ∙ ap (λ fs. map clear attrs ++ (map clear lacks ++ (map clear text ++ fs))) (sym (map-append clear kids missing))
      ∙ ap (λ fs. map clear attrs ++ (map clear lacks ++ fs)) (sym (map-append clear text (kids ++ missing)))
      ∙ ap (λ fs. map clear attrs ++ fs) (sym (map-append clear lacks (text ++ (kids ++ missing))))
      ∙ sym (map-append clear attrs (lacks ++ (text ++ (kids ++ missing))))

  of_row_bare : (k : Kind) (says : Saying) (e : Element) → faults_of_row f k says (without_offsets e) ≡ map clear (faults_of_row f k says e)
  of_row_bare k says e =
      ap (faults_of_row f k says) (without_offsets_is e)
      ∙ cond_each (map clear) (is_opaque says.content) [] (faults_by f (kind_inside k says.content e.attrs) says e) [] (faults_by f (kind_inside k says.content e.attrs) says (bare_of e)) refl
      (row_parts (is_some (kind_inside k says.content e.attrs)) (unwrap_or (kind_inside k says.content e.attrs) kind.PtNet) says e)

-- ---- all levels

within_bare : (n : ℕ) (k : Kind) (t : Tag) (e : Element) → faults_within n k t (without_offsets e) ≡ map clear (faults_within n k t e)
unfolding faults_within
within_bare zero k t e = refl
within_bare (suc n) k t e = of_row_bare (faults_within n) (within_bare n) k (rule_for t) e

all_bare : (k : Kind) (t : Tag) (e : Element) → all_faults k t (without_offsets e) ≡ map clear (all_faults k t e)
all_bare k t e =
    let n = depth_of e + depth_of (without_offsets e) in
    sym (levels_add_nothing n k t (without_offsets e) (omega arith)) ∙ within_bare n k t e ∙ ap (map clear) (levels_add_nothing n k t e (omega arith))

tagged_bare : (k : Kind) (e : Element) (t : Option Tag) → tagged_faults k (without_offsets e) t ≡ map clear (tagged_faults k e t)
tagged_bare k e None = ap (λ x. fault_at reason.UnknownElement x.at x.name ∷ []) (without_offsets_is e)
tagged_bare k e (Some t) = all_bare k t e

fill_bare : (k : Kind) (f : Fill) (e : Element) → fill_faults k f (without_offsets e) ≡ map clear (fill_faults k f e)
unfolding fill_faults
fill_bare k f e = ap (λ x. tagged_faults k (without_offsets e) (tag_of k x.name f)) (without_offsets_is e) ∙ tagged_bare k e (tag_of k e.name f)

pub shape_bare : (e : Element) → shape_faults (without_offsets e) ≡ map clear (shape_faults e)
shape_bare e = fill_bare kind.PtNet (fill.One tag.Pnml) e

no_faults : (fs : List Fault) → map clear fs ≡ [] → fs ≡ []
no_faults [] is = refl
no_faults (f ∷ fs) is = absurd cc

-- of two elements that are equal but for offsets none has a fault of shape where one has none
pub shape_alike : (e f : Element) → without_offsets e ≡ without_offsets f → shape_faults f ≡ [] → shape_faults e ≡ []
shape_alike e f alike none = no_faults (shape_faults e) (sym (shape_bare e) ∙ ap shape_faults alike ∙ shape_bare f ∙ ap (map clear) none)
