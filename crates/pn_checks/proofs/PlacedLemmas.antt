-- Each element of a tree without a fault of shape has a row and is as that row says; so in a constant of a range stands the range, and nothing else.
use Rattle.std.proofs.Common.{◌≡◌, ◌⊎◌, inl, inr, ℕ, zero, suc, Bool, true, false, not, ◌||◌, List, [], ◌∷◌, codes, Option, None, Some, refl, sym, ap, ◌∙◌, subst}
use Rattle.std.specs.List.{AllByRecursion, Contains, filter, flat_map}
use Rattle.std.specs.Str.{bytes_eq}
use Rattle.pn_facts.proofs.Contained.{contains_cases, contains_first, contains_nil, contains_some_of}
use Rattle.pn_facts.proofs.Each.{one_of}
use Rattle.pn_faults.proofs.RisingLemmas.{IsWithin, itself, inside}
use Rattle.pn_net.specs.Documents.{HasNoShapeFault, elements_within}
use Rattle.pn_operators.specs.declared.kind.Kind.{Kind}
use Rattle.pn_operators.specs.declared.kind.Kind.TheVariants as kind
use Rattle.pn_operators.specs.declared.op.Op.TheVariants as op
use Rattle.pn_round_trip.proofs.KidLemmas.{Stands, elements_shape, place_there, stand_among, the_only}
use Rattle.pn_shape.specs.Faults.{IsShaped, fill_faults, is_opaque, kind_inside}
use Rattle.pn_shape.specs.Rules.{Saying, is_had, rule_for, slot_of}
use Rattle.pn_shape.specs.Shaped.{HasShape}
use Rattle.pn_shape.specs.Spots.{spot_in}
use Rattle.pn_shape.specs.declared.rule.Content.TheVariants as contents
use Rattle.pn_shape.specs.declared.rule.Fill.TheVariants as fill
use Rattle.pn_shape.specs.declared.search.Spot.{Spot}
use Rattle.pn_shape.specs.declared.tag.Tag.{Tag}
use Rattle.pn_shape.specs.declared.tag.Tag.TheVariants as tag
use Rattle.pn_shape.proofs.PlaceLemmas.{fill_of, one_is, spot_fills, tag_is}
use Rattle.pn_shape.proofs.ShapedLemmas.{net_shape, shape_of}
use Rattle.pn_checks.proofs.SourceLemmas.{passing}
use Rattle.pn_spelling.specs.Parts.{child_elements, has_name}
use Rattle.pn_spelling.specs.ReadNets.{is_opaque_part}
use Rattle.pn_tree.specs.Depth.{depth_of}
use Rattle.pn_tree.specs.declared.element.Attr.{Attr}
use Rattle.pn_tree.specs.declared.element.Element.{Element}

-- ---- the table, row by row

-- whether parts of this name are kept as they are
abbrev is_kept_name : List ℕ → Bool
is_kept_name name = bytes_eq name (codes "graphics") || bytes_eq name (codes "toolspecific")

kept_rows : (t : Tag) → is_opaque (rule_for t).content ≡ is_kept_name (rule_for t).name
unfolding rule_for
kept_rows (tag.Operator op.DotConstant) = refl
kept_rows (tag.Operator _) = refl
kept_rows _ = refl

kind_rows : (t : Tag) (k : Kind) (attrs : List Attr) → (t ≡ tag.Net) ⊎ (kind_inside k (rule_for t).content attrs ≡ Some k) ⊎ (is_opaque (rule_for t).content ≡ true)
unfolding rule_for
kind_rows tag.Net k attrs = inl refl
kind_rows _ k attrs = inr (inl refl)

range_rows : (t : Tag) → bytes_eq (rule_for t).name (codes "finiteintrangeconstant") ≡ true → t ≡ tag.FiniteIntRangeConstant
unfolding rule_for
range_rows tag.FiniteIntRangeConstant is = refl
range_rows (tag.Operator op.DotConstant) is = absurd (let bad : false ≡ true = is in cc)
range_rows (tag.Operator _) is = absurd (let bad : false ≡ true = is in cc)
range_rows _ is = absurd (let bad : false ≡ true = is in cc)

-- ---- elements with rows

-- the element has no fault of shape where it stands in a net of this kind, with this row; and it isn't kept as it is
pub record IsPlacedAs (x : Element) : Type 0 where
  pub kind : Kind
  pub row : Tag
  pub shaped : IsShaped kind row x
  pub named : (rule_for row).name ≡ x.name
  pub had : is_had kind row ≡ true
  pub asked : is_opaque_part x ≡ false

not_opaque : (x : Element) (t : Tag) → (rule_for t).name ≡ x.name → is_opaque_part x ≡ false → is_opaque (rule_for t).content ≡ false
not_opaque x t named asked = kept_rows t ∙ ap is_kept_name named ∙ asked

-- an element is as its row says
shape_at : (x : Element) (at : IsPlacedAs x) → (own : Kind) × HasShape own (rule_for at.row) x
shape_at x at = by (kind_rows at.row at.kind x.attrs)
  where
    asked : is_opaque (rule_for at.row).content ≡ false
    asked = not_opaque x at.row at.named at.asked

    by : (at.row ≡ tag.Net) ⊎ (kind_inside at.kind (rule_for at.row).content x.attrs ≡ Some at.kind) ⊎ (is_opaque (rule_for at.row).content ≡ true) → (own : Kind) × HasShape own (rule_for at.row) x
    by (inl same) = let net = net_shape at.kind x (subst (λ t. IsShaped at.kind t x) same at.shaped) in (net.0, subst (λ t. HasShape net.0 (rule_for t) x) (sym same) net.2)
    by (inr (inl inside_kind)) = (at.kind, shape_of at.kind at.kind at.row x asked inside_kind at.shaped)
    by (inr (inr opaque)) = absurd (let bad : false ≡ true = sym asked ∙ opaque in cc)

-- and so is each in it that isn't kept as it is
kid_at : (e : Element) → IsPlacedAs e → (x : Element) → Contains (child_elements e) x → is_opaque_part x ≡ false → IsPlacedAs x
kid_at e at x there asked =
    let shape = shape_at e at in
    let stands = one_of (Stands shape.0 (rule_for at.row)) (child_elements e) x (stand_among shape.0 (rule_for at.row) e.kids shape.1.kids) there in
    let fills = spot_fills shape.0 x.name (rule_for at.row).slots stands.0 stands.1 in
    let is = tag_is shape.0 x.name fills.0.fill stands.0.tag fills.2 in
    record { kind = shape.0; row = stands.0.tag; shaped = stands.2; named = is.0; had = is.1; asked = asked }

root_at : (tree : Element) → HasNoShapeFault tree → IsPlacedAs tree
unfolding rule_for
root_at tree clean =
    let fills = fill_of kind.PtNet (fill.One tag.Pnml) tree clean in
    let is = tag_is kind.PtNet tree.name (fill.One tag.Pnml) fills.0 fills.1 in
    let row = one_is kind.PtNet tree.name tag.Pnml fills.0 fills.1 in
    let called : codes "pnml" ≡ tree.name = subst (λ t. (rule_for t).name ≡ tree.name) row is.0 in
    record { kind = kind.PtNet; row = fills.0; shaped = fills.2; named = is.0; had = is.1; asked = ap is_kept_name (sym called) }

not_true : (b : Bool) → not b ≡ true → b ≡ false
not_true false is = refl
not_true true is = absurd (let bad : false ≡ true = is in cc)

-- what stands within an element
pub record IsPlacedWithin (e x : Element) : Type 0 where
  pub within : IsWithin child_elements e x
  pub placed : IsPlacedAs x

all_at : (levels : ℕ) (e : Element) → IsPlacedAs e → (x : Element) → Contains (elements_within levels e) x → IsPlacedWithin e x
unfolding elements_within
all_at zero e at x there = by (contains_cases e [] x there)
  where
    by : (e ≡ x) ⊎ Contains [] x → IsPlacedWithin e x
    by (inl same) = record { within = itself e x (sym same); placed = subst IsPlacedAs same at }
    by (inr later) = absurd (contains_nil x later)
all_at (suc levels) e at x there = by (contains_cases e (flat_map (elements_within levels) (filter (λ k. not (is_opaque_part k)) (child_elements e))) x there) (all_at levels)
  where
    by : (e ≡ x) ⊎ Contains (flat_map (elements_within levels) (filter (λ k. not (is_opaque_part k)) (child_elements e))) x → ((k : Element) → IsPlacedAs k → (y : Element) → Contains (elements_within levels k) y → IsPlacedWithin k y) → IsPlacedWithin e x
    by (inl same) below = record { within = itself e x (sym same); placed = subst IsPlacedAs same at }
    by (inr later) below =
        let from = contains_some_of (elements_within levels) (filter (λ k. not (is_opaque_part k)) (child_elements e)) x later in
        let kid = one_of (λ k. Contains (child_elements e) k × (is_opaque_part k ≡ false)) (filter (λ k. not (is_opaque_part k)) (child_elements e)) from.0
        (passing (λ k. Contains (child_elements e) k × (is_opaque_part k ≡ false)) (λ k. not (is_opaque_part k)) (child_elements e) (child_elements e) (λ k c. c) (λ k c passes. (c, not_true (is_opaque_part k) passes))) from.1 in
        let inner = below from.0 (kid_at e at from.0 kid.0 kid.1) x from.2 in
        record { within = inside e x from.0 kid.0 inner.within; placed = inner.placed }

-- the elements of a tree without a fault of shape
pub placed_within : (tree : Element) → HasNoShapeFault tree → (x : Element) → Contains (elements_within (depth_of tree) tree) x → IsPlacedWithin tree x
placed_within tree clean x there = all_at (depth_of tree) tree (root_at tree clean) x there

-- ---- the constants of ranges

-- in it stands a range, in which nothing stands, and nothing else
pub record HoldsRange (c : Element) : Type 0 where
  pub range : Element
  pub only : child_elements c ≡ range ∷ []
  pub called : range.name ≡ codes "finiteintrange"
  pub empty : child_elements range ≡ []

constant_row : ((rule_for tag.FiniteIntRangeConstant).content ≡ contents.Elements) × ((rule_for tag.FiniteIntRangeConstant).slots ≡ slot_of tag.FiniteIntRange 1 (Some 1) ∷ [])
unfolding rule_for
constant_row = (refl, refl)

range_row : ((rule_for tag.FiniteIntRange).content ≡ contents.Elements) × ((rule_for tag.FiniteIntRange).slots ≡ []) × ((rule_for tag.FiniteIntRange).name ≡ codes "finiteintrange")
unfolding rule_for
range_row = (refl, refl, refl)

had_too : (k : Kind) → is_had k tag.FiniteIntRangeConstant ≡ true → is_had k tag.FiniteIntRange ≡ true
unfolding rule_for
had_too k had = had

-- an element whose row has no place has no element in it
no_kids : (k : Kind) (says : Saying) (xs : List Element) → says.slots ≡ [] → AllByRecursion (Stands k says) xs → xs ≡ []
unfolding spot_in
no_kids k says [] none all = refl
no_kids k says (x ∷ xs) none all = absurd (let bad : None ≡ Some all.0.0 = ap (spot_in k x.name 0) (sym none) ∙ all.0.1 in cc)

range_holds : (k : Kind) (r : Element) → fill_faults k (fill.One tag.FiniteIntRange) r ≡ [] → (r.name ≡ codes "finiteintrange") × (child_elements r ≡ [])
range_holds k r fills =
    let found = fill_of k (fill.One tag.FiniteIntRange) r fills in
    let row = one_is k r.name tag.FiniteIntRange found.0 found.1 in
    let is = tag_is k r.name (fill.One tag.FiniteIntRange) found.0 found.1 in
    let shape = elements_shape k tag.FiniteIntRange r range_row.0 (subst (λ t. IsShaped k t r) row found.2) in (
      sym (subst (λ t. (rule_for t).name ≡ r.name) row is.0) ∙ range_row.2,
      no_kids k (rule_for tag.FiniteIntRange) (child_elements r) range_row.1 (stand_among k (rule_for tag.FiniteIntRange) r.kids shape.kids),
    )

pub constant_holds : (c : Element) → IsPlacedAs c → has_name (codes "finiteintrangeconstant") c ≡ true → HoldsRange c
constant_holds c at named =
    let row : at.row ≡ tag.FiniteIntRangeConstant = range_rows at.row (ap (λ n. bytes_eq n (codes "finiteintrangeconstant")) at.named ∙ named) in
    let shape = elements_shape at.kind tag.FiniteIntRangeConstant c constant_row.0 (subst (λ t. IsShaped at.kind t c) row at.shaped) in
    let had = place_there at.kind (fill.One tag.FiniteIntRange) tag.FiniteIntRange (contains_first tag.FiniteIntRange []) (had_too at.kind (subst (λ t. is_had at.kind t ≡ true) row at.had)) in
    let one = the_only at.kind (rule_for tag.FiniteIntRangeConstant) (slot_of tag.FiniteIntRange 1 (Some 1)) constant_row.1 c refl refl had shape in
    let holds = range_holds at.kind one.0 one.2 in
    record { range = one.0; only = one.1; called = holds.0; empty = holds.1 }
