-- More levels than an element has change nothing: its faults are those that its row tells of it, and of its kids.
use Rattle.std.proofs.Common.{◌≡◌, ℕ, zero, suc, ◌≤◌, Bool, cond, List, [], ◌∷◌, ◌++◌, map, Option, Some, None, refl, sym, ap, ◌∙◌, arith}
use Rattle.std.specs.Prelude.{is_some}
use Rattle.std.specs.List.{slice_index_or}
use Rattle.std.specs.Option.{unwrap_or}
use Rattle.pn_faults.specs.declared.fault.Fault.{Fault}
use Rattle.pn_operators.specs.declared.kind.Kind.{Kind}
use Rattle.pn_operators.specs.declared.kind.Kind.TheVariants as kind
use Rattle.pn_tree.specs.Depth.{greatest, depth_of, kid_depth}
use Rattle.pn_tree.specs.declared.element.Element.{Element}
use Rattle.pn_tree.specs.declared.element.Child.{Child}
use Rattle.pn_tree.specs.declared.element.Child.TheOpen as layer
use Rattle.pn_tree.specs.declared.element.Child.TheVariants as children
use Rattle.pn_tree.specs.declared.element.Child.TheVariants.{rolls-Element}
use Rattle.pn_tree.specs.declared.element.Child.TheViews.{out-Child, roll-Child, roll-out-Child}
use Rattle.pn_tree.proofs.DepthLemmas.{depth_is, kid_depth-element, some_levels}
use Rattle.pn_shape.specs.Faults.{told, own_text, text_fault, over_fault, over_reason, asks_inside, spot_faults, placed_faults, element_faults, layer_faults, kids_faults, attrs_faults, lacks_faults, missing_faults, faults_by, faults_of_row, kind_inside, is_opaque, faults_within, all_faults, no_slot}
use Rattle.pn_shape.specs.Rules.{Saying, rule_for}
use Rattle.pn_shape.specs.Spots.{spot_in, filled}
use Rattle.pn_shape.specs.declared.rule.Over.{Over}
use Rattle.pn_shape.specs.declared.rule.Slot.{Slot}
use Rattle.pn_shape.specs.declared.search.Spot.{Spot}
use Rattle.pn_shape.specs.declared.tag.Tag.{Tag}

-- the faults of elements
abbrev Asked : Type 0
Asked = Kind → Tag → Element → List Fault

-- a kid that is an element
pub kid_is : (c : Child) (x : Element) → out-Child c ≡ layer.Element x → c ≡ children.Element x
kid_is c x is = sym (roll-out-Child c) ∙ ap roll-Child is ∙ rolls-Element x

kid_levels : (c : Child) (x : Element) (n : ℕ) → out-Child c ≡ layer.Element x → kid_depth c ≤ n → depth_of x ≤ n
kid_levels c x n is le = omega (arith, ap kid_depth (kid_is c x is), kid_depth-element x)

-- both ask the same of elements of so few levels
abbrev AskSame : ℕ → Asked → Asked → Type 0
AskSame n f g = (k : Kind) (t : Tag) (x : Element) → depth_of x ≤ n → f k t x ≡ g k t x

module _ (n : ℕ) (f g : Asked) (same : AskSame n f g) where
  spot_same : (k : Kind) (x : Element) (past : Option Over) (t : Tag) → depth_of x ≤ n → spot_faults f k x past t ≡ spot_faults g k x past t
  spot_same k x past t le = ap (λ fs. told x.at x.name (over_reason past) ++ (cond (asks_inside past) fs [])) (same k t x le)

  placed_same : (k : Kind) (slots : List Slot) (before : List Child) (x : Element) (s : Option Spot) → depth_of x ≤ n
      → placed_faults f k slots before x s ≡ placed_faults g k slots before x s
  placed_same k slots before x None le = refl
  placed_same k slots before x (Some s) le = spot_same k x (over_fault (slice_index_or slots s.place no_slot) (filled k slots s.place before)) s.tag le

  element_same : (asks : Bool) (k : Kind) (slots : List Slot) (before : List Child) (x : Element) → depth_of x ≤ n
      → element_faults f asks k slots before x ≡ element_faults g asks k slots before x
  element_same asks k slots before x le = ap (λ fs. cond asks fs []) (placed_same k slots before x (spot_in k x.name 0 slots) le)

  layer_same : (asks : Bool) (k : Kind) (says : Saying) (e : Element) (before : List Child) (c : Child) (l : layer.Child-F Child Element) → out-Child c ≡ l → kid_depth c ≤ n
      → layer_faults f asks k says e before l ≡ layer_faults g asks k says e before l
  layer_same asks k says e before c (layer.Element x) is le = element_same asks k says.slots before x (kid_levels c x n is le)
  layer_same asks k says e before c (layer.Text t) is le = refl

  kids_same : (asks : Bool) (k : Kind) (says : Saying) (e : Element) (before cs : List Child) → greatest (map kid_depth cs) ≤ n
      → kids_faults f asks k says e before cs ≡ kids_faults g asks k says e before cs
  kids_same asks k says e before [] le = refl
  kids_same asks k says e before (c ∷ cs) le =
      ap (λ fs. fs ++ kids_faults f asks k says e (before ++ c ∷ []) cs) (layer_same asks k says e before c (out-Child c) refl (omega arith))
      ∙ ap (λ fs. layer_faults g asks k says e before (out-Child c) ++ fs) (kids_same asks k says e (before ++ c ∷ []) cs (omega arith))

  by_same : (own : Option Kind) (says : Saying) (e : Element) → depth_of e ≤ suc n → faults_by f own says e ≡ faults_by g own says e
  by_same own says e le =
      ap (λ fs. attrs_faults says e ++ (lacks_faults says e ++ (told e.at e.name (text_fault says.content (own_text e.kids)) ++ (fs
      ++ missing_faults (unwrap_or own kind.PtNet) says.slots e 0 says.slots))))
      (kids_same (is_some own) (unwrap_or own kind.PtNet) says e [] e.kids (omega (arith, depth_is e)))

  pub row_same : (k : Kind) (says : Saying) (e : Element) → depth_of e ≤ suc n → faults_of_row f k says e ≡ faults_of_row g k says e
  row_same k says e le = ap (λ fs. cond (is_opaque says.content) [] fs) (by_same (kind_inside k says.content e.attrs) says e le)

faults_within-same : (m n : ℕ) (k : Kind) (t : Tag) (e : Element) → depth_of e ≤ m → depth_of e ≤ n → faults_within m k t e ≡ faults_within n k t e
unfolding faults_within
faults_within-same zero n k t e lm ln = absurd (omega (arith, some_levels e))
faults_within-same (suc m) zero k t e lm ln = absurd (omega (arith, some_levels e))
faults_within-same (suc m) (suc n) k t e lm ln = go (depth_of e) refl (λ k t x le lt. faults_within-same m n k t x le lt)
  where
    go : (d : ℕ) → depth_of e ≡ d → ((k : Kind) (t : Tag) (x : Element) → depth_of x ≤ m → depth_of x ≤ n → faults_within m k t x ≡ faults_within n k t x)
        → faults_of_row (faults_within m) k (rule_for t) e ≡ faults_of_row (faults_within n) k (rule_for t) e
    go zero is below = absurd (omega (arith, some_levels e))
    go (suc d) is below = row_same d (faults_within m) (faults_within n) (λ k t x le. below k t x (omega arith) (omega arith)) k (rule_for t) e (omega arith)

-- levels past those of an element add nothing
pub levels_add_nothing : (n : ℕ) (k : Kind) (t : Tag) (e : Element) → depth_of e ≤ n → faults_within n k t e ≡ all_faults k t e
unfolding all_faults
levels_add_nothing n k t e le = faults_within-same n (depth_of e) k t e le (omega arith)

-- the faults at and in an element are those that its row tells, where in its kids the same is asked
pub all_faults_is : (k : Kind) (t : Tag) (e : Element) → all_faults k t e ≡ faults_of_row all_faults k (rule_for t) e
unfolding all_faults faults_within
all_faults_is k t e = go (depth_of e) refl
  where
    go : (d : ℕ) → depth_of e ≡ d → faults_within d k t e ≡ faults_of_row all_faults k (rule_for t) e
    go zero is = absurd (omega (arith, some_levels e))
    go (suc d) is = row_same d (faults_within d) all_faults (λ k t x le. levels_add_nothing d k t x le) k (rule_for t) e (omega arith)
