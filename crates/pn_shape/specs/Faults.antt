-- The faults of shape of an element and of all that stands in it, in order: those of the element itself, in the order of its
-- attributes, of its kids and of its row, and those at and in its kids.
use Rattle.std.specs.Prelude.{◌≡◌, ℕ, zero, suc, ◌+◌, Bool, true, false, not, ◌&&◌, nat_le, nat_lt, List, [], ◌∷◌, ◌++◌, codes, slice_index_or, Option, None, Some, is_some, if◌then◌else◌}
use Rattle.std.specs.List.{flat_map}
use Rattle.std.specs.Option.{option_and_then, unwrap_or}
use Rattle.pn_faults.specs.Order.{fault_at}
use Rattle.pn_faults.specs.declared.fault.Fault.{Fault}
use Rattle.pn_faults.specs.declared.reason.Reason.{Reason}
use Rattle.pn_faults.specs.declared.reason.Reason.TheVariants as reason
use Rattle.pn_operators.specs.declared.kind.Kind.{Kind}
use Rattle.pn_operators.specs.declared.kind.Kind.TheVariants as kind
use Rattle.pn_tree.specs.Depth.{depth_of}
use Rattle.pn_tree.specs.Elements.{attr_value}
use Rattle.pn_tree.specs.declared.element.Attr.{Attr}
use Rattle.pn_tree.specs.declared.element.Element.{Element}
use Rattle.pn_tree.specs.declared.element.Child.{Child}
use Rattle.pn_tree.specs.declared.element.Child.TheOpen as layer
use Rattle.pn_tree.specs.declared.element.Child.TheViews.{out-Child}
use Rattle.pn_shape.specs.Attributes.{attr_fault, lack_fault, unless}
use Rattle.pn_shape.specs.Numbers.{count_in, is_blank, net_kind}
use Rattle.pn_shape.specs.Rules.{Saying, rule_for, fill_name, attr_name}
use Rattle.pn_shape.specs.Spots.{tag_of, has_slot, spot_in, filled}
use Rattle.pn_shape.specs.declared.rule.Content.{Content}
use Rattle.pn_shape.specs.declared.rule.Content.TheVariants as contents
use Rattle.pn_shape.specs.declared.rule.Fill.{Fill}
use Rattle.pn_shape.specs.declared.rule.Fill.TheVariants as fill
use Rattle.pn_shape.specs.declared.rule.Over.{Over}
use Rattle.pn_shape.specs.declared.rule.Over.TheVariants as over
use Rattle.pn_shape.specs.declared.rule.Slot.{Slot}
use Rattle.pn_shape.specs.declared.search.Spot.{Spot}
use Rattle.pn_shape.specs.declared.tag.Tag.{Tag}
use Rattle.pn_shape.specs.declared.tag.Tag.TheVariants as tag

-- the fault of this reason, if there is one
abbrev pub told : ℕ → List ℕ → Option Reason → List Fault
told at detail None = []
told at detail (Some r) = fault_at r at detail ∷ []

-- the characters that stand directly in an element, joined
abbrev pub layer_text : layer.Child-F Child Element → List ℕ
layer_text (layer.Element e) = []
layer_text (layer.Text t) = t

abbrev pub own_text : List Child → List ℕ
own_text kids = flat_map (λ c. layer_text (out-Child c)) kids

abbrev pub is_count : ℕ → Option ℕ → Bool
is_count least None = false
is_count least (Some n) = nat_le least n

-- what is wrong with the characters of an element, joined
abbrev pub text_fault : Content → List ℕ → Option Reason
text_fault (contents.Count least) text = unless (is_count least (count_in text)) reason.BadNumber
text_fault contents.Elements text = None
text_fault contents.Net text = None
text_fault contents.Characters text = None
text_fault contents.Opaque text = None

-- what is wrong with characters between elements
abbrev pub stray_fault : Content → List ℕ → Option Reason
stray_fault contents.Elements text = unless (is_blank text) reason.StrayText
stray_fault contents.Net text = unless (is_blank text) reason.StrayText
stray_fault contents.Characters text = None
stray_fault (contents.Count least) text = None
stray_fault contents.Opaque text = None

-- the kind of net that the elements in an element are of: in a net the one that its type names, if it is the type of one
abbrev pub kind_inside : Kind → Content → List Attr → Option Kind
kind_inside k contents.Net attrs = option_and_then net_kind (attr_value (codes "type") attrs)
kind_inside k contents.Elements attrs = Some k
kind_inside k contents.Characters attrs = Some k
kind_inside k (contents.Count least) attrs = Some k
kind_inside k contents.Opaque attrs = Some k

-- whether something is asked of the elements in an element, and of its attributes
abbrev pub is_opaque : Content → Bool
is_opaque contents.Opaque = true
is_opaque contents.Elements = false
is_opaque contents.Net = false
is_opaque contents.Characters = false
is_opaque (contents.Count least) = false

-- what stands past the last place
abbrev pub no_slot : Slot
no_slot = record { fill = fill.One tag.Pnml; least = 0; most = None; over = over.Repeated }

abbrev pub passes_most : Option ℕ → ℕ → Bool
passes_most None n = false
passes_most (Some most) n = nat_le most n

-- what is wrong with one element more in a place in which so many stand
abbrev pub over_fault : Slot → ℕ → Option Over
over_fault s n = if passes_most s.most n then Some s.over else None

abbrev pub over_reason : Option Over → Option Reason
over_reason None = None
over_reason (Some over.Repeated) = Some reason.RepeatedElement
over_reason (Some over.SecondNet) = Some reason.SecondNet

-- of what stands in a second net nothing is asked
abbrev pub asks_inside : Option Over → Bool
asks_inside None = true
asks_inside (Some over.Repeated) = true
asks_inside (Some over.SecondNet) = false

abbrev pub spot_faults : (Kind → Tag → Element → List Fault) → Kind → Element → Option Over → Tag → List Fault
spot_faults inside k x past t = told x.at x.name (over_reason past) ++ (if asks_inside past then inside k t x else [])

-- the faults at and in a kid, behind the kids before it, where it has this place or none
abbrev pub placed_faults : (Kind → Tag → Element → List Fault) → Kind → List Slot → List Child → Element → Option Spot → List Fault
placed_faults inside k slots before x None = fault_at reason.UnknownElement x.at x.name ∷ []
placed_faults inside k slots before x (Some s) = spot_faults inside k x (over_fault (slice_index_or slots s.place no_slot) (filled k slots s.place before)) s.tag

-- the faults at and in an element among the kids, where something is asked of it
abbrev pub element_faults : (Kind → Tag → Element → List Fault) → Bool → Kind → List Slot → List Child → Element → List Fault
element_faults inside asks k slots before x = if asks then placed_faults inside k slots before x (spot_in k x.name 0 slots) else []

abbrev pub layer_faults : (Kind → Tag → Element → List Fault) → Bool → Kind → Saying → Element → List Child → layer.Child-F Child Element → List Fault
layer_faults inside asks k says e before (layer.Element x) = element_faults inside asks k says.slots before x
layer_faults inside asks k says e before (layer.Text t) = told e.at e.name (stray_fault says.content t)

-- the faults at and in the kids, behind those before them
abbrev pub kids_faults : (Kind → Tag → Element → List Fault) → Bool → Kind → Saying → Element → List Child → List Child → List Fault
kids_faults inside asks k says e before [] = []
kids_faults inside asks k says e before (c ∷ cs) = layer_faults inside asks k says e before (out-Child c) ++ kids_faults inside asks k says e (before ++ c ∷ []) cs

-- what is wrong with a place in which so many elements stand
abbrev pub missing_fault : Kind → Slot → ℕ → Option Reason
missing_fault k s n = unless (not (has_slot k s.fill && nat_lt n s.least)) reason.MissingElement

-- the faults of the places, numbered from i on, in which too few elements stand
abbrev pub missing_faults : Kind → List Slot → Element → ℕ → List Slot → List Fault
missing_faults k all e i [] = []
missing_faults k all e i (s ∷ slots) = told e.at (fill_name s.fill) (missing_fault k s (filled k all i e.kids)) ++ missing_faults k all e (i + 1) slots

abbrev pub attrs_faults : Saying → Element → List Fault
attrs_faults says e = flat_map (λ a. told e.at a.name (attr_fault says.attrs a)) e.attrs

abbrev pub lacks_faults : Saying → Element → List Fault
lacks_faults says e = flat_map (λ r. told e.at (attr_name r.name) (lack_fault e.attrs r)) says.attrs

-- all of them, where the elements inside have these, and where something or nothing is asked of those elements
abbrev pub row_faults : (Kind → Tag → Element → List Fault) → Bool → Kind → Saying → Element → List Fault
row_faults inside asks k says e =
    attrs_faults says e ++ (lacks_faults says e ++ (told e.at e.name (text_fault says.content (own_text e.kids)) ++ (kids_faults inside asks k says e [] e.kids
    ++ missing_faults k says.slots e 0 says.slots)))

-- of the elements in a net of no kind nothing is asked; what is missing in it is what nets of each kind have
abbrev pub faults_by : (Kind → Tag → Element → List Fault) → Option Kind → Saying → Element → List Fault
faults_by inside own says e = row_faults inside (is_some own) (unwrap_or own kind.PtNet) says e

abbrev pub faults_of_row : (Kind → Tag → Element → List Fault) → Kind → Saying → Element → List Fault
faults_of_row inside k says e = if is_opaque says.content then [] else faults_by inside (kind_inside k says.content e.attrs) says e

-- the faults of shape of an element of this tag, and in it down to so many levels
unfoldable pub faults_within : ℕ → Kind → Tag → Element → List Fault
faults_within zero k t e = []
faults_within (suc n) k t e = faults_of_row (faults_within n) k (rule_for t) e

-- the faults of shape at or inside an element of this tag, in a net of this kind
unfoldable pub all_faults : Kind → Tag → Element → List Fault
all_faults k t e = faults_within (depth_of e) k t e

abbrev pub tagged_faults : Kind → Element → Option Tag → List Fault
tagged_faults k e None = fault_at reason.UnknownElement e.at e.name ∷ []
tagged_faults k e (Some t) = all_faults k t e

-- the same where the element has to be one that fills a place
unfoldable pub fill_faults : Kind → Fill → Element → List Fault
fill_faults k f e = tagged_faults k e (tag_of k e.name f)

-- the faults of shape of a document
abbrev pub shape_faults : Element → List Fault
shape_faults e = fill_faults kind.PtNet (fill.One tag.Pnml) e

-- without a fault of shape at it or inside
abbrev pub IsShaped : Kind → Tag → Element → Type 0
IsShaped k t e = all_faults k t e ≡ []

-- it is a sort, without a fault of shape
abbrev pub IsShapedSort : Kind → Element → Type 0
IsShapedSort k e = fill_faults k fill.Sort e ≡ []

-- it is a term, without a fault of shape
abbrev pub IsShapedTerm : Kind → Element → Type 0
IsShapedTerm k e = fill_faults k fill.Term e ≡ []
