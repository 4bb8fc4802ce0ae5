-- What the walk keeps of an element, from what it keeps of its parts.
use Rattle.std.proofs.Common.{◌≡◌, ℕ, ◌+◌, Bool, true, false, cond, List, [], ◌∷◌, ◌++◌, take, drop, Option, Some, None, sym, ap, subst, ◌∙◌, append-nil}
use Rattle.std.proofs.lemmas.Grind.{flat_map-append}
use Rattle.std.specs.Prelude.{is_some}
use Rattle.std.specs.List.{slice_get}
use Rattle.std.specs.Option.{unwrap_or}
use Rattle.std.proofs.lemmas.Option.{same_Some}
use Rattle.pn_facts.proofs.Lists.{drop_got, take_got}
use Rattle.pn_faults.specs.declared.fault.Fault.{Fault}
use Rattle.pn_faults.specs.declared.reason.Reason.{Reason}
use Rattle.pn_operators.specs.declared.kind.Kind.{Kind}
use Rattle.pn_operators.specs.declared.kind.Kind.TheVariants as kind
use Rattle.pn_tree.specs.declared.element.Element.{Element}
use Rattle.pn_tree.specs.declared.element.Child.{Child}
use Rattle.pn_tree.specs.declared.element.Child.TheVariants as children
use Rattle.pn_tree.specs.declared.element.Child.TheViews.{out-Child}
use Rattle.pn_tree.proofs.ElementLemmas.{out_element, out_text}
use Rattle.pn_shape.specs.Rules.{Saying, said_by, rule_for, fill_name}
use Rattle.pn_shape.specs.Faults.{told, own_text, layer_text, stray_fault, kind_inside, is_opaque, over_reason, asks_inside, spot_faults, element_faults, layer_faults, kids_faults, row_faults, faults_by, faults_of_row, missing_fault, missing_faults, all_faults, fill_faults, tagged_faults}
use Rattle.pn_shape.specs.Spots.{tag_of, filled}
use Rattle.pn_shape.specs.declared.rule.Fill.{Fill}
use Rattle.pn_shape.specs.declared.rule.Over.{Over}
use Rattle.pn_shape.specs.declared.rule.Rule.{Rule}
use Rattle.pn_shape.specs.declared.rule.Slot.{Slot}
use Rattle.pn_shape.specs.declared.tag.Tag.{Tag}
use Rattle.pn_shape.proofs.LevelLemmas.{all_faults_is}
use Rattle.pn_shape_faults.specs.Keeping.{KeepsLower, Goes, Counted}
use Rattle.pn_shape_faults.proofs.KeepLemmas.{keeps_as, keeps_told, keeps_nothing, keeps_then, goes_next, goes_at}

-- an element by its row

by_row : (k : Kind) (t : Tag) (e : Element) (r : Rule) → said_by r ≡ rule_for t → all_faults k t e ≡ faults_of_row all_faults k (said_by r) e
by_row k t e r row = all_faults_is k t e ∙ ap (λ s. faults_of_row all_faults k s e) (sym row)

pub opaque_kept : (least : Option Fault) (k : Kind) (t : Tag) (e : Element) (r : Rule) → said_by r ≡ rule_for t → is_opaque r.content ≡ true → KeepsLower least least (all_faults k t e)
opaque_kept least k t e r row opaque =
    keeps_as least least [] (all_faults k t e)
    (sym (by_row k t e r row ∙ ap (λ b. cond b [] (faults_by all_faults (kind_inside k r.content e.attrs) (said_by r) e)) opaque)) (keeps_nothing least)

pub row_kept : (old new : Option Fault) (k : Kind) (t : Tag) (e : Element) (r : Rule) (own : Option Kind) → said_by r ≡ rule_for t → is_opaque r.content ≡ false → own ≡ kind_inside k r.content e.attrs
    → KeepsLower old new (row_faults all_faults (is_some own) (unwrap_or own kind.PtNet) (said_by r) e) → KeepsLower old new (all_faults k t e)
row_kept old new k t e r own row asked kind_is =
    keeps_as old new (row_faults all_faults (is_some own) (unwrap_or own kind.PtNet) (said_by r) e) (all_faults k t e)
    (ap (λ o. faults_by all_faults o (said_by r) e) kind_is
    ∙ sym (by_row k t e r row ∙ ap (λ b. cond b [] (faults_by all_faults (kind_inside k r.content e.attrs) (said_by r) e)) asked))

-- a kid

pub text_kept : (old new : Option Fault) (asks : Bool) (k : Kind) (says : Saying) (e : Element) (before : List Child) (i : ℕ) (t : List ℕ) (at : ℕ) (d : List ℕ) (r : Option Reason)
    → slice_get e.kids i ≡ Some (children.Text t) → at ≡ e.at → d ≡ e.name → r ≡ stray_fault says.content t → KeepsLower old new (told at d r)
    → (c : Child) → slice_get e.kids i ≡ Some c → KeepsLower old new (layer_faults all_faults asks k says e before (out-Child c))
text_kept old new asks k says e before i t at d r is same_at same_name same_reason kept c there =
    let same : children.Text t ≡ c = same_Some (children.Text t) c (sym is ∙ there) in
    keeps_as old new (told e.at e.name (stray_fault says.content t)) (layer_faults all_faults asks k says e before (out-Child c))
    (ap (layer_faults all_faults asks k says e before) (sym (out_text t) ∙ ap out-Child same))
    (keeps_told old new at e.at d e.name r (stray_fault says.content t) same_at same_name same_reason kept)

pub element_kept : (old new : Option Fault) (asks : Bool) (k : Kind) (says : Saying) (e : Element) (before : List Child) (i : ℕ) (x : Element)
    → slice_get e.kids i ≡ Some (children.Element x) → KeepsLower old new (element_faults all_faults asks k says.slots before x)
    → (c : Child) → slice_get e.kids i ≡ Some c → KeepsLower old new (layer_faults all_faults asks k says e before (out-Child c))
element_kept old new asks k says e before i x is kept c there =
    let same : children.Element x ≡ c = same_Some (children.Element x) c (sym is ∙ there) in
    keeps_as old new (element_faults all_faults asks k says.slots before x) (layer_faults all_faults asks k says e before (out-Child c))
    (ap (layer_faults all_faults asks k says e before) (sym (out_element x) ∙ ap out-Child same)) kept

pub counted_as : (k : Kind) (slots : List Slot) (counts : List ℕ) (kids : List Child) (i : ℕ) (c : Child) → slice_get kids i ≡ Some c → Counted k slots counts (take i kids ++ c ∷ [])
    → Counted k slots counts (take (i + 1) kids)
counted_as k slots counts kids i c is counted = subst (Counted k slots counts) (sym (take_got kids i c is)) counted

pub kids_next : (old new next : Option Fault) (all : List Fault) (asks : Bool) (k : Kind) (says : Saying) (e : Element) (i : ℕ) (c : Child) → slice_get e.kids i ≡ Some c
    → Goes old new all (kids_faults all_faults asks k says e (take i e.kids) (drop i e.kids)) → KeepsLower new next (layer_faults all_faults asks k says e (take i e.kids) (out-Child c))
    → Goes old next all (kids_faults all_faults asks k says e (take (i + 1) e.kids) (drop (i + 1) e.kids))
kids_next old new next all asks k says e i c is goes kept =
    let faults = kids_faults all_faults asks k says e in
    goes_at old next all (faults (take i e.kids ++ c ∷ []) (drop (i + 1) e.kids)) (faults (take (i + 1) e.kids) (drop (i + 1) e.kids))
    (goes_next old new next all (layer_faults all_faults asks k says e (take i e.kids) (out-Child c)) (faults (take i e.kids ++ c ∷ []) (drop (i + 1) e.kids))
    (goes_at old new all (faults (take i e.kids) (drop i e.kids)) (faults (take i e.kids) (c ∷ drop (i + 1) e.kids)) goes (ap (faults (take i e.kids)) (drop_got e.kids i c is))) kept)
    (ap (λ before. faults before (drop (i + 1) e.kids)) (sym (take_got e.kids i c is)))

pub placed_kept : (old middle new : Option Fault) (asks : Bool) (k : Kind) (x : Element) (past : Option Over) (t : Tag) → asks ≡ true → asks_inside past ≡ true
    → KeepsLower old middle (told x.at x.name (over_reason past)) → KeepsLower middle new (all_faults k t x) → KeepsLower old new (cond asks (spot_faults all_faults k x past t) [])
placed_kept old middle new asks k x past t asked inside first second =
    keeps_as old new (told x.at x.name (over_reason past) ++ all_faults k t x) (cond asks (spot_faults all_faults k x past t) [])
    (ap (λ b. told x.at x.name (over_reason past) ++ cond b (all_faults k t x) []) (sym inside) ∙ ap (λ b. cond b (spot_faults all_faults k x past t) []) (sym asked))
    (keeps_then old middle new (told x.at x.name (over_reason past)) (all_faults k t x) first second)

-- what is missing

pub missing_next : (old new next : Option Fault) (all : List Fault) (k : Kind) (slots : List Slot) (e : Element) (i : ℕ) (s : Slot) → slice_get slots i ≡ Some s
    → Goes old new all (missing_faults k slots e i (drop i slots)) → KeepsLower new next (told e.at (fill_name s.fill) (missing_fault k s (filled k slots i e.kids)))
    → Goes old next all (missing_faults k slots e (i + 1) (drop (i + 1) slots))
missing_next old new next all k slots e i s is goes kept =
    goes_next old new next all (told e.at (fill_name s.fill) (missing_fault k s (filled k slots i e.kids))) (missing_faults k slots e (i + 1) (drop (i + 1) slots))
    (goes_at old new all (missing_faults k slots e i (drop i slots)) (missing_faults k slots e i (s ∷ drop (i + 1) slots)) goes (ap (missing_faults k slots e i) (drop_got slots i s is))) kept

-- an element that fills a place

pub fill_is : (k : Kind) (f : Fill) (e : Element) (t : Tag) → Some t ≡ tag_of k e.name f → all_faults k t e ≡ fill_faults k f e
unfolding fill_faults
fill_is k f e t is = ap (tagged_faults k e) is

pub fill_unknown : (k : Kind) (f : Fill) (e : Element) → None ≡ tag_of k e.name f → tagged_faults k e None ≡ fill_faults k f e
unfolding fill_faults
fill_unknown k f e is = ap (tagged_faults k e) is

-- the characters, joined

joined : (kids : List Child) (i : ℕ) (c : Child) → slice_get kids i ≡ Some c → own_text (take (i + 1) kids) ≡ own_text (take i kids) ++ layer_text (out-Child c)
joined kids i c is =
    ap own_text (take_got kids i c is) ∙ (flat_map-append (λ x. layer_text (out-Child x)) (take i kids) (c ∷ []) ∙ ap (λ l. own_text (take i kids) ++ l) (append-nil (layer_text (out-Child c))))

pub text_joined : (kids : List Child) (i : ℕ) (t so_far : List ℕ) → slice_get kids i ≡ Some (children.Text t) → so_far ≡ own_text (take i kids) → so_far ++ t ≡ own_text (take (i + 1) kids)
text_joined kids i t so_far is so = ap (λ l. l ++ t) so ∙ (ap (λ l. own_text (take i kids) ++ layer_text l) (sym (out_text t)) ∙ sym (joined kids i (children.Text t) is))

pub element_joined : (kids : List Child) (i : ℕ) (x : Element) (so_far : List ℕ) → slice_get kids i ≡ Some (children.Element x) → so_far ≡ own_text (take i kids) → so_far ≡ own_text (take (i + 1) kids)
element_joined kids i x so_far is so =
    so ∙ (sym (append-nil (own_text (take i kids))) ∙ (ap (λ l. own_text (take i kids) ++ layer_text l) (sym (out_element x)) ∙ sym (joined kids i (children.Element x) is)))
