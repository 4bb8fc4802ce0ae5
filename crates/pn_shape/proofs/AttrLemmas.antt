-- What is known of the values of an element without a fault of shape.
use Rattle.std.proofs.Common.{◌≡◌, ℕ, ℤ, ◌≤◌, Bool, true, false, cond, not, ◌&&◌, List, [], ◌∷◌, Option, Some, None, refl, sym, ap, subst, ◌∙◌, arith}
use Rattle.std.specs.Prelude.{is_none, is_some}
use Rattle.std.specs.List.{AllByRecursion}
use Rattle.std.specs.Str.{bytes_eq}
use Rattle.std.proofs.lemmas.Bool.Decides.{nat_tests}
use Rattle.std.proofs.lemmas.Slice.Eq.{bytes_eq-Decides}
use Rattle.pn_faults.specs.declared.reason.Reason.{Reason}
use Rattle.pn_faults.specs.declared.reason.Reason.TheVariants as reason
use Rattle.pn_operators.specs.declared.kind.Kind.{Kind}
use Rattle.pn_tree.specs.Elements.{attr_value}
use Rattle.pn_tree.specs.declared.element.Attr.{Attr}
use Rattle.pn_shape.specs.Attributes.{unless, form_fault, rule_named, ruled_fault, attr_fault, lack_fault}
use Rattle.pn_shape.specs.Faults.{is_count, text_fault}
use Rattle.pn_shape.specs.Numbers.{count_in, number_in, may_be_id, net_kind}
use Rattle.pn_shape.specs.Rules.{attr_name}
use Rattle.pn_shape.specs.declared.rule.AttrRule.{AttrRule}
use Rattle.pn_shape.specs.declared.rule.Content.TheVariants as contents
use Rattle.pn_shape.specs.declared.rule.Form.TheVariants as form

pub holds : (b : Bool) (r : Reason) → unless b r ≡ None → b ≡ true
holds true r h = refl
holds false r h = absurd cc

pub there : {A : Type 0} (o : Option A) → is_some o ≡ true → (a : A) × (o ≡ Some a)
there None h = absurd cc
there (Some a) h = (a, refl)

-- an attribute that is asked for is there
pub needed_there : (attrs : List Attr) (r : AttrRule) → lack_fault attrs r ≡ None → r.is_needed ≡ true → (v : List ℕ) × (attr_value (attr_name r.name) attrs ≡ Some v)
needed_there attrs r h needed = go (attr_value (attr_name r.name) attrs) refl
  where
    go : (o : Option (List ℕ)) → attr_value (attr_name r.name) attrs ≡ o → (v : List ℕ) × (attr_value (attr_name r.name) attrs ≡ Some v)
    go (Some v) is = (v, is)
    go None is =
        let lacks = ap (λ o. unless (not (r.is_needed && is_none o)) reason.MissingAttribute) (sym is) ∙ h in
        let no_fault = ap (λ b. unless (not (b && true)) reason.MissingAttribute) (sym needed) ∙ lacks in
        absurd cc

-- the value of an attribute that is there has no fault
pub value_right : (rules : List AttrRule) (attrs : List Attr) (name v : List ℕ) → AllByRecursion (λ a. attr_fault rules a ≡ None) attrs → attr_value name attrs ≡ Some v
    → ruled_fault (rule_named name rules) name v ≡ None
value_right rules [] name v h is = absurd cc
value_right rules (a ∷ attrs) name v h is = step (bytes_eq a.name name) refl is (λ more. value_right rules attrs name v h.1 more)
  where
    step : (b : Bool) → bytes_eq a.name name ≡ b → cond b (Some a.value) (attr_value name attrs) ≡ Some v → (attr_value name attrs ≡ Some v → ruled_fault (rule_named name rules) name v ≡ None)
        → ruled_fault (rule_named name rules) name v ≡ None
    step true same found more =
        let named : a.name ≡ name = (bytes_eq-Decides a.name name).0 same in
        let value : a.value ≡ v = cc in
        subst (λ n. ruled_fault (rule_named n rules) n v ≡ None) named (subst (λ w. ruled_fault (rule_named a.name rules) a.name w ≡ None) value h.0)
    step false other found more = more found

-- what a value of each form is

pub kind_there : (v : List ℕ) → form_fault form.NetType v ≡ None → (k : Kind) × (net_kind v ≡ Some k)
kind_there v h = there (net_kind v) (holds (is_some (net_kind v)) reason.WrongNetType h)

pub id_right : (v : List ℕ) → form_fault form.Id v ≡ None → may_be_id v ≡ true
id_right v h = holds (may_be_id v) reason.BadId h

pub number_there : (v : List ℕ) → form_fault form.Number v ≡ None → (z : ℤ) × (number_in v ≡ Some z)
number_there v h = there (number_in v) (holds (is_some (number_in v)) reason.BadNumber h)

-- the number that stands in a `text`
pub count_there : (least : ℕ) (text : List ℕ) → text_fault (contents.Count least) text ≡ None → (n : ℕ) × (count_in text ≡ Some n) × (least ≤ n)
count_there least text h = go (count_in text) refl (holds (is_count least (count_in text)) reason.BadNumber h)
  where
    go : (o : Option ℕ) → count_in text ≡ o → is_count least o ≡ true → (n : ℕ) × (count_in text ≡ Some n) × (least ≤ n)
    go None is h = absurd cc
    go (Some n) is h = (n, is, grind (arith, nat_tests))
