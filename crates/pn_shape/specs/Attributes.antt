-- What may be wrong with the attributes of an element.
use Rattle.std.specs.Prelude.{ℕ, Bool, ◌&&◌, ◌==◌, not, List, [], ◌∷◌, codes, Option, None, Some, is_none, is_some, if◌then◌else◌}
use Rattle.std.specs.List.{list_any}
use Rattle.std.specs.Str.{bytes_eq}
use Rattle.pn_faults.specs.declared.reason.Reason.{Reason}
use Rattle.pn_faults.specs.declared.reason.Reason.TheVariants as reason
use Rattle.pn_tree.specs.Elements.{attr_value}
use Rattle.pn_tree.specs.declared.element.Attr.{Attr}
use Rattle.pn_shape.specs.Numbers.{namespace, net_kind, may_be_id, number_in, truth_in}
use Rattle.pn_shape.specs.Rules.{attr_name}
use Rattle.pn_shape.specs.declared.rule.AttrRule.{AttrRule}
use Rattle.pn_shape.specs.declared.rule.Form.{Form}
use Rattle.pn_shape.specs.declared.rule.Form.TheVariants as form

-- the reason, unless the test holds
abbrev pub unless : Bool → Reason → Option Reason
unless right r = if right then None else Some r

-- what is wrong with a value that has to be of a form
abbrev pub form_fault : Form → List ℕ → Option Reason
form_fault form.Any value = None
form_fault form.Namespace value = unless (bytes_eq value namespace) reason.WrongNamespace
form_fault form.NetType value = unless (is_some (net_kind value)) reason.WrongNetType
form_fault form.Id value = unless (may_be_id value) reason.BadId
form_fault form.Number value = unless (is_some (number_in value)) reason.BadNumber
form_fault form.Truth value = unless (is_some (truth_in value)) reason.BadValue

-- what a row says of the attribute of this name
abbrev pub rule_named : List ℕ → List AttrRule → Option AttrRule
rule_named name [] = None
rule_named name (r ∷ rules) = if bytes_eq name (attr_name r.name) then Some r else rule_named name rules

-- what is wrong with an attribute that the row doesn't have: `xmlns` may stand anywhere with the namespace as its value, and
-- what has a colon in its name may stand anywhere
abbrev pub other_fault : List ℕ → List ℕ → Option Reason
other_fault name value = if bytes_eq name (codes "xmlns") then form_fault form.Namespace value else unless (list_any (λ b. b == 58) name) reason.UnknownAttribute

abbrev pub ruled_fault : Option AttrRule → List ℕ → List ℕ → Option Reason
ruled_fault (Some r) name value = form_fault r.form value
ruled_fault None name value = other_fault name value

-- what is wrong with an attribute of an element of whose attributes the row says this
abbrev pub attr_fault : List AttrRule → Attr → Option Reason
attr_fault rules a = ruled_fault (rule_named a.name rules) a.name a.value

-- what is wrong where an attribute is asked for
abbrev pub lack_fault : List Attr → AttrRule → Option Reason
lack_fault attrs r = unless (not (r.is_needed && is_none (attr_value (attr_name r.name) attrs))) reason.MissingAttribute
