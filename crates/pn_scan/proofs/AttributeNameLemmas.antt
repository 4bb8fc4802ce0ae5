-- Which names the attributes of an element have, with one more.
use Rattle.std.proofs.Common.{◌≡◌, ℕ, Bool, true, false, cond, List, [], ◌∷◌, ◌++◌, Option, Some, None, refl, sym, ap, ◌∙◌}
use Rattle.std.specs.Option.{is_some}
use Rattle.std.specs.Str.{bytes_eq}
use Rattle.pn_tree.specs.Elements.{attr_value}
use Rattle.pn_tree.specs.declared.element.Attr.{Attr}

chosen : (b : Bool) (v : List ℕ) (o : Option (List ℕ)) → is_some (cond b (Some v) o) ≡ cond b true (is_some o)
chosen true v o = refl
chosen false v o = refl

both_chosen : (b d : Bool) (o : Bool) → cond b true (cond d true o) ≡ cond d true (cond b true o)
both_chosen true true o = refl
both_chosen true false o = refl
both_chosen false true o = refl
both_chosen false false o = refl

pub attr_push : (name value q : List ℕ) (given : List Attr)
    → is_some (attr_value q (given ++ (record { name = name; value = value } ∷ []))) ≡ cond (bytes_eq name q) true (is_some (attr_value q given))
attr_push name value q [] = chosen (bytes_eq name q) value None
attr_push name value q (a ∷ more) =
    chosen (bytes_eq a.name q) a.value (attr_value q (more ++ (record { name = name; value = value } ∷ [])))
    ∙ ap (cond (bytes_eq a.name q) true) (attr_push name value q more)
    ∙ both_chosen (bytes_eq a.name q) (bytes_eq name q) (is_some (attr_value q more))
    ∙ sym (ap (cond (bytes_eq name q) true) (chosen (bytes_eq a.name q) a.value (attr_value q more)))
