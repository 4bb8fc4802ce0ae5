-- What copies give to the innermost open element.
use Rattle.std.specs.Prelude.{◌≡◌, ℕ, ◌+◌, ◌≤◌, true, List, [], ◌++◌, Option, Some, None}
use Rattle.pn_text.specs.Characters.{is_text}
use Rattle.pn_tree.specs.Building.{with_kid, with_text}
use Rattle.pn_tree.specs.Depth.{depth_of}
use Rattle.pn_tree.specs.Views.{element_of}
use Rattle.pn_tree.specs.declared.element.Attr.{Attr}
use Rattle.pn_tree.specs.declared.element.Element.{Element}
use Rattle.pn_tree.specs.declared.element.Child.{Child}
use Rattle.pn_tree.specs.declared.element.Child.TheVariants as children
use Rattle.pn_tree.specs.declared.view.Kid.{Kid}
use Rattle.pn_tree.specs.declared.view.Kid.TheVariants as kids

-- there is an element, which was given nothing yet
abbrev pub IsBlank : Option Element → Type 0
IsBlank None = ⊥
IsBlank (Some e) = (e.attrs ≡ []) × (e.kids ≡ [])

-- there is an element, which has no kids
abbrev pub HasNoKids : Option Element → Type 0
HasNoKids None = ⊥
HasNoKids (Some e) = e.kids ≡ []

abbrev pub with_attrs : List Attr → Element → Element
with_attrs more e = record e { attrs = e.attrs ++ more }

abbrev pub with_kids : List Child → Element → Element
with_kids more e = record e { kids = e.kids ++ more }

-- a kid that is shown was given
abbrev pub with_shown : Kid → Element → Element
with_shown (kids.Element v) e = with_kid (children.Element (element_of v)) e
with_shown (kids.Text t) e = with_text t.now e

-- so many elements may stand around the kid, and a text is one
abbrev pub KidFits : ℕ → Kid → Type 0
KidFits around (kids.Element v) = around + depth_of (element_of v) ≤ 256
KidFits around (kids.Text t) = is_text t.now ≡ true
