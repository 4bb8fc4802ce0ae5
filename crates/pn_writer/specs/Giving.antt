-- What is asked of a builder that is to be given kids, and what it holds while an element is under way.
use Rattle.std.specs.Prelude.{◌≡◌, ◌-◌, ◌<◌, List, [], ◌∷◌, length, true, None, IsSome}
use Rattle.std.specs.List.{list_all}
use Rattle.pn_tree.specs.Building.{Building, innermost}
use Rattle.pn_tree.specs.Elements.{is_element, is_kid}
use Rattle.pn_tree.specs.declared.element.Element.{Element}
use Rattle.pn_tree.specs.declared.element.Child.{Child}
use Rattle.pn_tree.specs.declared.element.Child.TheVariants as children

-- the innermost open element may be given these kids: their names, attributes and texts are such as a tree may have, and they don't go too deep
pub record MayTake (kids : List Child) (b : Building) : Type 0 where
  pub unended : b.root ≡ None
  pub is_open : IsSome (innermost b)
  pub fit : list_all (is_kid (is_element (256 - length b.open_elements))) kids ≡ true

-- it may be given this element
abbrev pub MayTakeElement : Element → Building → Type 0
MayTakeElement e = MayTake (children.Element e ∷ [])

-- one more element may be begun
pub record MayBegin (b : Building) : Type 0 where
  pub unended : b.root ≡ None
  pub room : length b.open_elements < 256

-- an element is under way, with what it was given so far
abbrev pub opened : Element → Building → Building
opened e b = record b { open_elements = e ∷ b.open_elements }
