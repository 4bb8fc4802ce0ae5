-- What a builder holds, and what each of its calls makes of it.
use Rattle.std.specs.Prelude.{ℕ, List, [], ◌∷◌, ◌++◌, Option, Some, None}
use Rattle.pn_tree.specs.declared.element.Element.{Element}
use Rattle.pn_tree.specs.declared.element.Child.{Child}
use Rattle.pn_tree.specs.declared.element.Child.TheOpen as layer
use Rattle.pn_tree.specs.declared.element.Child.TheVariants as children
use Rattle.pn_tree.specs.declared.element.Child.TheViews.{out-Child}

-- the root, once it is ended, and the elements that are begun and not ended, the innermost first, each with what it was given so far
pub record Building : Type 0 where
  pub root : Option Element
  pub open_elements : List Element

-- before the first call
abbrev pub nothing_built : Building
nothing_built = record { root = None; open_elements = [] }

-- the innermost element that is begun and not ended
abbrev pub innermost : Building → Option Element
innermost b = first_of b.open_elements
  where
    first_of : List Element → Option Element
    first_of [] = None
    first_of (e ∷ es) = Some e

-- an element was begun
abbrev pub begun : List ℕ → ℕ → Building → Building
begun name at b = record b { open_elements = record { name = name; at = at; attrs = []; kids = [] } ∷ b.open_elements }

abbrev pub at_first : (Element → Element) → List Element → List Element
at_first change [] = []
at_first change (e ∷ es) = change e ∷ es

-- the innermost open element was changed
abbrev pub at_innermost : (Element → Element) → Building → Building
at_innermost change b = record b { open_elements = at_first change b.open_elements }

-- the element was given an attribute
abbrev pub with_attr : List ℕ → List ℕ → Element → Element
with_attr name value e = record e { attrs = e.attrs ++ (record { name = name; value = value } ∷ []) }

-- the element was given a kid
abbrev pub with_kid : Child → Element → Element
with_kid kid e = record e { kids = e.kids ++ (kid ∷ []) }

abbrev pub joined_last : List ℕ → Child → layer.Child-F Child Element → List Child
joined_last more kid (layer.Element e) = kid ∷ children.Text more ∷ []
joined_last more kid (layer.Text t) = children.Text (t ++ more) ∷ []

-- a text that is not empty after the kids: it is joined to a text before it
abbrev pub joined : List ℕ → List Child → List Child
joined more [] = children.Text more ∷ []
joined more (k ∷ []) = joined_last more k (out-Child k)
joined more (k ∷ l ∷ ks) = k ∷ joined more (l ∷ ks)

-- the element was given a text, and an empty one changes nothing
abbrev pub with_text : List ℕ → Element → Element
with_text [] e = e
with_text (b ∷ bs) e = record e { kids = joined (b ∷ bs) e.kids }

-- the innermost open element was ended: it is the root, or the last kid of the one around it
abbrev pub closed : Option Element → List Element → Building
closed root [] = record { root = root; open_elements = [] }
closed root (e ∷ []) = record { root = Some e; open_elements = [] }
closed root (e ∷ p ∷ es) = record { root = root; open_elements = with_kid (children.Element e) p ∷ es }

abbrev pub ended : Building → Building
ended b = closed b.root b.open_elements
