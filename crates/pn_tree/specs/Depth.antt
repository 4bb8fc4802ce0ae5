-- How many levels an element has.
use Rattle.std.specs.Prelude.{ℕ, suc, max, List, [], ◌∷◌}
use Rattle.pn_tree.specs.declared.element.Element.{Element}
use Rattle.pn_tree.specs.declared.element.Child.{Child}
use Rattle.pn_tree.specs.declared.element.Child.TheOpen as layer
use Rattle.pn_tree.specs.declared.element.Child.TheFolds.{fold-Element, fold-Child}

abbrev pub greatest : List ℕ → ℕ
greatest [] = 0
greatest (n ∷ ns) = max n (greatest ns)

abbrev pub kid_levels : layer.Child-F ℕ ℕ → ℕ
kid_levels (layer.Element levels) = levels
kid_levels (layer.Text t) = 0

abbrev pub element_levels : layer.Element-F ℕ ℕ → ℕ
element_levels e = suc (greatest e.kids)

-- one level more than the deepest kid, where a text has none
abbrev pub depth_of : Element → ℕ
depth_of = fold-Element ℕ ℕ kid_levels element_levels

abbrev pub kid_depth : Child → ℕ
kid_depth = fold-Child ℕ ℕ kid_levels element_levels
