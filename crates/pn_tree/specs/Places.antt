-- Which escape is used where.
use Rattle.std.specs.Prelude.{ℕ, List}
use Rattle.pn_tree.specs.Canonical.{text_escape, value_escape}
use Rattle.pn_tree.specs.declared.put.Place.{Place}
use Rattle.pn_tree.specs.declared.put.Place.TheVariants.{Content, Value}

abbrev pub escape_in : Place → ℕ → List ℕ
escape_in Content b = text_escape b
escape_in Value b = value_escape b
