use Rattle.std.proofs.Common.{◌≡◌, ◌++◌, drop}
use Rattle.pn_names.specs.Names.{variable_places_from, variable_places_of}
use Rattle.pn_names.proofs.items.variable_places.Given as goal

abbrev pub invariant-loop-item : goal.invariant-loop-item
invariant-loop-item l = (l.place ≡ l.item-index) × (l.places.items ++ variable_places_from l.place (drop l.item-index l.items) ≡ variable_places_of l.items)
