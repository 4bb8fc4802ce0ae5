use Rattle.std.proofs.Common.{◌≡◌, List, ◌++◌, map, length}
use Rattle.std.specs.List.{AllByRecursion}
use Rattle.pn_carriers.specs.Carriers.{choices}
use Rattle.pn_values.specs.declared.value.Value.{Value}
use Rattle.pn_modes.specs.Search.{IsAt, to_come}
use Rattle.pn_modes.proofs.SiftLemmas.{AreSifted, values_of}
use Rattle.pn_modes.proofs.walk.collect.Given as goal

-- the modes so far and the wanted ones to come are all the wanted ones
abbrev pub invariant-loop-cursor : goal.invariant-loop-cursor
invariant-loop-cursor g l = record {
  at : IsAt (g.P.Pruning.carriers l.over) l.cursor;
  transition : l.cursor.front.transition ≡ l.transition;
  same : AllByRecursion (λ m. m.transition ≡ l.transition) l.modes.items;
  sifted : (ys : List (List Value)) → AreSifted (g.P.Pruning.wanted l.over) (to_come (g.P.Pruning.carriers l.over) l.cursor) ys → AreSifted (g.P.Pruning.wanted l.over) (choices (g.P.Pruning.carriers l.over)) (map values_of l.modes.items ++ ys);
}

abbrev pub decreases-loop-cursor : goal.decreases-loop-cursor
decreases-loop-cursor g l = length (to_come (g.P.Pruning.carriers l.over) l.cursor)
