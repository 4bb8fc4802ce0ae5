use Rattle.std.proofs.Common.{◌≡◌, ◌++◌, map, take}
use Rattle.std.specs.List.{flat_map}
use Rattle.pn_resolve.specs.Links.{places_of, place_by}
use Rattle.pn_resolve.proofs.links.+places.Given as goal

abbrev pub invariant-places_in_all-loop-part : goal.invariant-places_in_all-loop-part
invariant-places_in_all-loop-part l = l.places.items ≡ l.fn.places.items ++ flat_map (λ p. p) (map (places_of (place_by l.index)) (take l.part-index l.parts))
