use Rattle.std.proofs.Common.{◌≡◌, drop}
use Rattle.pn_shape.specs.Spots.{first_named}
use Rattle.pn_shape.proofs.search.find_named.Given as goal

abbrev pub invariant-loop-tag : goal.invariant-loop-tag
invariant-loop-tag l = first_named l.kind l.name (drop l.tag-index l.tags) ≡ first_named l.kind l.name l.tags
