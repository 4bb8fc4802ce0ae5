use Rattle.std.proofs.Common.{◌≡◌, drop}
use Rattle.std.specs.List.{list_any}
use Rattle.pn_shape.specs.Rules.{is_had}
use Rattle.pn_shape.proofs.search.have_any.Given as goal

abbrev pub invariant-loop-tag : goal.invariant-loop-tag
invariant-loop-tag l = list_any (is_had l.kind) (drop l.tag-index l.tags) ≡ list_any (is_had l.kind) l.tags
