use Rattle.std.proofs.Common.{◌≡◌, ◌++◌, map, drop}
use Rattle.std.specs.Option.{option_map}
use Rattle.pn_resolve.specs.Meaning.{all_sorts, sort_with}
use Rattle.pn_resolve.specs.Tables.{kept_by}
use Rattle.pn_resolve.proofs.build.+build.Given as goal

abbrev pub invariant-build_all-loop-part : goal.invariant-build_all-loop-part
invariant-build_all-loop-part l = option_map (λ more. l.all ++ more) (all_sorts (map (sort_with (kept_by l.index l.sorts)) (drop l.part-index l.parts))) ≡ all_sorts (map (sort_with (kept_by l.index l.sorts)) l.parts)
