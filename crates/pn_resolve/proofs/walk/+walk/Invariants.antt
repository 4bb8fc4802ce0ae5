use Rattle.std.proofs.Common.{◌≡◌, map, take, drop}
use Rattle.std.specs.List.{flat_map}
use Rattle.pn_faults.specs.Least.{least_fault, lower}
use Rattle.pn_resolve.specs.declared.extent.Extent.TheVariants.{Fits}
use Rattle.pn_resolve.specs.Extents.{all_beside}
use Rattle.pn_resolve.specs.Telling.{told, told_extent, told_faults, known_by}
use Rattle.pn_resolve.proofs.walk.+walk.Given as goal

abbrev pub invariant-walk_all-loop-part : goal.invariant-walk_all-loop-part
invariant-walk_all-loop-part l = record {
  extent : all_beside l.total (map told_extent (map (told (known_by l.index l.extents)) (drop l.part-index l.parts))) ≡ all_beside (Fits 0 0) (map told_extent (map (told (known_by l.index l.extents)) l.parts));
  faults : l.least ≡ lower l.fn.least (least_fault (flat_map told_faults (map (told (known_by l.index l.extents)) (take l.part-index l.parts))));
}
