use Rattle.std.proofs.Common.{◌≡◌, ◌*◌, ◌^◌, ◌≤◌, min, map, length, drop}
use Rattle.std.specs.List.{list_all}
use Rattle.pn_carriers.specs.Carriers.{is_finite, choices, carrier}
use Rattle.pn_carriers.proofs.sizes.+size.Given as goal

abbrev pub invariant-product_size-loop-part : goal.invariant-product_size-loop-part
invariant-product_size-loop-part l = record {
  capped : l.total ≤ 2 ^ 64;
  finite : list_all is_finite (drop l.part-index l.parts) ≡ list_all is_finite l.parts;
  whole : min (l.total * length (choices (map (carrier l.widths) (drop l.part-index l.parts)))) (2 ^ 64) ≡ min (length (choices (map (carrier l.widths) l.parts))) (2 ^ 64);
}
