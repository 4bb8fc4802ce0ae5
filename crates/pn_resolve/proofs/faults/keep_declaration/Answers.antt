use Rattle.std.proofs.Common.{◌++◌, refl}
use Rattle.std.proofs.lemmas.Result.{IfOk-equal}
use Rattle.pn_faults.specs.Least.{least_fault, lower}
use Rattle.pn_resolve.specs.Listing.{cycle_faults, sort_faults, range_faults}
use Rattle.pn_resolve.specs.Telling.{known_by}
use Rattle.pn_resolve.proofs.KeepLemmas.{kept_both}
use Rattle.pn_resolve.proofs.faults.keep_declaration.Goals as goal

pub returns : goal.returns
returns c =
    let sort = sort_faults (known_by c.args.index.now c.args.extents.now) c.args.declaration.now in
    let ranges = range_faults c.args.declaration.now in
    let cycle = cycle_faults c.args.is_cyclic c.args.declaration.now in
    let last = lower c.keep_sort.new.least (least_fault ranges) in
    IfOk-equal c.keep_ranges.result _ _ _ c.keep_ranges.ensures
    (kept_both c.args.least.now c.keep_cycle.new.least last cycle (sort ++ ranges) c.in_ok-keep_cycle.ensures (kept_both c.keep_cycle.new.least c.keep_sort.new.least last sort ranges c.in_ok-keep_sort.ensures refl))
