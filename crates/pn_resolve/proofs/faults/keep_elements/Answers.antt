use Rattle.std.proofs.Common.{◌∙◌, ap}
use Rattle.std.specs.List.{flat_map}
use Rattle.pn_faults.specs.Least.{least_fault, lower}
use Rattle.pn_resolve.specs.Listing.{value_faults, element_faults}
use Rattle.pn_resolve.proofs.KeepLemmas.{kept_item}
use Rattle.pn_resolve.proofs.faults.keep_elements.Goals as goal

pub loop-element-preserved : goal.loop-element-preserved
loop-element-preserved c = kept_item element_faults c.args.elements.now c.loop-element.element-index c.element-item.result c.args.least.now c.loop-element.least c.keep_values.new.least c.loop-element-test.true c.element-item.is c.loop-element.invariant
    (c.in_ok-keep_values.ensures ∙ ap (λ vs. lower c.loop-element.least (least_fault (flat_map value_faults vs))) c.as_slice.ensures)
