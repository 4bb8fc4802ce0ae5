use Rattle.pn_resolve.specs.Listing.{value_faults}
use Rattle.pn_resolve.proofs.KeepLemmas.{kept_item}
use Rattle.pn_resolve.proofs.faults.keep_values.Goals as goal

pub loop-value-preserved : goal.loop-value-preserved
loop-value-preserved c = kept_item value_faults c.args.values.now c.loop-value.value-index c.value-item.result c.args.least.now c.loop-value.least c.keep_value.new.least c.loop-value-test.true c.value-item.is c.loop-value.invariant c.in_ok-keep_value.ensures
