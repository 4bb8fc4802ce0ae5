use Rattle.pn_spelling.specs.WriteNets.{declaration_label}
use Rattle.pn_writer.proofs.GivingLemmas.{next_fits}
use Rattle.pn_writer.proofs.nets.add_declarations.Goals as goal

pub add_declaration_label-requires : goal.add_declaration_label-requires
add_declaration_label-requires c = next_fits declaration_label c.args.labels.now _ c.loop-label.label-index c.label-item.result c.args.into.now c.loop-label.into c.requires c.loop-label.invariant c.loop-label-test.true c.label-item.is
