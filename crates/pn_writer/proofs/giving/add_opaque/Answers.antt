use Rattle.pn_writer.proofs.giving.add_opaque.Goals as goal

pub add_parts-requires : goal.add_parts-requires
add_parts-requires c = rw c.as_slice.ensures c.requires
