use Rattle.std.proofs.Common.{[], ◌∷◌, codes}
use Rattle.pn_spelling.specs.Writing.{attribute}
use Rattle.pn_shape.specs.Numbers.{address_of}
use Rattle.pn_writer.proofs.GivingLemmas.{first_attr}
use Rattle.pn_writer.proofs.nets.begin_net.Goals as goal

pub attr-requires-clause-value : goal.attr-requires-clause-value
attr-requires-clause-value c =
    let address = address_of c.args.net.now.kind in
    rw c.address_of.ensures (first_attr (codes "type") address [] (first_attr (codes "id") c.args.net.now.id (attribute (codes "type") address ∷ []) c.requires.attrs).more).value
