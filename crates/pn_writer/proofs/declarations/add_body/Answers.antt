use Rattle.std.proofs.Common.{subst}
use Rattle.pn_spelling.specs.WriteDeclarations.{body_element}
use Rattle.pn_writer.specs.Giving.{MayTakeElement}
use Rattle.pn_writer.proofs.declarations.add_body.Goals as goal

pub add_enumeration-requires : goal.add_enumeration-requires
add_enumeration-requires c = rw c.as_slice.ensures (subst (λ b. MayTakeElement (body_element b) c.args.into.now) c.in-Finite.is c.requires)

pub add_enumeration-requires-in-Cyclic : goal.add_enumeration-requires-in-Cyclic
add_enumeration-requires-in-Cyclic c = rw c.as_slice-in-Cyclic.ensures (subst (λ b. MayTakeElement (body_element b) c.args.into.now) c.in-Cyclic.is c.requires)
