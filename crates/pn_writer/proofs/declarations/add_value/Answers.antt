use Rattle.std.proofs.Common.{subst}
use Rattle.pn_spelling.specs.WriteDeclarations.{value_element}
use Rattle.pn_writer.specs.Giving.{MayTakeElement}
use Rattle.pn_writer.proofs.declarations.add_value.Goals as goal

pub add_attributed-requires : goal.add_attributed-requires
add_attributed-requires c = rw c.as_str.ensures (subst (λ v. MayTakeElement (value_element v) c.args.into.now) c.in-Named.is c.requires)
