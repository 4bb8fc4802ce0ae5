use Rattle.std.proofs.Common.{[], ◌∷◌, codes}
use Rattle.pn_spelling.specs.Writing.{attribute}
use Rattle.pn_writer.proofs.GivingLemmas.{first_attr}
use Rattle.pn_writer.proofs.giving.begin_with_two.Goals as goal

pub attr-requires-clause-name : goal.attr-requires-clause-name
attr-requires-clause-name c = (first_attr c.args.key.now c.args.value.now [] (first_attr (codes "id") c.args.id.now (attribute c.args.key.now c.args.value.now ∷ []) c.requires.attrs).more).key

pub attr-requires-clause-value : goal.attr-requires-clause-value
attr-requires-clause-value c = rw c.as_str.ensures (first_attr c.args.key.now c.args.value.now [] (first_attr (codes "id") c.args.id.now (attribute c.args.key.now c.args.value.now ∷ []) c.requires.attrs).more).value
