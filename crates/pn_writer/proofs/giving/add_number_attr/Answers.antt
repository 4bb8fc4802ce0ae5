use Rattle.std.proofs.Common.{rules, FitsSigned, w64}
use Rattle.std.proofs.lemmas.Int.{to_z-of_z}
use Rattle.pn_writer.proofs.giving.add_number_attr.Goals as goal

pub attr-requires-clause-value : goal.attr-requires-clause-value
attr-requires-clause-value c =
    let fits : FitsSigned w64 c.args.value.now = search rules in
    rw (c.format.ensures.text, to_z-of_z w64 c.args.value.now fits) c.requires.value
