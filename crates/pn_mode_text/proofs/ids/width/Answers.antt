use Rattle.std.proofs.Common.{◌∙◌, sym}
use Rattle.pn_names.specs.Names.{widths_of}
use Rattle.pn_mode_text.proofs.IdLemmas.{size_told}
use Rattle.pn_mode_text.proofs.ids.width.Goals as goal

pub returns-in-Finite : goal.returns-in-Finite
returns-in-Finite c = size_told (widths_of c.args.decls.now) c.args.place c.in-Finite.width (sym c.in-Finite.is ∙ c.size.ensures) c.if-width.false
