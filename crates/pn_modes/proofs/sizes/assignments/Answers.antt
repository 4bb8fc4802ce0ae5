use Rattle.std.proofs.Common.{ap, sym, ◌∙◌}
use Rattle.pn_carriers.specs.Sizes.{capped_size}
use Rattle.pn_carriers.proofs.SizeLemmas.{product_size_is}
use Rattle.pn_names.specs.Names.{widths_of}
use Rattle.pn_modes.proofs.sizes.assignments.Goals as goal

pub returns : goal.returns
returns c = c.size.ensures ∙ ap capped_size (sym (product_size_is (widths_of c.args.decls.now) c.args.sorts))
