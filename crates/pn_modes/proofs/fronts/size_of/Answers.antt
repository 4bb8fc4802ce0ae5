use Rattle.std.proofs.Common.{ap, length, refl, sym, ◌≡◌, ◌∙◌, arith}
use Rattle.pn_carriers.specs.Carriers.{carrier}
use Rattle.pn_carriers.specs.Sizes.{capped_size, size_of}
use Rattle.pn_carriers.proofs.SizeLemmas.{finite_size_is}
use Rattle.pn_names.specs.Names.{widths_of}
use Rattle.pn_values.specs.declared.sort.Size.TheVariants as sizes
use Rattle.pn_modes.proofs.fronts.size_of.Goals as goal

pub overflow_cast-result : goal.overflow_cast-result
overflow_cast-result c =
    let few = c.requires.few in
    let widths = widths_of c.args.net.now.declarations in
    let told = finite_size_is widths c.args.sort.now (length (carrier widths c.args.sort.now)) c.requires.finite refl (omega (arith, few)) in
    let asked : sizes.Finite c.in-Finite.size ≡ capped_size (size_of widths c.args.sort.now) = sym c.in-Finite.is ∙ c.size.ensures ∙ ap (λ ds. capped_size (size_of (widths_of ds) c.args.sort.now)) c.decls.ensures.declared in
    let both : sizes.Finite c.in-Finite.size ≡ sizes.Finite (length (carrier widths c.args.sort.now)) = asked ∙ sym told in
    let is : c.in-Finite.size ≡ length (carrier widths c.args.sort.now) = cc in
    omega (arith, is, few)
