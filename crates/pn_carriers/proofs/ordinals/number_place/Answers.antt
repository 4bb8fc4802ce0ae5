use Rattle.std.proofs.Common.{rules, Some, ◌-ℤ◌, nat_abs, FitsSigned, w64, to_z, of_z, ap, ◌∙◌, sym}
use Rattle.std.specs.List.{slice_get}
use Rattle.std.proofs.lemmas.Int.{to_z-of_z}
use Rattle.pn_carriers.specs.Carriers.{numbers_between}
use Rattle.pn_carriers.proofs.CarrierLemmas.{number_placed}
use Rattle.pn_carriers.proofs.ValueLemmas.{number_is, same_number}
use Rattle.pn_carriers.proofs.ordinals.number_place.Goals as goal

pub returns-in-Int : goal.returns-in-Int
returns-in-Int c = λ end h.
    let s = number_is c.args.start end c.args.value.now h in
    let fits : FitsSigned w64 c.in-Int.number = search rules in
    let same = same_number s.0 c.in-Int.number (sym s.2 ∙ c.in-Int.is) in
    let far = c.abs_diff.ensures ∙ ap (λ z. nat_abs (z -ℤ to_z w64 (of_z w64 c.args.start))) (to_z-of_z w64 c.in-Int.number fits) ∙ ap (λ z. nat_abs (c.in-Int.number -ℤ z)) (to_z-of_z w64 c.args.start c.ranges.start)
    ∙ ap (λ z. nat_abs (z -ℤ c.args.start)) (sym same) in
    ap (slice_get (numbers_between c.args.start end)) far ∙ number_placed c.args.start end s.0 s.1 ∙ ap Some (sym s.2)
