use Rattle.std.proofs.Common.{Some, ap, ◌∙◌, sym}
use Rattle.std.specs.List.{slice_get}
use Rattle.pn_carriers.specs.Carriers.{constants}
use Rattle.pn_carriers.proofs.CarrierLemmas.{constant_place}
use Rattle.pn_carriers.proofs.ValueLemmas.{constant_is, same_constant}
use Rattle.pn_carriers.proofs.ordinals.constant_place.Goals as goal

pub returns-in-Const : goal.returns-in-Const
returns-in-Const c = λ width h.
    let s = constant_is width c.args.value.now h in
    let same = same_constant s.0 c.in-Const.constant (sym s.2 ∙ c.in-Const.is) in
    ap (slice_get (constants width)) (c.from.ensures ∙ sym same) ∙ constant_place width s.0 s.1 ∙ ap Some (sym s.2)
