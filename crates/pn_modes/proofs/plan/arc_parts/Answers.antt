use Rattle.std.proofs.Common.{◌++◌, ◌∷◌, [], map, get_or, ap, sym, ◌∙◌}
use Rattle.std.proofs.lemmas.List.{map-append, take_more}
use Rattle.pn_modes.specs.Parts.{IsArcWith}
use Rattle.pn_modes.specs.declared.parts.ArcPart.{ArcPart}
use Rattle.pn_modes.proofs.PlanLemmas.{each_pushed}
use Rattle.pn_modes.proofs.plan.arc_parts.Goals as goal

pub loop-number-preserved : goal.loop-number-preserved
loop-number-preserved c =
    let number = get_or c.args.numbers.now c.loop-number.number-index 0 in
    let own : ArcPart = record { number = number; need = c.in_ok-need.need } in (
      ap (map (λ (arc : ArcPart). arc.number)) c.in_ok-push.ensures.items ∙ map-append (λ (arc : ArcPart). arc.number) c.loop-number.arcs.items (own ∷ []) ∙ ap (λ ns. ns ++ number ∷ []) c.loop-number.invariant.0 ∙ sym (take_more c.args.numbers.now c.loop-number.number-index 0 c.loop-number-test.true),
      each_pushed (IsArcWith c.args.net.now c.args.vars.now) c.loop-number.arcs.items c.push.new.self.items own c.in_ok-push.ensures.items c.loop-number.invariant.1 c.in_ok-need.ensures,
    )
