use Rattle.std.proofs.Common.{sym, subst}
use Rattle.pn_firing.proofs.OneListLemmas.{listed_assigned, listed_lines}
use Rattle.pn_firing.specs.Lines.{HasModeLines}
use Rattle.pn_command.proofs.listing.list_modes.Goals as goal

pub new-requires : goal.new-requires
new-requires c = listed_assigned c.args.checked c.args.id.now c.in-Ok.modes.items c.in-Ok.ensures.listed

pub returns-in-Ok : goal.returns-in-Ok
returns-in-Ok c =
    let modes = c.in-Ok.modes.items in
    let lines = listed_lines c.args.checked c.args.id.now modes c.in-Ok.ensures.listed in (
      lines.0,
      subst (λ f. HasModeLines f c.new.result.modes lines.0) (sym c.new.ensures.flat) (subst (λ ms. HasModeLines c.args.checked ms lines.0) (sym c.new.ensures.modes) lines.1),
      record { modes = modes; are_listed = c.in-Ok.ensures.listed; has_lines = lines.1 },
    )

pub returns-in-Err : goal.returns-in-Err
returns-in-Err c = c.unlisted_due.ensures c.args.checked c.in-Err.ensures.unlisted
