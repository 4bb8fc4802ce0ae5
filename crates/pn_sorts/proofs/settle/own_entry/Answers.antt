use Rattle.std.proofs.Common.{Err, ap, inl, inr, ◌∙◌}
use Rattle.pn_sorts.proofs.settle.own_entry.Goals as goal

pub returns-in-Ok : goal.returns-in-Ok
returns-in-Ok c items table = (c.resolve.ensures.ok c.in-Ok.sort c.in-Ok.is items table).0

pub returns-in-Err-Fault : goal.returns-in-Err-Fault
returns-in-Err-Fault c items table =
    let least = c.resolve.ensures.fault c.in-Err-Fault.field-0-0 (c.in-Err-Fault.is ∙ ap Err c.in-Err-Fault.field-0-is) items table in
    (c.in-Err-Fault.field-0-0, inl least.0)

pub returns : goal.returns
returns c items table =
    let elsewhere = c.resolve.ensures.elsewhere (c.in-Err-Elsewhere.is ∙ ap Err c.in-Err-Elsewhere.field-0-is) items table in
    (elsewhere.2.0, inr elsewhere.2.1)
