use Rattle.std.proofs.Common.{sym, ap, ◌∙◌}
use Rattle.pn_scan.specs.NextState.{next_state}
use Rattle.pn_scan.specs.Nestings.{nesting_of}
use Rattle.pn_scan.proofs.NextStateLemmas.{end_some, end_none}
use Rattle.pn_scan.proofs.tag.end_name.Goals as goal

pub returns-in-Some-clause-state : goal.returns-in-Some-clause-state
returns-in-Some-clause-state c k =
    let p = nesting_of c.args.tree.now in
    c.end_byte.ensures.state p k ∙ sym (end_some p c.args.read c.in-Some.due c.args.at c.args.byte (sym c.in-Some.ensures.value))

pub end_space-requires-clause-whole : goal.end_space-requires-clause-whole
end_space-requires-clause-whole c = end_none (nesting_of c.args.tree.now) c.args.read (sym c.in-None.ensures.value)

pub returns-in-None-clause-state : goal.returns-in-None-clause-state
returns-in-None-clause-state c k =
    let p = nesting_of c.args.tree.now in
    let whole = end_none p c.args.read (sym c.in-None.ensures.value) in
    c.end_space.ensures.state k ∙ sym (ap (λ s. next_state s c.args.at c.args.byte) whole)
