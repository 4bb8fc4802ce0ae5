use Rattle.std.proofs.Common.{sym, ◌∙◌}
use Rattle.pn_scan.specs.Contexts.{stage_of}
use Rattle.pn_scan.proofs.NextStateLemmas.{declaration_part}
use Rattle.pn_scan.proofs.declaration.declaration.Goals as goal

pub returns-then-spaced-clause-state : goal.returns-then-spaced-clause-state
returns-then-spaced-clause-state c p k w =
    c.begin_part.ensures.state p k
    ∙ sym
    (declaration_part (stage_of c.args.stage) c.args.spaced c.args.byte (sym c.is_space_byte.ensures ∙ c.if-is_space_byte.false) (sym c.closes.ensures ∙ c.if-closes.false)
    c.if-spaced.true)
