use Rattle.std.proofs.Common.{◌≡◌, Some, codes, sym, subst, ◌∙◌}
use Rattle.pn_scan.specs.State.{due, behind_piece}
use Rattle.pn_scan.specs.NextState.{next_in_target}
use Rattle.pn_scan.proofs.NextStateLemmas.{target_question}
use Rattle.pn_scan.proofs.misc.behind_target.Goals as goal

pub returns-then-byte-eq63-clause-state : goal.returns-then-byte-eq63-clause-state
returns-then-byte-eq63-clause-state c p k some is =
    sym
    (subst (λ x. next_in_target c.args.first p c.args.name.now x ≡ Some (due (codes ">") (behind_piece p))) (sym c.if-byte-eq63.true)
    (target_question c.args.first p c.args.name.now some (sym c.is_xml_name.ensures ∙ c.if-is_xml_name.false)))
