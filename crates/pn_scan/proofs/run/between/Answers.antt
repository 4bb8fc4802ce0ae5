use Rattle.std.proofs.Common.{sym, ◌∙◌}
use Rattle.pn_scan.specs.Nestings.{nesting_of}
use Rattle.pn_scan.proofs.NextStateLemmas.{before_is, behind_is}
use Rattle.pn_scan.proofs.run.between.Goals as goal

pub returns-in-Before-clause-state : goal.returns-in-Before-clause-state
returns-in-Before-clause-state c =
    let p = nesting_of c.args.tree.now in
    c.outside.ensures.state p c.args.kept.now c.in-Before.ensures ∙ sym (before_is p c.args.at c.args.byte c.in-Before.ensures)

pub returns-in-Behind-clause-state : goal.returns-in-Behind-clause-state
returns-in-Behind-clause-state c =
    let p = nesting_of c.args.tree.now in
    c.behind_root.ensures.state p c.args.kept.now ∙ sym (behind_is p c.args.at c.args.byte c.in-Behind.ensures)

pub returns-in-Behind-clause-fits : goal.returns-in-Behind-clause-fits
returns-in-Behind-clause-fits c = c.behind_root.ensures.fits (nesting_of c.args.tree.now)

pub returns-in-Before-clause-fits : goal.returns-in-Before-clause-fits
returns-in-Before-clause-fits c = c.outside.ensures.fits (nesting_of c.args.tree.now)
