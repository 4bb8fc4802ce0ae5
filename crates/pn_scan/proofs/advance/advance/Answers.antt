use Rattle.std.proofs.Common.{sym, ap, subst, ◌∙◌}
use Rattle.pn_scan.specs.NextState.{next_state}
use Rattle.pn_scan.specs.Nestings.{nesting_of}
use Rattle.pn_scan.specs.Contexts.{state_of, Admits}
use Rattle.pn_scan.proofs.advance.advance.Goals as goal

pub returns-in-Due-clause-fits : goal.returns-in-Due-clause-fits
returns-in-Due-clause-fits c = let p = nesting_of c.args.tree.now in let fits = subst (Admits p) c.in-Due.is c.requires.fits in c.due.ensures.fits p fits.1

pub returns-in-EndName-clause-state : goal.returns-in-EndName-clause-state
returns-in-EndName-clause-state c =
    let p = nesting_of c.args.tree.now in
    let k = c.args.kept.now in
    c.end_name.ensures.state k ∙ sym (ap (λ m. next_state (state_of p k m) c.args.at c.args.byte) c.in-EndName.is)
