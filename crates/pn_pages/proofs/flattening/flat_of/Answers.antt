use Rattle.std.proofs.Common.{sym, subst}
use Rattle.pn_pages.specs.Wiring.{AreOfNet}
use Rattle.pn_pages.proofs.JudgingLemmas.{err_again}
use Rattle.pn_pages.proofs.flattening.flat_of.Goals as goal

pub returns-clause-fault : goal.returns-clause-fault
returns-clause-fault c f is n of =
    c.in-Err.ensures.fault f (err_again is) n (subst (λ id. AreOfNet n id c.args.outer.at c.args.objects) (sym c.as_str.ensures) of)
