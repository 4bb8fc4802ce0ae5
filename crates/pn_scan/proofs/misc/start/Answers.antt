use Rattle.std.proofs.Common.{true, false, Some, sym, ◌∙◌, ◌≡◌, ◌∷◌, [], nat_eq}
use Rattle.std.proofs.lemmas.Bool.Decides.{nat_tests}
use Rattle.std.proofs.Common.{arith}
use Rattle.pn_scan.specs.State.{due, outside}
use Rattle.pn_scan.specs.NextState.{next_outside}
use Rattle.pn_scan.proofs.NextStateLemmas.{if_false}
use Rattle.pn_scan.proofs.misc.start.Goals as goal

pub returns-clause-state : goal.returns-clause-state
returns-clause-state c p k w =
    let other : nat_eq c.args.byte 239 ≡ false = grind (arith, nat_tests) in
    c.outside.ensures.state p k w ∙ sym (if_false (nat_eq c.args.byte 239) (Some (due (0xBB ∷ 0xBF ∷ []) (outside true))) (next_outside true c.args.at c.args.byte) other)

pub returns-clause-fits : goal.returns-clause-fits
returns-clause-fits c p w = c.outside.ensures.fits p
