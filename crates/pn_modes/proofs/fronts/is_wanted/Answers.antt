use Rattle.std.proofs.Common.{ap, false, sym, true, ◌≡◌, ◌∙◌, option_copied, subst}
use Rattle.pn_modes.specs.Parts.{IsWanted}
use Rattle.pn_modes.proofs.CutLemmas.{one_pre}
use Rattle.pn_modes.proofs.fronts.is_wanted.Goals as goal

pub returns-in_ok-pre-in-Some-clause-no : goal.returns-in_ok-pre-in-Some-clause-no
returns-in_ok-pre-in-Some-clause-no c =
    λ no wanted.
    let there = subst (λ o. IsWanted c.args.net.now o c.args.mode.now) (ap option_copied c.in-Some.is) wanted in
    let has = one_pre c.args.net.now c.decls-decls.ensures.faultless c.args.mode.now c.in-Some.marking.now there.1.0 c.in_ok-pre-in-Some.field-0 there.1.1 c.in_ok-pre-in-Some.ensures there.1.2 in
    let bad : false ≡ true = sym no ∙ c.has_all-in-Some.ensures.1 has in
    cc
