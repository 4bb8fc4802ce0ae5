use Rattle.std.proofs.Common.{ap, false, sym, true, ◌≡◌, ◌∙◌, option_copied}
use Rattle.pn_modes.proofs.fronts.is_there.Goals as goal

pub returns-in-Some : goal.returns-in-Some
returns-in-Some c = λ no. (c.in-Some.marking.now, ap option_copied c.in-Some.is, λ has. let bad : false ≡ true = sym no ∙ c.has_all.ensures.1 has in cc)
