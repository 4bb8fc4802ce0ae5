use Rattle.std.proofs.Common.{◌≡◌, Some, ap, sym, ◌∙◌, subst}
use Rattle.pn_net.specs.Labels.{said}
use Rattle.pn_net.specs.Sound.{HasSoundSort}
use Rattle.pn_checks.proofs.typing.place_sort.Goals as goal

pub resolved-requires-clause-sound : goal.resolved-requires-clause-sound
resolved-requires-clause-sound c =
    let is : said c.args.place.now.sort ≡ Some c.get.result.now.value = ap said c.in-Some.is ∙ ap (λ l. Some l.value) (sym c.get.ensures) in
    subst (HasSoundSort c.args.decls.now) is c.requires.sound
