use Rattle.std.specs.Str.{IsUtf8}
use Rattle.std.proofs.Common.{IfSome, refl, subst}
use Rattle.pn_mode_text.specs.Unescaped.{Unescapes}
use Rattle.pn_mode_text.proofs.UnescapedLemmas.{unescapes_once}
use Rattle.pn_mode_text.proofs.escapes.unescaped.Goals as goal

pub returns-in-None-clause-none : goal.returns-in-None-clause-none
returns-in-None-clause-none c = λ none id mark rest utf8 u.
    let found = subst (λ o. IfSome o (λ x. Unescapes c.args.marks.now c.unescape.new.id.items x.0 x.1.now c.args.bytes.now)) c.in-Some.is c.in_ok-mark.ensures.found in
    c.in-None.ensures.none refl
    (subst IsUtf8 (unescapes_once c.args.marks.now id c.unescape.new.id.items c.args.bytes.now rest c.in-Some.rest.now mark c.in-Some.mark c.requires.stops u found) utf8)
