use Rattle.std.proofs.Common.{[], ◌∷◌, IfSome, ap, ◌∙◌, sym, subst}
use Rattle.pn_net.specs.Typed.{transition_named}
use Rattle.pn_mode_text.specs.Unescaped.{Unescapes}
use Rattle.pn_mode_text.proofs.TransitionLemmas.{looked_up}
use Rattle.pn_mode_text.proofs.transitions.look_up.Goals as goal

pub returns-in-Some-find_transition : goal.returns-in-Some-find_transition
returns-in-Some-find_transition c =
    let f = c.args.net.now in
    let read = c.in-Some.read in
    let front = subst (λ o. IfSome o (λ x. Unescapes (91 ∷ []) x.0.0 x.0.1 x.1.now c.args.bytes.now)) c.in-Some.is c.in_ok-read.ensures.found in
    looked_up f c.args.bytes.now read.0.0 read.0.1 c.in-Some-find_transition.number read.1.now c.requires front
    (ap (transition_named f) (sym c.as_str.ensures) ∙ sym c.in-Some-find_transition.ensures.found)
