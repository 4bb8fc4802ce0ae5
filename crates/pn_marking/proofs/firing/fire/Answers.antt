use Rattle.std.proofs.Common.{IfOk, subst}
use Rattle.pn_bag.specs.Counts.{Every}
use Rattle.pn_marking.specs.Flows.{AreLeft, IsEnough, IsLargeIn, IsShortIn}
use Rattle.pn_marking.proofs.FireLemmas.{large_is, settled, settled_tokens, short_is}
use Rattle.pn_marking.proofs.firing.fire.Goals as goal

pub returns-in-Ok-clause-step : goal.returns-in-Ok-clause-step
returns-in-Ok-clause-step c =
    let enough = subst (λ fs. IfOk c.settle.result (λ _. Every IsEnough fs)) c.deref.ensures.value c.settle.ensures.enough in
    let left = subst (λ fs. IfOk c.settle.result (AreLeft fs)) c.deref.ensures.value c.settle.ensures.left in
    settled c.args.net.now c.args.marking.now c.args.modes.now c.in-Ok.flows.items c.settle.result c.requires c.in-Ok.ensures enough left c.settle.ensures.bag

pub returns-in-Ok-clause-short : goal.returns-in-Ok-clause-short
returns-in-Ok-clause-short c = λ token need has is.
    short_is c.args.net.now c.args.marking.now c.args.modes.now c.in-Ok.flows.items token need has c.in-Ok.ensures
    (subst (λ fs. IsShortIn fs token need has) c.deref.ensures.value (c.settle.ensures.short token need has is))

pub returns-in-Ok-clause-large : goal.returns-in-Ok-clause-large
returns-in-Ok-clause-large c = λ token is.
    let says = c.settle.ensures.large token is in
    large_is c.args.net.now c.args.marking.now c.args.modes.now c.in-Ok.flows.items token c.requires c.in-Ok.ensures
    (subst (Every IsEnough) c.deref.ensures.value says.0) (subst (λ fs. IsLargeIn fs token) c.deref.ensures.value says.1)

pub returns-in-Ok-clause-tokens : goal.returns-in-Ok-clause-tokens
returns-in-Ok-clause-tokens c = λ tokens.
    let enough = subst (λ fs. IfOk c.settle.result (λ _. Every IsEnough fs)) c.deref.ensures.value c.settle.ensures.enough in
    let left = subst (λ fs. IfOk c.settle.result (AreLeft fs)) c.deref.ensures.value c.settle.ensures.left in
    settled_tokens c.args.net.now c.args.marking.now c.args.modes.now c.in-Ok.flows.items c.settle.result c.requires c.in-Ok.ensures enough left c.settle.ensures.bag tokens
