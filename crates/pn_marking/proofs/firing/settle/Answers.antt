use Rattle.std.proofs.Common.{◌≡◌, rules}
use Rattle.pn_bag.specs.Counts.{Every}
use Rattle.pn_marking.specs.Flows.{IsEnough}
use Rattle.pn_marking.specs.declared.firing.FireFault.TheVariants as faults
use Rattle.pn_marking.proofs.firing.settle.Goals as goal

pub returns-in-Some-clause-short : goal.returns-in-Some-clause-short
returns-in-Some-clause-short c = λ token need has is.
    let same : c.not_enabled.result ≡ faults.NotEnabled token need has = cc in
    let says = c.not_enabled.ensures.short token need has same in
    (c.in-Some.flow.now, c.in-Some.ensures.some, c.in-Some.ensures.short, says.0, says.1, says.2)

pub returns-in-Some-first_large-clause-large : goal.returns-in-Some-first_large-clause-large
returns-in-Some-first_large-clause-large c = λ token is.
    let same : c.too_large.result ≡ faults.CountTooLarge token = cc in
    let enough : Every IsEnough c.args.flows.now = search rules in
    (enough, (c.in-Some-first_large.flow.now, c.in-Some-first_large.ensures.some, c.in-Some-first_large.ensures.large, c.too_large.ensures.large token same))
