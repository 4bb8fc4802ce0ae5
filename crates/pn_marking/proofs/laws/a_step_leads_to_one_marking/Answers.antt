use Rattle.pn_marking.proofs.StepLemmas.{large_excludes, one_large, one_short, one_step, short_excludes}
use Rattle.pn_marking.proofs.laws.a_step_leads_to_one_marking.Goals as goal

pub returns-clause-one : goal.returns-clause-one
returns-clause-one c = λ f m x a b faultless bag_a bag_b.
    one_step f m x (λ mode p q. c.a_mode_takes_one_marking.ensures.takes f mode p q faultless) (λ mode p q. c.a_mode_takes_one_marking.ensures.puts f mode p q faultless) a b bag_a bag_b

pub returns-clause-short : goal.returns-clause-short
returns-clause-short c = λ f m x token need has faultless. short_excludes f m x token need has (λ mode p q. c.a_mode_takes_one_marking.ensures.takes f mode p q faultless)

pub returns-clause-large : goal.returns-clause-large
returns-clause-large c = λ f m x token new faultless bag.
    large_excludes f m x (λ mode p q. c.a_mode_takes_one_marking.ensures.takes f mode p q faultless) (λ mode p q. c.a_mode_takes_one_marking.ensures.puts f mode p q faultless) token new bag

pub returns-clause-one_short : goal.returns-clause-one_short
returns-clause-one_short c = λ f m x token other need more has had faultless.
    one_short f m x token other need more has had (λ mode p q. c.a_mode_takes_one_marking.ensures.takes f mode p q faultless)

pub returns-clause-one_large : goal.returns-clause-one_large
returns-clause-one_large c = λ f m x token other faultless.
    one_large f m x (λ mode p q. c.a_mode_takes_one_marking.ensures.takes f mode p q faultless) (λ mode p q. c.a_mode_takes_one_marking.ensures.puts f mode p q faultless) token other
