use Rattle.pn_eval.proofs.KeepLemmas.{value_keeps}
use Rattle.pn_eval.proofs.laws.values_keep_sorts.Goals as goal

pub returns : goal.returns
returns c = λ items vars given e s o assignment has value. value_keeps items vars given assignment e s o has value
