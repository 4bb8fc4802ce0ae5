use Rattle.pn_eval.proofs.OnceLemmas.{value_once}
use Rattle.pn_eval.proofs.laws.a_term_has_one_value.Goals as goal

pub returns : goal.returns
returns c = λ items vars given e o p faultless one other. value_once items vars given faultless e o p one other
