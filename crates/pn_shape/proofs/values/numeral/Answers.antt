use Rattle.pn_shape.proofs.NumberLemmas.{are_digits}
use Rattle.pn_shape.proofs.values.numeral.Goals as goal

pub digits-requires : goal.digits-requires
digits-requires c = are_digits c.digits_in_front-many.result c.args.bytes.now c.digits_in_front-many.ensures.value
