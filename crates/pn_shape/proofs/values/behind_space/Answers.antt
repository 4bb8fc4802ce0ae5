use Rattle.pn_shape.proofs.NumberLemmas.{behind_is}
use Rattle.pn_shape.proofs.values.behind_space.Goals as goal

pub returns : goal.returns
returns c = behind_is c.args.bytes.now c.spaces.result c.spaces.ensures.value
