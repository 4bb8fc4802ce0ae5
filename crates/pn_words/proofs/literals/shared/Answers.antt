use Rattle.std.proofs.Common.{arith}
use Rattle.pn_words.proofs.SameLemmas.{shares_all}
use Rattle.pn_words.proofs.literals.shared.Goals as goal

pub returns-else-at-bytes-clause-shared : goal.returns-else-at-bytes-clause-shared
returns-else-at-bytes-clause-shared c = shares_all c.args.word.now c.args.bytes.now c.loop-at.at c.loop-at.invariant (omega (arith, c.if-at-bytes.false))
