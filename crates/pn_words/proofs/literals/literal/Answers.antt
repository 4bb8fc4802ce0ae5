use Rattle.std.proofs.Common.{arith}
use Rattle.pn_words.proofs.LiteralLemmas.{literal_broken, literal_found}
use Rattle.pn_words.proofs.literals.literal.Goals as goal

pub returns : goal.returns
returns c = literal_found c.args.text.now c.args.bytes.now c.shared-shared.result c.shared-shared.ensures.shared (omega (arith, c.if-shared-text.false))

pub returns-then-shared-text : goal.returns-then-shared-text
returns-then-shared-text c = literal_broken c.args.text.now c.args.bytes.now c.shared-shared.result c.shared-shared.ensures.shared (omega (arith, c.if-shared-text.true))
