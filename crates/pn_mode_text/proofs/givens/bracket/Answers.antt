use Rattle.std.proofs.Common.{arith}
use Rattle.std.proofs.lemmas.Bool.Decides.{nat_tests}
use Rattle.pn_mode_text.proofs.GivenLemmas.{closed_of_given, none_broken}
use Rattle.pn_mode_text.proofs.givens.bracket.Goals as goal

pub returns-then-not-is_empty : goal.returns-then-not-is_empty
returns-then-not-is_empty c = λ typed are. closed_of_given c.args.decls.now c.args.vars.now typed c.args.bytes.now _ _ _ are (grind (arith, nat_tests, c.is_empty.ensures, c.if-not-is_empty.true)) (c.givens.ensures typed are)

pub returns-in-Err : goal.returns-in-Err
returns-in-Err c = λ typed are. none_broken c.args.decls.now c.args.vars.now typed c.args.bytes.now c.in-Err.left are (grind (arith, nat_tests, c.is_empty.ensures, c.if-not-is_empty.false)) c.in-Err.ensures
