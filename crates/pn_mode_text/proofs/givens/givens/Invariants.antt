use Rattle.std.proofs.Common.{List}
use Rattle.std.specs.List.{AllZip}
use Rattle.pn_mode_text.specs.Texts.{IsTypedVariable, TypedVariable}
use Rattle.pn_mode_text.proofs.GivenLemmas.{AreReadUpTo}
use Rattle.pn_mode_text.proofs.givens.givens.Given as goal

abbrev pub invariant-loop-i : goal.invariant-loop-i
invariant-loop-i l = (typed : List TypedVariable) → AllZip (IsTypedVariable l.decls) l.vars typed → AreReadUpTo l.decls typed l.bytes l.i l.values l.rest
