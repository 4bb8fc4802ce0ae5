use Rattle.std.proofs.Common.{map}
use Rattle.pn_words.specs.Languages.{Broken, Closed, Listed}
use Rattle.pn_words.proofs.marks.one_of.Given as goal

abbrev pub invariant-loop-place : goal.invariant-loop-place
invariant-loop-place l = Broken (Closed (Listed (map (λ t. t.now) l.texts) l.place) l.marks) l.bytes l.left
