use Rattle.pn_marked.specs.Gathering.{AreMadeFor, HasNumberOn}
use Rattle.pn_marked.proofs.marked.plain_places.Given as goal

abbrev pub invariant-loop-i : goal.invariant-loop-i
invariant-loop-i l = AreMadeFor (HasNumberOn l.marking) l.places l.all l.i
