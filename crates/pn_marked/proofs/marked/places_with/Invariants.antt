use Rattle.pn_marked.specs.Gathering.{AreMadeFor, IsPlaceWith}
use Rattle.pn_marked.proofs.marked.places_with.Given as goal

abbrev pub invariant-loop-i : goal.invariant-loop-i
invariant-loop-i l = AreMadeFor (IsPlaceWith l.net.declarations l.terms) l.places l.all l.i
