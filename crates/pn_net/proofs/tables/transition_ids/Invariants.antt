use Rattle.std.proofs.Common.{◌≡◌, ℕ, List, take}
use Rattle.pn_ids.specs.Names.{named_in}
use Rattle.pn_net.specs.Typed.{transitions_from}
use Rattle.pn_net.proofs.tables.transition_ids.Given as goal

abbrev pub invariant-loop-i : goal.invariant-loop-i
invariant-loop-i l = (id : List ℕ) → named_in l.ids id ≡ named_in (transitions_from 0 (take l.i l.transitions)) id
