use Rattle.std.proofs.Common.{◌≡◌, ◌++◌, ◌+◌, reverse, vec_len}
use Rattle.pn_net.specs.declared.token.Token.{Token}
use Rattle.pn_marking.specs.declared.flows.Side.{Side}
use Rattle.pn_marking.specs.Flows.{AreInOrder, amount, capped}
use Rattle.pn_marking.proofs.flows.merge.Given as goal

-- what is left of the lists, and behind it what is merged so far, from the greatest token down
abbrev pub invariant-loop-flow : goal.invariant-loop-flow
invariant-loop-flow l = record {
  left : AreInOrder (l.left.items ++ reverse l.all.items);
  right : AreInOrder (l.right.items ++ reverse l.all.items);
  counts : (side : Side) (k : Token) → capped (amount side l.initial.left.items k + amount side l.initial.right.items k) ≡ capped (amount side l.left.items k + amount side l.right.items k + amount side (reverse l.all.items) k);
}

abbrev pub decreases-loop-flow : goal.decreases-loop-flow
decreases-loop-flow l = vec_len l.left + vec_len l.right
