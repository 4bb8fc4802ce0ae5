use Rattle.std.proofs.Common.{◌+◌}
use Rattle.pn_cycles.proofs.Rows.{start_within, next_behind}
use Rattle.pn_cycles.proofs.graph.next_start.Goals as goal

pub returns-then-node-starts-clause-behind : goal.returns-then-node-starts-clause-behind
returns-then-node-starts-clause-behind c = next_behind c.args.starts.now c.args.ends.now c.args.node c.requires.starts c.if-node-starts.true

pub returns-then-node-starts-clause-within : goal.returns-then-node-starts-clause-within
returns-then-node-starts-clause-within c = start_within c.args.starts.now c.args.ends.now (c.args.node + 1) c.requires.starts c.if-node-starts.true

pub returns-else-node-starts-clause-behind : goal.returns-else-node-starts-clause-behind
returns-else-node-starts-clause-behind c = start_within c.args.starts.now c.args.ends.now c.args.node c.requires.starts c.requires.node
