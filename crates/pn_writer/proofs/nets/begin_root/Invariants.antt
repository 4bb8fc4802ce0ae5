use Rattle.std.proofs.Common.{◌≡◌, [], codes, take}
use Rattle.pn_spelling.specs.Writing.{made}
use Rattle.pn_spelling.specs.WriteNets.{root_attrs}
use Rattle.pn_writer.specs.Giving.{opened}
use Rattle.pn_writer.proofs.nets.begin_root.Given as goal

abbrev pub invariant-loop-prefix : goal.invariant-loop-prefix
invariant-loop-prefix l = l.into ≡ opened (made (codes "pnml") (root_attrs (take l.prefix-index l.prefixes)) []) l.fn.into
