use Rattle.std.proofs.Common.{sym, subst}
use Rattle.pn_spelling.specs.Writable.{IsWritable}
use Rattle.pn_writer_tests.proofs.SampleLemmas.{sample_is_writable}
use Rattle.pn_writer_tests.proofs.nets.nets_are_written.Goals as goal

pub tree_of-requires : goal.tree_of-requires
tree_of-requires g c = subst IsWritable (sym c.in_ok-net.ensures) sample_is_writable
