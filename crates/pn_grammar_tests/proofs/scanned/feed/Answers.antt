use Rattle.std.proofs.Common.{◌++◌}
use Rattle.pn_grammar_tests.proofs.scanned.feed.Goals as goal

pub returns : goal.returns
returns c = (c.requires.read.0 ++ c.as_bytes.result.now, c.feed.ensures.read c.requires.read.0 c.requires.read.1)
