use Rattle.pn_command.proofs.ReadingLemmas.{cut_off}
use Rattle.pn_command.proofs.input.finished.Goals as goal

pub returns-in-Err-clause-scanned : goal.returns-in-Err-clause-scanned
returns-in-Err-clause-scanned c b read within = cut_off b c.in-Err.fault c.stopped.result within (c.in-Err.ensures.ends b c.requires.no_fault read) c.stopped.ensures.says
