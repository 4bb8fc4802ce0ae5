use Rattle.std.proofs.Common.{codes, ap}
use Rattle.pn_tree.proofs.PutLemmas.{puts_as}
use Rattle.pn_command.specs.Lines.{named_line}
use Rattle.pn_command.proofs.lines.put_refusal.Goals as goal

pub returns-in-UnknownTransition-clause-puts : goal.returns-in-UnknownTransition-clause-puts
returns-in-UnknownTransition-clause-puts g c =
    rw c.in-UnknownTransition.is (puts_as _ _ _ _ c.put_named.result (ap (named_line (codes "pnml: unknown transition: ")) c.as_str.ensures) c.put_named.ensures.puts)
