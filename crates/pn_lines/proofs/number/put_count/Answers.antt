use Rattle.std.proofs.Common.{ℕ, List, subst}
use Rattle.pn_outside.specs.Taking.{Puts}
use Rattle.pn_outside.proofs.TakingLemmas.{puts_then}
use Rattle.pn_lines.proofs.number.put_count.Goals as goal

pub returns-clause-puts : goal.returns-clause-puts
returns-clause-puts g c =
    puts_then _ _ _ c.args.label.now (g.N.Integer.text c.args.number) c.put_text-2.result c.in_ok-put_text.ensures.puts.all
    (subst (λ (v : List ℕ). Puts g.K.Sink.taken g.K.Sink.number c.put_text-2.result c.put_text.new.sink c.put_text-2.new.sink v) c.format.ensures.text c.put_text-2.ensures.puts)
