use Rattle.std.proofs.Common.{[], subst, sym}
use Rattle.pn_outside.proofs.TakingLemmas.{took_nothing, front_nothing, puts_front}
use Rattle.pn_command.specs.Answer.{Answer, Begins, Says}
use Rattle.pn_command.specs.Lines.{line_text}
use Rattle.pn_command.proofs.top.deliver.Goals as goal

pub returns-in-Line-clause-begun : goal.returns-in-Line-clause-begun
returns-in-Line-clause-begun g c a says =
    subst (λ (x : Answer). Begins g.O.Sink.taken g.O.Sink.number g.E.Sink.taken g.E.Sink.number c.args.out.now c.args.out.now c.args.err.now c.write_line.new.sink x) (sym (subst (λ d. Says d a) c.in-Line.is says)) (record {
      out = front_nothing c.args.out.now c.args.out.now [] (took_nothing c.args.out.now);
      err = puts_front c.args.err.now c.write_line.new.sink (line_text c.in-Line.line) c.write_line.result c.write_line.ensures.puts;
    })

pub returns-in-Output-clause-begun : goal.returns-in-Output-clause-begun
returns-in-Output-clause-begun g c a says =
    let said = subst (λ d. Says d a) c.in-Output.is says in
    subst (λ (x : Answer). Begins g.O.Sink.taken g.O.Sink.number g.E.Sink.taken g.E.Sink.number c.args.out.now c.write_output.new.sink c.args.err.now c.args.err.now x) (sym said.2) (record {
      out = puts_front c.args.out.now c.write_output.new.sink said.0 c.write_output.result (c.write_output.ensures.puts said.0 said.1);
      err = front_nothing c.args.err.now c.args.err.now [] (took_nothing c.args.err.now);
    })
