use Rattle.std.proofs.Common.{◌+◌, sym, ◌∙◌, arith}
use Rattle.pn_outside.proofs.TakingLemmas.{puts_failed}
use Rattle.pn_tree.proofs.EscapeLemmas.{run_none, run_more, took_run, run_failed, took_rest}
use Rattle.pn_lines.specs.Escapes.{escape}
use Rattle.pn_lines.proofs.ByteLemmas.{other_escapes, plain_stays}
use Rattle.pn_lines.proofs.escape.put_escaped.Goals.{then-not-is_plain+in_ok-put_run, else-not-is_plain}
use Rattle.pn_lines.proofs.escape.put_escaped.Goals as goal

pub returns-in_err-put_run-clause-puts : goal.returns-in_err-put_run-clause-puts
returns-in_err-put_run-clause-puts g c =
    puts_failed _ _ _ _ c.from_residual.result c.from_residual.ensures.0
    (run_failed _ _ _ escape c.as_bytes-bytes.result.now c.args.text.now _ c.loop-at.start c.loop-at.at c.loop-at-test.true
    c.as_bytes-bytes.ensures.value c.loop-at.invariant.plain (other_escapes _ (sym c.is_plain.ensures ∙ c.if-not-is_plain.true))
    c.loop-at.invariant.takes c.in_err-put_run.ensures.puts.front)

pub loop-at-preserved : goal.loop-at-preserved
loop-at-preserved g c =
    let bytes = c.as_bytes-bytes.result.now in
    elim c.if-not-is_plain.branch [
      | then-not-is_plain+in_ok-put_run w ↦ record {
        within = omega (arith, w.start-is);
        takes = rw (w.sink-is, w.start-is)
            (took_run _ _ _ escape bytes _ c.loop-at.start c.loop-at.at c.loop-at-test.true c.loop-at.invariant.plain
            (other_escapes _ (sym c.is_plain.ensures ∙ w.if-not-is_plain.true)) c.loop-at.invariant.takes w.in_ok-put_run.ensures.puts.all);
        plain = rw w.start-is (run_none escape bytes (c.loop-at.at + 1));
        unfailed = rw w.sink-is (w.in_ok-put_run.ensures.counted ∙ c.loop-at.invariant.unfailed);
      }
      | else-not-is_plain w ↦ record {
        within = omega (arith, w.start-is, c.loop-at.invariant.within);
        takes = rw (w.sink-is, w.start-is) c.loop-at.invariant.takes;
        plain = rw w.start-is
            (run_more escape bytes c.loop-at.start c.loop-at.at c.loop-at.invariant.within c.loop-at-test.true
            (plain_stays _ (sym c.is_plain.ensures ∙ w.if-not-is_plain.false)) c.loop-at.invariant.plain);
        unfailed = rw w.sink-is c.loop-at.invariant.unfailed;
      }
    ]

pub returns-clause-puts : goal.returns-clause-puts
returns-clause-puts g c =
    took_rest _ _ _ escape c.as_bytes-bytes.result.now c.args.text.now c.loop-at.start c.loop-at.at c.put_all.result (omega arith)
    c.as_bytes-bytes.ensures.value c.loop-at.invariant.plain c.loop-at.invariant.takes c.put_all.ensures.puts
