use Rattle.std.proofs.Common.{◌+◌, ◌∙◌, arith}
use Rattle.pn_outside.proofs.TakingLemmas.{puts_failed}
use Rattle.pn_tree.specs.Places.{escape_in}
use Rattle.pn_tree.proofs.EscapeLemmas.{run_none, run_more, took_run, run_failed, took_rest}
use Rattle.pn_tree.proofs.put.put_escaped.Goals.{in-Some+in_ok-put_run, in_default}
use Rattle.pn_tree.proofs.put.put_escaped.Goals as goal

pub returns-in_err-put_run-clause-puts : goal.returns-in_err-put_run-clause-puts
returns-in_err-put_run-clause-puts g c =
    puts_failed _ _ _ _ c.from_residual.result c.from_residual.ensures.0
    (run_failed _ _ _ (escape_in c.args.place) c.as_bytes-bytes.result.now c.args.text.now c.in-Some.reference.now c.loop-at.start c.loop-at.at c.loop-at-test.true
    c.as_bytes-bytes.ensures.value c.loop-at.invariant.plain c.in-Some.ensures c.loop-at.invariant.takes c.in_err-put_run.ensures.puts.front)

pub loop-at-preserved : goal.loop-at-preserved
loop-at-preserved g c =
    let escape = escape_in c.args.place in
    let bytes = c.as_bytes-bytes.result.now in
    elim c.match-reference_in.branch [
      | in-Some+in_ok-put_run w ↦ record {
        within = omega (arith, w.start-is);
        takes = rw (w.sink-is, w.start-is) (took_run _ _ _ escape bytes w.in-Some.reference.now c.loop-at.start c.loop-at.at c.loop-at-test.true c.loop-at.invariant.plain w.in-Some.ensures c.loop-at.invariant.takes w.in_ok-put_run.ensures.puts.all);
        plain = rw w.start-is (run_none escape bytes (c.loop-at.at + 1));
        unfailed = rw w.sink-is (w.in_ok-put_run.ensures.counted ∙ c.loop-at.invariant.unfailed);
      }
      | in_default w ↦ record {
        within = omega (arith, w.start-is, c.loop-at.invariant.within);
        takes = rw (w.sink-is, w.start-is) c.loop-at.invariant.takes;
        plain = rw w.start-is (run_more escape bytes c.loop-at.start c.loop-at.at c.loop-at.invariant.within c.loop-at-test.true w.in_default.ensures c.loop-at.invariant.plain);
        unfailed = rw w.sink-is c.loop-at.invariant.unfailed;
      }
    ]

pub returns-clause-puts : goal.returns-clause-puts
returns-clause-puts g c =
    took_rest _ _ _ (escape_in c.args.place) c.as_bytes-bytes.result.now c.args.text.now c.loop-at.start c.loop-at.at c.put_all.result (omega arith)
    c.as_bytes-bytes.ensures.value c.loop-at.invariant.plain c.loop-at.invariant.takes c.put_all.ensures.puts
