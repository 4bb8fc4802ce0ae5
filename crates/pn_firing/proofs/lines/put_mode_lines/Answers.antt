use Rattle.std.proofs.Common.{sym, ◌∙◌, ap, arith, refl}
use Rattle.std.specs.List.{flat_map}
use Rattle.std.proofs.lemmas.Option.{slice_get_read}
use Rattle.std.proofs.lemmas.List.{take_all}
use Rattle.pn_outside.proofs.TakingLemmas.{puts_failed}
use Rattle.pn_tree.proofs.PutLemmas.{puts_as, shown_failed, shown_taken}
use Rattle.pn_firing.specs.Lines.{mode_line}
use Rattle.pn_mode_text.specs.Texts.{IsModeText}
use Rattle.pn_mode_text.proofs.VariableLemmas.{zip_as_many, zip_at}
use Rattle.pn_firing.proofs.lines.put_mode_lines.Goals as goal

pub returns-in_err-put_mode_line-clause-puts : goal.returns-in_err-put_mode_line-clause-puts
returns-in_err-put_mode_line-clause-puts g c = λ text has.
    let mode = c.index-modes-i.result in
    let is = slice_get_read c.args.modes.now _ c.loop-i.i mode refl c.loop-i-test.true c.index-modes-i.is in
    let x = zip_at (IsModeText c.args.net.now) c.args.modes.now has.texts c.loop-i.i mode has.are_texts is in
    let failed = c.in_err-put_mode_line.ensures.puts x.0 x.2 in
    puts_as _ _ _ _ c.from_residual.result (sym has.is)
    (puts_failed _ _ _ _ c.from_residual.result c.from_residual.ensures.0
    (shown_failed _ _ _ mode_line has.texts c.loop-i.i x.0 x.1 (c.loop-i.invariant.takes has.texts has.are_texts) failed.front))

pub loop-i-preserved : goal.loop-i-preserved
loop-i-preserved g c = record {
  takes = λ texts are.
      let mode = c.index-modes-i.result in
      let is = slice_get_read c.args.modes.now _ c.loop-i.i mode refl c.loop-i-test.true c.index-modes-i.is in
      let x = zip_at (IsModeText c.args.net.now) c.args.modes.now texts c.loop-i.i mode are is in
      let done = c.in_ok-put_mode_line.ensures.puts x.0 x.2 in
      shown_taken _ _ _ mode_line texts c.loop-i.i x.0 x.1 (c.loop-i.invariant.takes texts are) done.all;
  unfailed = c.in_ok-put_mode_line.ensures.counted ∙ c.loop-i.invariant.unfailed;
}

pub returns-clause-puts : goal.returns-clause-puts
returns-clause-puts g c = λ text has.
    let many = zip_as_many (IsModeText c.args.net.now) c.args.modes.now has.texts has.are_texts in
    puts_as _ _ _ _ _ (ap (flat_map mode_line) (take_all c.loop-i.i has.texts (omega (arith, many, c.loop-i-test.false))) ∙ sym has.is)
    (record { all = c.loop-i.invariant.takes has.texts has.are_texts; front = tt })
