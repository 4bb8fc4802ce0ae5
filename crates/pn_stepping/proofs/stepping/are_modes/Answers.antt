use Rattle.std.proofs.Common.{◌≡◌, false, true, refl, sym, subst, ◌∙◌}
use Rattle.std.proofs.lemmas.Option.{slice_get_read}
use Rattle.pn_marking.specs.Modes.{IsMode}
use Rattle.pn_marking.specs.Steps.{AreModes}
use Rattle.pn_mode_text.specs.declared.words.Counted.{Counted}
use Rattle.pn_tree.proofs.CopyLemmas.{take_next}
use Rattle.pn_stepping.specs.Telling.{entries_of, entry_of}
use Rattle.pn_stepping.proofs.StepLemmas.{entry_at, modes_next}
use Rattle.pn_stepping.proofs.stepping.are_modes.Goals as goal

pub returns-in-Ok-false-clause-unfit : goal.returns-in-Ok-false-clause-unfit
returns-in-Ok-false-clause-unfit c =
    let e = c.index-entries-i.result in
    record {
      entry = entry_of e;
      at = entry_at c.args.entries.now c.loop-i.i e (slice_get_read c.args.entries.now _ c.loop-i.i e refl c.loop-i-test.true c.index-entries-i.is);
      none = λ mode. let clash : false ≡ true = sym c.in-Ok-false.field-0-test ∙ c.in-Ok-false.ensures.1 (subst (λ (x : Counted). IsMode c.args.net.now x.mode) c.index-entries-i.is mode) in cc;
      before = c.loop-i.invariant;
    }

pub loop-i-preserved : goal.loop-i-preserved
loop-i-preserved c =
    let e = c.index-entries-i.result in
    let at = entry_at c.args.entries.now c.loop-i.i e (slice_get_read c.args.entries.now _ c.loop-i.i e refl c.loop-i-test.true c.index-entries-i.is) in
    subst (AreModes c.args.net.now) (sym (take_next (entries_of c.args.entries.now) c.loop-i.i (entry_of e) at))
    (modes_next c.args.net.now _ (entry_of e) c.loop-i.invariant (subst (λ (x : Counted). IsMode c.args.net.now x.mode) (sym c.index-entries-i.is) (c.in-Ok-true.ensures.0 c.in-Ok-true.field-0-test)))
