use Rattle.std.proofs.Common.{map, string_bytes, refl, sym, subst, ap, ◌∙◌}
use Rattle.std.proofs.lemmas.Option.{slice_get-map, slice_get_read}
use Rattle.std.specs.Option.{option_map}
use Rattle.pn_tree.proofs.CopyLemmas.{take_next}
use Rattle.pn_stepping.specs.Stepping.{AreTold}
use Rattle.pn_stepping.specs.Telling.{entries_of}
use Rattle.pn_stepping.proofs.StepLemmas.{told_next, untold_there}
use Rattle.pn_stepping.proofs.stepping.tell_all.Goals as goal

pub returns-in-Err-clause-untold : goal.returns-in-Err-clause-untold
returns-in-Err-clause-untold c =
    let words = map string_bytes c.args.words.now in
    let word = c.index-words-i.result in
    let at = slice_get-map string_bytes c.args.words.now c.loop-i.i ∙ ap (option_map string_bytes) (slice_get_read c.args.words.now _ c.loop-i.i word refl c.loop-i-test.true c.index-words-i.is) in
    untold_there c.args.net.now words (string_bytes word) c.loop-i.i c.in-Err.fault _ at c.loop-i.invariant c.in-Err.ensures.untold

pub loop-i-preserved : goal.loop-i-preserved
loop-i-preserved c =
    let words = map string_bytes c.args.words.now in
    let word = c.index-words-i.result in
    let at = slice_get-map string_bytes c.args.words.now c.loop-i.i ∙ ap (option_map string_bytes) (slice_get_read c.args.words.now _ c.loop-i.i word refl c.loop-i-test.true c.index-words-i.is) in
    subst (λ ws. AreTold c.args.net.now ws (entries_of c.tell_next.new.entries.items)) (sym (take_next words c.loop-i.i (string_bytes word) at))
    (told_next c.args.net.now _ (string_bytes word) c.loop-i.entries.items c.tell_next.new.entries.items c.loop-i.invariant c.in-Ok.ensures.told)
