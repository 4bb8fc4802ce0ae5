use Rattle.std.proofs.Common.{[], ◌∷◌, ◌++◌, map, take, None, Some, sym, ap, ◌∙◌, add-one}
use Rattle.std.proofs.lemmas.List.{map-append}
use Rattle.std.proofs.Math.Seq.{take-suc}
use Rattle.pn_partitions.proofs.table.all_entries.Goals as goal

pub returns-in_default : goal.returns-in_default
returns-in_default c = (c.loop-entry.entry-index, c.loop-entry-test.true, c.in_default.is)

pub loop-entry-preserved : goal.loop-entry-preserved
loop-entry-preserved c =
    ap (map Some) c.in_ok-push.ensures.items ∙ map-append Some c.loop-entry.entries.items (c.in-Some.number ∷ [])
    ∙ ap (λ l. l ++ Some c.in-Some.number ∷ []) c.loop-entry.invariant
    ∙ ap (λ x. take c.loop-entry.entry-index c.args.table.now ++ x ∷ []) (sym c.in-Some.is)
    ∙ sym (rw add-one (take-suc c.args.table.now c.loop-entry.entry-index None c.loop-entry-test.true))
