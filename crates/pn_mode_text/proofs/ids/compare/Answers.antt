use Rattle.std.proofs.Common.{arith, map, suc, ◌+◌, ◌≡◌, sym, ◌∙◌, subst}
use Rattle.pn_lines.specs.Escapes.{escaped}
use Rattle.pn_words.proofs.MarkLemmas.{listed_found, listed_next}
use Rattle.pn_words.specs.Languages.{Broken, Closed, Listed}
use Rattle.pn_mode_text.proofs.IdLemmas.{apart_ids, constant_there, constants_once, constants_read, text_there}
use Rattle.pn_mode_text.specs.Readings.{ids_at}
use Rattle.pn_mode_text.proofs.ids.compare.Goals as goal

pub constant_id-id-requires : goal.constant_id-id-requires
constant_id-id-requires c = constant_there c.args.decls.now c.args.place c.loop-index.index c.in-Ok.width c.in-Ok.ensures c.loop-index-test.true

pub returns-in-Ok-closed_escaped : goal.returns-in-Ok-closed_escaped
returns-in-Ok-closed_escaped c =
    let a = c.args in
    let l = c.loop-index in
    let items = a.decls.now in
    let ids = ids_at items a.place in
    (constants_read items a.place c.in-Ok.width a.marks.now a.bytes.now c.in-Ok.ensures).found (l.index, c.in-Ok-closed_escaped.mark) c.in-Ok-closed_escaped.rest.now
    (listed_found (map escaped ids) c.in-Ok.width l.index _ a.marks.now a.bytes.now c.in-Ok-closed_escaped.mark c.in-Ok-closed_escaped.rest.now (apart_ids ids a.marks.now c.requires.stops (constants_once items a.place c.requires.distinct)) c.loop-index-test.true
    (text_there items a.place l.index _ _ c.constant_id-id.ensures c.as_bytes.ensures.value) c.in-Ok-closed_escaped.ensures)

pub loop-index-preserved : goal.loop-index-preserved
loop-index-preserved c =
    let a = c.args in
    let l = c.loop-index in
    let texts = map escaped (ids_at a.decls.now a.place) in
    let next : suc l.index ≡ l.index + 1 = omega arith in
    subst (λ n. Broken (Closed (Listed texts n) a.marks.now) a.bytes.now c.min-left.result) next
    (subst (Broken (Closed (Listed texts (suc l.index)) a.marks.now) a.bytes.now) (sym c.min-left.ensures)
    (listed_next texts l.index _ a.marks.now a.bytes.now l.left c.in-Err-closed_escaped.less (text_there a.decls.now a.place l.index _ _ c.constant_id-id.ensures c.as_bytes.ensures.value) l.invariant c.in-Err-closed_escaped.ensures))

pub returns : goal.returns
returns c =
    let a = c.args in
    let l = c.loop-index in
    let all : l.index ≡ c.in-Ok.width = omega (arith, l.auto.index-end, c.loop-index-test.false) in
    (constants_read a.decls.now a.place l.index a.marks.now a.bytes.now (all ∙ c.in-Ok.ensures)).broken l.left l.invariant
