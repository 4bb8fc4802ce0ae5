use Rattle.std.proofs.Common.{arith, ap, ◌∙◌, ◌<◌, length, sym}
use Rattle.pn_mode_text.proofs.TransitionLemmas.{transition_found, transition_next, transitions_broken}
use Rattle.pn_mode_text.proofs.transitions.compare.Goals as goal

pub returns-in-Ok-closed_escaped : goal.returns-in-Ok-closed_escaped
returns-in-Ok-closed_escaped c =
    let same = c.as_slice-all.ensures ∙ ap (λ f. f.transitions) c.flat.ensures.flat in
    let within : c.loop-place.place < length c.as_slice-all.result.now = omega (arith, c.loop-place-test.true, c.in-Ok.ensures, ap length same) in
    transition_found c.args.net.now c.as_slice-all.result.now c.loop-place.place c.index-all-place.result c.as_str-id.result.now c.as_bytes.result.now c.args.bytes.now c.in-Ok-closed_escaped.field-0-0 c.in-Ok-closed_escaped.rest.now
    c.requires same within c.index-all-place.is (c.as_str-id.ensures ∙ ap (λ t. t.id) (sym c.index-all-place.is)) c.as_bytes.ensures.value c.in-Ok-closed_escaped.ensures

pub loop-place-preserved : goal.loop-place-preserved
loop-place-preserved c =
    let same = c.as_slice-all.ensures ∙ ap (λ f. f.transitions) c.flat.ensures.flat in
    let within : c.loop-place.place < length c.as_slice-all.result.now = omega (arith, c.loop-place-test.true, c.in-Ok.ensures, ap length same) in
    transition_next c.args.net.now c.as_slice-all.result.now c.loop-place.place c.index-all-place.result c.as_str-id.result.now c.as_bytes.result.now c.args.bytes.now c.loop-place.left c.in-Err-closed_escaped.less c.min-left.result
    same within c.index-all-place.is (c.as_str-id.ensures ∙ ap (λ t. t.id) (sym c.index-all-place.is)) c.as_bytes.ensures.value c.min-left.ensures c.loop-place.invariant c.in-Err-closed_escaped.ensures

pub returns : goal.returns
returns c = transitions_broken c.args.net.now c.loop-place.place c.in-Ok.number c.args.bytes.now c.loop-place.left c.in-Ok.ensures c.loop-place.auto.place-end c.loop-place-test.false c.loop-place.invariant
