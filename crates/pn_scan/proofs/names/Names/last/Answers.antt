use Rattle.std.proofs.Common.{◌≡◌, ◌-◌, ◌≤◌, length, length-drop, take, drop, Some, None, sym, ap, subst, ◌∙◌}
use Rattle.std.specs.List.{slice_get}
use Rattle.std.proofs.Math.Seq.{take-length}
use Rattle.pn_scan.proofs.NameLemmas.{last_within, last_text, last_some}
use Rattle.pn_scan.proofs.names.Names.last.Goals as goal

pub slice_bounds-result-count : goal.slice_bounds-result-count
slice_bounds-result-count c =
    let t = c.args.self.now in
    let last = c.in-Some.last.now in
    let is = subst (λ l. slice_get l (length l - 1) ≡ Some last) c.deref.ensures.value (sym c.in-Some.ensures.value) in
    subst (λ l. last.start ≤ length l) (sym c.deref-in-Some.ensures.value) (last_within c.requires.0 c.requires.1 t.bytes.items t.spans.items last c.requires.2 is)

pub slice_bounds-result-start : goal.slice_bounds-result-start
slice_bounds-result-start c =
    let t = c.args.self.now in
    let last = c.in-Some.last.now in
    let is = subst (λ l. slice_get l (length l - 1) ≡ Some last) c.deref.ensures.value (sym c.in-Some.ensures.value) in
    subst (λ l. last.start ≤ length l) (sym c.deref-in-Some.ensures.value) (last_within c.requires.0 c.requires.1 t.bytes.items t.spans.items last c.requires.2 is)

pub unreachable-requires : goal.unreachable-requires
unreachable-requires c =
    let t = c.args.self.now in
    last_some c.requires.0 c.requires.1 t.bytes.items t.spans.items c.requires.2 (subst (λ l. slice_get l (length l - 1) ≡ None) c.deref.ensures.value (sym c.in-None.ensures.value))

pub returns : goal.returns
returns c names w h =
    let t = c.args.self.now in
    let last = c.in-Some.last.now in
    let l = c.deref-in-Some.result.now in
    let is = subst (λ s. slice_get s (length s - 1) ≡ Some last) c.deref.ensures.value (sym c.in-Some.ensures.value) in
    ap (λ n. take n (drop last.start l)) (sym (length-drop last.start l)) ∙ take-length (drop last.start l) ∙ ap (drop last.start) c.deref-in-Some.ensures.value
    ∙ last_text names w t.bytes.items t.spans.items last h is
