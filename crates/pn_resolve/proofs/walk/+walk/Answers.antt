use Rattle.std.proofs.Common.{◌≡◌, ◌++◌, ◌+◌, drop, map, IfOk, codes, refl, sym, ap, ◌∙◌, subst}
use Rattle.std.proofs.lemmas.Result.{IfOk-equal}
use Rattle.pn_faults.specs.Least.{least_fault, lower}
use Rattle.pn_resolve.specs.Extents.{beside, all_beside, around}
use Rattle.pn_resolve.specs.Telling.{told, told_extent, told_faults, told_parts, too_big, known_by}
use Rattle.pn_resolve.proofs.KeepLemmas.{kept_both, kept_next, beside_next, told_product, told_list}
use Rattle.pn_resolve.proofs.walk.+walk.Goals as goal

pub walk-returns-in_ok-inside-in-Product-clause-extent : goal.walk-returns-in_ok-inside-in-Product-clause-extent
walk-returns-in_ok-inside-in-Product-clause-extent t c =
    let known = known_by c.args.index.now c.args.extents.now in
    let inside = c.in_ok-inside-in-Product.ensures.extent ∙ ap (λ ps. (told_parts (map (told known) ps)).extent) c.as_slice.ensures in
    let whole : c.around.result ≡ (told known c.args.expr.now).extent =
    c.around.ensures ∙ ap around inside ∙ sym (ap told_extent (told_product known c.args.expr.now c.in-Product.parts c.in-Product.is)) in
    subst (λ x. IfOk c.keep_big-in-Product.result (λ e. e ≡ x)) whole c.keep_big-in-Product.ensures.extent

pub walk-returns-in_ok-inside-in-Product-clause-faults : goal.walk-returns-in_ok-inside-in-Product-clause-faults
walk-returns-in_ok-inside-in-Product-clause-faults t c =
    let known = known_by c.args.index.now c.args.extents.now in
    let inside = c.in_ok-inside-in-Product.ensures.extent ∙ ap (λ ps. (told_parts (map (told known) ps)).extent) c.as_slice.ensures in
    let faults = c.in_ok-inside-in-Product.ensures.faults ∙ ap (λ ps. lower c.args.least.now (least_fault (told_parts (map (told known) ps)).faults)) c.as_slice.ensures in
    let gone = c.around.ensures ∙ ap around inside in
    let all = told_faults (told known c.args.expr.now) in
    IfOk-equal c.keep_big-in-Product.result _ _ _ c.keep_big-in-Product.ensures.faults
    (kept_both c.args.least.now c.walk_all.new.least _ (told_parts (map (told known) c.in-Product.parts)).faults (too_big c.args.expr.now.at (codes "productsort") c.around.result) faults refl
    ∙ ap (λ x. lower c.args.least.now (least_fault ((told_parts (map (told known) c.in-Product.parts)).faults ++ too_big c.args.expr.now.at (codes "productsort") x))) gone
    ∙ ap (λ fs. lower c.args.least.now (least_fault fs)) (sym (ap told_faults (told_product known c.args.expr.now c.in-Product.parts c.in-Product.is))))

pub walk-returns-in_ok-inside-in-List-clause-faults : goal.walk-returns-in_ok-inside-in-List-clause-faults
walk-returns-in_ok-inside-in-List-clause-faults t c =
    let known = known_by c.args.index.now c.args.extents.now in
    let inside = c.in_ok-inside-in-List.ensures.extent ∙ ap (λ p. (told known p).extent) c.get.ensures in
    let faults = c.in_ok-inside-in-List.ensures.faults ∙ ap (λ p. lower c.args.least.now (least_fault (told known p).faults)) c.get.ensures in
    let gone = c.around-in-List.ensures ∙ ap around inside in
    IfOk-equal c.keep_big-in-List.result _ _ _ c.keep_big-in-List.ensures.faults
    (kept_both c.args.least.now c.walk.new.least _ (told known c.in-List.part).faults (too_big c.args.expr.now.at (codes "list") c.around-in-List.result) faults refl
    ∙ ap (λ x. lower c.args.least.now (least_fault ((told known c.in-List.part).faults ++ too_big c.args.expr.now.at (codes "list") x))) gone
    ∙ ap (λ fs. lower c.args.least.now (least_fault fs)) (sym (ap told_faults (told_list known c.args.expr.now c.in-List.part c.in-List.is))))

pub walk_all-loop-part-preserved : goal.walk_all-loop-part-preserved
walk_all-loop-part-preserved t c =
    let known = known_by c.args.index.now c.args.extents.now in
    record {
      extent = ap (λ x. all_beside x (map told_extent (map (told known) (drop (c.loop-part.part-index + 1) c.args.parts.now)))) (c.beside-total.ensures ∙ ap (beside c.loop-part.total) c.in_ok-walk.ensures.extent)
          ∙ beside_next (told known) c.args.parts.now c.loop-part.part-index c.part-item.result c.loop-part.total _ c.loop-part-test.true c.part-item.is c.loop-part.invariant.extent;
      faults = kept_next (told known) c.args.parts.now c.loop-part.part-index c.part-item.result c.args.least.now c.loop-part.least c.walk.new.least c.loop-part-test.true c.part-item.is c.loop-part.invariant.faults c.in_ok-walk.ensures.faults;
    }
