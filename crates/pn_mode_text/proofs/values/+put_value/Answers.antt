use Rattle.std.proofs.Common.{rules, ◌++◌, [], ◌∷◌, map, sym, ap, ◌∙◌, arith, refl}
use Rattle.std.proofs.lemmas.Option.{slice_get_read}
use Rattle.std.specs.List.{list_all}
use Rattle.std.proofs.lemmas.List.{length-map}
use Rattle.pn_carriers.proofs.LayerLemmas.{member-enumeration, member-partition, member-product}
use Rattle.pn_carriers.proofs.ValueLemmas.{out-tuple}
use Rattle.pn_carriers.specs.Members.{is_list_of, is_member, is_tuple_of, pass_each}
use Rattle.pn_eval.proofs.MemberLemmas.{member_is_list}
use Rattle.pn_names.specs.Names.{widths_of}
use Rattle.pn_outside.proofs.TakingLemmas.{puts_then, puts_stop, puts_failed}
use Rattle.pn_tree.proofs.PutLemmas.{puts_as, shown_failed, shown_taken}
use Rattle.pn_values.specs.declared.sort.Sort.TheViews.{the_lemmas}
use Rattle.pn_values.specs.declared.value.Value.TheViews.{out-Value}
use Rattle.pn_mode_text.specs.Pieces.{behind_commas}
use Rattle.pn_mode_text.specs.Texts.{each_text, list_text, tuple_text, value_text, with_commas}
use Rattle.pn_eval.proofs.MemberLemmas.{as_many}
use Rattle.pn_mode_text.proofs.PieceLemmas.{all_pieces, below, each_at, each_fewer, holds_at, mapped_at, passes_at, piece, piece_at, took_pieces}
use Rattle.pn_eval.proofs.MemberLemmas.{out_list_value}
use Rattle.pn_mode_text.proofs.TextLemmas.{text-dot, text-bool, text-enumeration, text-partition, text-range, text-product, text-integer, text-natural, text-positive, text-text, text-list}
use Rattle.pn_mode_text.proofs.values.+put_value.Goals as goal

pub put_value-returns-in-Dot-clause-puts : goal.put_value-returns-in-Dot-clause-puts
put_value-returns-in-Dot-clause-puts g t c =
    puts_as _ _ _ _ c.put_text.result (sym (ap (λ s. value_text c.args.decls.now s c.args.value.now) c.in-Dot.is ∙ text-dot c.args.decls.now c.args.value.now)) c.put_text.ensures.puts

pub put_value-returns-in-Bool-clause-puts : goal.put_value-returns-in-Bool-clause-puts
put_value-returns-in-Bool-clause-puts g t c =
    puts_as _ _ _ _ c.put_truth.result (sym (ap (λ s. value_text c.args.decls.now s c.args.value.now) c.in-Bool.is ∙ text-bool c.args.decls.now c.args.value.now)) c.put_truth.ensures.puts

pub put_value-returns-in-Range-clause-puts : goal.put_value-returns-in-Range-clause-puts
put_value-returns-in-Range-clause-puts g t c =
    puts_as _ _ _ _ c.put_number.result (sym (ap (λ s. value_text c.args.decls.now s c.args.value.now) c.in-Range.is ∙ text-range c.args.decls.now c.in-Range.start c.in-Range.end c.args.value.now)) c.put_number.ensures.puts

pub put_value-returns-in-Integer-clause-puts : goal.put_value-returns-in-Integer-clause-puts
put_value-returns-in-Integer-clause-puts g t c =
    puts_as _ _ _ _ c.put_number-in-Integer.result (sym (ap (λ s. value_text c.args.decls.now s c.args.value.now) c.in-Integer.is ∙ text-integer c.args.decls.now c.args.value.now)) c.put_number-in-Integer.ensures.puts

pub put_value-returns-in-Natural-clause-puts : goal.put_value-returns-in-Natural-clause-puts
put_value-returns-in-Natural-clause-puts g t c =
    puts_as _ _ _ _ c.put_number-in-Natural.result (sym (ap (λ s. value_text c.args.decls.now s c.args.value.now) c.in-Natural.is ∙ text-natural c.args.decls.now c.args.value.now)) c.put_number-in-Natural.ensures.puts

pub put_value-returns-in-Positive-clause-puts : goal.put_value-returns-in-Positive-clause-puts
put_value-returns-in-Positive-clause-puts g t c =
    puts_as _ _ _ _ c.put_number-in-Positive.result (sym (ap (λ s. value_text c.args.decls.now s c.args.value.now) c.in-Positive.is ∙ text-positive c.args.decls.now c.args.value.now)) c.put_number-in-Positive.ensures.puts

pub put_value-returns-in-Text-clause-puts : goal.put_value-returns-in-Text-clause-puts
put_value-returns-in-Text-clause-puts g t c =
    puts_as _ _ _ _ c.put_quoted.result (sym (ap (λ s. value_text c.args.decls.now s c.args.value.now) c.in-Text.is ∙ text-text c.args.decls.now c.args.value.now)) c.put_quoted.ensures.puts

pub put_value-returns-in-Enumeration-clause-puts : goal.put_value-returns-in-Enumeration-clause-puts
put_value-returns-in-Enumeration-clause-puts g t c =
    puts_as _ _ _ _ c.put_constant.result (sym (ap (λ s. value_text c.args.decls.now s c.args.value.now) c.in-Enumeration.is ∙ text-enumeration c.args.decls.now c.in-Enumeration.place c.args.value.now)) c.put_constant.ensures.puts

pub put_value-returns-in-Partition-clause-puts : goal.put_value-returns-in-Partition-clause-puts
put_value-returns-in-Partition-clause-puts g t c =
    puts_as _ _ _ _ c.put_constant-in-Partition.result (sym (ap (λ s. value_text c.args.decls.now s c.args.value.now) c.in-Partition.is ∙ text-partition c.args.decls.now c.in-Partition.place c.args.value.now)) c.put_constant-in-Partition.ensures.puts

pub put_value-returns-in-Product-clause-puts : goal.put_value-returns-in-Product-clause-puts
put_value-returns-in-Product-clause-puts g t c =
    puts_as _ _ _ _ c.put_tuple.result
    (ap (λ ps. tuple_text (map (value_text c.args.decls.now) ps) (out-Value c.args.value.now)) c.as_slice.ensures
    ∙ sym (ap (λ s. value_text c.args.decls.now s c.args.value.now) c.in-Product.is ∙ text-product c.args.decls.now c.in-Product.parts c.args.value.now)) c.put_tuple.ensures.puts

pub put_value-returns-in-List-clause-puts : goal.put_value-returns-in-List-clause-puts
put_value-returns-in-List-clause-puts g t c =
    puts_as _ _ _ _ c.put_list.result
    (ap (λ s. list_text (value_text c.args.decls.now s) (out-Value c.args.value.now)) c.get.ensures
    ∙ sym (ap (λ s. value_text c.args.decls.now s c.args.value.now) c.in-List.is ∙ text-list c.args.decls.now c.in-List.item c.args.value.now)) c.put_list.ensures.puts

pub put_value-put_constant-requires : goal.put_value-put_constant-requires
put_value-put_constant-requires g t c =
    sym (member-enumeration (widths_of c.args.decls.now) c.in-Enumeration.place c.args.value.now) ∙ ap (λ s. is_member (widths_of c.args.decls.now) s c.args.value.now) (sym c.in-Enumeration.is) ∙ c.requires

pub put_value-put_constant-requires-in-Partition : goal.put_value-put_constant-requires-in-Partition
put_value-put_constant-requires-in-Partition g t c =
    sym (member-partition (widths_of c.args.decls.now) c.in-Partition.place c.args.value.now) ∙ ap (λ s. is_member (widths_of c.args.decls.now) s c.args.value.now) (sym c.in-Partition.is) ∙ c.requires

pub put_value-put_tuple-requires : goal.put_value-put_tuple-requires
put_value-put_tuple-requires g t c κs within =
    let w = widths_of c.args.decls.now in (
      search (rules, the_lemmas),
      (
        within,
        ap (λ ps. is_tuple_of (map (is_member w) ps) (out-Value c.args.value.now)) c.as_slice.ensures ∙ sym (member-product w c.in-Product.parts c.args.value.now)
            ∙ ap (λ s. is_member w s c.args.value.now) (sym c.in-Product.is) ∙ c.requires,
      ),
    )

pub put_value-put_list-requires : goal.put_value-put_list-requires
put_value-put_list-requires g t c κs within =
    let w = widths_of c.args.decls.now in (
      search (rules, the_lemmas),
      (
        within,
        ap (λ s. is_list_of (is_member w s) (out-Value c.args.value.now)) c.get.ensures ∙ sym (member_is_list w c.in-List.item c.args.value.now)
            ∙ ap (λ s. is_member w s c.args.value.now) (sym c.in-List.is) ∙ c.requires,
      ),
    )

pub put_tuple-put_parts-requires : goal.put_tuple-put_parts-requires
put_tuple-put_parts-requires g t c κs within =
    let tests = map (is_member (widths_of c.args.decls.now)) c.args.parts.now in
    (search (rules, the_lemmas), (within, ap (pass_each tests) c.as_slice.ensures ∙ sym (ap (λ v. is_tuple_of tests (out-Value v)) c.in-Tuple.is ∙ ap (is_tuple_of tests) (out-tuple c.in-Tuple.values)) ∙ c.requires))

pub put_tuple-returns-clause-puts : goal.put_tuple-returns-clause-puts
put_tuple-returns-clause-puts g t c =
    let texts = map (value_text c.args.decls.now) c.args.parts.now in
    puts_as _ _ _ _ c.put_parts.result
    (ap (λ vs. 40 ∷ (with_commas (each_text texts vs) ++ 41 ∷ [])) c.as_slice.ensures
    ∙ sym (ap (λ v. tuple_text texts (out-Value v)) c.in-Tuple.is ∙ ap (tuple_text texts) (out-tuple c.in-Tuple.values))) c.put_parts.ensures.puts

pub put_list-put_items-requires : goal.put_list-put_items-requires
put_list-put_items-requires g t c κs within =
    let test = is_member (widths_of c.args.decls.now) c.args.item.now in
    (search (rules, the_lemmas), (within, ap (list_all test) c.as_slice.ensures ∙ sym (ap (λ v. is_list_of test (out-Value v)) c.in-List.is ∙ ap (is_list_of test) (out_list_value c.in-List.values)) ∙ c.requires))

pub put_list-returns-clause-puts : goal.put_list-returns-clause-puts
put_list-returns-clause-puts g t c =
    let text = value_text c.args.decls.now c.args.item.now in
    puts_as _ _ _ _ c.put_items.result
    (ap (λ vs. 91 ∷ (with_commas (map text vs) ++ 93 ∷ [])) c.as_slice.ensures
    ∙ sym (ap (λ v. list_text text (out-Value v)) c.in-List.is ∙ ap (list_text text) (out_list_value c.in-List.values))) c.put_items.ensures.puts

pub put_parts-returns-in_err-put_text-clause-puts : goal.put_parts-returns-in_err-put_text-clause-puts
put_parts-returns-in_err-put_text-clause-puts g t c = puts_stop _ _ _ _ _ c.from_residual.result c.from_residual.ensures.0 c.in_err-put_text.ensures.puts.front

pub put_parts-returns-in_err-put_each_part-clause-puts : goal.put_parts-returns-in_err-put_each_part-clause-puts
put_parts-returns-in_err-put_each_part-clause-puts g t c =
    let r = c.from_residual-in_err-put_each_part.result in
    puts_then _ _ _ _ _ r c.in_ok-put_text.ensures.puts.all (puts_stop _ _ _ _ (41 ∷ []) r c.from_residual-in_err-put_each_part.ensures.0 c.in_err-put_each_part.ensures.puts.front)

pub put_parts-returns-clause-puts : goal.put_parts-returns-clause-puts
put_parts-returns-clause-puts g t c =
    let r = c.put_text-2.result in
    puts_then _ _ _ _ _ r c.in_ok-put_text.ensures.puts.all (puts_then _ _ _ _ _ r c.in_ok-put_each_part.ensures.puts.all c.put_text-2.ensures.puts)

pub put_items-returns-in_err-put_text-clause-puts : goal.put_items-returns-in_err-put_text-clause-puts
put_items-returns-in_err-put_text-clause-puts g t c = puts_stop _ _ _ _ _ c.from_residual.result c.from_residual.ensures.0 c.in_err-put_text.ensures.puts.front

pub put_items-returns-in_err-put_each_item-clause-puts : goal.put_items-returns-in_err-put_each_item-clause-puts
put_items-returns-in_err-put_each_item-clause-puts g t c =
    let r = c.from_residual-in_err-put_each_item.result in
    puts_then _ _ _ _ _ r c.in_ok-put_text.ensures.puts.all (puts_stop _ _ _ _ (93 ∷ []) r c.from_residual-in_err-put_each_item.ensures.0 c.in_err-put_each_item.ensures.puts.front)

pub put_items-returns-clause-puts : goal.put_items-returns-clause-puts
put_items-returns-clause-puts g t c =
    let r = c.put_text-2.result in
    puts_then _ _ _ _ _ r c.in_ok-put_text.ensures.puts.all (puts_then _ _ _ _ _ r c.in_ok-put_each_item.ensures.puts.all c.put_text-2.ensures.puts)

pub put_part-returns-in_err-put_comma-clause-puts : goal.put_part-returns-in_err-put_comma-clause-puts
put_part-returns-in_err-put_comma-clause-puts g t c =
    puts_stop _ _ _ _ (value_text c.args.decls.now c.args.sort.now c.args.value.now) c.from_residual.result c.from_residual.ensures.0 c.in_err-put_comma.ensures.puts.front

pub put_part-returns-clause-puts : goal.put_part-returns-clause-puts
put_part-returns-clause-puts g t c = puts_then _ _ _ _ _ c.put_value.result c.in_ok-put_comma.ensures.puts.all c.put_value.ensures.puts

pub put_each_part-returns-in_err-put_part-clause-puts : goal.put_each_part-returns-in_err-put_part-clause-puts
put_each_part-returns-in_err-put_part-clause-puts g t c =
    let texts = each_text (map (value_text c.args.decls.now) c.args.parts.now) c.args.values.now in
    puts_as _ _ _ _ c.from_residual.result (all_pieces texts)
    (puts_failed _ _ _ _ c.from_residual.result c.from_residual.ensures.0
    (shown_failed _ _ _ piece (behind_commas texts) c.loop-i.i _ (piece_at texts c.loop-i.i (value_text c.args.decls.now c.index-parts-i.result c.index-values-i.result)
    (each_at (value_text c.args.decls.now) c.args.parts.now c.args.values.now c.loop-i.i c.index-parts-i.result c.index-values-i.result (slice_get_read c.args.parts.now _ c.loop-i.i c.index-parts-i.result refl c.loop-i-test.true c.index-parts-i.is) (slice_get_read c.args.values.now _ c.loop-i.i c.index-values-i.result refl (below (as_many (is_member (widths_of c.args.decls.now)) c.args.parts.now c.args.values.now c.requires) c.loop-i-test.true) c.index-values-i.is))) c.loop-i.invariant.takes c.in_err-put_part.ensures.puts.front))

pub put_each_part-loop-i-preserved : goal.put_each_part-loop-i-preserved
put_each_part-loop-i-preserved g t c =
    let texts = each_text (map (value_text c.args.decls.now) c.args.parts.now) c.args.values.now in
    record {
      takes = shown_taken _ _ _ piece (behind_commas texts) c.loop-i.i _ (piece_at texts c.loop-i.i (value_text c.args.decls.now c.index-parts-i.result c.index-values-i.result)
          (each_at (value_text c.args.decls.now) c.args.parts.now c.args.values.now c.loop-i.i c.index-parts-i.result c.index-values-i.result (slice_get_read c.args.parts.now _ c.loop-i.i c.index-parts-i.result refl c.loop-i-test.true c.index-parts-i.is) (slice_get_read c.args.values.now _ c.loop-i.i c.index-values-i.result refl (below (as_many (is_member (widths_of c.args.decls.now)) c.args.parts.now c.args.values.now c.requires) c.loop-i-test.true) c.index-values-i.is))) c.loop-i.invariant.takes c.in_ok-put_part.ensures.puts.all;
      unfailed = c.in_ok-put_part.ensures.counted ∙ c.loop-i.invariant.unfailed;
    }

pub put_each_item-returns-in_err-put_part-clause-puts : goal.put_each_item-returns-in_err-put_part-clause-puts
put_each_item-returns-in_err-put_part-clause-puts g t c =
    let texts = map (value_text c.args.decls.now c.args.item.now) c.args.values.now in
    puts_as _ _ _ _ c.from_residual.result (all_pieces texts)
    (puts_failed _ _ _ _ c.from_residual.result c.from_residual.ensures.0
    (shown_failed _ _ _ piece (behind_commas texts) c.loop-i.i _ (piece_at texts c.loop-i.i (value_text c.args.decls.now c.args.item.now c.index-values-i.result)
    (mapped_at (value_text c.args.decls.now c.args.item.now) c.args.values.now c.loop-i.i c.index-values-i.result (slice_get_read c.args.values.now _ c.loop-i.i c.index-values-i.result refl c.loop-i-test.true c.index-values-i.is))) c.loop-i.invariant.takes c.in_err-put_part.ensures.puts.front))

pub put_each_item-loop-i-preserved : goal.put_each_item-loop-i-preserved
put_each_item-loop-i-preserved g t c =
    let texts = map (value_text c.args.decls.now c.args.item.now) c.args.values.now in
    record {
      takes = shown_taken _ _ _ piece (behind_commas texts) c.loop-i.i _ (piece_at texts c.loop-i.i (value_text c.args.decls.now c.args.item.now c.index-values-i.result)
          (mapped_at (value_text c.args.decls.now c.args.item.now) c.args.values.now c.loop-i.i c.index-values-i.result (slice_get_read c.args.values.now _ c.loop-i.i c.index-values-i.result refl c.loop-i-test.true c.index-values-i.is))) c.loop-i.invariant.takes c.in_ok-put_part.ensures.puts.all;
      unfailed = c.in_ok-put_part.ensures.counted ∙ c.loop-i.invariant.unfailed;
    }

pub put_each_part-bounds-values-i : goal.put_each_part-bounds-values-i
put_each_part-bounds-values-i g t c =
    let same = as_many (is_member (widths_of c.args.decls.now)) c.args.parts.now c.args.values.now c.requires in omega (arith, same, c.loop-i-test.true)

pub put_each_part-put_part-requires : goal.put_each_part-put_part-requires
put_each_part-put_part-requires g t c κs within =
    (search (rules, the_lemmas), (within, passes_at (is_member (widths_of c.args.decls.now)) c.args.parts.now c.args.values.now c.loop-i.i c.index-parts-i.result c.index-values-i.result c.requires (slice_get_read c.args.parts.now _ c.loop-i.i c.index-parts-i.result refl c.loop-i-test.true c.index-parts-i.is) (slice_get_read c.args.values.now _ c.loop-i.i c.index-values-i.result refl (below (as_many (is_member (widths_of c.args.decls.now)) c.args.parts.now c.args.values.now c.requires) c.loop-i-test.true) c.index-values-i.is)))

pub put_each_item-put_part-requires : goal.put_each_item-put_part-requires
put_each_item-put_part-requires g t c κs within =
    (search (rules, the_lemmas), (within, holds_at (is_member (widths_of c.args.decls.now) c.args.item.now) c.args.values.now c.loop-i.i c.index-values-i.result c.requires (slice_get_read c.args.values.now _ c.loop-i.i c.index-values-i.result refl c.loop-i-test.true c.index-values-i.is)))

pub put_each_part-returns-clause-puts : goal.put_each_part-returns-clause-puts
put_each_part-returns-clause-puts g t c =
    let texts = each_text (map (value_text c.args.decls.now) c.args.parts.now) c.args.values.now in
    let few = each_fewer (value_text c.args.decls.now) c.args.parts.now c.args.values.now in
    record { all = took_pieces _ _ texts c.loop-i.i (omega (arith, few, c.loop-i-test.false)) c.loop-i.invariant.takes; front = tt }

pub put_each_item-returns-clause-puts : goal.put_each_item-returns-clause-puts
put_each_item-returns-clause-puts g t c =
    let texts = map (value_text c.args.decls.now c.args.item.now) c.args.values.now in
    let few = length-map c.args.values.now (value_text c.args.decls.now c.args.item.now) in
    record { all = took_pieces _ _ texts c.loop-i.i (omega (arith, few, c.loop-i-test.false)) c.loop-i.invariant.takes; front = tt }
