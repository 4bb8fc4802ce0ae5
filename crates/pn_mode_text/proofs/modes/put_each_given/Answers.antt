use Rattle.std.proofs.Common.{map, get_or, ◌∙◌, sym, arith, refl}
use Rattle.std.proofs.lemmas.Option.{slice_get_read}
use Rattle.std.proofs.lemmas.Option.{slice_get-get_or}
use Rattle.pn_facts.proofs.Contained.{contains_at}
use Rattle.pn_outside.proofs.TakingLemmas.{puts_failed}
use Rattle.pn_tree.proofs.PutLemmas.{puts_as, shown_failed, shown_taken}
use Rattle.pn_mode_text.specs.Pieces.{behind_commas}
use Rattle.pn_mode_text.specs.Texts.{IsTypedVariable, each_text, given_text}
use Rattle.pn_mode_text.proofs.PieceLemmas.{all_pieces, below, each_at, each_fewer, piece, piece_at, took_pieces}
use Rattle.pn_mode_text.proofs.VariableLemmas.{member_at, zip_as_many, zip_at}
use Rattle.pn_mode_text.proofs.modes.put_each_given.Goals as goal

pub put_given-requires-clause-declared : goal.put_given-requires-clause-declared
put_given-requires-clause-declared g c =
    let v = get_or c.args.vars.now c.loop-i.i 0 in
    c.requires.declared v (contains_at c.args.vars.now c.loop-i.i v (slice_get-get_or c.args.vars.now c.loop-i.i 0 c.loop-i-test.true))

pub put_given-requires-clause-member : goal.put_given-requires-clause-member
put_given-requires-clause-member g c = λ sort of_sort.
    let v = get_or c.args.vars.now c.loop-i.i 0 in
    member_at c.args.decls.now c.args.vars.now c.args.values.now c.loop-i.i v c.index-values-i.result c.requires.assignment c.loop-i-test.true
    (slice_get-get_or c.args.vars.now c.loop-i.i 0 c.loop-i-test.true) c.index-values-i.is sort of_sort

pub returns-in_err-put_given-clause-puts : goal.returns-in_err-put_given-clause-puts
returns-in_err-put_given-clause-puts g c = λ typed are.
    let items = c.args.decls.now in
    let v = get_or c.args.vars.now c.loop-i.i 0 in
    let value = c.index-values-i.result in
    let texts = each_text (map (given_text items) typed) c.args.values.now in
    let x = zip_at (IsTypedVariable items) c.args.vars.now typed c.loop-i.i v are (slice_get-get_or c.args.vars.now c.loop-i.i 0 c.loop-i-test.true) in
    let is = slice_get_read c.args.values.now _ c.loop-i.i value refl (below (sym c.requires.assignment.size) c.loop-i-test.true) c.index-values-i.is in
    let failed = c.in_err-put_given.ensures.puts x.0 x.2 in
    puts_as _ _ _ _ c.from_residual.result (all_pieces texts)
    (puts_failed _ _ _ _ c.from_residual.result c.from_residual.ensures.0
    (shown_failed _ _ _ piece (behind_commas texts) c.loop-i.i _ (piece_at texts c.loop-i.i (given_text items x.0 value)
    (each_at (given_text items) typed c.args.values.now c.loop-i.i x.0 value x.1 is)) (c.loop-i.invariant.takes typed are) failed.front))

pub loop-i-preserved : goal.loop-i-preserved
loop-i-preserved g c = record {
  takes = λ typed are.
      let items = c.args.decls.now in
      let v = get_or c.args.vars.now c.loop-i.i 0 in
      let value = c.index-values-i.result in
      let texts = each_text (map (given_text items) typed) c.args.values.now in
      let x = zip_at (IsTypedVariable items) c.args.vars.now typed c.loop-i.i v are (slice_get-get_or c.args.vars.now c.loop-i.i 0 c.loop-i-test.true) in
      let is = slice_get_read c.args.values.now _ c.loop-i.i value refl (below (sym c.requires.assignment.size) c.loop-i-test.true) c.index-values-i.is in
      let done = c.in_ok-put_given.ensures.puts x.0 x.2 in
      shown_taken _ _ _ piece (behind_commas texts) c.loop-i.i _ (piece_at texts c.loop-i.i (given_text items x.0 value)
      (each_at (given_text items) typed c.args.values.now c.loop-i.i x.0 value x.1 is)) (c.loop-i.invariant.takes typed are) done.all;
  unfailed = c.in_ok-put_given.ensures.counted ∙ c.loop-i.invariant.unfailed;
}

pub returns-clause-puts : goal.returns-clause-puts
returns-clause-puts g c = λ typed are.
    let items = c.args.decls.now in
    let texts = each_text (map (given_text items) typed) c.args.values.now in
    let few = each_fewer (given_text items) typed c.args.values.now in
    let many = zip_as_many (IsTypedVariable items) c.args.vars.now typed are in
    record { all = took_pieces _ _ texts c.loop-i.i (omega (arith, few, many, c.loop-i-test.false)) (c.loop-i.invariant.takes typed are); front = tt }
