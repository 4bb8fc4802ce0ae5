use Rattle.std.proofs.Common.{get_or, arith}
use Rattle.std.proofs.lemmas.Option.{slice_get-get_or}
use Rattle.pn_facts.proofs.Contained.{contains_at}
use Rattle.pn_mode_text.proofs.VariableLemmas.{HasASort, each_so_far, each_taken, each_typed}
use Rattle.pn_mode_text.proofs.modes.have_sorts.Goals as goal

pub variable_sort-sort-requires-clause-within : goal.variable_sort-sort-requires-clause-within
variable_sort-sort-requires-clause-within c =
    let v = get_or c.args.vars.now c.loop-i.i 0 in
    c.requires.declared v (contains_at c.args.vars.now c.loop-i.i v (slice_get-get_or c.args.vars.now c.loop-i.i 0 c.loop-i-test.true))

pub loop-i-preserved : goal.loop-i-preserved
loop-i-preserved c =
    each_so_far (HasASort c.args.decls.now) c.args.vars.now c.loop-i.i 0 c.loop-i-test.true c.loop-i.invariant (c.variable_sort-sort.result.now, c.variable_sort-sort.ensures)

pub returns : goal.returns
returns c =
    each_typed c.args.decls.now c.args.vars.now (each_taken (HasASort c.args.decls.now) c.args.vars.now c.loop-i.i (omega (arith, c.loop-i-test.false)) c.loop-i.invariant)
