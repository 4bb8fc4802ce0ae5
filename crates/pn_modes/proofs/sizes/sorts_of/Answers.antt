use Rattle.std.proofs.Common.{[], ◌∷◌, ◌++◌, get_or, subst, sym, take}
use Rattle.std.specs.List.{AllZip}
use Rattle.std.proofs.lemmas.List.{get_or_default, take_more}
use Rattle.pn_sorts.specs.Lookups.{IsVariableSort}
use Rattle.pn_net.proofs.RowLemmas.{zip_push}
use Rattle.pn_modes.proofs.sizes.sorts_of.Goals as goal

pub variable_sort-requires-clause-within : goal.variable_sort-requires-clause-within
variable_sort-requires-clause-within c =
    let own = get_or c.args.vars.now c.loop-v.v-index 0 in
    c.requires.declared own (c.loop-v.v-index, c.loop-v-test.true, get_or_default c.args.vars.now c.loop-v.v-index own 0 c.loop-v-test.true)

pub loop-v-preserved : goal.loop-v-preserved
loop-v-preserved c =
    let own = get_or c.args.vars.now c.loop-v.v-index 0 in
    subst (λ vs. AllZip (IsVariableSort c.args.decls.now) vs c.push.new.self) (sym (take_more c.args.vars.now c.loop-v.v-index 0 c.loop-v-test.true))
    (subst (AllZip (IsVariableSort c.args.decls.now) (take c.loop-v.v-index c.args.vars.now ++ own ∷ [])) (sym c.in_ok-push.ensures.ok)
    (zip_push (IsVariableSort c.args.decls.now) (take c.loop-v.v-index c.args.vars.now) c.loop-v.sorts own c.in_ok-copy.field-0 c.loop-v.invariant
    (subst (IsVariableSort c.args.decls.now own) (sym c.in_ok-copy.ensures) c.variable_sort.ensures)))
