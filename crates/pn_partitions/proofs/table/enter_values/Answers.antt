use Rattle.std.proofs.Common.{ℕ, ◌++◌, map, length, ◌<◌, IfSome, subst, sym, ◌∙◌, arith}
use Rattle.std.proofs.lemmas.List.{take_all}
use Rattle.pn_partitions.specs.Tables.{place_of, IsFilled, IsSpoilt}
use Rattle.pn_partitions.proofs.TableLemmas.{refused_none, refused_twice, entered_next}
use Rattle.pn_partitions.proofs.table.enter_values.Goals as goal

pub returns-in_default-clause-refused : goal.returns-in_default-clause-refused
returns-in_default-clause-refused c _ lists listed there filled =
    refused_none (place_of c.args.index.now c.args.base.now) c.args.values.now c.loop-value.value-index c.value-item.result c.loop-value-test.true c.value-item.is listed (length c.args.table.now)
    (sym c.place_of.ensures ∙ c.in_default.is)

pub returns-then-is_some-clause-refused : goal.returns-then-is_some-clause-refused
returns-then-is_some-clause-refused c _ lists listed there filled =
    subst (λ (n : ℕ). IsSpoilt n (listed ++ map (place_of c.args.index.now c.args.base.now) c.args.values.now)) c.loop-value.auto.table
    (refused_twice (place_of c.args.index.now c.args.base.now) c.args.values.now c.loop-value.value-index c.value-item.result c.loop-value-test.true c.value-item.is listed lists c.loop-value.table c.in-Some.place
    (sym c.in-Some.ensures) (omega (arith, c.loop-value.auto.table, subst (λ o. IfSome o (λ k. k < length c.args.table.now)) (sym c.in-Some.ensures) (c.requires.within c.value-item.result))) (sym c.if-is_some.ensures) (c.loop-value.invariant lists listed there filled))

pub loop-value-preserved : goal.loop-value-preserved
loop-value-preserved c lists listed there filled =
    entered_next (place_of c.args.index.now c.args.base.now) c.args.values.now c.loop-value.value-index c.value-item.result c.loop-value-test.true c.value-item.is listed lists c.loop-value.table c.in-Some.place
    c.args.number there (sym c.in-Some.ensures) (omega (arith, c.loop-value.auto.table, subst (λ o. IfSome o (λ k. k < length c.args.table.now)) (sym c.in-Some.ensures) (c.requires.within c.value-item.result))) (sym c.if-is_some.ensures) (c.loop-value.invariant lists listed there filled)

pub returns-clause-entered : goal.returns-clause-entered
returns-clause-entered c _ lists listed there filled =
    subst (λ values. IsFilled lists (listed ++ map (place_of c.args.index.now c.args.base.now) values) c.loop-value.table) (take_all c.loop-value.value-index c.args.values.now c.loop-value-test.false)
    (c.loop-value.invariant lists listed there filled)
