use Rattle.std.proofs.Common.{false, sym, true, subst, ◌≡◌, ◌∙◌}
use Rattle.std.specs.List.{Contains}
use Rattle.std.proofs.lemmas.List.Elements.{Contains-get_or}
use Rattle.pn_modes.proofs.fronts.parts_hold.Goals as goal

pub is_true-requires-clause-typed : goal.is_true-requires-clause-typed
is_true-requires-clause-typed c = c.requires.typed c.part-item.result (subst (Contains c.args.parts.now) (sym c.part-item.is) (Contains-get_or c.args.parts.now c.loop-part.part-index c.part-item.result c.loop-part-test.true))

pub is_true-requires-clause-covers : goal.is_true-requires-clause-covers
is_true-requires-clause-covers c = c.requires.covers c.part-item.result (subst (Contains c.args.parts.now) (sym c.part-item.is) (Contains-get_or c.args.parts.now c.loop-part.part-index c.part-item.result c.loop-part-test.true)) c.if-part-front.true

pub returns-then-not-branch : goal.returns-then-not-branch
returns-then-not-branch c = λ no. (c.part-item.result, subst (Contains c.args.parts.now) (sym c.part-item.is) (Contains-get_or c.args.parts.now c.loop-part.part-index c.part-item.result c.loop-part-test.true), c.if-part-front.true, λ value. let bad : false ≡ true = sym c.if-not-branch.true ∙ c.in_ok-is_true.ensures.1 value in cc)
