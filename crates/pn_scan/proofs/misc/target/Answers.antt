use Rattle.std.proofs.Common.{◌≡◌, [], length, ap, subst, arith}
use Rattle.std.proofs.lemmas.Bool.Decides.{nat_tests}
use Rattle.std.specs.Option.{option_map}
use Rattle.std.specs.Vec.{vec_len}
use Rattle.pn_scan.specs.NextState.{next_in_target}
use Rattle.pn_scan.specs.Contexts.{state_of}
use Rattle.pn_scan.proofs.misc.target.Goals as goal

pub returns-clause-state : goal.returns-clause-state
returns-clause-state c p w =
    let k = c.args.kept.now in
    let some : c.deref.result.now ≡ [] → ⊥ = λ none.
    let size : length c.deref.result.now ≡ 0 = ap length none in
    let len : length c.deref.result.now ≡ vec_len k.name = c.deref.ensures.len in
    let test = c.is_empty-2.ensures in
    let other = c.if-is_empty-2.false in
    grind (arith, nat_tests)
    in
    subst (λ n. option_map (state_of p k) c.behind_target.result ≡ next_in_target c.args.first p n c.args.byte) c.deref.ensures.value (c.behind_target.ensures.state p k some w)
