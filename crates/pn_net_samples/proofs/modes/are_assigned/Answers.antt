use Rattle.std.proofs.Common.{◌≡◌, ◌∷◌, [], length, get_or, sym, ap, ◌∙◌, arith}
use Rattle.std.proofs.lemmas.Bool.{eqb-false}
use Rattle.pn_net_samples.proofs.ModeLemmas.{one_variable, only_one}
use Rattle.pn_net_samples.proofs.modes.are_assigned.Goals as goal

pub returns : goal.returns
returns c is =
    let vars = c.args.vars.now in
    let values = c.args.values.now in
    let some = eqb-false (length vars) 0 (sym c.is_empty.ensures ∙ c.if-is_empty.false) in
    let one : length vars ≡ 1 = omega (arith, some, c.if-vars-gt1.false) in
    let value : length values ≡ 1 = omega (arith, some, c.if-vars-gt1.false, c.if-vars-values.false) in
    one_variable c.args.decls.now (get_or vars 0 0) c.index-values-0.result vars values c.requires.ascending (only_one vars 0 one)
    (only_one values c.index-values-0.result value ∙ ap (λ v. v ∷ []) (sym c.index-values-0.is)) (c.is_of.ensures is)
