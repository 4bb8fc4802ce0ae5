use Rattle.std.proofs.Common.{◌≡◌, rules, sym, ◌∙◌}
use Rattle.pn_operations.proofs.CountLemmas.{same_value, value_same}
use Rattle.pn_operations.proofs.multisets.is_same_entry.Goals as goal

pub returns-then-count-number : goal.returns-then-count-number
returns-then-count-number c =
    let counts : c.args.count ≡ c.args.number = search rules in
    (λ is. (same_value c.args.value.now c.args.another.now (sym c.eq.ensures ∙ is), counts), λ both. c.eq.ensures ∙ value_same c.args.value.now c.args.another.now both.0)
