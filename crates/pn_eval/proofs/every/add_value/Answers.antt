use Rattle.std.proofs.Common.{◌∙◌, ap}
use Rattle.pn_bag.specs.Algebra.{added}
use Rattle.pn_names.specs.Names.{widths_of}
use Rattle.pn_values.specs.Order.{value_cmp}
use Rattle.pn_eval.proofs.EveryLemmas.{next_added}
use Rattle.pn_eval.proofs.every.add_value.Goals as goal

pub returns-in-Ok : goal.returns-in-Ok
returns-in-Ok c =
    c.in-Ok.ensures.entries ∙ ap (λ bag. added value_cmp bag c.in_ok-value.value 1) c.requires.before
    ∙ next_added (widths_of c.args.decls.now) c.args.sort.now c.args.place c.in_ok-value.value c.in_ok-value.ensures
