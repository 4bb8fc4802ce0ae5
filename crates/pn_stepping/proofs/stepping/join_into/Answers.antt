use Rattle.pn_stepping.specs.Telling.{entries_of}
use Rattle.pn_stepping.proofs.StepLemmas.{modes_of_sum, on_ok_both}
use Rattle.pn_stepping.proofs.stepping.join_into.Goals as goal

pub returns-in-Ok-clause-joined : goal.returns-in-Ok-clause-joined
returns-in-Ok-clause-joined c =
    on_ok_both _ _ _ c.add_all.result
    (λ same bag. record { bag = bag; same = same; modes = modes_of_sum c.args.net.now (entries_of c.args.entries.now) c.add_all.new.sum bag same c.in-Ok.ensures.all })
    c.add_all.ensures.same c.add_all.ensures.bag
