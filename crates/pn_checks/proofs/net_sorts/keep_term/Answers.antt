use Rattle.std.proofs.Common.{◌≡◌, Some, ap, sym, ◌∙◌}
use Rattle.pn_facts.proofs.Results.{on_ok}
use Rattle.pn_net.specs.Labels.{said}
use Rattle.pn_checks.specs.Sorts.{SortsStandIn}
use Rattle.pn_checks.proofs.NetSortLemmas.{said_none, said_some}
use Rattle.pn_checks.proofs.net_sorts.keep_term.Goals as goal

pub returns-in-Some : goal.returns-in-Some
returns-in-Some c =
    let is : said c.args.label.now ≡ Some c.get.result.now.value = ap said c.in-Some.is ∙ ap (λ l. Some l.value) (sym c.get.ensures) in
    on_ok c.keep_sorts.result (said_some (SortsStandIn c.args.decls.now) (said c.args.label.now) c.get.result.now.value c.args.least.now c.keep_sorts.new.least is) c.keep_sorts.ensures

pub returns-in-None : goal.returns-in-None
returns-in-None c = said_none (SortsStandIn c.args.decls.now) (said c.args.label.now) c.args.least.now (ap said c.in-None.is)
