use Rattle.std.proofs.Common.{max, cond, Some, ap, sym, ◌∙◌}
use Rattle.std.specs.Str.{bytes_eq}
use Rattle.pn_faults.specs.declared.reason.Reason.TheVariants as reasons
use Rattle.pn_faults.specs.Least.{lower}
use Rattle.pn_faults.specs.Order.{fault_at}
use Rattle.pn_net.proofs.RowLemmas.{on_ok_then}
use Rattle.pn_pages.specs.declared.names.First.{First}
use Rattle.pn_pages.specs.Naming.{earlier, told_by}
use Rattle.pn_pages.proofs.NamingLemmas.{named_again, named_new, put_alone, put_twice}
use Rattle.pn_pages.proofs.names.Names.note.Goals as goal

pub keep_earlier-requires : goal.keep_earlier-requires
keep_earlier-requires c = put_alone c.args.id.now _ _ _ (c.in_ok-kept.ensures.put c.args.id.now)

pub returns-in_ok-keep_earlier-in-Some : goal.returns-in_ok-keep_earlier-in-Some
returns-in_ok-keep_earlier-in-Some c =
    let one : First = record { at = c.args.at; node = c.args.node } in
    let kept = c.in-Some.kept in
    let told = told_by c.args.self.now in
    let least = c.args.least.now in
    on_ok_then c.keep_least_at.result _ _ (λ lowered o hs h id at shown named.
    named_again o hs h told (told_by c.keep_earlier.new.self) one kept least c.keep_least_at.new.least shown at (ap told id ∙ sym c.in_ok-kept.ensures.before ∙ c.in-Some.is)
    (λ q. put_twice c.args.id.now q _ _ _ _ _ (c.in_ok-kept.ensures.put q) (c.in_ok-keep_earlier-in-Some.ensures q) ∙ ap (λ i. cond (bytes_eq i q) (Some (earlier one kept)) (told q)) (sym id))
    (lowered ∙ ap (λ n. lower least (Some (fault_at reasons.DuplicateId n c.args.id.now))) (c.max.ensures ∙ ap (λ n. max n kept.at) (sym at))
    ∙ ap (λ i. lower least (Some (fault_at reasons.DuplicateId (max h.at kept.at) i))) (sym id)) named)
    c.keep_least_at.ensures.lower

pub returns-in-None : goal.returns-in-None
returns-in-None c =
    let one : First = record { at = c.args.at; node = c.args.node } in
    let told = told_by c.args.self.now in
    λ o hs h id at shown named.
    named_new o hs h told (told_by c.put.new.self) one c.args.least.now shown at (ap told id ∙ sym c.in_ok-kept.ensures.before ∙ c.in-None.is)
    (λ q. c.in_ok-kept.ensures.put q ∙ ap (λ i. cond (bytes_eq i q) (Some one) (told q)) (sym id)) named
