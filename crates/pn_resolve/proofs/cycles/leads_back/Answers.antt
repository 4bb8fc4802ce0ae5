use Rattle.std.proofs.Common.{◌≡◌, ◌↔◌, ◌∙◌, Some, IsTrue, true, false, ap, sym, subst}
use Rattle.std.proofs.lemmas.Option.{slice_get-get_or}
use Rattle.pn_resolve.specs.Standing.{LeadsTo}
use Rattle.pn_resolve.proofs.CycleLemmas.{named_cycle, off_all, own_cycle}
use Rattle.pn_resolve.proofs.cycles.leads_back.Goals as goal

pub returns-then-is_namedsort : goal.returns-then-is_namedsort
returns-then-is_namedsort c =
    let stands = slice_get-get_or c.args.items.now c.args.place c.index-items-place.result c.requires.place ∙ ap Some (sym c.index-items-place.is) in
    subst (λ b. IsTrue b ↔ LeadsTo c.args.items.now c.args.place c.args.place) (sym c.is_on_cycle.ensures)
    (named_cycle c.args.items.now c.args.named.now.on_cycle c.requires.named c.args.place c.index-items-place.result c.requires.place stands (sym c.is_namedsort.ensures ∙ c.if-is_namedsort.true))

pub returns-then-not-is_on_cycle : goal.returns-then-not-is_on_cycle
returns-then-not-is_on_cycle c = (
  λ bad. absurd (let no : false ≡ true = bad in cc),
  λ leads. absurd (off_all c.args.items.now c.args.all.now.on_cycle c.requires.all c.args.place c.requires.place (sym c.is_on_cycle-2.ensures ∙ c.if-not-is_on_cycle.true) leads),
)

pub returns : goal.returns
returns c = subst (λ b. IsTrue b ↔ LeadsTo c.args.items.now c.args.place c.args.place) (sym c.is_on_cycle-3.ensures)
    (own_cycle c.args.items.now c.in_ok-own.own.on_cycle c.args.place c.in_ok-own.ensures c.requires.place)
