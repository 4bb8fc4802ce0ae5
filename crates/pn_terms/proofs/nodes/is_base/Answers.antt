use Rattle.std.proofs.Common.{◌≡◌, ◌∙◌, ap, sym, true, false}
use Rattle.pn_terms.specs.declared.term_sort.TermSort.TheVariants as terms
use Rattle.pn_terms.proofs.SortLemmas.{bag_is_no_basis, same_basis}
use Rattle.pn_terms.proofs.nodes.is_base.Goals as goal

pub returns-in-Basis : goal.returns-in-Basis
returns-in-Basis c = (
  c.base_sort-base.result.now,
  c.base_sort-base.ensures,
  (λ h. c.in-Basis.is ∙ ap terms.Basis (c.is_same.ensures.same.0 h), λ h. c.is_same.ensures.same.1 (same_basis c.in-Basis.sort c.base_sort-base.result.now (sym c.in-Basis.is ∙ h))),
)

pub returns-in-Bag : goal.returns-in-Bag
returns-in-Bag c = (
  c.base_sort-base.result.now,
  c.base_sort-base.ensures,
  (λ h. absurd (let bad : false ≡ true = h in cc), λ h. absurd (bag_is_no_basis c.in-Bag.field-0 c.base_sort-base.result.now (sym c.in-Bag.is ∙ h))),
)
