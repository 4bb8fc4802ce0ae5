-- Which outcomes are of the sort of a term, and for which multisets they stand.
use Rattle.std.specs.Prelude.{ℕ, List, [], ◌∷◌, Option, None, Some}
use Rattle.pn_bag.specs.Bag.{IsBag}
use Rattle.pn_bag.specs.Counts.{Every}
use Rattle.pn_carriers.specs.Members.{IsMember}
use Rattle.pn_names.specs.Names.{widths_of}
use Rattle.pn_operations.specs.declared.outcome.Outcome.{Outcome}
use Rattle.pn_operations.specs.declared.outcome.Outcome.TheVariants as outcomes
use Rattle.pn_syntax.specs.declared.declaration.Declaration.{Declaration}
use Rattle.pn_terms.specs.declared.term_sort.TermSort.{TermSort}
use Rattle.pn_terms.specs.declared.term_sort.TermSort.TheVariants as terms
use Rattle.pn_values.specs.Order.{value_cmp}
use Rattle.pn_values.specs.declared.value.Value.{Value}

-- a value of the basis sort, a multiset of values of it, or none, which is of each sort
abbrev pub IsOutcomeOf : List Declaration → TermSort → Outcome → Type 0
IsOutcomeOf items s outcomes.NoValue = Unit {0}
IsOutcomeOf items (terms.Basis s) (outcomes.Value v) = IsMember (widths_of items) v s
IsOutcomeOf items (terms.Basis s) (outcomes.Bag bag) = ⊥
IsOutcomeOf items (terms.Bag s) (outcomes.Value v) = ⊥
IsOutcomeOf items (terms.Bag s) (outcomes.Bag bag) = IsBag value_cmp bag × Every (λ entry. IsMember (widths_of items) entry.0 s) bag

-- the multiset for which an outcome stands where a label wants one: a value stands for itself once
abbrev pub multiset_of : Outcome → Option (List (Value × ℕ))
multiset_of (outcomes.Value v) = Some ((v, 1) ∷ [])
multiset_of (outcomes.Bag bag) = Some bag
multiset_of outcomes.NoValue = None
