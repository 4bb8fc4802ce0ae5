use Rattle.std.proofs.Common.{◌≡◌, true, sym, subst}
use Rattle.pn_tree.specs.Elements.{is_element}
use Rattle.pn_spelling.specs.WriteSorts.{sort_element}
use Rattle.pn_writer_tests.proofs.PartLemmas.{sort_fits}
use Rattle.pn_writer_tests.proofs.parts.sorts_are_written.Goals as goal

pub tree_of_sort-requires : goal.tree_of_sort-requires
tree_of_sort-requires g c = subst (λ e. is_element 255 (sort_element e) ≡ true) (sym c.in_ok-sort.ensures) sort_fits
