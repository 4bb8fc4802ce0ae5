use Rattle.std.proofs.Common.{◌≡◌, true, sym, subst}
use Rattle.pn_tree.specs.Elements.{is_element}
use Rattle.pn_spelling.specs.WriteTerms.{term_element}
use Rattle.pn_writer_tests.proofs.PartLemmas.{term_fits}
use Rattle.pn_writer_tests.proofs.parts.terms_are_written.Goals as goal

pub tree_of_term-requires : goal.tree_of_term-requires
tree_of_term-requires g c = subst (λ e. is_element 255 (term_element e) ≡ true) (sym c.in_ok-term.ensures) term_fits
