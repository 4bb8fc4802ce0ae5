use Rattle.std.proofs.Common.{◌≡◌, map, take}
use Rattle.pn_tree.specs.Building.{at_innermost}
use Rattle.pn_tree.specs.Copies.{with_kids}
use Rattle.pn_spelling.specs.WriteTerms.{subterm, term_element}
use Rattle.pn_writer.proofs.terms.+add_term.Given as goal

abbrev pub invariant-add_subterms-loop-arg : goal.invariant-add_subterms-loop-arg
invariant-add_subterms-loop-arg l = l.into ≡ at_innermost (with_kids (map subterm (map term_element (take l.arg-index l.args)))) l.fn.into
