use Rattle.pn_spelling.specs.WriteTerms.{term_element}
use Rattle.pn_writer_tests.proofs.PartLemmas.{fits_in_root}
use Rattle.pn_writer_tests.proofs.parts.build_term.Goals as goal

pub term_tree-requires : goal.term_tree-requires
term_tree-requires c = fits_in_root (term_element c.args.term.now) c.args.builder.now c.begin.new.self c.requires.fits c.requires.is_new c.in_ok-begin.ensures
