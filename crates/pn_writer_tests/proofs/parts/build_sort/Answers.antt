use Rattle.pn_spelling.specs.WriteSorts.{sort_element}
use Rattle.pn_writer_tests.proofs.PartLemmas.{fits_in_root}
use Rattle.pn_writer_tests.proofs.parts.build_sort.Goals as goal

pub sort_tree-requires : goal.sort_tree-requires
sort_tree-requires c = fits_in_root (sort_element c.args.sort.now) c.args.builder.now c.begin.new.self c.requires.fits c.requires.is_new c.in_ok-begin.ensures
