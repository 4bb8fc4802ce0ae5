use Rattle.std.proofs.Common.{◌≡◌, take}
use Rattle.pn_tree.specs.Building.{at_innermost}
use Rattle.pn_tree.specs.Copies.{with_kids}
use Rattle.pn_spelling.specs.Writing.{all_kids}
use Rattle.pn_spelling.specs.WriteNets.{page_element}
use Rattle.pn_writer.proofs.nets.+add_page.Given as goal

abbrev pub invariant-add_pages-loop-page : goal.invariant-add_pages-loop-page
invariant-add_pages-loop-page l = l.into ≡ at_innermost (with_kids (all_kids page_element (take l.page-index l.pages))) l.fn.into
