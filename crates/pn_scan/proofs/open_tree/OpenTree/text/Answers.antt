use Rattle.std.proofs.Common.{◌∙◌}
use Rattle.std.proofs.Common.{ap}
use Rattle.pn_tree.specs.Building.{at_innermost, with_text}
use Rattle.pn_scan.proofs.OpenTreeLemmas.{belongs_text}
use Rattle.pn_scan.proofs.open_tree.OpenTree.text.Goals as goal

pub returns-clause-belongs : goal.returns-clause-belongs
returns-clause-belongs c =
    belongs_text c.args.self.now c.text.new.self c.args.text.now c.requires.belongs
    (c.in_ok-text.ensures ∙ ap (λ t. at_innermost (with_text t) c.args.self.now.builder) c.as_text.ensures)
