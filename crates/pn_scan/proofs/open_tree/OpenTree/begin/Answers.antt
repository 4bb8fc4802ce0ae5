use Rattle.std.proofs.Common.{refl, ap, ◌∙◌}
use Rattle.pn_tree.specs.Building.{begun}
use Rattle.pn_scan.proofs.OpenTreeLemmas.{belongs_begun}
use Rattle.pn_scan.proofs.open_tree.OpenTree.begin.Goals as goal

pub returns-clause-belongs : goal.returns-clause-belongs
returns-clause-belongs c =
    let t = c.args.self.now in
    belongs_begun t _ c.args.name.now c.args.at c.requires.belongs c.requires.room c.in_ok-push.ensures refl
    (c.in_ok-begin.ensures ∙ ap (λ n. begun n c.args.at t.builder) c.as_text.ensures) c.clear.ensures
