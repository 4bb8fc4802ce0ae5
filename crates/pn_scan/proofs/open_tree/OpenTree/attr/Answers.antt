use Rattle.std.proofs.Common.{refl, ap, subst, ◌∙◌}
use Rattle.pn_tree.specs.Building.{at_innermost, with_attr}
use Rattle.pn_scan.specs.Names.{AreNoted}
use Rattle.pn_scan.proofs.OpenTreeLemmas.{belongs_attr}
use Rattle.pn_scan.proofs.open_tree.OpenTree.attr.Goals as goal

pub returns-clause-belongs : goal.returns-clause-belongs
returns-clause-belongs c =
    let t = c.args.self.now in
    belongs_attr t _ c.args.name.now c.args.value.now c.requires.belongs refl refl
    (c.in_ok-attr.ensures ∙ ap (λ n. at_innermost (with_attr n c.as_text.result.now) t.builder) c.as_text-name.ensures
    ∙ ap (λ v. at_innermost (with_attr c.args.name.now v) t.builder) c.as_text.ensures)
    (λ e h. subst (λ n. AreNoted c.insert.new.self (with_attr n c.args.value.now e).attrs) c.as_text-name.ensures (c.in_ok-insert.ensures e c.args.value.now h))
