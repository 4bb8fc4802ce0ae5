use Rattle.std.proofs.Common.{ap, subst, ◌∙◌}
use Rattle.std.specs.List.{slice_get}
use Rattle.pn_scan.specs.Names.{Holds}
use Rattle.pn_scan.specs.Nestings.{nesting_of, inner_of, outer_of, names_of}
use Rattle.pn_scan.proofs.OpenTreeLemmas.{names_inside}
use Rattle.pn_scan.proofs.open_tree.OpenTree.name_byte.Goals as goal

pub last-requires : goal.last-requires
last-requires c =
    let t = c.args.self.now in
    let p = nesting_of t in
    (names_of (outer_of p), (inner_of p).name, subst (λ l. Holds l t.names) (names_inside t.builder.open_elements t.builder.root c.requires.inside) c.requires.belongs.names)

pub returns-clause-value : goal.returns-clause-value
returns-clause-value c =
    let t = c.args.self.now in
    let p = nesting_of t in
    let held = subst (λ l. Holds l t.names) (names_inside t.builder.open_elements t.builder.root c.requires.inside) c.requires.belongs.names in
    c.byte_at.ensures.value ∙ ap (λ l. slice_get l c.args.index) (c.last.ensures (names_of (outer_of p)) (inner_of p).name held)
