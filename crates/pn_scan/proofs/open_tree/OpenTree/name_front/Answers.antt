use Rattle.std.proofs.Common.{◌≡◌, true, take, drop, sym, ap, subst, ◌∙◌}
use Rattle.pn_text.specs.Characters.{is_text}
use Rattle.pn_scan.specs.Names.{Holds}
use Rattle.pn_scan.specs.Nestings.{nesting_of, inner_of, outer_of, names_of}
use Rattle.pn_scan.proofs.OpenTreeLemmas.{names_inside}
use Rattle.pn_scan.proofs.open_tree.OpenTree.name_front.Goals as goal

pub last-requires : goal.last-requires
last-requires c =
    let t = c.args.self.now in
    let p = nesting_of t in
    (names_of (outer_of p), (inner_of p).name, subst (λ l. Holds l t.names) (names_inside t.builder.open_elements t.builder.root c.requires.inside) c.requires.belongs.names)

pub front_behind-requires : goal.front_behind-requires
front_behind-requires c =
    let t = c.args.self.now in
    let p = nesting_of t in
    let held = subst (λ l. Holds l t.names) (names_inside t.builder.open_elements t.builder.root c.requires.inside) c.requires.belongs.names in
    subst (λ l. is_text (drop c.args.read l) ≡ true) (sym (c.last.ensures (names_of (outer_of p)) (inner_of p).name held)) c.requires.text

pub returns-clause-same : goal.returns-clause-same
returns-clause-same c =
    let t = c.args.self.now in
    let p = nesting_of t in
    let held = subst (λ l. Holds l t.names) (names_inside t.builder.open_elements t.builder.root c.requires.inside) c.requires.belongs.names in
    c.front_behind.ensures.same ∙ ap (λ l. take c.front_behind.result (drop c.args.read l)) (c.last.ensures (names_of (outer_of p)) (inner_of p).name held)
