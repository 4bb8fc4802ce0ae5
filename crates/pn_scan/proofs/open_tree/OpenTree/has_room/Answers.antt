use Rattle.std.proofs.Common.{sym, ◌∙◌}
use Rattle.pn_scan.specs.Nestings.{names_of}
use Rattle.pn_scan.proofs.OpenTreeLemmas.{room_is}
use Rattle.pn_scan.proofs.open_tree.OpenTree.has_room.Goals as goal

pub returns-then-not-self : goal.returns-then-not-self
returns-then-not-self c =
    let t = c.args.self.now in
    let es = t.builder.open_elements in
    room_is es t.builder.root c.len.result (c.len.ensures (names_of es) c.requires.names) (sym c.requires.root ∙ c.if-not-self.true)
