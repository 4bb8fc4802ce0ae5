use Rattle.std.proofs.Common.{suc, refl, sym, ◌∙◌}
use Rattle.std.specs.Vec.{vec_len}
use Rattle.pn_tree.specs.Building.{with_attr}
use Rattle.pn_tree.specs.Tables.{content}
use Rattle.pn_tree.specs.Frames.{HasSpare}
use Rattle.pn_tree.proofs.SiteLemmas.{failed, of_inner, attr_within, attr_grown, attr_at, changed_at, room_same}
use Rattle.pn_tree.proofs.TableLemmas.{root_grown}
use Rattle.pn_tree.proofs.site.Site.attr.Goals as goal

pub returns-in_err-end-clause-kept : goal.returns-in_err-end-clause-kept
returns-in_err-end-clause-kept c = failed c.args.self.now _ c.take.ensures.after refl c.in_err-end.ensures.err c.requires.kept

pub returns-in_ok-end-clause-kept : goal.returns-in_ok-end-clause-kept
returns-in_ok-end-clause-kept c =
    let s = c.args.self.now in
    let u = content c.put_attr.new.tables in
    let name = c.args.name.now in
    let value = c.args.value.now in
    let added = c.in_ok-end.ensures.ok in
    let is = sym c.take.ensures.value ∙ c.in-Some.is in
    record {
      tables = attr_within (content s.tables) u name value added c.requires.kept.tables;
      root = root_grown (content s.tables) u (attr_grown (content s.tables) u name value added) c.requires.kept.tables s.root c.requires.kept.root;
      opened =
          (attr_at s u c.in-Some.node name value c.in_ok-end.end added c.requires.kept is c.in_ok-end.ensures.count c.requires.name c.requires.value c.requires.before_kids
          c.requires.is_new).opened;
      room =
          room_same (suc (vec_len s.outer)) (suc (vec_len s.outer)) s.tables c.put_attr.new.tables s.pending c.in_ok-end.ensures.kids c.in_ok-end.ensures.nodes
          (of_inner s.inner c.in-Some.node (λ _. HasSpare (suc (vec_len s.outer)) (suc (vec_len s.outer)) s.tables s.pending) is c.requires.kept.room);
    }

pub returns-in_ok-end-clause-given : goal.returns-in_ok-end-clause-given
returns-in_ok-end-clause-given c =
    let s = c.args.self.now in
    let u = content c.put_attr.new.tables in
    let name = c.args.name.now in
    let value = c.args.value.now in
    let added = c.in_ok-end.ensures.ok in
    let is = sym c.take.ensures.value ∙ c.in-Some.is in
    changed_at s u s.pending.items c.in-Some.node _ (with_attr name value)
    (attr_at s u c.in-Some.node name value c.in_ok-end.end added c.requires.kept is c.in_ok-end.ensures.count c.requires.name c.requires.value c.requires.before_kids
    c.requires.is_new)
    (attr_grown (content s.tables) u name value added) c.requires.kept is
