use Rattle.std.proofs.Common.{refl, subst}
use Rattle.pn_tree.specs.Tables.{content}
use Rattle.pn_tree.specs.Changes.{IsEnclosed}
use Rattle.pn_tree.proofs.SiteLemmas.{failed, bytes_within, bytes_grown}
use Rattle.pn_tree.proofs.EndLemmas.{begun_changed, begun_built}
use Rattle.pn_tree.proofs.TableLemmas.{root_grown}
use Rattle.pn_tree.proofs.site.Site.begin.Goals as goal

pub returns-in_err-node-clause-kept : goal.returns-in_err-node-clause-kept
returns-in_err-node-clause-kept c = failed c.args.self.now _ c.take-inner.ensures.after refl c.in_err-node.ensures.grown c.requires.kept

pub returns-clause-kept : goal.returns-clause-kept
returns-clause-kept c =
    let s = c.args.self.now in
    let t = content s.tables in
    let u = content c.begin_node.new.tables in
    let qs = c.begin_node.new.pending.items in
    let around = c.begin_node.new.outer.items in
    let grown = c.in_ok-node.ensures.grown in
    let enclosed = subst (λ i. IsEnclosed i s.outer.items s.pending.items around qs) c.take-inner.ensures.value c.in_ok-node.ensures.enclosed in
    record {
      tables = bytes_within t u grown c.requires.kept.tables;
      root = root_grown t u (bytes_grown t u grown) c.requires.kept.tables s.root c.requires.kept.root;
      opened =
          (begun_changed t u s.pending.items qs s.outer.items around s.inner c.in_ok-node.node c.args.name.now c.args.at grown c.in_ok-node.ensures.begun enclosed
          c.requires.kept.tables c.requires.kept.opened c.requires.name c.requires.depth).opened;
      room = c.in_ok-node.ensures.room;
    }

pub returns-clause-begun : goal.returns-clause-begun
returns-clause-begun c =
    let s = c.args.self.now in
    let t = content s.tables in
    let u = content c.begin_node.new.tables in
    let qs = c.begin_node.new.pending.items in
    let around = c.begin_node.new.outer.items in
    let grown = c.in_ok-node.ensures.grown in
    let enclosed = subst (λ i. IsEnclosed i s.outer.items s.pending.items around qs) c.take-inner.ensures.value c.in_ok-node.ensures.enclosed in
    begun_built t u s.pending.items qs s.outer.items around s.inner c.in_ok-node.node c.args.name.now c.args.at s.root
    (begun_changed t u s.pending.items qs s.outer.items around s.inner c.in_ok-node.node c.args.name.now c.args.at grown c.in_ok-node.ensures.begun enclosed
    c.requires.kept.tables c.requires.kept.opened c.requires.name c.requires.depth)
    grown c.requires.kept.tables c.requires.kept.root
