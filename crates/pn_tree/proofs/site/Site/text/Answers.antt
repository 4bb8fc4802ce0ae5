use Rattle.std.proofs.Common.{suc, ◌==◌, length, refl, sym, ap, ◌∙◌, subst}
use Rattle.std.proofs.lemmas.Bool.{false≢true}
use Rattle.pn_tree.specs.Building.{with_text}
use Rattle.pn_tree.specs.Tables.{content}
use Rattle.pn_tree.specs.Frames.{HasSpare}
use Rattle.pn_tree.proofs.SiteLemmas.{failed, bytes_within, bytes_grown, changed_at}
use Rattle.pn_tree.proofs.GivenLemmas.{text_at}
use Rattle.pn_tree.proofs.TableLemmas.{root_grown}
use Rattle.pn_tree.proofs.site.Site.text.Goals as goal

pub returns-in_err-end-clause-kept : goal.returns-in_err-end-clause-kept
returns-in_err-end-clause-kept c = failed c.args.self.now _ c.take.ensures.after refl c.in_err-end.ensures.grown c.requires.kept

pub returns-in_ok-end-clause-kept : goal.returns-in_ok-end-clause-kept
returns-in_ok-end-clause-kept c =
    let s = c.args.self.now in
    let u = content c.add_text.new.tables in
    let grown = c.in_ok-end.ensures.grown in
    let is = sym c.take.ensures.value ∙ c.in-Some.is in
    record {
      tables = bytes_within (content s.tables) u grown c.requires.kept.tables;
      root = root_grown (content s.tables) u (bytes_grown (content s.tables) u grown) c.requires.kept.tables s.root c.requires.kept.root;
      opened =
          (text_at s u c.add_text.new.pending.items c.in-Some.node c.args.text.now c.in_ok-end.end grown c.requires.kept is c.requires.text
          (λ e. false≢true (c.if-is_empty.ensures ∙ ap (λ l. length l == 0) e))
          c.in_ok-end.ensures.added c.in_ok-end.ensures.count).opened;
      room = subst (λ n. HasSpare (suc n) (suc n) c.add_text.new.tables c.add_text.new.pending) c.len-outer.ensures c.in_ok-end.ensures.room;
    }

pub returns-in_ok-end-clause-given : goal.returns-in_ok-end-clause-given
returns-in_ok-end-clause-given c =
    let s = c.args.self.now in
    let u = content c.add_text.new.tables in
    let grown = c.in_ok-end.ensures.grown in
    let is = sym c.take.ensures.value ∙ c.in-Some.is in
    changed_at s u c.add_text.new.pending.items c.in-Some.node _ (with_text c.args.text.now)
    (text_at s u c.add_text.new.pending.items c.in-Some.node c.args.text.now c.in_ok-end.end grown c.requires.kept is c.requires.text
    (λ e. false≢true (c.if-is_empty.ensures ∙ ap (λ l. length l == 0) e))
    c.in_ok-end.ensures.added c.in_ok-end.ensures.count)
    (bytes_grown (content s.tables) u grown) c.requires.kept is
