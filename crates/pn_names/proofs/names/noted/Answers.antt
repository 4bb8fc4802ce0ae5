use Rattle.std.proofs.Common.{false, true≢false, sym, subst}
use Rattle.pn_ids.specs.Names.{NotesAll}
use Rattle.pn_ids.proofs.NotingLemmas.{nothing_clash}
use Rattle.pn_names.specs.Names.{names_of}
use Rattle.pn_names.proofs.names.noted.Goals as goal

pub returns-else-branch-clause-distinct : goal.returns-else-branch-clause-distinct
returns-else-branch-clause-distinct c = (
  λ h. absurd (true≢false (sym h)),
  λ distinct. absurd (nothing_clash c.note_items.new.ids (names_of c.args.items.now)
      (subst (λ ids. NotesAll ids c.note_items.new.ids (names_of c.args.items.now) false) c.new-ids.ensures
      (subst (NotesAll c.new-ids.result c.note_items.new.ids (names_of c.args.items.now)) c.if-branch.false c.in_ok-note_items.ensures)) distinct),
)
