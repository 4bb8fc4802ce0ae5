use Rattle.std.proofs.Common.{ap, ◌∙◌}
use Rattle.pn_ids.specs.Names.{named_in}
use Rattle.pn_ids.proofs.NotingLemmas.{named_of_entries}
use Rattle.pn_ids.proofs.ids.Ids.find.Goals as goal

pub returns : goal.returns
returns g c = c.entry_at.ensures ∙ named_of_entries c.self.inside.index.entries c.args.id.now ∙ ap (λ names. named_in names c.args.id.now) c.self.view_is
