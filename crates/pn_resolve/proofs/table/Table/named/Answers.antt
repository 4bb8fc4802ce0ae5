use Rattle.std.proofs.Common.{◌∙◌, ap, sym}
use Rattle.pn_resolve.specs.Tables.{sort_in, Entries}
use Rattle.pn_resolve.proofs.ResolveLemmas.{name_has, name_has_not}
use Rattle.pn_resolve.proofs.table.Table.named.Goals as goal

pub returns-clause-kept : goal.returns-clause-kept
returns-clause-kept c = c.get.ensures ∙ ap (λ (entries : Entries). sort_in entries.sorts c.args.place) c.self.view_is

pub returns-clause-some : goal.returns-clause-some
returns-clause-some c = λ s is items names t e n. name_has items names c.args.self.now t c.args.place s (sym is ∙ returns-clause-kept c) e n

pub returns-clause-none : goal.returns-clause-none
returns-clause-none c = λ is items names t e n. name_has_not items names c.args.self.now t c.args.place (sym is ∙ returns-clause-kept c) e n
