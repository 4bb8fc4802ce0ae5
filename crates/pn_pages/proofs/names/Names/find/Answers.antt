use Rattle.std.proofs.Common.{sym, ◌∙◌, subst}
use Rattle.std.specs.Option.{option_map}
use Rattle.pn_pages.specs.Naming.{FindsNode}
use Rattle.pn_pages.proofs.NamingLemmas.{found_by}
use Rattle.pn_pages.proofs.names.Names.find.Goals as goal

pub returns-in-None : goal.returns-in-None
returns-in-None c o hs least named =
    subst (λ k. FindsNode o hs c.args.id.now (option_map (λ f. f.node) k)) (sym c.first.ensures ∙ c.in-None.is) (found_by o hs c.args.id.now _ (named.entry c.args.id.now))
