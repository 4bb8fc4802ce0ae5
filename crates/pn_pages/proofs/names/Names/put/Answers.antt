use Rattle.std.proofs.Common.{Some}
use Rattle.std.proofs.lemmas.Map.Text.{hash_map_updates_str}
use Rattle.pn_pages.proofs.names.Names.put.Goals as goal

pub returns-clause-put : goal.returns-clause-put
returns-clause-put c q = hash_map_updates_str c.args.id.now c.args.self.now.index c.insert.new.self (Some c.args.first) c.in_ok-insert.ensures.updates q
