use Rattle.std.proofs.Common.{◌∙◌}
use Rattle.pn_scan.proofs.NameLemmas.{names_length}
use Rattle.pn_scan.proofs.names.Names.len.Goals as goal

pub returns : goal.returns
returns c names h = let t = c.args.self.now in c.len.ensures ∙ t.spans.ok.0 ∙ names_length names t.bytes.items t.spans.items h
