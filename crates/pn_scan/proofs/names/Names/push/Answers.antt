use Rattle.std.proofs.Common.{◌∙◌}
use Rattle.pn_scan.proofs.NameLemmas.{names_pushed}
use Rattle.pn_scan.proofs.names.Names.push.Goals as goal

pub returns : goal.returns
returns c names h =
    let t = c.args.self.now in
    names_pushed names c.args.name.now t.bytes.items c.extend_from_slice.new.self.items t.spans.items c.push.new.self.items c.len-start.result c.len-end.result h
    c.in_ok-extend_from_slice.ensures.items (c.len-start.ensures ∙ t.bytes.ok.0) (c.len-end.ensures ∙ c.extend_from_slice.new.self.ok.0) c.in_ok-push.ensures.items
