use Rattle.std.proofs.Common.{true, ap, cond, ◌∙◌}
use Rattle.std.specs.Str.{bytes_eq}
use Rattle.std.specs.String.{string_bytes}
use Rattle.std.proofs.lemmas.Map.Text.{hash_set_updates_text}
use Rattle.indexmap.specs.IndexSet.{contains_text}
use Rattle.pn_scan.proofs.names.put_name.Goals as goal

pub returns : goal.returns
returns c q =
    let key = c.in_ok-from_str.field-0 in
    hash_set_updates_text (string_bytes key) c.args.names.now c.insert.new.self true c.in_ok-insert.ensures.updates q
    ∙ ap (λ b. cond (bytes_eq b q) true (contains_text c.args.names.now q)) c.in_ok-from_str.ensures.ok
