use Rattle.std.proofs.Common.{[], ◌∷◌, ◌++◌, map, ap, sym, ◌∙◌}
use Rattle.std.proofs.lemmas.List.{map-append}
use Rattle.std.specs.String.{string_eq}
use Rattle.indexmap.specs.IndexMap.{get_by_text}
use Rattle.indexmap.proofs.CallerLemmas.{insert_entry-new}
use Rattle.pn_ids.specs.Entries.{entry_name, entry_names}
use Rattle.pn_facts.proofs.Options.{none_unless_some}
use Rattle.pn_ids.proofs.map.put_new.Goals as goal

pub returns-clause-put : goal.returns-clause-put
returns-clause-put g c fresh =
    let absent = ap (get_by_text c.args.index.now) c.in_ok-key.ensures.ok ∙ sym c.entry_at.ensures ∙ none_unless_some c.entry_at.result (sym c.is_some.ensures ∙ c.if-is_some.false) in
    ap (map entry_name) (c.in_ok-insert.ensures.entries ∙ insert_entry-new string_eq c.args.index.now c.in_ok-key.key c.args.named absent)
    ∙ map-append entry_name c.args.index.now.entries ((c.in_ok-key.key, c.args.named) ∷ [])
    ∙ ap (λ bytes. entry_names c.args.index.now ++ (bytes, c.args.named) ∷ []) c.in_ok-key.ensures.ok
