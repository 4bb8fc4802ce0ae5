use Rattle.std.proofs.Common.{[], ap, sym, ◌∙◌, ◌++◌}
use Rattle.std.specs.Option.{option_map}
use Rattle.pn_lines.proofs.TextLemmas.{fronts_tell}
use Rattle.pn_utf8.specs.Characters.{open_behind}
use Rattle.pn_utf8.specs.Open.{open_bytes}
use Rattle.pn_mode_text.proofs.QuotedLemmas.{last_escape, none_is_some}
use Rattle.pn_mode_text.proofs.quoted.last_digit.Goals as goal

pub returns-in-None : goal.returns-in-None
returns-in-None c = λ more h.
    let e = last_escape c.args.high c.args.byte more h in
    let same = (fronts_tell e.0 c.in-Some.escaped [] [] (ap (λ l. l ++ []) (e.2 ∙ sym c.in-Some.ensures.byte))).0 in
    none_is_some e.1 (sym (sym c.next.ensures ∙ ap (option_map open_bytes) c.in-None.is) ∙ ap (open_behind []) (sym same) ∙ e.3)
