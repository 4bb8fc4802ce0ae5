use Rattle.std.proofs.Common.{ap, sym, ◌∙◌}
use Rattle.std.specs.Option.{option_map}
use Rattle.pn_utf8.specs.Open.{open_bytes}
use Rattle.pn_mode_text.proofs.QuotedLemmas.{plain_stops}
use Rattle.pn_mode_text.proofs.quoted.plain.Goals as goal

pub returns-in-None : goal.returns-in-None
returns-in-None c = plain_stops c.args.begun c.args.byte c.requires.begun c.requires.plain (sym c.next.ensures ∙ ap (option_map open_bytes) c.in-None.is)
