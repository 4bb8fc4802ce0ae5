use Rattle.pn_mode_text.proofs.QuotedLemmas.{other_stops, some_begun}
use Rattle.pn_mode_text.proofs.quoted.other.Goals as goal

pub returns-in-One : goal.returns-in-One
returns-in-One c =
    let some = some_begun c.args.begun c.in-One.is in
    other_stops c.args.begun c.args.byte c.requires.begun c.requires.other (λ e is. some e) (λ e is. some e)
