use Rattle.std.proofs.Common.{◌≡◌, length, rules, sym, ap, ◌∙◌}
use Rattle.std.specs.Str.{chars}
use Rattle.std.proofs.lemmas.Str.{chars_from_encodes}
use Rattle.pn_text.proofs.TextLemmas.{chars_are}
use Rattle.pn_operations.proofs.texts.characters.Goals as goal

pub returns : goal.returns
returns c =
    let same : c.count.result ≡ length (chars c.args.text.now) = search (rules, chars_from_encodes) in
    same ∙ sym (ap length (chars_are c.args.text.now))
