use Rattle.std.proofs.Common.{sym, ap, ◌∙◌, ◌++◌, ◌≡◌}
use Rattle.std.specs.Char.{encode_utf8}
use Rattle.pn_text.specs.Characters.{utf8_of}
use Rattle.pn_scan.proofs.NextStateLemmas.{utf8_is}
use Rattle.pn_scan.proofs.reference.character.Goals as goal

pub returns : goal.returns
returns c =
    let is : c.in-Some.character ≡ c.args.number = c.in-Some.ensures.value.1 in
    c.in_ok-push-in-Some.ensures.bytes ∙ ap (λ l. l ++ encode_utf8 c.in-Some.character) c.new-text.ensures.bytes ∙ sym (utf8_is c.in-Some.character) ∙ ap utf8_of is
