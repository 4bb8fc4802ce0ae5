use Rattle.std.proofs.Common.{rules, ◌∙◌}
use Rattle.std.proofs.lemmas.Iterator.{YieldsList-from_chars}
use Rattle.std.proofs.lemmas.Iterator.Search.{all_from_yields_List}
use Rattle.pn_text.specs.Characters.{is_character}
use Rattle.pn_text.proofs.TextLemmas.{text_by_characters}
use Rattle.pn_carriers.proofs.members.is_text.Goals as goal

pub returns : goal.returns
returns c =
    all_from_yields_List is_character _ _ c.all.result c.all.ensures.ran (YieldsList-from_chars c.args.text.now c.utf8.text c.chars.ensures.rest) (λ x b q k. search rules)
    ∙ text_by_characters c.args.text.now c.utf8.text
