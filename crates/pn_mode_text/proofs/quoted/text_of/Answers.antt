use Rattle.pn_text.proofs.TextLemmas.{is_text-utf8}
use Rattle.pn_mode_text.proofs.quoted.text_of.Goals as goal

pub from_utf8_unchecked-requires : goal.from_utf8_unchecked-requires
from_utf8_unchecked-requires c = is_text-utf8 c.args.bytes.items c.requires
