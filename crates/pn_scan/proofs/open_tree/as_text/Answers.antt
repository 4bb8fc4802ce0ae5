use Rattle.pn_text.proofs.TextLemmas.{is_text-utf8}
use Rattle.pn_scan.proofs.open_tree.as_text.Goals as goal

pub from_utf8_unchecked-requires : goal.from_utf8_unchecked-requires
from_utf8_unchecked-requires c = is_text-utf8 c.args.bytes.now c.requires
