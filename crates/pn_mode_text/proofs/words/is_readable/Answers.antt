use Rattle.pn_mode_text.proofs.ReadableLemmas.{typed_is_readable}
use Rattle.pn_mode_text.proofs.words.is_readable.Goals as goal

pub returns : goal.returns
returns c = typed_is_readable c.args.net.now c.flat-flat.ensures.typed
