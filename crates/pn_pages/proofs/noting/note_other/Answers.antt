use Rattle.std.proofs.Common.{refl}
use Rattle.pn_net.specs.Ids.{holder, other}
use Rattle.pn_net.proofs.RowLemmas.{on_ok_then}
use Rattle.pn_pages.proofs.noting.note_other.Goals as goal

pub returns : goal.returns
returns c = on_ok_then c.note.result _ _ (λ noted o hs named. noted o hs (holder c.args.id.now c.args.at other) refl refl refl named) c.note.ensures
