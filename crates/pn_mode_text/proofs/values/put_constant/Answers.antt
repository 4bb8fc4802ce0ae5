use Rattle.pn_mode_text.proofs.TextLemmas.{constant_declared}
use Rattle.pn_mode_text.proofs.values.put_constant.Goals as goal

pub put_id-requires : goal.put_id-requires
put_id-requires g c = constant_declared c.args.decls.now c.args.place c.in-Const.index c.args.value.now c.in-Const.is c.requires
