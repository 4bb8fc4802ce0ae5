use Rattle.std.proofs.Common.{rules}
use Rattle.pn_marking.specs.Modes.{IsMode}
use Rattle.pn_net_samples.proofs.ModeLemmas.{still_modes}
use Rattle.pn_marking_tests.proofs.modes.add_mode.Goals as goal

pub returns : goal.returns
returns c =
    let is : IsMode c.args.net.now c.args.mode = search rules in
    still_modes c.add.result c.args.net.now c.args.modes.now c.add.new.self c.args.mode c.args.count c.requires.modes is c.add.ensures.entries c.add.ensures.err
