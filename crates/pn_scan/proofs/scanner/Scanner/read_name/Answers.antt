use Rattle.std.proofs.Common.{◌-◌, refl, ap}
use Rattle.pn_outside.specs.declared.limits.TheConstants.{BYTES}
use Rattle.pn_utf8.specs.Open.{open_bytes}
use Rattle.pn_scan.proofs.OrdinaryLemmas.{name_text, name_read}
use Rattle.pn_scan.proofs.scanner.Scanner.read_name.Goals as goal

pub name_front-size-requires-clause-text : goal.name_front-size-requires-clause-text
name_front-size-requires-clause-text c =
    let s = c.args.self.now in name_text s.tree s.kept s.context s.opened s.count c.in-EndName.read c.requires.0 c.requires.1 (ap open_bytes c.in-Nothing.is) c.in-EndName.is

pub returns-clause-read : goal.returns-clause-read
returns-clause-read c b r =
    let s = c.args.self.now in
    name_read s.tree s.kept s.context s.opened s.count (BYTES - s.count) c.in-EndName.read c.name_front-size.result b c.args.piece.now c.front_of.result.now r (ap open_bytes c.in-Nothing.is)
    c.in-EndName.is refl c.front_of.ensures c.name_front-size.ensures.within c.name_front-size.ensures.same c.name_front-size.ensures.whole
