use Rattle.std.proofs.Common.{◌-◌, refl, ap}
use Rattle.pn_outside.specs.declared.limits.TheConstants.{BYTES}
use Rattle.pn_utf8.specs.Open.{open_bytes}
use Rattle.pn_scan.specs.Nestings.{nesting_of}
use Rattle.pn_scan.proofs.OrdinaryLemmas.{ordinary_read}
use Rattle.pn_scan.proofs.scanner.Scanner.read_ordinary.Goals as goal

pub returns-clause-read : goal.returns-clause-read
returns-clause-read c b r =
    let s = c.args.self.now in
    let p = nesting_of s.tree in
    ordinary_read s.tree s.kept c.begin_run.new.kept c.take_ordinary.new.kept s.context c.begin_run.new.context s.opened s.count (BYTES - s.count) c.in_ok-ordinary.ordinary b c.args.piece.now c.front_of-front.result.now r
    (ap open_bytes c.in-Nothing.is) c.begin_run.ensures.state (c.begin_run.ensures.fits r.fits) refl c.front_of-front.ensures c.in_ok-ordinary.ensures.within c.in_ok-ordinary.ensures.slice (c.in_ok-ordinary.ensures.state p)
