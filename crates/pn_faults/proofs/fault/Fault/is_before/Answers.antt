use Rattle.pn_faults.proofs.fault.Fault.is_before.Goals as goal

pub returns : goal.returns
returns c = c.precedes.ensures c.args.self.now.detail
