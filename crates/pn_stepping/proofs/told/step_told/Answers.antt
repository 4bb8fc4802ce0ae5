use Rattle.std.proofs.Common.{map, string_bytes, sym, subst}
use Rattle.pn_stepping.proofs.RefusalLemmas.{tellable}
use Rattle.pn_stepping.specs.Refusing.{IsTellable, IsToldBy}
use Rattle.pn_stepping.proofs.told.step_told.Goals as goal

pub tell_fault-requires : goal.tell_fault-requires
tell_fault-requires c =
    subst (λ f. IsTellable f c.in-Err.fault) (sym c.typed.ensures)
    (tellable c.args.net.now c.requires.initial (map string_bytes c.args.words.now) c.in-Err.fault c.in-Err.ensures.unfired)

pub returns-in-Err-clause-refused : goal.returns-in-Err-clause-refused
returns-in-Err-clause-refused c =
    subst (λ f. IsToldBy f c.in-Err.fault c.tell_fault.result) c.typed.ensures c.tell_fault.ensures (map string_bytes c.args.words.now) c.in-Err.ensures.unfired
