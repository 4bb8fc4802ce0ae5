use Rattle.std.proofs.Common.{None, Some, ap, refl, subst}
use Rattle.pn_faults.specs.Standing.{IsLeastOf}
use Rattle.pn_faults.proofs.WalkLemmas.{least_alone}
use Rattle.pn_checks.proofs.SortedLemmas.{typed_labels}
use Rattle.pn_checks.proofs.TypingLemmas.{LabelsStand, are_counted, both_ends, is_faultless, marking_told, net_labels, sound_labels}
use Rattle.pn_checks.proofs.typing.typing.Goals as goal

pub keep_labels-requires-clause-faultless : goal.keep_labels-requires-clause-faultless
keep_labels-requires-clause-faultless c = is_faultless c.requires.linked.0 c.args.flat.now c.requires.linked.1 c.args.decls.now c.requires.declared c.requires.sound

pub keep_labels-requires-clause-sound : goal.keep_labels-requires-clause-sound
keep_labels-requires-clause-sound c = sound_labels c.requires.linked.0 c.args.flat.now c.requires.linked.1 c.args.decls.now c.requires.declared c.requires.sound

pub keep_labels-requires-clause-counted : goal.keep_labels-requires-clause-counted
keep_labels-requires-clause-counted c = are_counted c.requires.linked.0 c.args.flat.now c.requires.linked.1 c.args.decls.now c.requires.declared c.requires.sound

pub keep_labels-requires-clause-wired : goal.keep_labels-requires-clause-wired
keep_labels-requires-clause-wired c a there = (c.requires.linked.1.wired a there).place

pub returns-in-Ok-clause-fault : goal.returns-in-Ok-clause-fault
returns-in-Ok-clause-fault c f is n flat sound =
    let items = c.args.decls.now in
    let g = c.args.flat.now in
    let Least = IsLeastOf (LabelsStand items g.places g.transitions g.arcs) in
    net_labels n g items c.requires.declared flat sound (both_ends c.requires.linked.0 g c.requires.linked.1 items c.requires.declared c.requires.sound) (Some f)
    (subst Least (c.told.ensures.fault f is) (least_alone (LabelsStand items g.places g.transitions g.arcs) c.keep_labels.new.least c.in-Ok.ensures.least))

pub returns-in-Ok-clause-clean : goal.returns-in-Ok-clause-clean
returns-in-Ok-clause-clean c ok n flat sound =
    let items = c.args.decls.now in
    let g = c.args.flat.now in
    let Least = IsLeastOf (LabelsStand items g.places g.transitions g.arcs) in
    net_labels n g items c.requires.declared flat sound (both_ends c.requires.linked.0 g c.requires.linked.1 items c.requires.declared c.requires.sound) None
    (subst Least (c.told.ensures.clean ok) (least_alone (LabelsStand items g.places g.transitions g.arcs) c.keep_labels.new.least c.in-Ok.ensures.least))

pub returns-in-Ok-clause-typed : goal.returns-in-Ok-clause-typed
returns-in-Ok-clause-typed c ok =
    typed_labels c.args.decls.now c.args.flat.now c.requires.declared (sound_labels c.requires.linked.0 c.args.flat.now c.requires.linked.1 c.args.decls.now c.requires.declared c.requires.sound)
    (c.in-Ok.ensures.sorted (c.told.ensures.clean ok))
