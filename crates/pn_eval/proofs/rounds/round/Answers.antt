use Rattle.std.proofs.Common.{subst}
use Rattle.pn_terms.specs.Sorts.{HasSort}
use Rattle.pn_terms.specs.declared.term_sort.TermSort.TheVariants as terms
use Rattle.pn_terms.proofs.WalkLemmas.{if_ok_more, next_in}
use Rattle.pn_eval.proofs.RoundLemmas.{predecessor_first, predecessor_round, successor_first, successor_round}
use Rattle.pn_eval.proofs.rounds.round.Goals as goal

pub constants-requires-clause-sound : goal.constants-requires-clause-sound
constants-requires-clause-sound c =
    let first = successor_first c.args.decls.now c.args.op c.args.args.now c.in-Successor.is c.requires.fit in
    c.requires.sound c.index-args-0.result (next_in c.args.args.now 0 c.index-args-0.result first.some c.index-args-0.is)

pub constants-requires-clause-round : goal.constants-requires-clause-round
constants-requires-clause-round c =
    let first = successor_first c.args.decls.now c.args.op c.args.args.now c.in-Successor.is c.requires.fit in
    (first.sort, subst (λ x. HasSort c.args.decls.now x (terms.Basis first.sort)) (first.is_first c.index-args-0.result c.index-args-0.is) first.has, first.goes)

pub returns-in-Successor : goal.returns-in-Successor
returns-in-Successor c = if_ok_more c.constants.result _ _ (λ round goes. successor_round c.args.decls.now c.args.op c.args.args.now c.index-args-0.result round c.in-Successor.is c.requires.fit c.index-args-0.is goes) c.constants.ensures

pub constants-requires-in-Predecessor-clause-sound : goal.constants-requires-in-Predecessor-clause-sound
constants-requires-in-Predecessor-clause-sound c =
    let first = predecessor_first c.args.decls.now c.args.op c.args.args.now c.in-Predecessor.is c.requires.fit in
    c.requires.sound c.index-args-0-in-Predecessor.result (next_in c.args.args.now 0 c.index-args-0-in-Predecessor.result first.some c.index-args-0-in-Predecessor.is)

pub constants-requires-in-Predecessor-clause-round : goal.constants-requires-in-Predecessor-clause-round
constants-requires-in-Predecessor-clause-round c =
    let first = predecessor_first c.args.decls.now c.args.op c.args.args.now c.in-Predecessor.is c.requires.fit in
    (first.sort, subst (λ x. HasSort c.args.decls.now x (terms.Basis first.sort)) (first.is_first c.index-args-0-in-Predecessor.result c.index-args-0-in-Predecessor.is) first.has, first.goes)

pub returns-in-Predecessor : goal.returns-in-Predecessor
returns-in-Predecessor c =
    if_ok_more c.constants-in-Predecessor.result _ _ (λ round goes. predecessor_round c.args.decls.now c.args.op c.args.args.now c.index-args-0-in-Predecessor.result round c.in-Predecessor.is c.requires.fit c.index-args-0-in-Predecessor.is goes) c.constants-in-Predecessor.ensures
