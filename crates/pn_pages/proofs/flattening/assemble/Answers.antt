use Rattle.std.proofs.Common.{ap, arith, length}
use Rattle.pn_pages.proofs.JudgingLemmas.{flat_arcs_length}
use Rattle.pn_pages.proofs.flattening.assemble.Goals as goal

pub returns-clause-numbers : goal.returns-clause-numbers
returns-clause-numbers c =
    let are = c.in_ok-title.ensures.numbers in
    record {
      places = are.places;
      transitions = are.transitions;
      arcs = omega (arith, are.arcs, ap length c.in_ok-arcs.ensures, flat_arcs_length c.as_slice.result.now c.as_slice-2.result.now c.args.objects.arcs c.args.wires.now c.requires.wires);
    }
