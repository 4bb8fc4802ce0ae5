use Rattle.std.proofs.Common.{◌+◌, take, sym, subst}
use Rattle.pn_tree.specs.Views.{element_of}
use Rattle.pn_spelling.specs.Parts.{elements_among}
use Rattle.pn_core_grammar.specs.Inside.{AreFoundAmong}
use Rattle.pn_core_grammar.proofs.InsideLemmas.{inside_next}
use Rattle.pn_core_grammar.proofs.search.look_into.Goals as goal

pub loop-i-preserved : goal.loop-i-preserved
loop-i-preserved c =
    let e = element_of c.args.view in
    subst (AreFoundAmong (elements_among (take (c.loop-i.i + 1) e.kids))) (sym c.in_ok-note_kid.ensures) (inside_next e c.loop-i.i c.kid.result c.loop-i.inside c.kid.ensures.kid c.loop-i.invariant)
