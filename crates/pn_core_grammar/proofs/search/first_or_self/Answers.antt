use Rattle.pn_tree.specs.Views.{element_of}
use Rattle.pn_core_grammar.proofs.InsideLemmas.{first_behind, first_is}
use Rattle.pn_core_grammar.proofs.search.first_or_self.Goals as goal

pub returns-in-Some : goal.returns-in-Some
returns-in-Some c = first_is (element_of c.args.view) c.loop-i.i c.kid.result c.args.name.now c.in-Some.inner c.kid.ensures.kid c.loop-i.invariant c.in-Some.ensures

pub loop-i-preserved : goal.loop-i-preserved
loop-i-preserved c = first_behind (element_of c.args.view) c.loop-i.i c.kid.result c.args.name.now c.kid.ensures.kid c.loop-i.invariant c.in_default.ensures
