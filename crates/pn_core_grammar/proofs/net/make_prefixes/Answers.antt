use Rattle.std.proofs.Common.{◌∙◌, ap, sym}
use Rattle.pn_tree.specs.Views.{element_of}
use Rattle.pn_tree.specs.declared.element.Attr.{Attr}
use Rattle.pn_core_grammar.specs.Prefixes.{prefix_next}
use Rattle.pn_core_grammar.proofs.PrefixLemmas.{prefixes_next}
use Rattle.pn_core_grammar.proofs.net.make_prefixes.Goals as goal

pub loop-i-preserved : goal.loop-i-preserved
loop-i-preserved c =
    let a : Attr = record { name = c.attr.result.0.now; value = c.attr.result.1.now } in
    c.in_ok-add_prefix.ensures ∙ ap (prefix_next a) c.loop-i.invariant
    ∙ sym (prefixes_next (element_of c.args.root).attrs c.loop-i.i a c.attr.ensures)
