use Rattle.std.proofs.Common.{◌≡◌, None, take, IfSome, sym, subst}
use Rattle.pn_tree.specs.Building.{innermost}
use Rattle.pn_tree.specs.Elements.{attr_value}
use Rattle.pn_spelling.specs.WriteNets.{root_attrs}
use Rattle.pn_writer.proofs.PrefixLemmas.{prefix_valid, prefix_new}
use Rattle.pn_writer.proofs.nets.begin_root.Goals as goal

pub attr-requires-clause-name : goal.attr-requires-clause-name
attr-requires-clause-name c = rw c.as_str.ensures (prefix_valid c.args.prefixes.now c.loop-prefix.prefix-index c.prefix-item.result c.requires.attrs c.loop-prefix-test.true c.prefix-item.is).name

pub attr-requires-clause-value : goal.attr-requires-clause-value
attr-requires-clause-value c = rw c.as_str-in-loop-prefix.ensures (prefix_valid c.args.prefixes.now c.loop-prefix.prefix-index c.prefix-item.result c.requires.attrs c.loop-prefix-test.true c.prefix-item.is).value

pub attr-requires-clause-is_new : goal.attr-requires-clause-is_new
attr-requires-clause-is_new c =
    let valid = prefix_valid c.args.prefixes.now c.loop-prefix.prefix-index c.prefix-item.result c.requires.attrs c.loop-prefix-test.true c.prefix-item.is in
    subst (λ b. IfSome (innermost b) (λ e. attr_value c.as_str.result.now e.attrs ≡ None)) (sym c.loop-prefix.invariant)
    (subst (λ n. attr_value n (root_attrs (take c.loop-prefix.prefix-index c.args.prefixes.now)) ≡ None) (sym c.as_str.ensures) (prefix_new c.args.prefixes.now c.loop-prefix.prefix-index c.prefix-item.result valid))
