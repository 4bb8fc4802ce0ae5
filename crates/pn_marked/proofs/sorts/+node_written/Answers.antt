use Rattle.std.proofs.Common.{rules, ◌∙◌, ap, map, sym}
use Rattle.pn_syntax.specs.declared.sort_expr.SortNode.TheVariants as written
use Rattle.pn_values.specs.declared.sort.Sort.TheViews.{the_lemmas}
use Rattle.pn_marked.specs.Ground.{sort_of_node, sort_written}
use Rattle.pn_marked.proofs.WritingLemmas.{enumeration_within, partition_within, product_names, product_written}
use Rattle.pn_marked.proofs.sorts.+node_written.Goals as goal

pub node_written-name_of-requires : goal.node_written-name_of-requires
node_written-name_of-requires t c = enumeration_within c.args.decls.now c.args.sort.now c.in-Enumeration.place c.in-Enumeration.is c.requires

pub node_written-name_of-requires-in-Partition : goal.node_written-name_of-requires-in-Partition
node_written-name_of-requires-in-Partition t c = partition_within c.args.decls.now c.args.sort.now c.in-Partition.place c.in-Partition.is c.requires

pub node_written-all_written-requires : goal.node_written-all_written-requires
node_written-all_written-requires t c = (search (rules, the_lemmas), product_names c.args.decls.now c.args.sort.now c.in-Product.parts c.as_slice.result.now c.in-Product.is c.as_slice.ensures c.requires)

pub node_written-returns-in_ok-all_written-in-Product : goal.node_written-returns-in_ok-all_written-in-Product
node_written-returns-in_ok-all_written-in-Product t c =
    ap (λ es. sort_of_node (written.Product es)) (c.in_ok-all_written-in-Product.ensures ∙ ap (map (sort_written c.args.decls.now)) c.as_slice.ensures)
    ∙ sym (ap (sort_written c.args.decls.now) c.in-Product.is ∙ product_written c.args.decls.now c.in-Product.parts)
