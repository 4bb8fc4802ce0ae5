use Rattle.std.proofs.Common.{None, sym, ap, ◌∙◌}
use Rattle.pn_shape.specs.declared.tag.Tag.TheVariants.{Operator}
use Rattle.std.specs.Option.{option_map}
use Rattle.pn_shape.proofs.SpotLemmas.{term_tag, leaf_tag}
use Rattle.pn_shape.proofs.search.tag_of_term.Goals as goal

pub returns-in-Some : goal.returns-in-Some
returns-in-Some c = leaf_tag c.args.kind c.args.name.now c.in-Some.tag (sym c.in-Some.is ∙ c.find_named.ensures)

pub returns-in-Some-find_op : goal.returns-in-Some-find_op
returns-in-Some-find_op c =
    ap (option_map Operator) (sym c.in-Some-find_op.is) ∙ term_tag c.args.kind c.args.name.now None c.find_op.result (sym c.in-None.is ∙ c.find_named.ensures) c.find_op.ensures

pub returns-in-None-find_op : goal.returns-in-None-find_op
returns-in-None-find_op c =
    ap (option_map Operator) (sym c.in-None-find_op.is) ∙ term_tag c.args.kind c.args.name.now None c.find_op.result (sym c.in-None.is ∙ c.find_named.ensures) c.find_op.ensures
