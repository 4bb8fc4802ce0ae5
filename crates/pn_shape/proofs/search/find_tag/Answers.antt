use Rattle.pn_shape.proofs.SpotLemmas.{body_tag, basis_tag}
use Rattle.pn_shape.proofs.search.find_tag.Goals as goal
use Rattle.std.proofs.Common.{sym, ap, ◌∙◌}
use Rattle.pn_shape.specs.Spots.{tag_of}

pub returns-in-Body : goal.returns-in-Body
returns-in-Body c = body_tag c.args.kind c.args.name.now c.find_in_two.result c.find_in_two.ensures ∙ ap (tag_of c.args.kind c.args.name.now) (sym c.in-Body.is)

pub returns-in-Basis : goal.returns-in-Basis
returns-in-Basis c = basis_tag c.args.kind c.args.name.now c.find_in_two-in-Basis.result c.find_in_two-in-Basis.ensures ∙ ap (tag_of c.args.kind c.args.name.now) (sym c.in-Basis.is)
