use Rattle.std.proofs.Common.{sym, ap, ◌∙◌}
use Rattle.pn_shape.specs.Spots.{has_slot}
use Rattle.pn_shape.proofs.SpotLemmas.{has_terms, body_open}
use Rattle.pn_shape.proofs.search.is_open.Goals as goal

pub returns-in-Term : goal.returns-in-Term
unfolding has_slot
returns-in-Term c = c.has.ensures ∙ (has_terms c.args.kind ∙ ap (has_slot c.args.kind) (sym c.in-Term.is))

pub returns-else-have_any : goal.returns-else-have_any
returns-else-have_any c =
    body_open c.args.kind c.have_any-in-Body.result c.have_any-else-have_any.result c.have_any-in-Body.ensures c.if-have_any.false c.have_any-else-have_any.ensures
    ∙ ap (has_slot c.args.kind) (sym c.in-Body.is)
