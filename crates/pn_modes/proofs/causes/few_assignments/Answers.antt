use Rattle.std.proofs.Common.{◌≡◌, None, sym, ap, ◌∙◌}
use Rattle.pn_facts.proofs.Results.{if_ok}
use Rattle.pn_names.specs.Names.{widths_of}
use Rattle.pn_modes.specs.Causes.{first_with, is_infinite}
use Rattle.pn_modes.proofs.CauseLemmas.{told_few, told_many, told_size}
use Rattle.pn_modes.proofs.causes.few_assignments.Goals as goal

pub within_limit-requires : goal.within_limit-requires
within_limit-requires c =
    let none : first_with is_infinite c.args.vars.now c.args.sorts ≡ None = ap (first_with is_infinite c.args.vars.now) (sym c.as_slice.ensures) ∙ sym c.first_infinite.ensures ∙ c.in_default.is in
    told_size (widths_of c.args.decls.now) c.args.vars.now c.args.sorts c.assignments.result c.requires none c.assignments.ensures

pub returns-clause-few : goal.returns-clause-few
returns-clause-few c =
    let none : first_with is_infinite c.args.vars.now c.args.sorts ≡ None = ap (first_with is_infinite c.args.vars.now) (sym c.as_slice.ensures) ∙ sym c.first_infinite.ensures ∙ c.in_default.is in
    if_ok _ _ c.within_limit.result (λ n is. (told_few (widths_of c.args.decls.now) c.args.vars.now c.args.sorts c.assignments.result n c.requires none c.assignments.ensures is.0 is.1, is.1)) c.within_limit.ensures.few

pub returns-clause-infinite : goal.returns-clause-infinite
returns-clause-infinite c v bad = absurd (c.within_limit.ensures.infinite v bad)

pub returns-clause-many : goal.returns-clause-many
returns-clause-many c told is =
    let none : first_with is_infinite c.args.vars.now c.args.sorts ≡ None = ap (first_with is_infinite c.args.vars.now) (sym c.as_slice.ensures) ∙ sym c.first_infinite.ensures ∙ c.in_default.is in
    let many = c.within_limit.ensures.many told is in
    told_many (widths_of c.args.decls.now) c.args.vars.now c.args.sorts c.assignments.result told c.requires none c.assignments.ensures many.0 many.1
