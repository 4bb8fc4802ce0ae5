use Rattle.std.proofs.Common.{ap, length, sym, ◌∙◌, arith}
use Rattle.std.specs.Option.{option_map}
use Rattle.std.proofs.lemmas.Option.{slice_get_within}
use Rattle.pn_names.specs.Names.{id_of}
use Rattle.pn_names.proofs.DeclaredLemmas.{as_many_places, variable_found}
use Rattle.pn_names.proofs.items.variable_id.Goals as goal

pub bounds-places-variable : goal.bounds-places-variable
bounds-places-variable c = omega (arith, ap length c.requires.places, as_many_places c.args.items.now, c.requires.within)

pub declaration_id-requires : goal.declaration_id-requires
declaration_id-requires c =
    let found = variable_found c.args.items.now c.args.places.now c.args.variable c.requires.places c.requires.within in
    slice_get_within c.args.items.now _ found.0 found.1

pub returns : goal.returns
returns c =
    let found = variable_found c.args.items.now c.args.places.now c.args.variable c.requires.places c.requires.within in
    found.2 ∙ sym (ap (option_map id_of) found.1) ∙ c.declaration_id.ensures
