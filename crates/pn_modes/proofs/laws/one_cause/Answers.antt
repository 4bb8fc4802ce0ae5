use Rattle.pn_names.specs.Names.{widths_of}
use Rattle.pn_modes.specs.Causes.{first_with, is_infinite}
use Rattle.pn_modes.specs.Sizes.{is_large}
use Rattle.pn_modes.proofs.CauseLemmas.{few_or_many, finite_product, one_product, one_told, told_once}
use Rattle.pn_modes.proofs.laws.one_cause.Goals as goal

pub returns-clause-infinite : goal.returns-clause-infinite
returns-clause-infinite c f t v w one two = told_once f t (first_with is_infinite) v w one two

pub returns-clause-large : goal.returns-clause-large
returns-clause-large c f t v w one two = told_once f t (first_with (is_large (widths_of f.declarations))) v w one two

pub returns-clause-product : goal.returns-clause-product
returns-clause-product c = one_product

pub returns-clause-finite : goal.returns-clause-finite
returns-clause-finite c = finite_product

pub returns-clause-told : goal.returns-clause-told
returns-clause-told c = one_told

pub returns-clause-few : goal.returns-clause-few
returns-clause-few c = few_or_many
