use Rattle.std.proofs.Common.{◌∙◌, [], ◌∷◌, ap, pos, subst, sym}
use Rattle.pn_carriers.specs.Members.{IsMember}
use Rattle.pn_facts.proofs.Results.{if_ok}
use Rattle.pn_names.specs.Names.{widths_of}
use Rattle.pn_operators.specs.declared.op.Op.TheVariants as op
use Rattle.pn_resolve.specs.Naming.{NamesDeclared}
use Rattle.pn_syntax.specs.declared.term.NumberSort.TheVariants as numbers
use Rattle.pn_syntax.specs.declared.term.TermNode.TheVariants as nodes
use Rattle.pn_marked.specs.Ground.{applied, ground_term, term_of_node}
use Rattle.pn_marked.proofs.MarkedLemmas.{sort_of_place_declared, sort_of_place_once, token_member}
use Rattle.pn_marked.proofs.marked.term_of_tokens.Goals as goal

pub term_of-requires-clause-declared : goal.term_of-requires-clause-declared
term_of-requires-clause-declared c =
    subst (λ items. NamesDeclared items c.place_sort.result.now) (sym c.decls.ensures.declared) (sort_of_place_declared c.args.net.now c.args.token.now.place c.place_sort.result.now c.place_sort.ensures)

pub term_of-requires-clause-member : goal.term_of-requires-clause-member
term_of-requires-clause-member c =
    subst (λ items. IsMember (widths_of items) c.args.token.now.value c.place_sort.result.now) (sym c.decls.ensures.declared) (token_member c.args.net.now c.args.token.now c.place_sort.result.now c.requires.token c.place_sort.ensures)

pub returns : goal.returns
returns c =
    if_ok _ _ c.numberof.result
    (λ e is sort of_place.
    is ∙ ap (λ v. applied op.NumberOf (term_of_node (nodes.Number (pos c.args.count) numbers.Positive) ∷ v ∷ []))
    (c.in_ok-value.ensures ∙ (λ i. ground_term (c.decls.ensures.declared i) (sort_of_place_once c.args.net.now c.args.token.now.place c.place_sort.result.now sort c.place_sort.ensures of_place i) c.args.token.now.value))) c.numberof.ensures
