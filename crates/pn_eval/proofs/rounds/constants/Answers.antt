use Rattle.std.proofs.Common.{refl, subst}
use Rattle.pn_terms.specs.Sorts.{HasSort}
use Rattle.pn_terms.specs.declared.term_sort.TermSort.TheVariants as terms
use Rattle.pn_terms.proofs.WalkLemmas.{if_ok_more}
use Rattle.pn_eval.proofs.RoundLemmas.{round_basis}
use Rattle.pn_eval.proofs.rounds.constants.Goals as goal

pub size-requires : goal.size-requires
size-requires c =
    let has = subst (HasSort c.args.decls.now c.args.term.now) c.in-Basis.is c.in_ok-sort.ensures in
    round_basis c.args.decls.now c.args.term.now c.in-Basis.sort c.requires.round has

pub returns : goal.returns
returns c =
    let has = subst (HasSort c.args.decls.now c.args.term.now) c.in-Basis.is c.in_ok-sort.ensures in
    if_ok_more c.size.result _ _ (λ n is. (terms.Basis c.in-Basis.sort, has, (c.in-Basis.sort, refl, is))) c.size.ensures
