use Rattle.std.proofs.Common.{List, ℕ, Bor, ◌<◌, length, sym, subst}
use Rattle.pn_names.specs.Names.{variables_of}
use Rattle.pn_net.proofs.DeclaredLemmas.{are_declared}
use Rattle.pn_mode_text.specs.ModeReadings.{AreClosedTexts, AreInhabited, IsBracketText}
use Rattle.pn_mode_text.specs.ValueReadings.{HaveIds}
use Rattle.pn_mode_text.proofs.AssignedLemmas.{bracket_is, typed_at}
use Rattle.pn_mode_text.proofs.ReadingLemmas.{reads_on}
use Rattle.pn_mode_text.proofs.read_modes.values_at.Goals as goal

pub have_sorts-requires-clause-declared : goal.have_sorts-requires-clause-declared
have_sorts-requires-clause-declared c = λ v has.
    subst (λ ds. v < length (variables_of ds)) (sym c.decls-decls.ensures.declared) (are_declared c.args.net.now c.args.transition c.variables-vars.result.now c.variables-vars.ensures v has)

pub bracket-requires-clause-inhabited : goal.bracket-requires-clause-inhabited
bracket-requires-clause-inhabited c = subst AreInhabited (sym c.decls-decls.ensures.declared) c.requires.readable.inhabited

pub bracket-requires-clause-named : goal.bracket-requires-clause-named
bracket-requires-clause-named c = subst HaveIds (sym c.decls-decls.ensures.declared) c.requires.readable.named

pub bracket-requires-clause-declared : goal.bracket-requires-clause-declared
bracket-requires-clause-declared c = λ v has.
    subst (λ ds. v < length (variables_of ds)) (sym c.decls-decls.ensures.declared) (are_declared c.args.net.now c.args.transition c.variables-vars.result.now c.variables-vars.ensures v has)

pub returns-clause-values : goal.returns-clause-values
returns-clause-values c =
    let a = c.args in
    let typed = c.have_sorts.ensures.0 in
    let are = typed_at a.net.now a.transition c.decls-decls.result.now c.variables-vars.result.now typed c.decls-decls.ensures.declared c.variables-vars.ensures c.have_sorts.ensures.1 in
    reads_on {T = Bor (List ℕ)} (IsBracketText a.net.now a.transition) a.bytes.now (AreClosedTexts c.decls-decls.result.now typed) a.bytes.now (λ vs. vs) _ (λ x. x.now) c.bracket.result
    (bracket_is a.net.now a.transition c.decls-decls.result.now typed a.bytes.now c.decls-decls.ensures.declared are) (c.bracket.ensures typed c.have_sorts.ensures.1)

pub returns-clause-typed : goal.returns-clause-typed
returns-clause-typed c =
    let typed = c.have_sorts.ensures.0 in
    (typed, typed_at c.args.net.now c.args.transition c.decls-decls.result.now c.variables-vars.result.now typed c.decls-decls.ensures.declared c.variables-vars.ensures c.have_sorts.ensures.1)
