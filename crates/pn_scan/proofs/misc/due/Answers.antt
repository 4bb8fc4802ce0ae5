use Rattle.std.proofs.Common.{◌≡◌, ◌+◌, [], drop, length, Some, sym, ap, subst, ◌∙◌, arith}
use Rattle.std.proofs.lemmas.Bool.Decides.{nat_tests}
use Rattle.pn_scan.specs.State.{due}
use Rattle.pn_scan.specs.NextState.{next_due}
use Rattle.pn_scan.specs.Contexts.{bytes_of, then_of}
use Rattle.pn_scan.proofs.NextStateLemmas.{due_next, rest_due}
use Rattle.pn_scan.proofs.misc.due.Goals as goal

pub returns-clause-state : goal.returns-clause-state
returns-clause-state c p =
    let rest = c.in_ok-first.rest.now in
    let left = sym c.left.ensures.left ∙ c.in_ok-first.ensures.cases.0 in
    let some : rest ≡ [] → ⊥ = λ none.
    let size : length rest ≡ 0 = ap length none in
    let test = c.is_empty.ensures in
    let other = c.if-is_empty.false in
    grind (arith, nat_tests)
    in
    let same : c.in_ok-first.first.now ≡ c.args.byte = let other = c.if-first-byte.false in grind (arith, nat_tests) in
    sym
    (subst (λ x. next_due (drop c.args.read (bytes_of c.args.word)) (then_of p c.args.then) x ≡ Some (due (drop (c.args.read + 1) (bytes_of c.args.word)) (then_of p c.args.then))) same
    (due_next c.args.read (bytes_of c.args.word) c.in_ok-first.first.now rest (then_of p c.args.then) left some))

pub returns-clause-fits : goal.returns-clause-fits
returns-clause-fits c p fits =
    let rest = c.in_ok-first.rest.now in
    let left = sym c.left.ensures.left ∙ c.in_ok-first.ensures.cases.0 in (
      λ none.
          let size : length rest ≡ 0 = ap length (sym (rest_due c.args.read (bytes_of c.args.word) c.in_ok-first.first.now rest left) ∙ none) in
          let test = c.is_empty.ensures in
          let other = c.if-is_empty.false in
          grind (arith, nat_tests),
      fits,
    )
