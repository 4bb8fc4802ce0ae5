use Rattle.std.proofs.Common.{Err, IfOk, Ok, Result, arith, false, option_copied, sym, true, subst, ◌≡◌}
use Rattle.pn_marking.specs.Modes.{IsAssigned}
use Rattle.pn_modes.specs.Parts.{IsWanted}
use Rattle.pn_modes.proofs.CutLemmas.{whole_cut}
use Rattle.pn_modes.proofs.VariableLemmas.{as_many, whole_assigns}
use Rattle.pn_modes.proofs.fronts.FrontsPruning.goes_on.Goals as goal

ok_both : {A E : Type 0} (r : Result A E) (P Q R : A → Type 0) → ((x : A) → P x → Q x → R x) → IfOk r P → IfOk r Q → IfOk r R
ok_both (Ok x) P Q R to p q = to x p q
ok_both (Err e) P Q R to p q = tt

pub returns-then-front-self : goal.returns-then-front-self
returns-then-front-self c =
    let x = c.args.self.now in
    let many = as_many x.net.now.declarations x.variables.now x.sorts c.requires.sound.0.have.are_sorts in
    let few = c.if-front-self.true in
    record {
      cut = λ no. absurd (let bad : true ≡ false = no in cc);
      whole = λ on size. absurd (omega (arith, many, few, size));
    }

pub is_wanted-requires : goal.is_wanted-requires
is_wanted-requires c =
    let x = c.args.self.now in
    let long = c.if-front-self.false in
    let plan = c.requires.sound.0 in
    let whole = whole_assigns x.net.now.declarations x.variables.now x.sorts c.args.front.now plan.have.variables.ascending plan.have.are_sorts c.requires.front (omega (arith, long)) in
    (x.variables.now, subst (λ m. IsAssigned x.net.now m x.variables.now) (sym c.in_ok-mode.ensures) (record { within = plan.within; variables = plan.have.variables; assignment = whole.1 }))

pub returns : goal.returns
returns c =
    let x = c.args.self.now in
    let long = c.if-front-self.false in
    let plan = c.requires.sound.0 in
    let whole = whole_assigns x.net.now.declarations x.variables.now x.sorts c.args.front.now plan.have.variables.ascending plan.have.are_sorts c.requires.front (omega (arith, long)) in
    ok_both c.is_wanted.result _ _ _
    (λ b to from. record {
      cut = λ no. whole_cut x.net.now x.transition x.variables.now plan.have.variables (option_copied x.marking) c.args.front.now whole.0
          (λ wanted. from no (subst (IsWanted x.net.now (option_copied x.marking)) (sym c.in_ok-mode.ensures) wanted));
      whole = λ on size. subst (IsWanted x.net.now (option_copied x.marking)) c.in_ok-mode.ensures (to on);
    })
    c.is_wanted.ensures.yes c.is_wanted.ensures.no
