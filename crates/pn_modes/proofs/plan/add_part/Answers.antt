use Rattle.std.proofs.Common.{◌≡◌, ◌⊎◌, inl, inr, refl, take}
use Rattle.std.specs.List.{Contains}
use Rattle.pn_eval.specs.Assignments.{Covers}
use Rattle.pn_modes.specs.declared.parts.Part.{Part}
use Rattle.pn_modes.proofs.PlanLemmas.{each_pushed}
use Rattle.pn_modes.proofs.plan.add_part.Goals as goal

pub returns : goal.returns
returns c =
    each_pushed (λ (part : Part). Contains c.args.parts.now.items part ⊎ ((part.term.now ≡ c.args.term.now) × Covers c.args.decls.now (take part.need c.args.vars.now) c.args.term.now))
    c.args.parts.now.items c.push.new.self.items (record { term = c.args.term; need = c.in_ok-need.need }) c.in_ok-push.ensures.items (λ part there. inl there) (inr (refl, c.in_ok-need.ensures))
