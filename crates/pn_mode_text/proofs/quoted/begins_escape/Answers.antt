use Rattle.std.proofs.Common.{inl, inr, arith}
use Rattle.std.proofs.lemmas.Bool.Decides.{nat_tests}
use Rattle.pn_mode_text.proofs.QuotedLemmas.{digit_begins, high_begins_escape, zero_begins_escape}
use Rattle.pn_mode_text.proofs.quoted.begins_escape.Goals as goal

pub returns-then-digit-eq48 : goal.returns-then-digit-eq48
returns-then-digit-eq48 c = (λ h. zero_begins_escape c.args.digit c.if-digit-eq48.true, λ b. grind (arith, nat_tests))

pub returns-then-digit-ge50 : goal.returns-then-digit-ge50
returns-then-digit-ge50 c = (
  λ h. high_begins_escape c.args.digit c.if-digit-ge50.true (grind (arith, nat_tests, h)),
  λ b. elim (digit_begins c.args.digit b) [ inl e ↦ absurd (c.if-digit-eq48.false e) | inr w ↦ grind (arith, nat_tests) ],
)
