use Rattle.std.proofs.Common.{sym, subst}
use Rattle.pn_mode_text.specs.Quoted.{ComesOf}
use Rattle.pn_mode_text.proofs.quoted.behind.Goals as goal

pub returns-then-is_plain : goal.returns-then-is_plain
returns-then-is_plain c = subst (λ s. ComesOf s c.args.byte c.plain.result) (sym c.in-Text.is) c.plain.ensures

pub returns-else-is_plain : goal.returns-else-is_plain
returns-else-is_plain c = subst (λ s. ComesOf s c.args.byte c.other.result) (sym c.in-Text.is) c.other.ensures

pub returns-in-Percent : goal.returns-in-Percent
returns-in-Percent c = subst (λ s. ComesOf s c.args.byte c.first_digit.result) (sym c.in-Percent.is) c.first_digit.ensures

pub returns-in-Digit : goal.returns-in-Digit
returns-in-Digit c = subst (λ s. ComesOf s c.args.byte c.last_digit.result) (sym c.in-Digit.is) c.last_digit.ensures
