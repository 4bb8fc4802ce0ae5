-- The orders of tokens and of modes: by place or transition, then by value or values.
use Rattle.std.specs.Cmp.{IsTotalOrder}
use Rattle.std.specs.Cmp.Lexicographic.{slice_cmp}
use Rattle.std.specs.Ordering.{nat_cmp, on, then_cmp}
use Rattle.std.specs.declared.cmp.Ordering.{Ordering}
use Rattle.std.proofs.lemmas.Cmp.{lists_total, nat_cmp_total, on_total, then_total}
use Rattle.pn_values.specs.Order.{value_cmp}
use Rattle.pn_values.specs.OrderLaws.{values_total}
use Rattle.pn_net.specs.declared.mode.Mode.{Mode}
use Rattle.pn_net.specs.declared.token.Token.{Token}

-- by place, then by value
abbrev pub token_cmp : Token → Token → Ordering
token_cmp = then_cmp (on (λ t. t.place) nat_cmp) (on (λ t. t.value) value_cmp)

-- by transition, then by the values, the first first
abbrev pub mode_cmp : Mode → Mode → Ordering
mode_cmp = then_cmp (on (λ m. m.transition) nat_cmp) (on (λ m. m.values) (slice_cmp value_cmp))

pub tokens_total : IsTotalOrder token_cmp
tokens_total = then_total (on_total (λ t. t.place) nat_cmp_total) (on_total (λ t. t.value) values_total)

pub modes_total : IsTotalOrder mode_cmp
modes_total = then_total (on_total (λ m. m.transition) nat_cmp_total) (on_total (λ m. m.values) (lists_total values_total))
