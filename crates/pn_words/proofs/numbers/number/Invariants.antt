use Rattle.std.proofs.Common.{◌≡◌, ◌<◌, ◌^◌, ◌==◌, take}
use Rattle.pn_words.specs.Numbers.{HasBegun}
use Rattle.pn_words.specs.Turns.{so_far}
use Rattle.pn_words.proofs.numbers.number.Given as goal

abbrev pub invariant-loop-at : goal.invariant-loop-at
invariant-loop-at l = HasBegun l.low l.high (l.at == 0) l.number × (take l.at l.bytes ≡ so_far (l.at == 0) l.number) × (l.number < 2 ^ 64)
