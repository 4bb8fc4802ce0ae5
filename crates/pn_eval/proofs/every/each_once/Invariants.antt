use Rattle.std.proofs.Common.{◌≡◌, length, map, take}
use Rattle.pn_carriers.specs.Carriers.{carrier}
use Rattle.pn_names.specs.Names.{widths_of}
use Rattle.pn_eval.proofs.every.each_once.Given as goal

abbrev pub invariant-loop-place : goal.invariant-loop-place
invariant-loop-place l = (l.place-end ≡ length (carrier (widths_of l.decls) l.sort)) × (l.bag ≡ map (λ value. (value, 1)) (take l.place (carrier (widths_of l.decls) l.sort)))
