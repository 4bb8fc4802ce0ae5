-- Lines, as they are put piece by piece.
use Rattle.std.proofs.Common.{◌≡◌, ℕ, List, ◌++◌, codes, ap, ◌∙◌}
use Rattle.pn_faults.specs.declared.fault.Fault.{Fault}
use Rattle.pn_faults.specs.Reasons.{words_of}
use Rattle.pn_lines.specs.Escapes.{escaped}
use Rattle.pn_report.specs.Lines.{count_text, fault_line}

pub fault_pieces : (f : Fault) (words detail : List ℕ) → words ≡ words_of f.reason → detail ≡ f.detail
    → count_text (codes "pnml: byte ") f.at ++ (codes ": " ++ (words ++ (codes ": " ++ (escaped detail ++ codes "\n")))) ≡ fault_line f
fault_pieces f words detail w d =
    ap (λ l. count_text (codes "pnml: byte ") f.at ++ (codes ": " ++ (l ++ (codes ": " ++ (escaped detail ++ codes "\n"))))) w
    ∙ ap (λ l. count_text (codes "pnml: byte ") f.at ++ (codes ": " ++ (words_of f.reason ++ (codes ": " ++ (escaped l ++ codes "\n"))))) d
