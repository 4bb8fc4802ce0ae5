-- The lines that tell of a fault and of a net.
use Rattle.std.specs.Prelude.{ℕ, List, ◌++◌, codes, decimal}
use Rattle.pn_faults.specs.declared.fault.Fault.{Fault}
use Rattle.pn_faults.specs.Reasons.{words_of}
use Rattle.pn_lines.specs.Escapes.{escaped}

-- a label and the number behind it
abbrev pub count_text : List ℕ → ℕ → List ℕ
count_text label n = label ++ decimal n

-- the line of a fault: where it stands, its reason, and what it is about
abbrev pub fault_line : Fault → List ℕ
fault_line f =
    count_text (codes "pnml: byte ") f.at ++ (codes ": " ++ (words_of f.reason ++ (codes ": " ++ (escaped f.detail ++ codes "\n"))))
