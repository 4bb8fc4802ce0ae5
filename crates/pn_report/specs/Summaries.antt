-- The line that sums a net up.
use Rattle.std.specs.Prelude.{ℕ, List, ◌++◌, codes, length}
use Rattle.pn_bag.specs.Copies.{total_of}
use Rattle.pn_net.specs.declared.flat.Flat.{Flat}
use Rattle.pn_net.specs.declared.token.Token.{Token}
use Rattle.pn_operators.specs.declared.kind.Kind.{Kind}
use Rattle.pn_operators.specs.declared.kind.Kind.TheVariants as kind
use Rattle.pn_report.specs.Lines.{count_text}

-- the word for the nets of a kind: the last part of their type (ISO/IEC 15909-2)
abbrev pub kind_word : Kind → List ℕ
kind_word kind.PtNet = codes "ptnet"
kind_word kind.Symmetric = codes "symmetricnet"
kind_word kind.HighLevel = codes "highlevelnet"

-- numbers of places, transitions and arcs
abbrev pub sizes_text : ℕ → ℕ → ℕ → List ℕ
sizes_text places transitions arcs =
    count_text (codes " places ") places ++ (count_text (codes " transitions ") transitions ++ count_text (codes " arcs ") arcs)

-- the line that sums up a flat net with this initial marking: its kind, its sizes, and how many tokens the marking has
abbrev pub summary_line : Flat → List (Token × ℕ) → List ℕ
summary_line f initial =
    kind_word f.kind
    ++ (sizes_text (length f.places) (length f.transitions) (length f.arcs) ++ (count_text (codes " tokens ") (total_of initial) ++ codes "\n"))
