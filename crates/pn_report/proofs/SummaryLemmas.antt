-- The line that sums a net up, as it is put piece by piece.
use Rattle.std.proofs.Common.{◌≡◌, ℕ, List, ◌++◌, codes, length, ap, ◌∙◌}
use Rattle.pn_bag.specs.Copies.{total_of}
use Rattle.pn_net.specs.declared.flat.Flat.{Flat}
use Rattle.pn_net.specs.declared.token.Token.{Token}
use Rattle.pn_report.specs.Lines.{count_text}
use Rattle.pn_report.specs.Summaries.{kind_word, sizes_text, summary_line}

-- the line by what stands in it
abbrev pub line_of : List ℕ → ℕ → ℕ → ℕ → ℕ → List ℕ
line_of word places transitions arcs tokens = word ++ (sizes_text places transitions arcs ++ (count_text (codes " tokens ") tokens ++ codes "\n"))

pub summary_pieces : (f g : Flat) (initial : List (Token × ℕ)) (word : List ℕ) (places transitions arcs tokens : ℕ) → g ≡ f → word ≡ kind_word g.kind
    → places ≡ length g.places → transitions ≡ length g.transitions → arcs ≡ length g.arcs → tokens ≡ total_of initial
    → line_of word places transitions arcs tokens ≡ summary_line f initial
summary_pieces f g initial word places transitions arcs tokens same w p t a n =
    ap (λ l. line_of l places transitions arcs tokens) w ∙ ap (λ k. line_of (kind_word g.kind) k transitions arcs tokens) p
    ∙ ap (λ k. line_of (kind_word g.kind) (length g.places) k arcs tokens) t ∙ ap (λ k. line_of (kind_word g.kind) (length g.places) (length g.transitions) k tokens) a
    ∙ ap (λ k. line_of (kind_word g.kind) (length g.places) (length g.transitions) (length g.arcs) k) n ∙ ap (λ h. summary_line h initial) same
