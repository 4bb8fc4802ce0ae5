-- Lines of nets with numbers of one digit.
use Rattle.std.proofs.Common.{◌≡◌, ◌<◌, ◌+◌, ℕ, List, [], ◌∷◌, ◌++◌, codes, decimal, length, ap, ◌∙◌}
use Rattle.std.proofs.lemmas.Fmt.{decimal_digit}
use Rattle.pn_bag.specs.Copies.{total_of}
use Rattle.pn_net.specs.declared.flat.Flat.{Flat}
use Rattle.pn_net.specs.declared.token.Token.{Token}
use Rattle.pn_operators.specs.declared.kind.Kind.{Kind}
use Rattle.pn_report.specs.Summaries.{kind_word, summary_line}

-- the line with these texts in the places of its numbers
abbrev pub filled : List ℕ → List ℕ → List ℕ → List ℕ → List ℕ → List ℕ
filled word p t a n =
    word
    ++ (((codes " places " ++ p) ++ ((codes " transitions " ++ t) ++ (codes " arcs " ++ a))) ++ ((codes " tokens " ++ n) ++ codes "\n"))

digit : (m n : ℕ) → m ≡ n → n < 10 → decimal m ≡ (48 + n) ∷ []
digit m n is small = ap decimal is ∙ decimal_digit n small

pub line_by_digits : (f : Flat) (initial : List (Token × ℕ)) (k : Kind) (p t a n : ℕ) → p < 10 → t < 10 → a < 10 → n < 10 → f.kind ≡ k → length f.places ≡ p
    → length f.transitions ≡ t → length f.arcs ≡ a → total_of initial ≡ n
    → summary_line f initial ≡ filled (kind_word k) ((48 + p) ∷ []) ((48 + t) ∷ []) ((48 + a) ∷ []) ((48 + n) ∷ [])
line_by_digits f initial k p t a n p10 t10 a10 n10 kind places transitions arcs tokens =
    ap (λ (x : Kind). filled (kind_word x) (decimal (length f.places)) (decimal (length f.transitions)) (decimal (length f.arcs)) (decimal (total_of initial))) kind
    ∙ ap (λ (x : List ℕ). filled (kind_word k) x (decimal (length f.transitions)) (decimal (length f.arcs)) (decimal (total_of initial))) (digit (length f.places) p places p10)
    ∙ ap (λ (x : List ℕ). filled (kind_word k) ((48 + p) ∷ []) x (decimal (length f.arcs)) (decimal (total_of initial))) (digit (length f.transitions) t transitions t10)
    ∙ ap (λ (x : List ℕ). filled (kind_word k) ((48 + p) ∷ []) ((48 + t) ∷ []) x (decimal (total_of initial))) (digit (length f.arcs) a arcs a10)
    ∙ ap (λ (x : List ℕ). filled (kind_word k) ((48 + p) ∷ []) ((48 + t) ∷ []) ((48 + a) ∷ []) x) (digit (total_of initial) n tokens n10)
