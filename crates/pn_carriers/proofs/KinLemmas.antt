-- A finite sort is its own kin.
use Rattle.std.proofs.Common.{◌≡◌, Bool, true, List, [], ◌∷◌, map, refl, sym, ap, ◌∙◌, subst}
use Rattle.std.specs.List.{list_all}
use Rattle.std.proofs.lemmas.Bool.{false≢true}
use Rattle.pn_values.specs.Kin.{kin_of, kin_step}
use Rattle.pn_values.specs.declared.sort.Sort.{Sort}
use Rattle.pn_values.specs.declared.sort.Sort.TheOpen as layer
use Rattle.pn_values.specs.declared.sort.Sort.TheVariants.{rolls-Dot, rolls-Bool, rolls-Enumeration, rolls-Partition, rolls-Range, rolls-Product}
use Rattle.pn_values.specs.declared.sort.Sort.TheViews.{roll-Sort}
use Rattle.pn_values.specs.declared.sort.Sort.TheFolds.{fold-roll-Sort, ind-Sort, map-Sort}
use Rattle.pn_facts.proofs.Truths.{and_left, and_right}
use Rattle.pn_carriers.specs.Carriers.{is_finite, is_finite_layer}

abbrev IsOwnKin : Sort → Type 0
IsOwnKin s = is_finite s ≡ true → kin_of s ≡ s

abbrev SortOwnKin : Type 0
SortOwnKin = (s : Sort) × IsOwnKin s

abbrev sorts_of : List SortOwnKin → List Sort
sorts_of es = map (λ e. e.0) es

by_layer : (x : layer.Sort-F Sort) → (is_finite_layer (map-Sort Sort Bool is_finite x) ≡ true → kin_step (map-Sort Sort Sort kin_of x) ≡ roll-Sort x) → IsOwnKin (roll-Sort x)
by_layer x own finite = fold-roll-Sort Sort kin_step x ∙ own (sym (fold-roll-Sort Bool is_finite_layer x) ∙ finite)

parts_own : (es : List SortOwnKin) → list_all (λ part. part) (map is_finite (sorts_of es)) ≡ true → map kin_of (sorts_of es) ≡ sorts_of es
parts_own [] finite = refl
parts_own (e ∷ es) finite = λ i.
    e.1 (and_left (is_finite e.0) (list_all (λ part. part) (map is_finite (sorts_of es))) finite) i
    ∷ parts_own es (and_right (is_finite e.0) (list_all (λ part. part) (map is_finite (sorts_of es))) finite) i

step : (y : layer.Sort-F SortOwnKin) → IsOwnKin (roll-Sort (map-Sort SortOwnKin Sort (λ e. e.0) y))
step layer.Dot = by_layer layer.Dot (λ finite. sym rolls-Dot)
step layer.Bool = by_layer layer.Bool (λ finite. sym rolls-Bool)
step (layer.Enumeration n) = by_layer (layer.Enumeration n) (λ finite. sym (rolls-Enumeration n))
step (layer.Partition n) = by_layer (layer.Partition n) (λ finite. sym (rolls-Partition n))
step (layer.Range start end) = by_layer (layer.Range start end) (λ finite. sym (rolls-Range start end))
step (layer.Product es) = by_layer (layer.Product (sorts_of es)) (λ finite. sym (rolls-Product (map kin_of (sorts_of es))) ∙ ap (λ ss. roll-Sort (layer.Product ss)) (parts_own es finite))
step layer.Integer = by_layer layer.Integer (λ finite. absurd (false≢true finite))
step layer.Natural = by_layer layer.Natural (λ finite. absurd (false≢true finite))
step layer.Positive = by_layer layer.Positive (λ finite. absurd (false≢true finite))
step layer.Text = by_layer layer.Text (λ finite. absurd (false≢true finite))
step (layer.List e) = by_layer (layer.List e.0) (λ finite. absurd (false≢true finite))

-- a finite sort has no numbers of other kinds in it
pub own_kin : (s : Sort) → is_finite s ≡ true → kin_of s ≡ s
own_kin = ind-Sort IsOwnKin (λ x y is. subst (λ z. IsOwnKin (roll-Sort z)) is (step y))
