-- Tests of values, part by part.
use Rattle.std.proofs.Common.{◌≡◌, ◌≢◌, suc, Bool, true, false, ◌&&◌, List, [], ◌∷◌, length, map, refl, ap, ◌∙◌}
use Rattle.pn_values.specs.declared.sort.Sort.{Sort}
use Rattle.pn_values.specs.declared.value.Value.{Value}
use Rattle.pn_carriers.specs.Members.{pass_each}

not_both : (a : Bool) → (a && false) ≡ false
not_both true = refl
not_both false = refl

-- with more or fewer values than parts none is a tuple
pub not_as_many : (test : Sort → Value → Bool) (parts : List Sort) (vs : List Value) → length parts ≢ length vs → pass_each (map test parts) vs ≡ false
not_as_many test [] [] h = absurd (h refl)
not_as_many test [] (v ∷ vs) h = refl
not_as_many test (part ∷ parts) [] h = refl
not_as_many test (part ∷ parts) (v ∷ vs) h = ap (λ b. test part v && b) (not_as_many test parts vs (λ same. h (ap suc same))) ∙ not_both (test part v)
