use Rattle.std.proofs.Common.{◌∷◌, [], codes, ap, refl, arith}
use Rattle.std.specs.List.{slice_get}
use Rattle.pn_net.specs.Ids.{place_holder}
use Rattle.pn_net.specs.Links.{duplicate_id}
use Rattle.pn_net_tests.specs.Nets.{place as a_place}
use Rattle.pn_net_tests.proofs.NamedLemmas.{holders_are}
use Rattle.pn_net_tests.proofs.rows.second_place_has_a_duplicate_id.Goals as goal

pub returns : goal.returns
returns c =
    let first = a_place (codes "a") 139 in
    let second = a_place (codes "a") 208 in
    let are = holders_are (first ∷ second ∷ []) [] [] in
    duplicate_id _ (record { one = 2; another = 3; first = place_holder first; second = place_holder second; has_first = ap (λ hs. slice_get hs 2) are; has_second = ap (λ hs. slice_get hs 3) are; differ = λ e. omega (arith, e); before = omega arith; same = refl; is = refl })
