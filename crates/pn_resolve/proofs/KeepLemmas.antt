-- The least of faults that are told one after another.
use Rattle.std.proofs.Common.{◌≡◌, ℕ, ◌+◌, ◌<◌, List, [], ◌∷◌, ◌++◌, length, get_or, take, drop, map, Option, sym, ap, ◌∙◌, append-nil, codes}
use Rattle.std.proofs.lemmas.List.{take_more, map-append}
use Rattle.std.specs.List.{flat_map}
use Rattle.std.proofs.lemmas.Grind.{flat_map-append}
use Rattle.pn_faults.specs.declared.fault.Fault.{Fault}
use Rattle.pn_faults.specs.Least.{least_fault, lower}
use Rattle.pn_faults.proofs.LeastLemmas.{lower-assoc, least_fault-append}
use Rattle.pn_resolve.specs.declared.extent.Extent.{Extent}
use Rattle.pn_resolve.specs.Extents.{beside, all_beside}
use Rattle.pn_resolve.specs.Telling.{Told, told_extent, told_faults, told_parts, told_around, told_big, told}
use Rattle.pn_syntax.specs.declared.sort_expr.SortExpr.{SortExpr}
use Rattle.pn_syntax.specs.declared.sort_expr.SortNode.TheVariants as nodes
use Rattle.pn_syntax.specs.declared.sort_expr.SortNode.TheOpen as layer
use Rattle.pn_resolve.proofs.Expressions.{told_at, out_product, out_list}
use Rattle.pn_facts.proofs.Lists.{drop_next}

-- some faults and then others
pub kept_both : (a b c : Option Fault) (fs gs : List Fault) → b ≡ lower a (least_fault fs) → c ≡ lower b (least_fault gs) → c ≡ lower a (least_fault (fs ++ gs))
kept_both a b c fs gs first second =
    second ∙ ap (λ x. lower x (least_fault gs)) first ∙ lower-assoc a (least_fault fs) (least_fault gs) ∙ ap (lower a) (sym (least_fault-append fs gs))

-- the faults of one more expression
pub kept_next : (tell : SortExpr → Told) (xs : List SortExpr) (i : ℕ) (x : SortExpr) (a b c : Option Fault) → i < length xs → x ≡ get_or xs i x
    → b ≡ lower a (least_fault (flat_map told_faults (map tell (take i xs)))) → c ≡ lower b (least_fault (tell x).faults) → c ≡ lower a (least_fault (flat_map told_faults (map tell (take (i + 1) xs))))
kept_next tell xs i x a b c lt is first second =
    let next : take (i + 1) xs ≡ take i xs ++ x ∷ [] = take_more xs i x lt ∙ ap (λ y. take i xs ++ y ∷ []) (sym is) in
    let all : flat_map told_faults (map tell (take (i + 1) xs)) ≡ flat_map told_faults (map tell (take i xs)) ++ (tell x).faults =
    ap (λ l. flat_map told_faults (map tell l)) next ∙ ap (flat_map told_faults) (map-append tell (take i xs) (x ∷ [])) ∙ flat_map-append told_faults (map tell (take i xs)) (tell x ∷ []) ∙ ap (λ l. flat_map told_faults (map tell (take i xs)) ++ l) (append-nil (tell x).faults) in
    kept_both a b c (flat_map told_faults (map tell (take i xs))) (tell x).faults first second ∙ ap (λ l. lower a (least_fault l)) (sym all)

-- the faults of one more thing
pub kept_item : {X : Type 0} (faults_of : X → List Fault) (xs : List X) (i : ℕ) (x : X) (a b c : Option Fault) → i < length xs → x ≡ get_or xs i x
    → b ≡ lower a (least_fault (flat_map faults_of (take i xs))) → c ≡ lower b (least_fault (faults_of x)) → c ≡ lower a (least_fault (flat_map faults_of (take (i + 1) xs)))
kept_item faults_of xs i x a b c lt is first second =
    let next : take (i + 1) xs ≡ take i xs ++ x ∷ [] = take_more xs i x lt ∙ ap (λ y. take i xs ++ y ∷ []) (sym is) in
    let all : flat_map faults_of (take (i + 1) xs) ≡ flat_map faults_of (take i xs) ++ faults_of x =
    ap (flat_map faults_of) next ∙ flat_map-append faults_of (take i xs) (x ∷ []) ∙ ap (λ l. flat_map faults_of (take i xs) ++ l) (append-nil (faults_of x)) in
    kept_both a b c (flat_map faults_of (take i xs)) (faults_of x) first second ∙ ap (λ l. lower a (least_fault l)) (sym all)

-- the extent of one more expression
pub beside_next : (tell : SortExpr → Told) (xs : List SortExpr) (i : ℕ) (x : SortExpr) (total all : Extent) → i < length xs → x ≡ get_or xs i x
    → all_beside total (map told_extent (map tell (drop i xs))) ≡ all → all_beside (beside total (tell x).extent) (map told_extent (map tell (drop (i + 1) xs))) ≡ all
beside_next tell xs i x total all lt is whole = ap (λ ys. all_beside total (map told_extent (map tell ys))) (sym (drop_next xs i x lt is)) ∙ whole

-- the element of a product or list, with its own fault behind those of its parts
pub told_product : (known : List ℕ → Option Extent) (e : SortExpr) (parts : List SortExpr) → e.node ≡ nodes.Product parts
    → told known e ≡ told_big e.at (codes "productsort") (told_around (told_parts (map (told known) parts)))
told_product known e parts is = told_at known e (layer.Product parts) (out_product e.node parts is)

pub told_list : (known : List ℕ → Option Extent) (e p : SortExpr) → e.node ≡ nodes.List p → told known e ≡ told_big e.at (codes "list") (told_around (told known p))
told_list known e p is = told_at known e (layer.List p) (out_list e.node p is)
