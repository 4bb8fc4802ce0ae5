-- What an element spells, by what the elements in it spell.
use Rattle.std.proofs.Common.{◌≡◌, ℕ, zero, suc, ◌<◌, ◌≤◌, Bool, true, false, List, codes, map, refl, ap, ◌∙◌, arith}
use Rattle.std.specs.Option.{unwrap_or}
use Rattle.std.proofs.lemmas.Option.{slice_get-map}
use Rattle.std.proofs.lemmas.Slice.Eq.{bytes_eq-Decides}
use Rattle.std.specs.Str.{bytes_eq}
use Rattle.pn_tree.specs.Depth.{depth_of}
use Rattle.pn_tree.proofs.DepthLemmas.{some_levels}
use Rattle.pn_tree.specs.declared.element.Element.{Element}
use Rattle.pn_syntax.specs.declared.sort_expr.SortExpr.{SortExpr}
use Rattle.pn_syntax.specs.declared.term.Term.{Term}
use Rattle.pn_syntax.specs.declared.term.TermNode.TheVariants as nodes
use Rattle.pn_spelling.specs.Parts.{child_elements, has_name}
use Rattle.pn_spelling.specs.ReadSorts.{first_sort, no_sort, sort_in, sort_node, sort_read, sort_within}
use Rattle.pn_spelling.specs.ReadTerms.{no_term, operator_named, term_in, term_inside, term_node, term_read, term_within}
use Rattle.pn_spelling.proofs.PartLemmas.{agree_first, agree_inside}

-- a sort, by the sorts that stand in it
abbrev pub sort_of_parts : Element → List SortExpr → SortExpr
sort_of_parts e sorts = record { at = e.at; node = sort_node e sorts }

-- more levels than an element has change nothing
pub sort_levels : (m n : ℕ) (e : Element) → depth_of e ≤ m → depth_of e ≤ n → sort_within m e ≡ sort_within n e
unfolding sort_within
sort_levels zero n e p q = absurd (omega (arith, some_levels e))
sort_levels (suc m) zero e p q = absurd (omega (arith, some_levels e))
sort_levels (suc m) (suc n) e p q =
    ap (sort_of_parts e) (agree_inside (sort_within m) (sort_within n) e (λ (x : Element) (less : depth_of x < depth_of e). sort_levels m n x (omega arith) (omega arith)))

pub sort_levels_next : (n : ℕ) (e : Element) → sort_within (suc n) e ≡ sort_of_parts e (map (sort_within n) (child_elements e))
unfolding sort_within
sort_levels_next n e = refl

-- a sort is that of the sorts in it
pub sort_read_is : (e : Element) → sort_read e ≡ sort_of_parts e (map sort_read (child_elements e))
sort_read_is e =
    sort_levels (depth_of e) (suc (depth_of e)) e (omega arith) (omega arith) ∙ sort_levels_next (depth_of e) e
    ∙ ap (sort_of_parts e) (agree_inside (sort_within (depth_of e)) sort_read e (λ (x : Element) (less : depth_of x < depth_of e). sort_levels (depth_of e) (depth_of x) x (omega arith) (omega arith)))

-- a term, by its arguments
abbrev pub term_of_parts : Element → List Term → Term
term_of_parts e arguments = record { at = e.at; node = term_node e arguments }

inside_agrees : (f g : Element → Term) (e : Element) → ((x : Element) → depth_of x < depth_of e → f x ≡ g x) → term_inside f e ≡ term_inside g e
inside_agrees f g e same = ap (λ o. unwrap_or o no_term) (agree_first f g e same)

pub term_levels : (m n : ℕ) (e : Element) → depth_of e ≤ m → depth_of e ≤ n → term_within m e ≡ term_within n e
unfolding term_within
term_levels zero n e p q = absurd (omega (arith, some_levels e))
term_levels (suc m) zero e p q = absurd (omega (arith, some_levels e))
term_levels (suc m) (suc n) e p q =
    ap (term_of_parts e) (agree_inside (term_inside (term_within m)) (term_inside (term_within n)) e
    (λ (x : Element) (less : depth_of x < depth_of e). inside_agrees (term_within m) (term_within n) x
    (λ (y : Element) (lesser : depth_of y < depth_of x). term_levels m n y (omega arith) (omega arith))))

pub term_levels_next : (n : ℕ) (e : Element) → term_within (suc n) e ≡ term_of_parts e (map (term_inside (term_within n)) (child_elements e))
unfolding term_within
term_levels_next n e = refl

-- a term is that of its arguments
pub term_read_is : (e : Element) → term_read e ≡ term_of_parts e (map term_in (child_elements e))
term_read_is e =
    term_levels (depth_of e) (suc (depth_of e)) e (omega arith) (omega arith) ∙ term_levels_next (depth_of e) e
    ∙ ap (term_of_parts e) (agree_inside (term_inside (term_within (depth_of e))) term_in e
    (λ (x : Element) (less : depth_of x < depth_of e). inside_agrees (term_within (depth_of e)) term_read x
    (λ (y : Element) (lesser : depth_of y < depth_of x). term_levels (depth_of e) (depth_of y) y (omega arith) (omega arith))))

-- the first of the sorts in an element is the sort in it
pub first_sort_is : (e : Element) → first_sort (map sort_read (child_elements e)) ≡ sort_in e
first_sort_is e = ap (λ o. unwrap_or o no_sort) (slice_get-map sort_read (child_elements e) 0)

lacks_name : (e : Element) (name : List ℕ) → (e.name ≡ name → ⊥) → has_name name e ≡ false
lacks_name e name differ = by (bytes_eq e.name name) refl
  where
    by : (b : Bool) → bytes_eq e.name name ≡ b → b ≡ false
    by true is = absurd (differ ((bytes_eq-Decides e.name name).0 is))
    by false is = refl

-- an element of another name than those of all leaves says an operator
pub operator_says : (e : Element) (arguments : List Term)
    → (e.name ≡ codes "variable" → ⊥) → (e.name ≡ codes "useroperator" → ⊥) → (e.name ≡ codes "booleanconstant" → ⊥) → (e.name ≡ codes "numberconstant" → ⊥) → (e.name ≡ codes "finiteintrangeconstant" → ⊥) → (e.name ≡ codes "stringconstant" → ⊥) → (e.name ≡ codes "all" → ⊥) → (e.name ≡ codes "empty" → ⊥) → (e.name ≡ codes "emptylist" → ⊥) → (e.name ≡ codes "partitionelementof" → ⊥)
    → term_node e arguments ≡ nodes.Apply (operator_named e.name) arguments
operator_says e arguments a b c d f g h i j k =
    rw (lacks_name e (codes "variable") a, lacks_name e (codes "useroperator") b, lacks_name e (codes "booleanconstant") c, lacks_name e (codes "numberconstant") d, lacks_name e (codes "finiteintrangeconstant") f, lacks_name e (codes "stringconstant") g, lacks_name e (codes "all") h, lacks_name e (codes "empty") i, lacks_name e (codes "emptylist") j, lacks_name e (codes "partitionelementof") k) refl
