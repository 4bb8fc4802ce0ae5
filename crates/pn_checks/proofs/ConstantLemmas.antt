-- The first constant of a range at an offset, element by element.
use Rattle.std.proofs.Common.{◌≡◌, ℕ, zero, suc, ◌+◌, ◌<◌, ◌≤◌, Bool, true, false, cond, not, List, [], ◌∷◌, ◌++◌, map, drop, Option, None, Some, refl, sym, ap, ◌∙◌, arith}
use Rattle.std.specs.List.{filter, find, flat_map, slice_get}
use Rattle.std.specs.Option.{option_map, option_or}
use Rattle.std.specs.Prelude.{is_some}
use Rattle.std.proofs.lemmas.Bool.{false≢true}
use Rattle.pn_tree.specs.Views.{element_of}
use Rattle.pn_tree.specs.declared.view.View.{View}
use Rattle.pn_net.specs.Documents.{elements_within}
use Rattle.pn_spelling.specs.Parts.{child_elements, elements_among}
use Rattle.pn_spelling.specs.ReadNets.{is_opaque_part}
use Rattle.pn_spelling.proofs.PartLemmas.{agree_inside, from_element, from_text}
use Rattle.pn_tree.specs.Depth.{depth_of}
use Rattle.pn_tree.proofs.DepthLemmas.{some_levels}
use Rattle.pn_tree.specs.declared.element.Child.{Child}
use Rattle.pn_tree.specs.declared.element.Child.TheVariants as children
use Rattle.pn_tree.specs.declared.element.Element.{Element}
use Rattle.pn_checks.specs.Told.{elements_at, elements_of}

-- what those kids give that aren't kept as they are
kept_out : {X : Type 0} (f : Element → List X) (ks : List Element) → flat_map f (filter (λ x. not (is_opaque_part x)) ks) ≡ flat_map (λ x. cond (is_opaque_part x) [] (f x)) ks
kept_out f [] = refl
kept_out f (k ∷ ks) = by (is_opaque_part k) (kept_out f ks)
  where
    by : (b : Bool) → flat_map f (filter (λ x. not (is_opaque_part x)) ks) ≡ flat_map (λ x. cond (is_opaque_part x) [] (f x)) ks
        → flat_map f (cond (not b) (k ∷ filter (λ x. not (is_opaque_part x)) ks) (filter (λ x. not (is_opaque_part x)) ks)) ≡ cond b [] (f k) ++ flat_map (λ x. cond (is_opaque_part x) [] (f x)) ks
    by true rest = rest
    by false rest = ap (λ xs. f k ++ xs) rest

joined : {X Y : Type 0} (f : X → List Y) (xs : List X) → flat_map f xs ≡ flat_map (λ ys. ys) (map f xs)
joined f [] = refl
joined f (x ∷ xs) = ap (λ ys. f x ++ ys) (joined f xs)

-- so many levels of a kid
abbrev kid_levels : ℕ → Element → List Element
kid_levels n x = cond (is_opaque_part x) [] (elements_within n x)

same_kids : (f g : Element → List Element) (e : Element) → ((x : Element) → depth_of x < depth_of e → f x ≡ g x) → flat_map f (child_elements e) ≡ flat_map g (child_elements e)
same_kids f g e same = joined f (child_elements e) ∙ ap (flat_map (λ ys. ys)) (agree_inside f g e same) ∙ sym (joined g (child_elements e))

next_levels : (n : ℕ) (e : Element) → elements_within (suc n) e ≡ e ∷ flat_map (kid_levels n) (child_elements e)
unfolding elements_within
next_levels n e = ap (λ xs. e ∷ xs) (kept_out (elements_within n) (child_elements e))

-- more levels than an element has change nothing
levels_same : (m n : ℕ) (e : Element) → depth_of e ≤ m → depth_of e ≤ n → elements_within m e ≡ elements_within n e
levels_same zero n e p q = absurd (omega (arith, some_levels e))
levels_same (suc m) zero e p q = absurd (omega (arith, some_levels e))
levels_same (suc m) (suc n) e p q =
    next_levels m e
    ∙ ap (λ xs. e ∷ xs) (same_kids (kid_levels m) (kid_levels n) e (λ (x : Element) (less : depth_of x < depth_of e). ap (λ ys. cond (is_opaque_part x) [] ys) (levels_same m n x (omega arith) (omega arith))))
    ∙ sym (next_levels n e)

-- the elements in an element are it and those in its kids
pub elements_are : (e : Element) → elements_of e ≡ e ∷ flat_map elements_at (child_elements e)
elements_are e =
    levels_same (depth_of e) (suc (depth_of e)) e (omega arith) (omega arith) ∙ next_levels (depth_of e) e
    ∙ ap (λ xs. e ∷ xs) (same_kids (kid_levels (depth_of e)) elements_at e (λ (x : Element) (less : depth_of x < depth_of e). ap (λ ys. cond (is_opaque_part x) [] ys) (levels_same (depth_of e) (depth_of x) x (omega arith) (omega arith))))

-- ---- what is found

found_over : {X : Type 0} (p : X → Bool) (xs ys : List X) → find p (xs ++ ys) ≡ option_or (find p xs) (find p ys)
found_over p [] ys = refl
found_over p (x ∷ xs) ys = by (p x) (found_over p xs ys)
  where
    by : (b : Bool) → find p (xs ++ ys) ≡ option_or (find p xs) (find p ys) → cond b (Some x) (find p (xs ++ ys)) ≡ option_or (cond b (Some x) (find p xs)) (find p ys)
    by true rest = refl
    by false rest = rest

module _ (p : Element → Bool) where
  -- an element, where the test fails of it
  pub find_inside : (e : Element) (o : Option Element) → p e ≡ false → o ≡ find p (flat_map elements_at (child_elements e)) → o ≡ find p (elements_of e)
  find_inside e o fails is =
      is ∙ sym (ap (λ b. cond b (Some e) (find p (flat_map elements_at (child_elements e)))) fails) ∙ sym (ap (find p) (elements_are e))

  pub find_itself : (e : Element) → p e ≡ true → Some e ≡ find p (elements_of e)
  find_itself e passes = sym (ap (λ b. cond b (Some e) (find p (flat_map elements_at (child_elements e)))) passes) ∙ sym (ap (find p) (elements_are e))

  -- the next kid, where something is found in it, and where nothing is
  find_here : (ks : List Child) (i : ℕ) (x y : Element) (whole : Option Element) → whole ≡ find p (flat_map elements_at (elements_among (drop i ks))) → slice_get ks i ≡ Some (children.Element x)
      → Some y ≡ find p (elements_at x) → whole ≡ Some y
  find_here ks i x y whole so_far is here =
      so_far ∙ ap (λ es. find p (flat_map elements_at es)) (from_element ks i x is) ∙ found_over p (elements_at x) (flat_map elements_at (elements_among (drop (i + 1) ks)))
      ∙ ap (λ o. option_or o (find p (flat_map elements_at (elements_among (drop (i + 1) ks))))) (sym here)

  find_later : (ks : List Child) (i : ℕ) (x : Element) (whole : Option Element) → whole ≡ find p (flat_map elements_at (elements_among (drop i ks))) → slice_get ks i ≡ Some (children.Element x)
      → None ≡ find p (elements_at x) → whole ≡ find p (flat_map elements_at (elements_among (drop (i + 1) ks)))
  find_later ks i x whole so_far is none =
      so_far ∙ ap (λ es. find p (flat_map elements_at es)) (from_element ks i x is) ∙ found_over p (elements_at x) (flat_map elements_at (elements_among (drop (i + 1) ks)))
      ∙ ap (λ o. option_or o (find p (flat_map elements_at (elements_among (drop (i + 1) ks))))) (sym none)

  pub find_behind : (ks : List Child) (i : ℕ) (t : List ℕ) (whole : Option Element) → whole ≡ find p (flat_map elements_at (elements_among (drop i ks))) → slice_get ks i ≡ Some (children.Text t)
      → whole ≡ find p (flat_map elements_at (elements_among (drop (i + 1) ks)))
  find_behind ks i t whole so_far is = so_far ∙ ap (λ es. find p (flat_map elements_at es)) (from_text ks i t is)

  -- the same, where what is found is a view
  pub find_here_shown : (ks : List Child) (i : ℕ) (x : Element) (o : Option View) (whole : Option Element) → whole ≡ find p (flat_map elements_at (elements_among (drop i ks))) → slice_get ks i ≡ Some (children.Element x)
      → is_some o ≡ true → option_map element_of o ≡ find p (elements_at x) → option_map element_of o ≡ whole
  find_here_shown ks i x None whole so_far is there found = absurd (false≢true there)
  find_here_shown ks i x (Some y) whole so_far is there found = sym (find_here ks i x (element_of y) whole so_far is found)

  pub find_later_shown : (ks : List Child) (i : ℕ) (x : Element) (o : Option View) (whole : Option Element) → whole ≡ find p (flat_map elements_at (elements_among (drop i ks))) → slice_get ks i ≡ Some (children.Element x)
      → is_some o ≡ false → option_map element_of o ≡ find p (elements_at x) → whole ≡ find p (flat_map elements_at (elements_among (drop (i + 1) ks)))
  find_later_shown ks i x None whole so_far is lacks found = find_later ks i x whole so_far is found
  find_later_shown ks i x (Some y) whole so_far is lacks found = absurd (false≢true (sym lacks))
