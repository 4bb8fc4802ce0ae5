-- Where offsets rise, the offset of the only element in an element is the next one behind its own.
use Rattle.std.proofs.Common.{◌≡◌, ◌<◌, ◌≤◌, ◌⊎◌, inl, inr, ℕ, List, [], ◌∷◌, ◌++◌, append-nil, append_assoc, refl, sym, ap, ◌∙◌, subst, arith}
use Rattle.std.specs.List.{Contains, flat_map}
use Rattle.std.proofs.lemmas.List.Elements.{Contains-append_right}
use Rattle.pn_facts.proofs.Contained.{contains_all_of, contains_cases, contains_first, contains_next, contains_nil}
use Rattle.pn_faults.specs.Rising.{Rise}
use Rattle.pn_faults.proofs.RisingLemmas.{IsWithin, itself, inside, place_offset, rise_one}
use Rattle.pn_markup.specs.Offsets.{HasRisingOffsets, offsets_of}
use Rattle.pn_pages.proofs.ApartLemmas.{offsets_law, rise_of}
use Rattle.pn_spelling.specs.Parts.{child_elements}
use Rattle.pn_tree.specs.declared.element.Element.{Element}

-- one of some things, between those before and those behind it
record IsBetween {X : Type 0} (f : X → List ℕ) (xs : List X) (x : X) : Type 0 where
  front : List ℕ
  rest : List ℕ
  is : flat_map f xs ≡ front ++ (f x ++ rest)

between : {X : Type 0} (f : X → List ℕ) (xs : List X) (x : X) → Contains xs x → IsBetween f xs x
between f [] x there = absurd (contains_nil x there)
between f (y ∷ ys) x there = by (contains_cases y ys x there) (between f ys x)
  where
    by : (y ≡ x) ⊎ Contains ys x → (Contains ys x → IsBetween f ys x) → IsBetween f (y ∷ ys) x
    by (inl same) more = record { front = []; rest = flat_map f ys; is = ap (λ z. f z ++ flat_map f ys) same }
    by (inr later) more = let found = more later in record { front = f y ++ found.front; rest = found.rest; is = ap (λ ns. f y ++ ns) found.is ∙ sym (append_assoc (f y) found.front (f x ++ found.rest)) }

-- the offset of an element, and behind it that of the only element in it
record AreNext (e c r : Element) : Type 0 where
  front : List ℕ
  rest : List ℕ
  is : offsets_of e ≡ front ++ (c.at ∷ r.at ∷ rest)

next_there : (e c r : Element) → IsWithin child_elements e c → child_elements c ≡ r ∷ [] → AreNext e c r
next_there e c r (itself _ _ same) only = record {
  front = [];
  rest = flat_map offsets_of (child_elements r) ++ [];
  is = ap offsets_of (sym same) ∙ offsets_law c ∙ ap (λ xs. c.at ∷ flat_map offsets_of xs) only ∙ ap (λ ns. c.at ∷ (ns ++ [])) (offsets_law r);
}
next_there e c r (inside _ _ p there within) only =
    let inner = next_there p c r within only in
    let kid = between offsets_of (child_elements e) p there in
    record {
      front = e.at ∷ (kid.front ++ inner.front);
      rest = inner.rest ++ kid.rest;
      is = offsets_law e ∙ ap (λ ns. e.at ∷ ns)
          (kid.is ∙ ap (λ ns. kid.front ++ (ns ++ kid.rest)) inner.is ∙ ap (λ ns. kid.front ++ ns) (append_assoc inner.front (c.at ∷ r.at ∷ inner.rest) kid.rest)
          ∙ sym (append_assoc kid.front inner.front (c.at ∷ r.at ∷ (inner.rest ++ kid.rest))));
    }

-- of numbers that rise none is between two neighbours
none_between : (front rest : List ℕ) (m n k : ℕ) → Rise (front ++ (m ∷ n ∷ rest)) → Contains (front ++ (m ∷ n ∷ rest)) k → m < k → n ≤ k
none_between [] rest m n k rises there less = by (contains_cases m (n ∷ rest) k there)
  where
    later : (n ≡ k) ⊎ Contains rest k → n ≤ k
    later (inl same) = omega (arith, same)
    later (inr behind) = omega (arith, rises.1.0 k behind)

    by : (m ≡ k) ⊎ Contains (n ∷ rest) k → n ≤ k
    by (inl same) = absurd (omega (arith, same, less))
    by (inr behind) = later (contains_cases n rest k behind)
none_between (y ∷ ys) rest m n k rises there less = by (contains_cases y (ys ++ (m ∷ n ∷ rest)) k there) (none_between ys rest m n k rises.1)
  where
    by : (y ≡ k) ⊎ Contains (ys ++ (m ∷ n ∷ rest)) k → (Contains (ys ++ (m ∷ n ∷ rest)) k → m < k → n ≤ k) → n ≤ k
    by (inl same) more = absurd (omega (arith, same, less, rises.0 m (Contains-append_right ys (m ∷ n ∷ rest) m (contains_first m (n ∷ rest)))))
    by (inr later) more = more later less

module _ (tree : Element) (rising : HasRisingOffsets tree) where
  -- an element behind another is not before the only one in that
  pub not_before_only : (c r x : Element) → IsWithin child_elements tree c → child_elements c ≡ r ∷ [] → IsWithin child_elements tree x → c.at < x.at → r.at ≤ x.at
  not_before_only c r x within only here less =
      let next = next_there tree c r within only in
      none_between next.front next.rest c.at r.at x.at (subst Rise next.is (rise_of (offsets_of tree) rising))
      (subst (λ ns. Contains ns x.at) next.is (place_offset (λ (e : Element). e.at) child_elements offsets_of offsets_law tree x here)) less

-- an element lies behind that in which it stands
kid_behind : (e c r : Element) → Rise (offsets_of e) → IsWithin child_elements e c → Contains (child_elements c) r → c.at < r.at
kid_behind e c r rises (itself _ _ same) there =
    let here : Rise (c.at ∷ flat_map offsets_of (child_elements c)) = subst Rise (offsets_law c) (subst (λ x. Rise (offsets_of x)) (sym same) rises) in
    here.0 r.at (contains_all_of offsets_of (child_elements c) r r.at there (place_offset (λ (e : Element). e.at) child_elements offsets_of offsets_law r r (itself r r refl)))
kid_behind e c r rises (inside _ _ p has within) there =
    let here : Rise (e.at ∷ flat_map offsets_of (child_elements e)) = subst Rise (offsets_law e) rises in
    kid_behind p c r (rise_one offsets_of (child_elements e) p has here.1) within there

pub kid_is_behind : (tree : Element) → HasRisingOffsets tree → (c r : Element) → IsWithin child_elements tree c → Contains (child_elements c) r → c.at < r.at
kid_is_behind tree rising c r within there = kid_behind tree c r (rise_of (offsets_of tree) rising) within there
