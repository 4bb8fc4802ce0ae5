-- The sorts of an accepted document's declarations and places fit its kind.
use Rattle.std.proofs.Common.{◌≡◌, ◌⊎◌, inl, inr, ◌≤◌, ◌&&◌, ℕ, zero, suc, Bool, true, false, cond, List, [], ◌∷◌, map, codes, Option, None, Some, refl, sym, ap, subst, ◌∙◌}
use Rattle.std.specs.List.{AllByRecursion, Contains, slice_get}
use Rattle.std.specs.Option.{option_and_then, option_map, unwrap_or}
use Rattle.std.specs.Str.{bytes_eq}
use Rattle.std.proofs.lemmas.Slice.Eq.{bytes_eq-Decides}
use Rattle.pn_facts.proofs.Contained.{contains_at, contains_cases, contains_first, contains_next, contains_nil}
use Rattle.pn_facts.proofs.Each.{one_of}
use Rattle.pn_names.specs.Names.{sort_named}
use Rattle.pn_net.proofs.AlikeLemmas.{alike_contains}
use Rattle.pn_operators.specs.declared.kind.Kind.{Kind}
use Rattle.pn_resolve.proofs.Meanings.{meaning_next, meaning_none}
use Rattle.pn_resolve.proofs.Options.{then_some}
use Rattle.pn_resolve.specs.Meaning.{Resolves, declared_sort, meaning, sort_at_place}
use Rattle.pn_round_trip.proofs.KidLemmas.{elements_shape, stand_among, the_only}
use Rattle.pn_round_trip.proofs.SortLemmas.{named}
use Rattle.pn_round_trip.specs.Spellable.{AreSpelledDeclarations, IsSpelledSort}
use Rattle.pn_shape.proofs.PlaceLemmas.{fill_of, of_fill, one_is, spot_fills, tag_is}
use Rattle.pn_shape.specs.Faults.{IsShaped, fill_faults}
use Rattle.pn_shape.specs.Rules.{rule_for}
use Rattle.pn_shape.specs.Spots.{has_slot, spot_in, tag_of}
use Rattle.pn_shape.specs.declared.rule.Fill.TheVariants as fill
use Rattle.pn_shape.specs.declared.rule.Over.TheVariants as over
use Rattle.pn_shape.specs.declared.rule.Slot.{Slot}
use Rattle.pn_shape.specs.declared.search.Spot.{Spot}
use Rattle.pn_shape.specs.declared.tag.Tag.{Tag}
use Rattle.pn_shape.specs.declared.tag.Tag.TheVariants as tag
use Rattle.pn_spelling.specs.Parts.{child_elements, has_name}
use Rattle.pn_spelling.specs.ReadDeclarations.{body_in, body_of, constant_read, declaration_read}
use Rattle.pn_spelling.specs.ReadSorts.{no_sort, sort_read}
use Rattle.pn_syntax.specs.Offsets.{body_without_offsets, declaration_without_offsets, sort_without_offsets}
use Rattle.pn_syntax.specs.declared.declaration.Declaration.{Declaration}
use Rattle.pn_syntax.specs.declared.declaration.Declaration.TheVariants as declarations
use Rattle.pn_syntax.specs.declared.declaration.SortBody.{SortBody}
use Rattle.pn_syntax.specs.declared.declaration.SortBody.TheVariants as bodies
use Rattle.pn_syntax.specs.declared.sort_expr.SortExpr.{SortExpr}
use Rattle.pn_tree.specs.declared.element.Element.{Element}
use Rattle.pn_values.specs.declared.sort.Sort.{Sort}
use Rattle.pn_values.specs.declared.sort.Sort.TheOpen as layer
use Rattle.pn_values.specs.declared.sort.Sort.TheVariants as sorts
use Rattle.pn_values.specs.declared.sort.Sort.TheVariants.{rolls-Enumeration, rolls-Partition}
use Rattle.pn_documents.proofs.SortFitLemmas.{Stands, spelled_stands, stands_by}

mapped_from : {X Y : Type 0} (f : X → Y) (xs : List X) (y : Y) → Contains (map f xs) y → (x : X) × Contains xs x × (f x ≡ y)
mapped_from f [] y c = absurd (contains_nil y c)
mapped_from {X} {Y} f (x ∷ xs) y c = by (contains_cases (f x) (map f xs) y c) (mapped_from f xs y)
  where
    by : (f x ≡ y) ⊎ Contains (map f xs) y → (Contains (map f xs) y → (z : X) × Contains xs z × (f z ≡ y)) → (z : X) × Contains (x ∷ xs) z × (f z ≡ y)
    by (inl same) rest = (x, contains_first x xs, same)
    by (inr there) rest = let found = rest there in (found.0, contains_next x xs found.0 found.1, found.2)

-- ---- what a declaration says

-- the body of a `namedsort`, and the sort expression that it is
abbrev body_said : Declaration → SortBody
body_said (declarations.Named id name body at) = body
body_said (declarations.Variable id name sort at) = bodies.Finite []
body_said (declarations.Partition id name sort elements at) = bodies.Finite []

abbrev sort_said : SortBody → Option SortExpr
sort_said (bodies.Plain e) = Some e
sort_said (bodies.Finite constants) = None
sort_said (bodies.Cyclic constants) = None

module _ (k : Kind) where
  -- an element that says the body, where this is the sort expression, spells it
  module _ (e : SortExpr) (y : Element) (says : bodies.Plain (sort_without_offsets e) ≡ body_without_offsets (body_of y)) where
    abbrev choice : Bool → Bool → SortBody
    choice finite cyclic = cond finite (bodies.Finite (map constant_read (child_elements y))) (cond cyclic (bodies.Cyclic (map constant_read (child_elements y))) (bodies.Plain (sort_read y)))

    -- no enumeration says it
    no_body : (finite cyclic : Bool) → has_name (codes "finiteenumeration") y ≡ finite → has_name (codes "cyclicenumeration") y ≡ cyclic → Some (sort_without_offsets e) ≡ sort_said (body_without_offsets (choice finite cyclic))
    no_body finite cyclic is also = ap sort_said says ∙ (λ i. sort_said (body_without_offsets (choice (is i) (also i))))

    -- the elements of an enumeration and of a sort are the bodies
    body_tag : (name : List ℕ) → tag_of k name fill.Body
        ≡ cond (bytes_eq (codes "finiteenumeration") name && true) (Some tag.FiniteEnumeration) (cond (bytes_eq (codes "cyclicenumeration") name && true) (Some tag.CyclicEnumeration) (tag_of k name fill.Sort))
    unfolding tag_of rule_for
    body_tag name = refl

    spelled_body : fill_faults k fill.Body y ≡ [] → IsSpelledSort k e
    spelled_body fills = by (has_name (codes "finiteenumeration") y) refl (has_name (codes "cyclicenumeration") y) refl
      where
        tagged : (t : Tag) × (tag_of k y.name fill.Body ≡ Some t) × IsShaped k t y
        tagged = fill_of k fill.Body y fills

        swapped : (name : List ℕ) → bytes_eq y.name name ≡ false → bytes_eq name y.name ≡ false
        swapped name is = other (bytes_eq name y.name) refl
          where
            other : (b : Bool) → bytes_eq name y.name ≡ b → bytes_eq name y.name ≡ false
            other false at = at
            other true at = absurd (let same : bytes_eq y.name name ≡ true = (bytes_eq-Decides y.name name).1 (sym ((bytes_eq-Decides name y.name).0 at)) in let clash : false ≡ true = sym is ∙ same in cc)

        by : (finite : Bool) → has_name (codes "finiteenumeration") y ≡ finite → (cyclic : Bool) → has_name (codes "cyclicenumeration") y ≡ cyclic → IsSpelledSort k e
        by true is cyclic also = absurd (let clash = no_body true cyclic is also in cc)
        by false is true also = absurd (let clash = no_body false true is also in cc)
        by false is false also =
            let sort = sym (λ i. cond (swapped (codes "finiteenumeration") is i && true) (Some tag.FiniteEnumeration) (cond (swapped (codes "cyclicenumeration") also i && true) (Some tag.CyclicEnumeration) (tag_of k y.name fill.Sort))) ∙ sym (body_tag y.name) ∙ tagged.1 in
            let same = no_body false false is also in
            (y, of_fill k fill.Sort y tagged.0 sort tagged.2, cc)

  -- a place for any number of elements of a tag
  abbrev any_of : Tag → Slot
  any_of t = record { fill = fill.One t; least = 0; most = None; over = over.Repeated }

  bodies_there : has_slot k fill.Body ≡ true
  unfolding rule_for has_slot
  bodies_there = refl

  -- one of the declarations in such an element
  module _ (e : SortExpr) where
    -- where it says that an id is the name of the sort expression, the expression is spelled
    abbrev Spells : Element → Type 0
    Spells c = (id : List ℕ) (name : Option (List ℕ)) (at : ℕ) → declaration_without_offsets (declarations.Named id name (bodies.Plain e) at) ≡ declaration_without_offsets (declaration_read c) → IsSpelledSort k e

    named_spells : (c : Element) → IsShaped k tag.NamedSort (named (codes "namedsort") c) → Spells (named (codes "namedsort") c)
    unfolding rule_for
    named_spells c shaped id name at same =
        let x = named (codes "namedsort") c in
        let slot : Slot = record { fill = fill.Body; least = 1; most = Some 1; over = over.Repeated } in
        let one = the_only k (rule_for tag.NamedSort) slot refl x refl refl bodies_there (elements_shape k tag.NamedSort x refl shaped) in
        let read : body_in x ≡ body_of one.0 = ap (λ xs. unwrap_or (option_map body_of (slice_get xs 0)) (bodies.Plain no_sort)) one.1 in
        spelled_body e one.0 (ap body_said same ∙ ap body_without_offsets read) one.2

    variable_spells : (c : Element) → Spells (named (codes "variabledecl") c)
    variable_spells c id name at same = absurd (let clash = ap (λ d. sort_said (body_said d)) same in cc)

    partition_spells : (c : Element) → Spells (named (codes "partition") c)
    partition_spells c id name at same = absurd (let clash = ap (λ d. sort_said (body_said d)) same in cc)

    declared_spells : (x c : Element) → IsShaped k tag.Declarations x → Contains (child_elements x) c → Spells c
    unfolding rule_for
    declared_spells x c shaped there = at stands.0.place found.0 found.1 found.2
      where
        stands : (s : Spot) × (spot_in k c.name 0 (rule_for tag.Declarations).slots ≡ Some s) × IsShaped k s.tag c
        stands = one_of _ (child_elements x) c (stand_among k (rule_for tag.Declarations) x.kids (elements_shape k tag.Declarations x refl shaped).kids) there

        found : (slot : Slot) × (slice_get (rule_for tag.Declarations).slots stands.0.place ≡ Some slot) × (tag_of k c.name slot.fill ≡ Some stands.0.tag)
        found = spot_fills k c.name (rule_for tag.Declarations).slots stands.0 stands.1

        tagged : (t : Tag) (slot : Slot) → any_of t ≡ slot → tag_of k c.name slot.fill ≡ Some stands.0.tag → (stands.0.tag ≡ t) × ((rule_for t).name ≡ c.name)
        tagged t slot same fills =
            let is = one_is k c.name t stands.0.tag (ap (λ (r : Slot). tag_of k c.name r.fill) same ∙ fills) in
            (is, ap (λ u. (rule_for u).name) (sym is) ∙ (tag_is k c.name slot.fill stands.0.tag fills).0)

        at : (i : ℕ) (slot : Slot) → slice_get (rule_for tag.Declarations).slots i ≡ Some slot → tag_of k c.name slot.fill ≡ Some stands.0.tag → Spells c
        at zero slot here fills =
            let is = tagged tag.NamedSort slot (let same : any_of tag.NamedSort ≡ slot = cc in same) fills in
            subst (λ n. Spells (named n c)) is.1 (named_spells c (subst (λ n. IsShaped k tag.NamedSort (named n c)) (sym is.1) (subst (λ u. IsShaped k u c) is.0 stands.2)))
        at (suc zero) slot here fills = subst (λ n. Spells (named n c)) (tagged tag.VariableDecl slot (let same : any_of tag.VariableDecl ≡ slot = cc in same) fills).1 (variable_spells c)
        at (suc (suc zero)) slot here fills = subst (λ n. Spells (named n c)) (tagged tag.Partition slot (let same : any_of tag.Partition ≡ slot = cc in same) fills).1 (partition_spells c)
        at (suc (suc (suc i))) slot here fills = absurd cc

  -- the sort expressions of declarations that such an element spells, offsets aside
  pub declared_spelled : (items : List Declaration) → AreSpelledDeclarations k items → (d : Declaration) → Contains items d → (id : List ℕ) (name : Option (List ℕ)) (e : SortExpr) (at : ℕ) → d ≡ declarations.Named id name (bodies.Plain e) at → IsSpelledSort k e
  declared_spelled items (x, shaped, alike) d there id name e at is =
      let other = alike_contains declaration_without_offsets items (map declaration_read (child_elements x)) d alike there in
      let from = mapped_from declaration_read (child_elements x) other.0 other.1 in
      declared_spells e x from.0 shaped from.1 id name at (ap declaration_without_offsets (sym is) ∙ other.2 ∙ ap declaration_without_offsets (sym from.2))

-- ---- what names mean

module _ (k : Kind) (items : List Declaration) (spelled : (d : Declaration) → Contains items d → (id : List ℕ) (name : Option (List ℕ)) (e : SortExpr) (at : ℕ) → d ≡ declarations.Named id name (bodies.Plain e) at → IsSpelledSort k e) where
  own_stands : (m : List ℕ → Option Sort) → ((name : List ℕ) (s : Sort) → m name ≡ Some s → Stands k s) → (place : ℕ) (d : Declaration) (s : Sort) → Contains items d → declared_sort m place d ≡ Some s → Stands k s
  own_stands m means place (declarations.Named id name (bodies.Plain e) at) s there h = spelled_stands k m means e (spelled (declarations.Named id name (bodies.Plain e) at) there id name e at refl) s h
  own_stands m means place (declarations.Named id name (bodies.Finite constants) at) s there h = let same : sorts.Enumeration place ≡ s = cc in stands_by k (layer.Enumeration place) refl refl s (rolls-Enumeration place ∙ same)
  own_stands m means place (declarations.Named id name (bodies.Cyclic constants) at) s there h = let same : sorts.Enumeration place ≡ s = cc in stands_by k (layer.Enumeration place) refl refl s (rolls-Enumeration place ∙ same)
  own_stands m means place (declarations.Variable id name sort at) s there h = absurd cc
  own_stands m means place (declarations.Partition id name sort elements at) s there h = let same : sorts.Partition place ≡ s = cc in stands_by k (layer.Partition place) refl refl s (rolls-Partition place ∙ same)

  meaning_stands : (levels : ℕ) (name : List ℕ) (s : Sort) → meaning items levels name ≡ Some s → Stands k s
  meaning_stands zero name s h = absurd (let none : None ≡ Some s = sym (meaning_none items name) ∙ h in cc)
  meaning_stands (suc levels) name s h =
      let place = then_some (sort_at_place items levels) (sort_named items name) s (sym (meaning_next items levels name) ∙ h) in
      let d = then_some (declared_sort (meaning items levels) place.0) (slice_get items place.0) s place.2 in
      own_stands (meaning items levels) (meaning_stands levels) place.0 d.0 s (contains_at items place.0 d.0 d.1) d.2

  -- the sort of an expression that is spelled
  pub resolved_stands : (e : SortExpr) → IsSpelledSort k e → (s : Sort) → Resolves items e s → Stands k s
  resolved_stands e is s (levels, h) = spelled_stands k (meaning items levels) (meaning_stands levels) e is s h
