-- A flat net in which no fault of sorts stands, label by label.
use Rattle.std.specs.Prelude.{ℕ, ◌≤◌, List, Option, None, Some, IfSome}
use Rattle.std.specs.List.{Contains}
use Rattle.pn_bag.specs.declared.TheConstants.{MAX_COUNT}
use Rattle.pn_net.specs.Labels.{said}
use Rattle.pn_net.specs.Sound.{HaveSoundSorts}
use Rattle.pn_net.specs.declared.flat.Flat.{Flat}
use Rattle.pn_objects.specs.declared.object.Place.{Place}
use Rattle.pn_syntax.specs.declared.declaration.Declaration.{Declaration}
use Rattle.pn_syntax.specs.declared.term.Term.{Term}
use Rattle.pn_terms.specs.Sorts.{HasSort}
use Rattle.pn_terms.specs.Standing.{HasSoundSorts}
use Rattle.pn_terms.specs.declared.term_sort.TermSort.{TermSort}

-- no fault stands in the sorts of a term, where there is one
abbrev pub HasSoundTerm : List Declaration → Option Term → Type 0
HasSoundTerm items None = Unit {0}
HasSoundTerm items (Some e) = HasSoundSorts items e

-- nor in those of the terms that these things have
abbrev pub HaveSoundTerms : {X : Type 0} → List Declaration → (X → Option Term) → List X → Type 0
HaveSoundTerms {X} items term xs = (x : X) → Contains xs x → HasSoundTerm items (term x)

-- nor in those of the types and terms of the net
pub record HasSoundLabels (items : List Declaration) (f : Flat) : Type 0 where
  pub types : HaveSoundSorts items f.places
  pub markings : HaveSoundTerms items (λ p. said p.hl_marking) f.places
  pub conditions : HaveSoundTerms items (λ t. said t.condition) f.transitions
  pub inscriptions : HaveSoundTerms items (λ a. said a.arc.inscription) f.arcs

-- no number of tokens is above the greatest count
abbrev pub AreCounted : List Place → Type 0
AreCounted places = (p : Place) → Contains places p → IfSome (said p.marking) (λ n. n ≤ MAX_COUNT)

-- a term has a sort, where there is one
abbrev pub HasSaidSort : List Declaration → Option Term → Type 0
HasSaidSort items None = Unit {0}
HasSaidSort items (Some e) = (s : TermSort) × HasSort items e s

-- so have the terms that these things have
abbrev pub HaveSaidSorts : {X : Type 0} → List Declaration → (X → Option Term) → List X → Type 0
HaveSaidSorts {X} items term xs = (x : X) → Contains xs x → HasSaidSort items (term x)

-- the conditions and inscriptions of a net have sorts
pub record HaveSortedLabels (items : List Declaration) (f : Flat) : Type 0 where
  pub conditions : HaveSaidSorts items (λ t. said t.condition) f.transitions
  pub inscriptions : HaveSaidSorts items (λ a. said a.arc.inscription) f.arcs
