-- Cycles of graphs of declarations, and declarations that lead back to themselves.
use Rattle.std.proofs.Common.{◌≡◌, ◌⊎◌, inl, inr, ◌↔◌, ℕ, ◌<◌, ◌==◌, ◌||◌, Bool, true, false, IsTrue, List, length, get_or, slice_index_or, Some, refl, sym, ap, ◌∙◌, arith}
use Rattle.std.specs.List.{slice_get}
use Rattle.std.proofs.lemmas.Bool.Decides.{nat_tests}
use Rattle.pn_syntax.specs.declared.declaration.Declaration.{Declaration}
use Rattle.pn_resolve.specs.Links.{TellsCyclesOf}
use Rattle.pn_resolve.specs.declared.links.Sources.TheVariants as source
use Rattle.pn_resolve.specs.Standing.{LeadsTo, is_named}
use Rattle.pn_resolve.proofs.LinkLemmas.{leads_to, leads_in_graph}

same_declaration : (items : List Declaration) (place : ℕ) (d d' : Declaration) → slice_get items place ≡ Some d → slice_get items place ≡ Some d' → d ≡ d'
same_declaration items place d d' a b = let e : Some d ≡ Some d' = sym a ∙ b in cc

-- a `namedsort` on a cycle of the graph of `namedsort`s
pub named_cycle : (items : List Declaration) (on_cycle : List Bool) → TellsCyclesOf items source.Named on_cycle → (place : ℕ) (d : Declaration) → place < length items → slice_get items place ≡ Some d → is_named d ≡ true
    → IsTrue (slice_index_or on_cycle place false) ↔ LeadsTo items place place
named_cycle items on_cycle t place d lt stands named =
    let told = t.tells place (omega (arith, t.is_graph.sized)) in (
      λ yes. leads_to items source.Named t.graph t.is_graph place (λ p x is. inl is) place place (told.0 yes) refl,
      λ leads. told.1 (leads_in_graph items source.Named t.graph t.is_graph (λ p x is. is) place place leads (λ x at. ap is_named (same_declaration items place x d at stands) ∙ named)),
    )

-- a declaration off all cycles of the whole graph
pub off_all : (items : List Declaration) (on_cycle : List Bool) → TellsCyclesOf items source.All on_cycle → (place : ℕ) → place < length items → slice_index_or on_cycle place false ≡ false → LeadsTo items place place → ⊥
off_all items on_cycle t place lt off leads =
    let told = t.tells place (omega (arith, t.is_graph.sized)) in
    let bad : true ≡ false = sym (told.1 (leads_in_graph items source.All t.graph t.is_graph (λ p x is. refl) place place leads (λ x at. refl))) ∙ off in cc

or_true : (a : Bool) → (a || true) ≡ true
or_true true = refl
or_true false = refl

itself : (place : ℕ) → (place == place) ≡ true
itself place = grind (arith, nat_tests)

only_these : (place p : ℕ) (a : Bool) → (a || (p == place)) ≡ true → (a ≡ true) ⊎ (p ≡ place)
only_these place p true h = inl refl
only_these place p false h = inr (grind (arith, nat_tests))

-- a declaration on a cycle of the graph of the `namedsort`s and it alone
pub own_cycle : (items : List Declaration) (on_cycle : List Bool) (place : ℕ) → TellsCyclesOf items (source.NamedAnd place) on_cycle → place < length items → IsTrue (slice_index_or on_cycle place false) ↔ LeadsTo items place place
own_cycle items on_cycle place t lt =
    let told = t.tells place (omega (arith, t.is_graph.sized)) in (
      λ yes. leads_to items (source.NamedAnd place) t.graph t.is_graph place (λ p x is. only_these place p (is_named x) is) place place (told.0 yes) refl,
      λ leads. told.1 (leads_in_graph items (source.NamedAnd place) t.graph t.is_graph (λ p x is. ap (λ a. a || (p == place)) is) place place leads (λ x at. ap (λ b. is_named x || b) (itself place) ∙ or_true (is_named x))),
    )

-- what is told of the declarations so far
pub record CyclesSoFar (items : List Declaration) (count : ℕ) (told : List Bool) : Type 0 where
  pub sized : length told ≡ count
  pub each : (k : ℕ) → k < count → IsTrue (get_or told k false) ↔ LeadsTo items k k
