-- A net with another marking as its initial one (ISO/IEC 15909-1, markings; ISO/IEC 15909-2, initial markings).
use Rattle.std.specs.Prelude.{◌≡◌, ◌==◌, ℕ, zero, suc, pos, List, [], ◌∷◌, length, map, Option, None, Some, if◌then◌else◌}
use Rattle.std.specs.List.{slice_get}
use Rattle.std.specs.Option.{option_map}
use Rattle.pn_bag.specs.Counts.{count_of}
use Rattle.pn_checks.specs.Initial.{token}
use Rattle.pn_net.specs.Flattening.{arc_of_flat, net_of_flat, page_of_objects}
use Rattle.pn_net.specs.Labels.{IsPlaceSort}
use Rattle.pn_net.specs.Orders.{token_cmp}
use Rattle.pn_net.specs.declared.flat.Flat.{Flat}
use Rattle.pn_net.specs.declared.token.Token.{Token}
use Rattle.pn_objects.specs.declared.label.Label.{Label}
use Rattle.pn_objects.specs.declared.net.Net.{Net}
use Rattle.pn_objects.specs.declared.object.Place.{Place}
use Rattle.pn_operators.specs.declared.kind.Kind.{Kind}
use Rattle.pn_operators.specs.declared.kind.Kind.TheVariants as kinds
use Rattle.pn_operators.specs.declared.op.Op.TheVariants as op
use Rattle.pn_syntax.specs.declared.declaration.Declaration.{Declaration}
use Rattle.pn_syntax.specs.declared.term.NumberSort.TheVariants as numbers
use Rattle.pn_syntax.specs.declared.term.Term.{Term}
use Rattle.pn_syntax.specs.declared.term.TermNode.TheVariants as nodes
use Rattle.pn_values.specs.declared.sort.Sort.{Sort}
use Rattle.pn_values.specs.declared.value.Value.{Value}
use Rattle.pn_values.specs.declared.value.Value.TheVariants as values
use Rattle.pn_marked.specs.Ground.{applied, ground_term, term_of_node}

-- the values on the place of this number, each with its count
abbrev pub values_on : List (Token × ℕ) → ℕ → List (Value × ℕ)
values_on [] place = []
values_on (entry ∷ m) place = if entry.0.place == place then (entry.0.value, entry.1) ∷ values_on m place else values_on m place

-- the term of a value so often
abbrev pub so_often : List Declaration → Sort → Value × ℕ → Term
so_often items sort entry = applied op.NumberOf (term_of_node (nodes.Number (pos entry.1) numbers.Positive) ∷ ground_term items sort entry.0 ∷ [])

-- one term stands alone, several are added; for none there is none
abbrev pub sum_term : List Term → Option Term
sum_term [] = None
sum_term (e ∷ []) = Some e
sum_term (e ∷ other ∷ more) = Some (applied op.Add (e ∷ other ∷ more))

-- the term of a multiset of values of the sort, in their order; for the empty one there is none
abbrev pub bag_term : List Declaration → Sort → List (Value × ℕ) → Option Term
bag_term items sort bag = sum_term (map (so_often items sort) bag)

-- a label that says this alone
abbrev pub label_of : {T : Type 0} → T → Label T
label_of value = record { value = value; text = None; opaque = []; at = 0 }

-- the label of a number; for 0 there is none
abbrev pub number_label : ℕ → Option (Label ℕ)
number_label zero = None
number_label (suc n) = Some (label_of (suc n))

-- the second is the first place, of this number, with what stands on it as its initial marking: in a place/transition net their number, else their term
abbrev pub IsMarkedPlace : Kind → List Declaration → List (Token × ℕ) → ℕ → Place → Place → Type 0
IsMarkedPlace kinds.PtNet items m i p q = q ≡ record p { marking = number_label (count_of token_cmp m (token i values.Dot)); hl_marking = None }
IsMarkedPlace kinds.Symmetric items m i p q = (sort : Sort) × IsPlaceSort items p sort × (q ≡ record p { marking = None; hl_marking = option_map label_of (bag_term items sort (values_on m i)) })
IsMarkedPlace kinds.HighLevel items m i p q = (sort : Sort) × IsPlaceSort items p sort × (q ≡ record p { marking = None; hl_marking = option_map label_of (bag_term items sort (values_on m i)) })

-- so are these the places of the flat net, one by one
pub record AreMarkedPlaces (f : Flat) (m : List (Token × ℕ)) (places : List Place) : Type 0 where
  pub size : length places ≡ length f.places
  pub each : (i : ℕ) (p q : Place) → slice_get f.places i ≡ Some p → slice_get places i ≡ Some q → IsMarkedPlace f.kind f.declarations m i p q

-- the flat net as a net, with these places
abbrev pub net_with_places : Flat → List Place → Net
net_with_places f places = record (net_of_flat f) { pages = page_of_objects f.page_id f.page_head places f.transitions (map (arc_of_flat f) f.arcs) ∷ [] }

-- the flat net as a net, with the initial marking of each place replaced by what is written for the marking
pub record IsMarkedNet (f : Flat) (m : List (Token × ℕ)) (n : Net) : Type 0 where
  pub places : List Place
  pub marked : AreMarkedPlaces f m places
  pub is : n ≡ net_with_places f places
