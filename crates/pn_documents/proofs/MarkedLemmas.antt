-- What the net that is made for a marking is: the flat net, with other initial markings of its places.
use Rattle.std.proofs.Common.{◌≡◌, ℕ, suc, List, [], ◌∷◌, map, length, Some, refl, sym, ap, ◌∙◌, subst}
use Rattle.std.specs.List.{Contains, slice_get}
use Rattle.std.proofs.lemmas.Simd.{map-map}
use Rattle.pn_flat_laws.proofs.AlikeNetLemmas.{places_unmarked}
use Rattle.pn_flat_laws.proofs.ReadBackLemmas.{read_back_from}
use Rattle.pn_flat_laws.specs.AlikeNets.{AreAlikeButMarked, AreAlikeNets, unmarked}
use Rattle.pn_checks.specs.Linked.{IsLinked}
use Rattle.pn_net.specs.Flattening.{net_of_flat}
use Rattle.pn_net.specs.Typed.{IsWired}
use Rattle.pn_net.specs.declared.flat.Flat.{Flat}
use Rattle.pn_net.specs.declared.flat.FlatArc.{FlatArc}
use Rattle.pn_net.specs.declared.token.Token.{Token}
use Rattle.pn_objects.specs.Offsets.{IsSameNet, place_without_offsets}
use Rattle.pn_objects.specs.declared.net.Net.{Net}
use Rattle.pn_objects.specs.declared.object.Place.{Place}
use Rattle.pn_operators.specs.declared.kind.Kind.{Kind}
use Rattle.pn_operators.specs.declared.kind.Kind.TheVariants as kinds
use Rattle.pn_spelling.specs.ReadNets.{net_of}
use Rattle.pn_tree.specs.declared.element.Element.{Element}
use Rattle.pn_marked.specs.Marked.{IsMarkedNet, IsMarkedPlace}
use Rattle.pn_documents.proofs.RemarkedLemmas.{net_same, own_flat, unmark, wired_same, with_places}

-- two lists of one length that tell the same item by item
told_same : {X Y : Type 0} (tell : X → Y) (xs ys : List X) → length ys ≡ length xs → ((i : ℕ) (x y : X) → slice_get xs i ≡ Some x → slice_get ys i ≡ Some y → tell y ≡ tell x) → map tell ys ≡ map tell xs
told_same tell [] [] size each = refl
told_same tell [] (y ∷ ys) size each = absurd cc
told_same tell (x ∷ xs) [] size each = absurd cc
told_same {X} tell (x ∷ xs) (y ∷ ys) size each =
    let rest : length ys ≡ length xs = cc in
    λ i. each 0 x y refl refl i ∷ told_same tell xs ys rest (λ k u v at there. each (suc k) u v at there) i

pub but_marking : (k : Kind) (f : Flat) (m : List (Token × ℕ)) (i : ℕ) (p q : Place) → IsMarkedPlace k f.declarations m i p q → unmark q ≡ unmark p
but_marking kinds.PtNet f m i p q is = ap unmark is
but_marking kinds.Symmetric f m i p q (sort, of_place, is) = ap unmark is
but_marking kinds.HighLevel f m i p q (sort, of_place, is) = ap unmark is

unmarked_is : (ps : List Place) → map place_without_offsets (map unmark ps) ≡ map unmarked ps
unmarked_is ps = map-map place_without_offsets unmark ps

module _ (f : Flat) (m : List (Token × ℕ)) (n : Net) (is : IsMarkedNet f m n) where
  -- the places have the ids, heads and types of those of the flat net
  pub marked_same : map unmark is.places ≡ map unmark f.places
  marked_same = told_same unmark f.places is.places is.marked.size (λ i p q at there. but_marking f.kind f m i p q (is.marked.each i p q at there))

  -- the flat net with this marking as its initial one
  abbrev pub marked_flat : Flat
  marked_flat = with_places f is.places

  pub marked_is : n ≡ net_of_flat marked_flat
  marked_is = is.is ∙ sym (net_same f is.places marked_same)

  module _ (wired : (a : FlatArc) → Contains f.arcs a → IsWired f a) where
    pub marked_wired : (a : FlatArc) → Contains f.arcs a → IsWired marked_flat a
    marked_wired a c = wired_same f is.places marked_same a (wired a c)

    -- the flat net of another document of the same net is equal to it but for offsets
    pub marked_alike : (other : Element) (g : Flat) → IsLinked other g → IsSameNet (net_of other) n → AreAlikeNets marked_flat g
    marked_alike other g to same = read_back_from (net_of_flat marked_flat) other marked_flat g (own_flat marked_flat marked_wired) marked_wired to (subst (IsSameNet (net_of other)) marked_is same)

    -- and so to the flat net, but for offsets and initial markings
    pub moves_alike : (other : Element) (g : Flat) → IsLinked other g → IsSameNet (net_of other) n → AreAlikeButMarked f g
    moves_alike other g to same =
        let alike = marked_alike other g to same in
        record {
          declarations = alike.declarations;
          places = sym (unmarked_is f.places) ∙ ap (map place_without_offsets) (sym marked_same) ∙ unmarked_is is.places ∙ places_unmarked is.places g.places alike.places;
          transitions = alike.transitions;
          arcs = alike.arcs;
        }
