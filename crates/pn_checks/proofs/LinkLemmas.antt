-- The least fault of a tree whose fault is one of shape or of ids and links.
use Rattle.std.proofs.Common.{Result, Ok, Err, ◌≡◌, ◌≤◌, ◌⊎◌, inl, inr, List, ◌∷◌, length, false, Some, IfSome, IfOk, IsTrue, OnOk, refl, sym, subst}
use Rattle.std.specs.List.{Contains}
use Rattle.std.proofs.lemmas.List.Elements.{All-contains, Contains-append_cases, Contains-append_right}
use Rattle.pn_facts.proofs.Contained.{contains_cases, contains_first, contains_nil}
use Rattle.pn_faults.specs.Least.{IsLeast, least_fault}
use Rattle.pn_faults.specs.Order.{comes_before}
use Rattle.pn_faults.specs.Standing.{IsLeastOf}
use Rattle.pn_faults.specs.declared.fault.Fault.{Fault}
use Rattle.pn_faults.proofs.LeastLemmas.{first-from_least_fault, not_before_itself, not_behind}
use Rattle.pn_faults.specs.declared.fault.Refusal.{Refusal}
use Rattle.pn_checks.specs.Linked.{IsLeastInTree, IsLinked}
use Rattle.pn_checks.specs.Verdicts.{IsFaultOf, in_tree, no_value}
use Rattle.pn_net.specs.Documents.{HasNoShapeFault, HasSoundLinks, IsWellTyped, StandsInTree, links, shape, sorts, typing}
use Rattle.pn_net.specs.Flattening.{IsFlattened, net_of_flat}
use Rattle.pn_net.specs.Links.{StandsInLinks}
use Rattle.pn_net.specs.Typed.{HasNumbers, HasTypedLabels, IsTyped, IsWired}
use Rattle.pn_net.specs.declared.flat.Flat.{Flat}
use Rattle.pn_net.specs.declared.flat.FlatArc.{FlatArc}
use Rattle.pn_objects.specs.declared.net.Net.{Net}
use Rattle.pn_round_trip.proofs.NetLaws.{net_spellable}
use Rattle.pn_shape.specs.Faults.{shape_faults}
use Rattle.pn_spelling.specs.ReadNets.{net_of}
use Rattle.pn_spelling.specs.Writable.{IsWritable}
use Rattle.pn_tree.specs.Elements.{IsTree}
use Rattle.pn_tree.specs.declared.element.Element.{Element}

-- the least fault of a list stands in it, and none there comes before it
module _ (fs : List Fault) (f : Fault) (l : IsLeast fs f) where
  stands_there : Contains fs f
  stands_there = subst (λ xs. Contains xs f) (sym l.stands) (Contains-append_right l.front (f ∷ l.rest) f (contains_first f l.rest))

  none_before : (g : Fault) → Contains fs g → comes_before g f ≡ false
  none_before g has = by (Contains-append_cases l.front (f ∷ l.rest) g (subst (λ xs. Contains xs g) l.stands has))
    where
      behind : (f ≡ g) ⊎ Contains l.rest g → comes_before g f ≡ false
      behind (inl same) = subst (λ h. comes_before h f ≡ false) same (not_before_itself f)
      behind (inr rest) = All-contains (λ h. comes_before h f ≡ false) l.rest g l.none_before rest

      by : Contains l.front g ⊎ Contains (f ∷ l.rest) g → comes_before g f ≡ false
      by (inl front) = not_behind f g (All-contains (λ h. IsTrue (comes_before f h)) l.front g l.before front)
      by (inr rest) = behind (contains_cases f l.rest g rest)

module _ (tree : Element) where
  not_clean : (f : Fault) → Contains (shape_faults tree) f → HasNoShapeFault tree → ⊥
  not_clean f has clean = contains_nil f (subst (λ fs. Contains fs f) clean has)

  -- a fault of shape
  pub shape_told : (f : Fault) → least_fault (shape_faults tree) ≡ Some f → IsLeastInTree tree f
  shape_told f is =
      let l = first-from_least_fault (shape_faults tree) f is in
      let has = stands_there (shape_faults tree) f l in
      record { least = (in_tree f (shape f has), before l has); of_shape = subst (λ o. IfSome o (λ g. f ≡ g)) (sym is) refl }
    where
      among : IsLeast (shape_faults tree) f → Contains (shape_faults tree) f → (g : Fault) → StandsInTree tree g → comes_before g f ≡ false
      among l has g (shape _ there) = none_before (shape_faults tree) f l g there
      among l has g (links _ clean there) = absurd (not_clean f has clean)
      among l has g (sorts _ _ linked there told) = absurd (not_clean f has linked.spells)
      among l has g (typing _ sound there) = absurd (not_clean f has sound.linked.spells)

      before : IsLeast (shape_faults tree) f → Contains (shape_faults tree) f → (g : Fault) → IsFaultOf tree g → comes_before g f ≡ false
      before l has g (in_tree _ there) = among l has g there
      before l has g (no_value _ sound there) = absurd (not_clean f has sound.linked.spells)

  -- which the tree then has
  pub shape_unsound : (f : Fault) → least_fault (shape_faults tree) ≡ Some f → HasSoundLinks tree → ⊥
  shape_unsound f is sound = not_clean f (stands_there (shape_faults tree) f (first-from_least_fault (shape_faults tree) f is)) sound.spells

  -- a fault of ids and links
  pub link_told : (f : Fault) → HasNoShapeFault tree → IsLeastOf (StandsInLinks (net_of tree)) (Some f) → IsLeastInTree tree f
  link_told f clean least = record { least = (in_tree f (links f clean least.0), before); of_shape = subst (λ fs. IfSome (least_fault fs) (λ g. f ≡ g)) (sym clean) tt }
    where
      among : (g : Fault) → StandsInTree tree g → comes_before g f ≡ false
      among g (shape _ there) = absurd (not_clean g there clean)
      among g (links _ also there) = least.1 g there
      among g (sorts _ _ linked there told) = absurd (linked.links f least.0)
      among g (typing _ sound there) = absurd (sound.linked.links f least.0)

      before : (g : Fault) → IsFaultOf tree g → comes_before g f ≡ false
      before g (in_tree _ there) = among g there
      before g (no_value _ sound there) = absurd (sound.linked.links f least.0)

  -- what flattening answers

  -- the net has a page
  pub page_there : (n : Net) → n ≡ net_of tree → HasNoShapeFault tree → 1 ≤ length n.pages
  page_there n is clean = (subst (λ (m : Net). 1 ≤ length m.pages) (sym is) (net_spellable tree (net_of tree) clean refl).has_page)

  pub linked_by : (n : Net) (r : Result Flat Refusal) → n ≡ net_of tree → IsTree tree → HasNoShapeFault tree → IsWritable n → IfOk r (λ f. IsFlattened n (net_of_flat f))
      → IfOk r (λ f. (a : FlatArc) → Contains f.arcs a → IsWired f a) → IfOk r HasNumbers → OnOk r ((f : Fault) → StandsInLinks n f → ⊥) → (IsWritable n → IfOk r (λ f. IsWritable (net_of_flat f))) → IfOk r (IsLinked tree)
  linked_by n (Err e) is fits clean writes flat wired numbers sound writable = tt
  linked_by n (Ok f) is fits clean writes flat wired numbers sound writable = record {
    is_tree = fits;
    sound = record { spells = clean; links = λ g there. sound g (subst (λ m. StandsInLinks m g) (sym is) there) };
    is_flat = subst (λ m. IsFlattened m (net_of_flat f)) is flat;
    wired = wired;
    numbers = numbers;
    writable = writable writes;
  }

-- a flat net without a fault is that of a document
pub is_typed : (tree : Element) (f : Flat) → IsLinked tree f → HasTypedLabels f → IsWellTyped tree → IsTyped f
is_typed tree f linked labels well = record {
  labels = labels;
  wired = linked.wired;
  document = record { tree = tree; is_tree = linked.is_tree; well_typed = well; net = net_of_flat f; is_flat = linked.is_flat; same = refl };
}
