-- The faults of sorts of a net are those of its declarations, of its types and of its terms.
use Rattle.std.proofs.Common.{◌≡◌, ◌⊎◌, inl, inr, ℕ, List, [], ◌∷◌, ◌++◌, map, Option, Some, None, refl, sym, ap, ◌∙◌, subst}
use Rattle.std.specs.List.{AllZip, Contains, cons_option, filter_map}
use Rattle.std.proofs.lemmas.List.Elements.{Contains-append_cases, Contains-append_left, Contains-append_right}
use Rattle.pn_facts.proofs.Contained.{contains_cases, contains_first, contains_next, contains_nil}
use Rattle.pn_faults.specs.declared.fault.Fault.{Fault}
use Rattle.pn_faults.specs.Standing.{IsLeastOf}
use Rattle.pn_faults.specs.Walks.{KeepsLeast, StandsInSome}
use Rattle.pn_faults.proofs.WalkLemmas.{keeps_nothing, least_alike, least_of_both}
use Rattle.pn_net.specs.Flattening.{IsFlattened, IsRewired, arc_of_flat, net_of_flat}
use Rattle.pn_net.specs.Labels.{condition_terms, inscription_terms, net_terms, said, type_exprs}
use Rattle.pn_net.specs.Objects.{net_arcs, net_declarations}
use Rattle.pn_net.specs.Typing.{HasEmptyConstantRange, StandsInSorts, declared, of_type, of_term, of_constant}
use Rattle.pn_net.specs.declared.flat.Flat.{Flat}
use Rattle.pn_net.specs.declared.flat.FlatArc.{FlatArc}
use Rattle.pn_objects.specs.declared.net.Net.{Net}
use Rattle.pn_objects.specs.declared.object.Arc.{Arc}
use Rattle.pn_objects.specs.declared.object.Place.{Place}
use Rattle.pn_objects.specs.declared.object.Transition.{Transition}
use Rattle.pn_resolve.specs.Standing.{StandsInSort}
use Rattle.pn_sorts.specs.Standing.{Stands}
use Rattle.pn_syntax.specs.declared.declaration.Declaration.{Declaration}
use Rattle.pn_syntax.specs.declared.term.Term.{Term}
use Rattle.pn_syntax.specs.declared.term.TermNode.TheOpen as layer
use Rattle.pn_syntax.specs.declared.term.TermNode.TheVariants.{rolls-RangeConst}
use Rattle.pn_syntax.specs.declared.term.TermNode.TheViews.{roll-TermNode, roll-out-TermNode}
use Rattle.pn_terms.specs.Standing.{SortStandsAt, SortStandsIn}
use Rattle.pn_terms.specs.Terms.{IsPart, Layer, layer_of}
use Rattle.pn_terms.proofs.TermLemmas.{out_range}
use Rattle.pn_checks.specs.Sorts.{ArcStands, InSaid, KnowsDeclared, PlaceStands, SortsStandAt, SortsStandIn, TransitionStands}
use Rattle.pn_checks.proofs.FlatLemmas.{flat_arcs_are, flat_declarations, flat_places_are, flat_transitions_are}

-- ---- a term

from_layer : (items : List Declaration) (e x : Term) (f : Fault) → IsPart e x → (l : Layer) → layer_of x ≡ l → SortsStandAt items l x.at f → SortStandsIn items e f ⊎ HasEmptyConstantRange e f
from_layer items e x f part (layer.Variable name) is h = absurd h
from_layer items e x f part (layer.UserOp name) is h = absurd h
from_layer items e x f part (layer.Bool truth) is h = absurd h
from_layer items e x f part (layer.Number value sort) is h = absurd h
from_layer items e x f part (layer.RangeConst value start end) is h = inr (record {
  constant = x;
  is_part = part;
  value = value;
  start = start;
  end = end;
  is_range = sym (roll-out-TermNode x.node) ∙ ap roll-TermNode is ∙ rolls-RangeConst value start end;
  is_empty = h.0;
  is = h.1;
})
from_layer items e x f part (layer.Text text) is h = absurd h
from_layer items e x f part (layer.All s) is h = inl (x, part, subst (λ l. SortStandsAt items l f) (sym is) h)
from_layer items e x f part (layer.Empty s) is h = inl (x, part, subst (λ l. SortStandsAt items l f) (sym is) h)
from_layer items e x f part (layer.EmptyList s) is h = inl (x, part, subst (λ l. SortStandsAt items l f) (sym is) h)
from_layer items e x f part (layer.PartitionOf name arg) is h = absurd h
from_layer items e x f part (layer.Apply op args) is h = absurd h

term_out : (items : List Declaration) (e : Term) (f : Fault) → SortsStandIn items e f → SortStandsIn items e f ⊎ HasEmptyConstantRange e f
term_out items e f (x, part, h) = from_layer items e x f part (layer_of x) refl h

to_layer : (items : List Declaration) (at : ℕ) (f : Fault) (l : Layer) → SortStandsAt items l f → SortsStandAt items l at f
to_layer items at f (layer.Variable name) h = absurd h
to_layer items at f (layer.UserOp name) h = absurd h
to_layer items at f (layer.Bool truth) h = absurd h
to_layer items at f (layer.Number value sort) h = absurd h
to_layer items at f (layer.RangeConst value start end) h = absurd h
to_layer items at f (layer.Text text) h = absurd h
to_layer items at f (layer.All s) h = h
to_layer items at f (layer.Empty s) h = h
to_layer items at f (layer.EmptyList s) h = h
to_layer items at f (layer.PartitionOf name arg) h = absurd h
to_layer items at f (layer.Apply op args) h = absurd h

term_back : (items : List Declaration) (e : Term) (f : Fault) → SortStandsIn items e f → SortsStandIn items e f
term_back items e f (x, part, h) = (x, part, to_layer items x.at f (layer_of x) h)

constant_back : (items : List Declaration) (e : Term) (f : Fault) → HasEmptyConstantRange e f → SortsStandIn items e f
constant_back items e f empty =
    (empty.constant, empty.is_part, subst (λ l. SortsStandAt items l empty.constant.at f) (sym (out_range empty.constant.node empty.value empty.start empty.end empty.is_range)) (empty.is_empty, empty.is))

-- ---- what is said

module _ {X T : Type 0} (P : T → Fault → Type 0) (h : X → Option T) (f : Fault) where
  pub said_where : (xs : List X) (e : T) → Contains (filter_map h xs) e → P e f → StandsInSome (λ x. InSaid P (h x)) xs f
  said_where [] e there stands = absurd (contains_nil e there)
  said_where (x ∷ xs) e there stands = by (h x) refl there (λ c. said_where xs e c stands)
    where
      behind : StandsInSome (λ x. InSaid P (h x)) xs f → StandsInSome (λ x. InSaid P (h x)) (x ∷ xs) f
      behind (y, c, holds) = (y, contains_next x xs y c, holds)

      by : (o : Option T) → h x ≡ o → Contains (cons_option o (filter_map h xs)) e → (Contains (filter_map h xs) e → StandsInSome (λ x. InSaid P (h x)) xs f) → StandsInSome (λ x. InSaid P (h x)) (x ∷ xs) f
      by None is c rest = behind (rest c)
      by (Some t) is c rest = which (contains_cases t (filter_map h xs) e c)
        where
          which : (t ≡ e) ⊎ Contains (filter_map h xs) e → StandsInSome (λ x. InSaid P (h x)) (x ∷ xs) f
          which (inl same) = (x, contains_first x xs, subst (λ o. InSaid P o f) (sym is) (subst (λ u. P u f) (sym same) stands))
          which (inr later) = behind (rest later)

  pub where_said : (xs : List X) → StandsInSome (λ x. InSaid P (h x)) xs f → (e : T) × Contains (filter_map h xs) e × P e f
  where_said [] (x, c, holds) = absurd (contains_nil x c)
  where_said (y ∷ xs) (x, c, holds) = by (h y) refl (contains_cases y xs x c) (λ later. where_said xs (x, later, holds))
    where
      more : (o : Option T) → (e : T) × Contains (filter_map h xs) e × P e f → (e : T) × Contains (cons_option o (filter_map h xs)) e × P e f
      more None found = found
      more (Some t) (e, there, stands) = (e, contains_next t (filter_map h xs) e there, stands)

      here : (o : Option T) → InSaid P o f → (e : T) × Contains (cons_option o (filter_map h xs)) e × P e f
      here None stands = absurd stands
      here (Some t) stands = (t, contains_first t (filter_map h xs), stands)

      by : (o : Option T) → h y ≡ o → (y ≡ x) ⊎ Contains xs x → (Contains xs x → (e : T) × Contains (filter_map h xs) e × P e f) → (e : T) × Contains (cons_option o (filter_map h xs)) e × P e f
      by o is (inl same) rest = here o (subst (λ u. InSaid P u f) (ap h (sym same) ∙ is) holds)
      by o is (inr later) rest = more o (rest later)

-- ---- a net

module _ (items : List Declaration) (places : List Place) (transitions : List Transition) (arcs : List FlatArc) where
  -- in the declarations, at a place, a transition or an arc
  abbrev pub StandsSomewhere : Fault → Type 0
  StandsSomewhere f =
      ((Stands items f ⊎ StandsInSome (PlaceStands items) places f) ⊎ StandsInSome (TransitionStands items) transitions f) ⊎ StandsInSome (ArcStands items) arcs f

  abbrev Markings : List Term
  Markings = filter_map (λ p. said p.hl_marking) places

  abbrev Conditions : List Term
  Conditions = filter_map (λ t. said t.condition) transitions

  abbrev Inscriptions : List Term
  Inscriptions = filter_map (λ a. said a.arc.inscription) arcs

  module _ (n : Net) (declarations : net_declarations n ≡ items) (types : type_exprs n ≡ filter_map (λ p. said p.sort) places) (terms : net_terms n ≡ Markings ++ (Conditions ++ Inscriptions)) where
    at_term : (f : Fault) (e : Term) → Contains (net_terms n) e → SortsStandIn items e f → StandsSomewhere f
    at_term f e there stands = which (Contains-append_cases Markings (Conditions ++ Inscriptions) e (subst (λ es. Contains es e) terms there))
      where
        later : Contains Conditions e ⊎ Contains Inscriptions e → StandsSomewhere f
        later (inl c) = inl (inr (said_where (SortsStandIn items) (λ t. said t.condition) f transitions e c stands))
        later (inr c) = inr (said_where (SortsStandIn items) (λ a. said a.arc.inscription) f arcs e c stands)

        which : Contains Markings e ⊎ Contains (Conditions ++ Inscriptions) e → StandsSomewhere f
        which (inl c) = let found = said_where (SortsStandIn items) (λ p. said p.hl_marking) f places e c stands in inl (inl (inr (found.0, found.1, inr found.2)))
        which (inr c) = later (Contains-append_cases Conditions Inscriptions e c)

    out : (f : Fault) → StandsInSorts n f → StandsSomewhere f
    out f (declared _ stands) = inl (inl (inl (subst (λ ds. Stands ds f) declarations stands)))
    out f (of_type _ e there stands) =
        let found = said_where (StandsInSort items) (λ p. said p.sort) f places e (subst (λ es. Contains es e) types there) (subst (λ ds. StandsInSort ds e f) declarations stands) in
        inl (inl (inr (found.0, found.1, inl found.2)))
    out f (of_term _ e there stands) = at_term f e there (term_back items e f (subst (λ ds. SortStandsIn ds e f) declarations stands))
    out f (of_constant _ e there empty) = at_term f e there (constant_back items e f empty)

    from_term : (f : Fault) (e : Term) → Contains (Markings ++ (Conditions ++ Inscriptions)) e → SortsStandIn items e f → StandsInSorts n f
    from_term f e c stands = which (term_out items e f stands)
      where
        there : Contains (net_terms n) e
        there = subst (λ es. Contains es e) (sym terms) c

        which : SortStandsIn items e f ⊎ HasEmptyConstantRange e f → StandsInSorts n f
        which (inl sort) = of_term f e there (subst (λ ds. SortStandsIn ds e f) (sym declarations) sort)
        which (inr empty) = of_constant f e there empty

    of_place : (f : Fault) (p : Place) → Contains places p → PlaceStands items p f → StandsInSorts n f
    of_place f p c (inl stands) =
        let found = where_said (StandsInSort items) (λ q. said q.sort) f places (p, c, stands) in
        of_type f found.0 (subst (λ es. Contains es found.0) (sym types) found.1) (subst (λ ds. StandsInSort ds found.0 f) (sym declarations) found.2)
    of_place f p c (inr stands) =
        let found = where_said (SortsStandIn items) (λ q. said q.hl_marking) f places (p, c, stands) in
        from_term f found.0 (Contains-append_left Markings (Conditions ++ Inscriptions) found.0 found.1) found.2

    back : (f : Fault) → StandsSomewhere f → StandsInSorts n f
    back f (inl (inl (inl stands))) = declared f (subst (λ ds. Stands ds f) (sym declarations) stands)
    back f (inl (inl (inr (p, c, stands)))) = of_place f p c stands
    back f (inl (inr some)) =
        let found = where_said (SortsStandIn items) (λ t. said t.condition) f transitions some in
        from_term f found.0 (Contains-append_right Markings (Conditions ++ Inscriptions) found.0 (Contains-append_left Conditions Inscriptions found.0 found.1)) found.2
    back f (inr some) =
        let found = where_said (SortsStandIn items) (λ a. said a.arc.inscription) f arcs some in
        from_term f found.0 (Contains-append_right Markings (Conditions ++ Inscriptions) found.0 (Contains-append_right Conditions Inscriptions found.0 found.1)) found.2

    least_is : (o : Option Fault) → IsLeastOf StandsSomewhere o → IsLeastOf (StandsInSorts n) o
    least_is o least = least_alike StandsSomewhere (StandsInSorts n) o back out least

  -- from the least fault of the declarations on
  somewhere : (a b c d : Option Fault) → IsLeastOf (Stands items) a → KeepsLeast (StandsInSome (PlaceStands items) places) a b → KeepsLeast (StandsInSome (TransitionStands items) transitions) b c
      → KeepsLeast (StandsInSome (ArcStands items) arcs) c d → IsLeastOf StandsSomewhere d
  somewhere a b c d first second third fourth =
      let one = more (Stands items) (StandsInSome (PlaceStands items) places) a b first second in
      let two = more (λ f. Stands items f ⊎ StandsInSome (PlaceStands items) places f) (StandsInSome (TransitionStands items) transitions) b c one third in
      more (λ f. (Stands items f ⊎ StandsInSome (PlaceStands items) places f) ⊎ StandsInSome (TransitionStands items) transitions f) (StandsInSome (ArcStands items) arcs) c d two fourth
    where
      more : (P Q : Fault → Type 0) (old new : Option Fault) → IsLeastOf P old → KeepsLeast Q old new → IsLeastOf (λ f. P f ⊎ Q f) new
      more P Q old new least keeps = subst (IsLeastOf (λ f. P f ⊎ Q f)) (sym keeps.is_lower) (least_of_both P Q old keeps.own least keeps.is_least)

-- ---- a flat net

module _ (f : Flat) where
  same_inscriptions : (xs : List FlatArc) → filter_map (λ a. said a.inscription) (map (arc_of_flat f) xs) ≡ filter_map (λ a. said a.arc.inscription) xs
  same_inscriptions [] = refl
  same_inscriptions (a ∷ xs) = ap (cons_option (said a.arc.inscription)) (same_inscriptions xs)

-- ---- a net and its flat net

pub same_terms : (n : Net) (xs ys : List Arc) → AllZip (IsRewired n) xs ys → filter_map (λ a. said a.inscription) xs ≡ filter_map (λ a. said a.inscription) ys
same_terms n [] [] alike = refl
same_terms n [] (y ∷ ys) alike = absurd alike
same_terms n (x ∷ xs) [] alike = absurd alike
same_terms n (x ∷ xs) (y ∷ ys) alike =
    ap (λ o. cons_option o (filter_map (λ a. said a.inscription) xs)) (sym (ap (λ (a : Arc). said a.inscription) alike.0.is)) ∙ ap (cons_option (said y.inscription)) (same_terms n xs ys alike.1)

module _ (n : Net) (f : Flat) (is : IsFlattened n (net_of_flat f)) where
  terms_are : net_terms n ≡ filter_map (λ p. said p.hl_marking) f.places ++ (filter_map (λ t. said t.condition) f.transitions ++ filter_map (λ a. said a.arc.inscription) f.arcs)
  terms_are =
      let inscriptions = same_terms n (net_arcs n) is.arcs is.rewired ∙ ap (filter_map (λ a. said a.inscription)) (flat_arcs_are n f is) ∙ same_inscriptions f f.arcs in
      ap (λ ps. filter_map (λ p. said p.hl_marking) ps ++ (condition_terms n ++ inscription_terms n)) (sym (flat_places_are n f is))
      ∙ ap (λ ts. filter_map (λ p. said p.hl_marking) f.places ++ (filter_map (λ t. said t.condition) ts ++ inscription_terms n)) (sym (flat_transitions_are n f is))
      ∙ ap (λ es. filter_map (λ p. said p.hl_marking) f.places ++ (filter_map (λ t. said t.condition) f.transitions ++ es)) inscriptions

  -- the least fault of the net's sorts
  pub net_least : (items : List Declaration) → items ≡ f.declarations → (a b c d : Option Fault) → IsLeastOf (Stands items) a → KeepsLeast (StandsInSome (PlaceStands items) f.places) a b
      → KeepsLeast (StandsInSome (TransitionStands items) f.transitions) b c → KeepsLeast (StandsInSome (ArcStands items) f.arcs) c d → IsLeastOf (StandsInSorts n) d
  net_least items same a b c d first second third fourth =
      least_is items f.places f.transitions f.arcs n (sym (flat_declarations n f is) ∙ sym same) (ap (filter_map (λ p. said p.sort)) (sym (flat_places_are n f is))) terms_are d
      (somewhere items f.places f.transitions f.arcs a b c d first second third fourth)

-- what is least among the declarations, no fault of theirs comes before
pub known_least : (items : List Declaration) (o : Option Fault) → IsLeastOf (Stands items) o → KnowsDeclared items o
known_least items None least = λ f stands. absurd (least f stands)
known_least items (Some g) least = λ f stands. (g, refl, least.1 f stands)

-- ---- labels, and loops over what has them

pub said_some : {T : Type 0} (P : T → Fault → Type 0) (o : Option T) (e : T) (old new : Option Fault) → o ≡ Some e → KeepsLeast (P e) old new → KeepsLeast (InSaid P o) old new
said_some P o e old new is keeps = subst (λ q. KeepsLeast (InSaid P q) old new) (sym is) keeps

pub said_none : {T : Type 0} (P : T → Fault → Type 0) (o : Option T) (old : Option Fault) → o ≡ None → KeepsLeast (InSaid P o) old old
said_none P o old is = subst (λ q. KeepsLeast (InSaid P q) old old) (sym is) (keeps_nothing (λ f. ⊥) old (λ f h. h))
