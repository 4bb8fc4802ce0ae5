-- Which faults of typing stand in a net, by the labels of its flat net.
use Rattle.std.proofs.Common.{Result, Ok, Err, IfOk, IfSome, IsOk, ◌≡◌, ◌≤◌, ◌⊎◌, inl, inr, ◌<◌, ℕ, zero, suc, List, [], ◌∷◌, ◌++◌, length, map, codes, Option, Some, None, refl, sym, ap, ◌∙◌, subst, arith}
use Rattle.std.specs.List.{AllByRecursion, AllZip, Contains, filter_map, slice_get}
use Rattle.std.proofs.lemmas.List.Elements.{Contains-append_cases, Contains-append_left, Contains-append_right}
use Rattle.pn_bag.specs.Bag.{IsBag}
use Rattle.pn_bag.specs.declared.TheConstants.{MAX_COUNT}
use Rattle.pn_facts.proofs.Contained.{contains_at}
use Rattle.pn_facts.proofs.Each.{one_of}
use Rattle.pn_facts.proofs.Lists.{got}
use Rattle.pn_faults.specs.declared.fault.Fault.{Fault}
use Rattle.pn_faults.specs.declared.reason.Reason.TheVariants as reasons
use Rattle.pn_faults.specs.Order.{fault_at}
use Rattle.pn_faults.specs.Standing.{IsLeastOf}
use Rattle.pn_faults.specs.Walks.{StandsInSome}
use Rattle.pn_faults.specs.declared.fault.Refusal.{Refusal}
use Rattle.pn_faults.proofs.WalkLemmas.{least_alike}
use Rattle.pn_checks.specs.Initial.{AreMarked, IsInitial}
use Rattle.pn_checks.specs.Linked.{IsLinked}
use Rattle.pn_checks.specs.SoundLabels.{AreCounted, HasSoundLabels, HasSoundTerm, HaveSoundTerms}
use Rattle.pn_checks.specs.LabelFaults.{ArcLabels, AtPlaceStands, InscriptionStands, IsOfOther, IsTruth, IsVariableIn, LabelStands, MarkingStands, PlaceLabels, TransitionLabels}
use Rattle.pn_checks.specs.NoValue.{IsNoValue, IsNoValueOf, SaysMultiset}
use Rattle.pn_checks.specs.Sorts.{InSaid}
use Rattle.pn_checks.proofs.EndLemmas.{Joins, across, beside, joins_only, joins_place, rewired_joins, zip_mapped}
use Rattle.pn_checks.proofs.FlatLemmas.{flat_arcs_are, flat_declarations, flat_places_are, flat_transitions_are}
use Rattle.pn_checks.proofs.NetSortLemmas.{said_where, where_said}
use Rattle.pn_checks.proofs.PlainLemmas.{pages_all}
use Rattle.pn_checks.proofs.UniqueLemmas.{HasSound}
use Rattle.pn_net.specs.Ends.{IsPlaceOfArc}
use Rattle.pn_net.specs.Flattening.{IsFlattened, IsRewired, arc_of_flat, net_of_flat}
use Rattle.pn_net.specs.Labels.{IsPlaceSort, condition_terms, inscription_terms, marking_terms, net_terms, said}
use Rattle.pn_net.specs.Objects.{net_arcs, net_declarations, net_places, net_transitions}
use Rattle.pn_net.specs.Orders.{token_cmp}
use Rattle.pn_net.specs.Sound.{HasSoundSort}
use Rattle.pn_net.specs.declared.token.Token.{Token}
use Rattle.pn_net.specs.Typing.{IsNoCondition, IsNoInscription, IsNoMarking, IsNotGround, IsTermOver, StandsInSorts, StandsInTyping, declared, of_type, of_term, of_condition, of_marking, of_inscription, not_ground}
use Rattle.pn_net.specs.declared.flat.Flat.{Flat}
use Rattle.pn_net.specs.declared.flat.FlatArc.{FlatArc}
use Rattle.pn_objects.specs.declared.label.Label.{Label}
use Rattle.pn_objects.specs.declared.net.Net.{Net}
use Rattle.pn_objects.specs.declared.object.Arc.{Arc}
use Rattle.pn_objects.specs.declared.object.Place.{Place}
use Rattle.pn_objects.specs.declared.object.Transition.{Transition}
use Rattle.pn_resolve.specs.Standing.{StandsInSort}
use Rattle.pn_round_trip.proofs.NetLaws.{net_spellable}
use Rattle.pn_round_trip.specs.Spellable.{IsCountLabel, IsHadWith, IsSpellableNet, IsSpellablePlace}
use Rattle.pn_shape.specs.declared.tag.Tag.TheVariants as tag
use Rattle.pn_sorts.specs.Standing.{IsFaultless, Stands}
use Rattle.pn_spelling.specs.ReadNets.{net_of}
use Rattle.pn_syntax.specs.declared.declaration.Declaration.{Declaration}
use Rattle.pn_syntax.specs.declared.sort_expr.SortExpr.{SortExpr}
use Rattle.pn_syntax.specs.declared.term.Term.{Term}
use Rattle.pn_terms.specs.Standing.{HasSoundSorts, SortStandsIn, StandsIn}
use Rattle.pn_tree.specs.declared.element.Element.{Element}

-- more said of the same things
in_said : {T : Type 0} (P Q : T → Fault → Type 0) (f : Fault) → ((e : T) → P e f → Q e f) → (o : Option T) → InSaid P o f → InSaid Q o f
in_said P Q f to None h = absurd h
in_said P Q f to (Some e) h = to e h

in_some : {X : Type 0} (P Q : X → Fault → Type 0) (f : Fault) → ((x : X) → P x f → Q x f) → (xs : List X) → StandsInSome P xs f → StandsInSome Q xs f
in_some P Q f to xs (x, c, h) = (x, c, to x h)

-- what is said
record IsSaid {T : Type 0} (P : T → Fault → Type 0) (o : Option T) (f : Fault) : Type 0 where
  it : T
  is : o ≡ Some it
  holds : P it f

read : {T : Type 0} (P : T → Fault → Type 0) (f : Fault) (o : Option T) → InSaid P o f → IsSaid P o f
read P f None h = absurd h
read P f (Some e) h = record { it = e; is = refl; holds = h }

spoken : {T : Type 0} (P : T → Fault → Type 0) (f : Fault) (o : Option T) (e : T) → o ≡ Some e → P e f → InSaid P o f
spoken P f o e is h = subst (λ q. InSaid P q f) (sym is) h

-- the ends of an arc of a flat net are in range
abbrev pub HasBothEnds : Flat → Type 0
HasBothEnds f = (w : FlatArc) → Contains f.arcs w → (w.place < length f.places) × (w.transition < length f.transitions)

-- all that stands in labels
abbrev pub LabelsStand : List Declaration → List Place → List Transition → List FlatArc → Fault → Type 0
LabelsStand items places transitions arcs f =
    (StandsInSome (PlaceLabels items) places f ⊎ StandsInSome (TransitionLabels items) transitions f) ⊎ StandsInSome (ArcLabels items places) arcs f

-- what a thing says stands among what all say
pub there : {X T : Type 0} (h : X → Option T) (xs : List X) (x : X) (e : T) → Contains xs x → h x ≡ Some e → Contains (filter_map h xs) e
there h xs x e c is =
    let found = where_said (λ t f. t ≡ e) h (fault_at reasons.NoValue 0 []) xs (x, c, spoken (λ t f. t ≡ e) (fault_at reasons.NoValue 0 []) (h x) e is refl) in
    subst (Contains (filter_map h xs)) found.2 found.1

module _ (n : Net) (f : Flat) (flat : IsFlattened n (net_of_flat f)) (sound : HasSound n) (ends : HasBothEnds f) where
  abbrev Items : List Declaration
  Items = net_declarations n

  abbrev Here : Fault → Type 0
  Here = LabelsStand Items (net_places n) (net_transitions n) f.arcs

  zipped : AllZip (λ a w. IsRewired n a (arc_of_flat f w)) (net_arcs n) f.arcs
  zipped = zip_mapped (IsRewired n) (arc_of_flat f) (net_arcs n) f.arcs (subst (AllZip (IsRewired n) (net_arcs n)) (flat_arcs_are n f flat) flat.rewired)

  -- an arc of the net and its arc of the flat net say the same inscription, at one place
  record IsPaired (a : Arc) (w : FlatArc) : Type 0 where
    same : said a.inscription ≡ said w.arc.inscription
    end : Place
    at_end : slice_get (net_places n) w.place ≡ Some end
    is_end : IsPlaceOfArc n a end
    only : (q : Place) → IsPlaceOfArc n a q → q ≡ end

  paired : (a : Arc) (w : FlatArc) → Contains f.arcs w → IsRewired n a (arc_of_flat f w) → IsPaired a w
  paired a w c rewired =
      let p = got f.places w.place (ends w c).0 in
      let t = got f.transitions w.transition (ends w c).1 in
      let at_place : slice_get (net_places n) w.place ≡ Some p.0 = ap (λ ps. slice_get ps w.place) (sym (flat_places_are n f flat)) ∙ p.1 in
      let at_transition : slice_get (net_transitions n) w.transition ≡ Some t.0 = ap (λ ts. slice_get ts w.transition) (sym (flat_transitions_are n f flat)) ∙ t.1 in
      let here = contains_at (net_places n) w.place p.0 at_place in
      let beyond = contains_at (net_transitions n) w.transition t.0 at_transition in
      let joins : Joins n sound a p.0 t.0 here beyond = rewired_joins n f a w p.0 t.0 sound here beyond rewired p.1 t.1 in
      record {
        same = sym (ap (λ (x : Arc). said x.inscription) rewired.is);
        end = p.0;
        at_end = at_place;
        is_end = joins_place n sound a p.0 t.0 here beyond joins;
        only = joins_only n sound a p.0 t.0 here beyond joins;
      }

  -- ---- from the net to the labels

  marking : (g : Fault) (p : Place) (e : Term) → Contains (net_places n) p → said p.hl_marking ≡ Some e → MarkingStands Items p e g → Here g
  marking g p e c is h = inl (inl (p, c, spoken (MarkingStands Items p) g (said p.hl_marking) e is h))

  some_marking : (g : Fault) (P : Term → Fault → Type 0) → ((p : Place) (e : Term) → P e g → MarkingStands Items p e g) → (e : Term) → Contains (marking_terms n) e → P e g → Here g
  some_marking g P to e c h =
      inl (inl (in_some (λ p. InSaid P (said p.hl_marking)) (PlaceLabels Items) g (λ p s. in_said P (MarkingStands Items p) g (to p) (said p.hl_marking) s) (net_places n)
      (said_where P (λ p. said p.hl_marking) g (net_places n) e c h)))

  some_condition : (g : Fault) (e : Term) → Contains (condition_terms n) e → LabelStands Items IsTruth (codes "condition") e g → Here g
  some_condition g e c h = inl (inr (said_where (LabelStands Items IsTruth (codes "condition")) (λ t. said t.condition) g (net_transitions n) e c h))

  inscription : (g : Fault) (a : Arc) (e : Term) → Contains (net_arcs n) a → said a.inscription ≡ Some e → ((p : Place) → IsPlaceOfArc n a p → AtPlaceStands Items p (codes "hlinscription") e g) → Here g
  inscription g a e c is h =
      let found = beside (λ x w. IsRewired n x (arc_of_flat f w)) (net_arcs n) f.arcs zipped a c in
      let pair = paired a found.0 found.1 found.2 in
      inr (found.0, found.1, spoken (InscriptionStands Items (net_places n) found.0.place) g (said found.0.arc.inscription) e (sym pair.same ∙ is) (pair.end, pair.at_end, h pair.end pair.is_end))

  some_inscription : (g : Fault) (e : Term) → Contains (inscription_terms n) e → StandsIn Items e g → Here g
  some_inscription g e c h =
      let found = said_where (StandsIn Items) (λ a. said a.inscription) g (net_arcs n) e c h in
      let saying = read (StandsIn Items) g (said found.0.inscription) found.2 in
      inscription g found.0 saying.it found.1 saying.is (λ p at. inl saying.holds)

  at_term : (g : Fault) (e : Term) → Contains (net_terms n) e → StandsIn Items e g → Here g
  at_term g e among h = which (Contains-append_cases (marking_terms n) (condition_terms n ++ inscription_terms n) e among)
    where
      later : Contains (condition_terms n) e ⊎ Contains (inscription_terms n) e → Here g
      later (inl c) = some_condition g e c (inl h)
      later (inr c) = some_inscription g e c h

      which : Contains (marking_terms n) e ⊎ Contains (condition_terms n ++ inscription_terms n) e → Here g
      which (inl c) = some_marking g (StandsIn Items) (λ p x s. inl (inl (inl s))) e c h
      which (inr c) = later (Contains-append_cases (condition_terms n) (inscription_terms n) e c)

  off_inscription : (g : Fault) → IsNoInscription n g → Here g
  off_inscription g bad =
      inscription g bad.arc bad.term bad.stands bad.is_inscription (λ p at. inr (bad.place_sort, of_this p at, (bad.sort, bad.has_sort, bad.differs, bad.is)))
    where
      of_this : (p : Place) → IsPlaceOfArc n bad.arc p → IsPlaceSort Items p bad.place_sort
      of_this p at =
          let found = beside (λ x w. IsRewired n x (arc_of_flat f w)) (net_arcs n) f.arcs zipped bad.arc bad.stands in
          let pair = paired bad.arc found.0 found.1 found.2 in
          subst (λ q. IsPlaceSort Items q bad.place_sort) (pair.only bad.place bad.at_place ∙ sym (pair.only p at)) bad.of_place

  typing_out : (g : Fault) → StandsInTyping n g → Here g
  typing_out g (of_term _ e among h) = at_term g e among h
  typing_out g (of_condition _ bad) = some_condition g bad.term bad.stands (inr (bad.sort, bad.has_sort, bad.differs, bad.is))
  typing_out g (of_marking _ bad) = marking g bad.place bad.term bad.stands bad.is_marking (inl (inl (inr (bad.place_sort, bad.of_place, (bad.sort, bad.has_sort, bad.differs, bad.is)))))
  typing_out g (of_inscription _ bad) = off_inscription g bad
  typing_out g (not_ground _ bad) =
      some_marking g IsVariableIn (λ p x s. inl (inr s)) bad.term bad.stands (bad.variable, bad.is_part, bad.name, bad.is_variable, bad.is)

  pub labels_out : (g : Fault) → StandsInTyping n g ⊎ IsNoValue n g → Here g
  labels_out g (inl h) = typing_out g h
  labels_out g (inr bad) = marking g bad.place bad.term bad.stands bad.is_marking (inr bad.is)

  -- ---- from the labels to the net

  marking_there : (e : Term) (p : Place) → Contains (net_places n) p → said p.hl_marking ≡ Some e → Contains (marking_terms n) e
  marking_there e p c is = there (λ q. said q.hl_marking) (net_places n) p e c is

  inscription_there : (e : Term) (a : Arc) → Contains (net_arcs n) a → said a.inscription ≡ Some e → Contains (inscription_terms n) e
  inscription_there e a c is = there (λ b. said b.inscription) (net_arcs n) a e c is

  from_marking : (g : Fault) (p : Place) (e : Term) → Contains (net_places n) p → said p.hl_marking ≡ Some e → MarkingStands Items p e g → StandsInTyping n g ⊎ IsNoValue n g
  from_marking g p e c is (inl (inl (inl h))) = inl (of_term g e (Contains-append_left (marking_terms n) (condition_terms n ++ inscription_terms n) e (marking_there e p c is)) h)
  from_marking g p e c is (inl (inl (inr (sort, of_place, (s, has, differs, told))))) =
      inl (of_marking g (record { place = p; stands = c; term = e; is_marking = is; sort = s; has_sort = has; place_sort = sort; of_place = of_place; differs = differs; is = told }))
  from_marking g p e c is (inl (inr (x, part, name, named, told))) =
      inl (not_ground g (record { term = e; stands = marking_there e p c is; variable = x; is_part = part; name = name; is_variable = named; is = told }))
  from_marking g p e c is (inr h) = inr (record { place = p; stands = c; term = e; is_marking = is; is = h })

  from_condition : (g : Fault) (e : Term) → Contains (condition_terms n) e → LabelStands Items IsTruth (codes "condition") e g → StandsInTyping n g ⊎ IsNoValue n g
  from_condition g e c (inl h) =
      inl (of_term g e (Contains-append_right (marking_terms n) (condition_terms n ++ inscription_terms n) e (Contains-append_left (condition_terms n) (inscription_terms n) e c)) h)
  from_condition g e c (inr (s, has, differs, told)) = inl (of_condition g (record { term = e; stands = c; sort = s; has_sort = has; differs = differs; is = told }))

  from_inscription : (g : Fault) (a : Arc) (p : Place) (e : Term) → Contains (net_arcs n) a → said a.inscription ≡ Some e → IsPlaceOfArc n a p → AtPlaceStands Items p (codes "hlinscription") e g → StandsInTyping n g ⊎ IsNoValue n g
  from_inscription g a p e c is at (inl h) =
      inl (of_term g e (Contains-append_right (marking_terms n) (condition_terms n ++ inscription_terms n) e (Contains-append_right (condition_terms n) (inscription_terms n) e (inscription_there e a c is))) h)
  from_inscription g a p e c is at (inr (sort, of_place, (s, has, differs, told))) =
      inl (of_inscription g (record { arc = a; stands = c; term = e; is_inscription = is; sort = s; has_sort = has; place = p; at_place = at; place_sort = sort; of_place = of_place; differs = differs; is = told }))

  pub labels_back : (g : Fault) → Here g → StandsInTyping n g ⊎ IsNoValue n g
  labels_back g (inl (inl (p, c, h))) = let saying = read (MarkingStands Items p) g (said p.hl_marking) h in from_marking g p saying.it c saying.is saying.holds
  labels_back g (inl (inr some)) =
      let found = where_said (LabelStands Items IsTruth (codes "condition")) (λ t. said t.condition) g (net_transitions n) some in
      from_condition g found.0 found.1 found.2
  labels_back g (inr (w, c, h)) =
      let saying = read (InscriptionStands Items (net_places n) w.place) g (said w.arc.inscription) h in
      let found = across (λ x v. IsRewired n x (arc_of_flat f v)) (net_arcs n) f.arcs zipped w c in
      let pair = paired found.0 w c found.2 in
      let same : pair.end ≡ saying.holds.0 = (let both : Some pair.end ≡ Some saying.holds.0 = sym pair.at_end ∙ saying.holds.1 in cc) in
      from_inscription g found.0 saying.holds.0 saying.it found.1 (pair.same ∙ saying.is) (subst (IsPlaceOfArc n found.0) same pair.is_end) saying.holds.2

-- ---- the least of them

-- of each net whose flat net it is
pub net_labels : (n : Net) (f : Flat) (items : List Declaration) → items ≡ f.declarations → IsFlattened n (net_of_flat f) → HasSound n → HasBothEnds f → (o : Option Fault)
    → IsLeastOf (LabelsStand items f.places f.transitions f.arcs) o → IsLeastOf (λ g. StandsInTyping n g ⊎ IsNoValue n g) o
net_labels n f items same flat sound ends o least =
    least_alike (LabelsStand (net_declarations n) (net_places n) (net_transitions n) f.arcs) (λ g. StandsInTyping n g ⊎ IsNoValue n g) o (labels_back n f flat sound ends) (labels_out n f flat sound ends)
    (subst (λ ds. IsLeastOf (LabelsStand ds (net_places n) (net_transitions n) f.arcs) o) (same ∙ flat_declarations n f flat)
    (subst (λ ts. IsLeastOf (LabelsStand items (net_places n) ts f.arcs) o) (flat_transitions_are n f flat)
    (subst (λ ps. IsLeastOf (LabelsStand items ps f.transitions f.arcs) o) (flat_places_are n f flat) least)))

-- ---- what is known of a flat net without a fault of sorts

module _ (tree : Element) (f : Flat) (linked : IsLinked tree f) (items : List Declaration) (same : items ≡ f.declarations) (sound : (n : Net) → IsFlattened n (net_of_flat f) → (g : Fault) → StandsInSorts n g → ⊥) where
  abbrev The : Net
  The = net_of tree

  alike : items ≡ net_declarations The
  alike = same ∙ flat_declarations The f linked.is_flat

  none : (g : Fault) → StandsInSorts The g → ⊥
  none = sound The linked.is_flat

  pub is_faultless : IsFaultless items
  is_faultless g stands = none g (declared g (subst (λ ds. Stands ds g) alike stands))

  in_term : (e : Term) → Contains (net_terms The) e → HasSoundSorts items e
  in_term e c g stands = none g (of_term g e c (subst (λ ds. SortStandsIn ds e g) alike stands))

  in_type : (p : Place) → Contains (net_places The) p → (o : Option SortExpr) → said p.sort ≡ o → HasSoundSort items o
  in_type p c None is = tt
  in_type p c (Some e) is = λ g stands. none g (of_type g e (there (λ q. said q.sort) (net_places The) p e c is) (subst (λ ds. StandsInSort ds e g) alike stands))

  of_any : {X : Type 0} (h : X → Option Term) (xs : List X) → ((e : Term) → Contains (filter_map h xs) e → HasSoundSorts items e) → HaveSoundTerms items h xs
  of_any h xs each x c = by (h x) refl
    where
      by : (o : Option Term) → h x ≡ o → HasSoundTerm items o
      by None is = tt
      by (Some e) is = each e (there h xs x e c is)

  pub sound_labels : HasSoundLabels items f
  sound_labels = record {
    types = λ p c. in_type p (subst (λ ps. Contains ps p) (flat_places_are The f linked.is_flat) c) (said p.sort) refl;
    markings = subst (HaveSoundTerms items (λ p. said p.hl_marking)) (sym (flat_places_are The f linked.is_flat))
        (of_any (λ p. said p.hl_marking) (net_places The) (λ e c. in_term e (Contains-append_left (marking_terms The) (condition_terms The ++ inscription_terms The) e c)));
    conditions = subst (HaveSoundTerms items (λ t. said t.condition)) (sym (flat_transitions_are The f linked.is_flat))
        (of_any (λ t. said t.condition) (net_transitions The)
        (λ e c. in_term e (Contains-append_right (marking_terms The) (condition_terms The ++ inscription_terms The) e (Contains-append_left (condition_terms The) (inscription_terms The) e c))));
    inscriptions = λ w c. of_arc w c;
  }
    where
      zipped : AllZip (λ a w. IsRewired The a (arc_of_flat f w)) (net_arcs The) f.arcs
      zipped = zip_mapped (IsRewired The) (arc_of_flat f) (net_arcs The) f.arcs (subst (AllZip (IsRewired The) (net_arcs The)) (flat_arcs_are The f linked.is_flat) linked.is_flat.rewired)

      of_arc : (w : FlatArc) → Contains f.arcs w → HasSoundTerm items (said w.arc.inscription)
      of_arc w c =
          let found = across (λ a v. IsRewired The a (arc_of_flat f v)) (net_arcs The) f.arcs zipped w c in
          subst (HasSoundTerm items) (sym (ap (λ (x : Arc). said x.inscription) found.2.is))
          (of_any (λ a. said a.inscription) (net_arcs The)
          (λ e d. in_term e (Contains-append_right (marking_terms The) (condition_terms The ++ inscription_terms The) e (Contains-append_right (condition_terms The) (inscription_terms The) e d))) found.0 found.1)

  pub both_ends : HasBothEnds f
  both_ends w c = let wired = linked.wired w c in (wired.place, wired.transition)

  pub are_counted : AreCounted f.places
  are_counted = subst AreCounted (sym (flat_places_are The f linked.is_flat)) (λ p c. count p.marking (one_of (IsSpellablePlace The.kind) (net_places The) p all c).marking)
    where
      such : IsSpellableNet The
      such = net_spellable tree The linked.sound.spells refl

      all : AllByRecursion (IsSpellablePlace The.kind) (net_places The)
      all = pages_all The.kind (IsSpellablePlace The.kind) (λ p. p.places) (λ S p is. is.places) such.levels The.pages such.pages

      count : (l : Option (Label ℕ)) → IfSome l (IsHadWith The.kind tag.InitialMarking (IsCountLabel 0)) → IfSome (said l) (λ n. n ≤ MAX_COUNT)
      count None is = tt
      count (Some l) is = omega (arith, is.1.value.1)

-- ---- what is told

pub marking_told : (f : Flat) (items : List Declaration) → items ≡ f.declarations → (r : Result (List (Token × ℕ)) Refusal) (m : List (Token × ℕ)) (least : Option Fault) → (IsOk r → least ≡ None) → IfOk r (λ k. k ≡ m) → IfOk r (IsBag token_cmp)
    → (least ≡ None → AreMarked (SaysMultiset items) f.places m) → IfOk r (IsInitial f)
marking_told f items same (Err e) m least clean is bag marked = tt
marking_told f items same (Ok k) m least clean is bag marked = record {
  bag = bag;
  marked = subst (λ ds. AreMarked (SaysMultiset ds) f.places k) same (subst (AreMarked (SaysMultiset items) f.places) (sym is) (marked (clean refl)));
}
