-- In a typed net no id stands twice, and each sort has a value: it is that of a document.
use Rattle.std.proofs.Common.{◌≡◌, ℕ, zero, suc, List, [], ◌∷◌, ◌++◌, append-nil, map, Option, Some, None, option_map, refl, sym, ap, ◌∙◌, subst}
use Rattle.std.specs.List.{AllByRecursion, Contains, slice_get}
use Rattle.std.proofs.lemmas.Option.{none-some, slice_get-map}
use Rattle.pn_checks.proofs.DeclarationAlikeLemmas.{names_same}
use Rattle.pn_checks.proofs.DistinctLemmas.{declared_once}
use Rattle.pn_checks.proofs.FlatLemmas.{flat_transitions, one_declared, one_page}
use Rattle.pn_checks.proofs.SameFlatLemmas.{declared_alike, transitions_alike}
use Rattle.pn_checks.proofs.UniqueLemmas.{AreUnique, HasSound, objects_unique, unique_front, unique_rest}
use Rattle.pn_facts.proofs.Contained.{contains_at, contains_first}
use Rattle.pn_faults.specs.declared.fault.Fault.{Fault}
use Rattle.pn_ids.specs.Names.{AreDistinct}
use Rattle.pn_names.specs.Names.{names_of}
use Rattle.pn_net.specs.Documents.{links, shape}
use Rattle.pn_net.specs.Flattening.{arc_of_flat, in_one, net_of_flat, page_of_objects}
use Rattle.pn_net.specs.Ids.{transition_holder}
use Rattle.pn_net.specs.Objects.{declared_by, in_pages, net_declarations, net_transitions}
use Rattle.pn_net.specs.Typed.{IsOfDocument, IsTyped}
use Rattle.pn_net.specs.declared.flat.Flat.{Flat}
use Rattle.pn_objects.specs.Offsets.{transition_without_offsets}
use Rattle.pn_objects.specs.declared.net.Page.TheViews.{out-roll-Page}
use Rattle.pn_objects.specs.declared.object.Transition.{Transition}
use Rattle.pn_operators.specs.declared.kind.Kind.{Kind}
use Rattle.pn_pages.proofs.SpellableLemmas.{flat_is_spellable}
use Rattle.pn_round_trip.proofs.DeclarationLemmas.{declarations_shaped_again}
use Rattle.pn_round_trip.proofs.NetLaws.{net_spellable, spellable_alike}
use Rattle.pn_round_trip.specs.Spellable.{IsSpellableDeclaration}
use Rattle.pn_shape.specs.Faults.{shape_faults}
use Rattle.pn_spelling.specs.ReadNets.{net_of}
use Rattle.pn_syntax.specs.declared.declaration.Declaration.{Declaration}
use Rattle.pn_terms.proofs.SortLemmas.{same_some}
use Rattle.pn_mode_text.proofs.ConstantLemmas.{HasConstants, all_have}
use Rattle.pn_mode_text.proofs.WrittenSortLemmas.{constants_have_names, sorts_have_values}
use Rattle.pn_mode_text.specs.ModeReadings.{IsReadable, transition_ids}
use Rattle.pn_mode_text.specs.Readings.{StandOnce}

no_faults : (faults : List Fault) → ((f : Fault) → Contains faults f → ⊥) → faults ≡ []
no_faults [] none = refl
no_faults (f ∷ faults) none = absurd (none f (contains_first f faults))

-- ---- ids of transitions

got_mapped : {X Y : Type 0} (f : X → Y) (xs : List X) (i : ℕ) (y : Y) → slice_get (map f xs) i ≡ Some y → (x : X) × (slice_get xs i ≡ Some x) × (f x ≡ y)
got_mapped {X} {Y} f xs i y is = step (slice_get xs i) refl (sym (slice_get-map f xs i) ∙ is)
  where
    step : (o : Option X) → slice_get xs i ≡ o → option_map f o ≡ Some y → (x : X) × (slice_get xs i ≡ Some x) × (f x ≡ y)
    step None at e = absurd (none-some y e)
    step (Some x) at e = (x, at, same_some (f x) y (Some y) (sym e) refl)

once_of : (ts : List Transition) → AreUnique (map transition_holder ts) → StandOnce (map (λ (t : Transition). t.id) ts)
once_of [] unique i j id one two = absurd (none-some id one)
once_of (t ∷ ts) unique zero zero id one two = refl
once_of (t ∷ ts) unique zero (suc j) id one two =
    let x = got_mapped (λ (u : Transition). u.id) ts j id two in
    absurd (unique.0 (transition_holder x.0) (contains_at (map transition_holder ts) j (transition_holder x.0) (slice_get-map transition_holder ts j ∙ ap (option_map transition_holder) x.1))
    (same_some t.id id (Some id) (sym one) refl ∙ sym x.2))
once_of (t ∷ ts) unique (suc i) zero id one two =
    let x = got_mapped (λ (u : Transition). u.id) ts i id one in
    absurd (unique.0 (transition_holder x.0) (contains_at (map transition_holder ts) i (transition_holder x.0) (slice_get-map transition_holder ts i ∙ ap (option_map transition_holder) x.1))
    (same_some t.id id (Some id) (sym two) refl ∙ sym x.2))
once_of (t ∷ ts) unique (suc i) (suc j) id one two = ap suc (once_of ts unique.1 i j id one two)

bare_ids : (ts : List Transition) → map (λ (t : Transition). t.id) (map transition_without_offsets ts) ≡ map (λ (t : Transition). t.id) ts
bare_ids [] = refl
bare_ids (t ∷ ts) = ap (λ ids. t.id ∷ ids) (bare_ids ts)

-- ---- declarations

flat_declared : (f : Flat) → net_declarations (net_of_flat f) ≡ f.declarations
flat_declared f = (λ i. one_declared f.declarations i ++ pages i) ∙ append-nil f.declarations
  where
    pages : in_pages (λ p. declared_by p.declarations) (net_of_flat f) ≡ []
    pages =
        one_page (λ p. declared_by p.declarations) (page_of_objects f.page_id f.page_head f.places f.transitions (map (arc_of_flat f) f.arcs)) (ap (λ l. l.pages) (out-roll-Page _))
        ∙ ap (λ l. declared_by l.declarations) (out-roll-Page _)

constants_of_label : (k : Kind) (ds : List Declaration) → AllByRecursion (IsSpellableDeclaration k) (in_one ds) → AllByRecursion HasConstants ds
constants_of_label k [] all = tt
constants_of_label k (d ∷ ds) all =
    let had = all.0.0 in
    let spelled = all.0.1.value in
    all_have k had (d ∷ ds) (declarations_shaped_again k spelled.0 (d ∷ ds) had spelled.1 spelled.2)

-- ---- a typed net

module _ (f : Flat) (typed : IsTyped f) where
  from : IsOfDocument f
  from = typed.document

  clean : shape_faults from.tree ≡ []
  clean = no_faults (shape_faults from.tree) (λ fault there. from.well_typed fault (shape fault there))

  sound : HasSound (net_of from.tree)
  sound fault there = from.well_typed fault (links fault clean there)

  ids_once : StandOnce (transition_ids f)
  ids_once =
      let n = net_of from.tree in
      let alike = transitions_alike n from.net (net_of_flat f) from.is_flat from.same in
      let same : map (λ (t : Transition). t.id) (net_transitions n) ≡ transition_ids f =
      sym (bare_ids (net_transitions n)) ∙ ap (map (λ (t : Transition). t.id)) (sym alike) ∙ bare_ids (net_transitions (net_of_flat f)) ∙ ap (map (λ (t : Transition). t.id)) (flat_transitions f) in
      subst StandOnce same (once_of (net_transitions n) (unique_front _ _ (unique_rest _ _ (objects_unique n sound))))

  names_distinct : AreDistinct (names_of f.declarations)
  names_distinct =
      let n = net_of from.tree in
      let alike = declared_alike n from.net (net_of_flat f) from.is_flat from.same in
      subst AreDistinct (sym (names_same (net_declarations (net_of_flat f)) (net_declarations n) alike) ∙ ap names_of (flat_declared f)) (declared_once n sound)

  constants_there : AllByRecursion HasConstants f.declarations
  constants_there =
      let n = net_of from.tree in
      let such = spellable_alike from.net (net_of_flat f) (flat_is_spellable n from.net from.is_flat (net_spellable from.tree n clean refl)) from.same in
      constants_of_label f.kind f.declarations such.declarations

  pub typed_is_readable : IsReadable f
  typed_is_readable = record { once = ids_once; distinct = names_distinct; named = constants_have_names f.declarations constants_there; inhabited = sorts_have_values f.declarations constants_there }
