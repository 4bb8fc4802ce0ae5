use Rattle.std.proofs.Common.{◌≡◌, ◌<◌, ◌⊎◌, ◌∙◌, ap, length, sym, subst}
use Rattle.pn_facts.proofs.Results.{on_ok}
use Rattle.std.specs.List.{AllZip, Contains}
use Rattle.pn_faults.specs.Walks.{KeepsLeast, StandsInSome}
use Rattle.pn_faults.proofs.WalkLemmas.{keeps_both}
use Rattle.pn_net.specs.Labels.{IsPlaceSort, said}
use Rattle.pn_checks.specs.Initial.{AreMarked}
use Rattle.pn_checks.specs.LabelFaults.{ArcLabels, PlaceLabels, TransitionLabels}
use Rattle.pn_checks.specs.NoValue.{SaysMultiset}
use Rattle.pn_checks.specs.SoundLabels.{HaveSaidSorts}
use Rattle.pn_checks.proofs.EndLemmas.{zip_length}
use Rattle.pn_checks.proofs.LabelLemmas.{on_both}
use Rattle.pn_checks.proofs.ValueLemmas.{none_before}
use Rattle.pn_checks.proofs.typing.keep_labels.Goals as goal

pub returns-clause-least : goal.returns-clause-least
returns-clause-least c =
    let items = c.args.decls.now in
    let f = c.args.flat.now in
    let a = c.args.least.now in
    let b = c.keep_places.new.least in
    let d = c.keep_transitions.new.least in
    let e = c.keep_arcs.new.least in
    on_ok c.keep_arcs.result
    (λ keeps.
    keeps_both (λ g. StandsInSome (PlaceLabels items) f.places g ⊎ StandsInSome (TransitionLabels items) f.transitions g) (StandsInSome (ArcLabels items f.places) f.arcs) a d e
    (keeps_both (StandsInSome (PlaceLabels items) f.places) (StandsInSome (TransitionLabels items) f.transitions) a b d
    (subst (λ xs. KeepsLeast (StandsInSome (PlaceLabels items) xs) a b) c.as_slice-2.ensures c.in_ok-keep_places.ensures.least)
    (subst (λ xs. KeepsLeast (StandsInSome (TransitionLabels items) xs) b d) c.as_slice-4.ensures c.in_ok-keep_transitions.ensures.least))
    (subst (λ xs. KeepsLeast (StandsInSome (ArcLabels items f.places) xs) d e) c.as_slice-6.ensures
    (keeps f.places (subst (AllZip (IsPlaceSort items) f.places) (sym c.as_slice-5.ensures) (subst (λ ps. AllZip (IsPlaceSort items) ps c.in_ok-sorts.sorts) c.as_slice.ensures c.in_ok-sorts.ensures))))) c.keep_arcs.ensures.least

pub keep_arcs-requires-clause-wired : goal.keep_arcs-requires-clause-wired
keep_arcs-requires-clause-wired c a there =
    subst (λ k. a.place < k) (ap length (sym c.as_slice.ensures) ∙ zip_length (IsPlaceSort c.args.decls.now) c.as_slice.result.now c.in_ok-sorts.sorts c.in_ok-sorts.ensures ∙ ap length (sym c.as_slice-5.ensures))
    (c.requires.wired a (subst (λ xs. Contains xs a) c.as_slice-6.ensures there))

pub returns-clause-sorted : goal.returns-clause-sorted
returns-clause-sorted c =
    let items = c.args.decls.now in
    let f = c.args.flat.now in
    let zip = subst (AllZip (IsPlaceSort items) f.places) (sym c.as_slice-5.ensures) (subst (λ ps. AllZip (IsPlaceSort items) ps c.in_ok-sorts.sorts) c.as_slice.ensures c.in_ok-sorts.ensures) in
    on_both c.keep_arcs.result
    (λ keeps sorted none. record {
      conditions = subst (HaveSaidSorts items (λ t. said t.condition)) c.as_slice-4.ensures
          (c.in_ok-keep_transitions.ensures.sorted (none_before (StandsInSome (ArcLabels items f.places) c.as_slice-6.result.now) c.keep_transitions.new.least c.keep_arcs.new.least (keeps f.places zip) none));
      inscriptions = subst (HaveSaidSorts items (λ a. said a.arc.inscription)) c.as_slice-6.ensures (sorted f.places zip none);
    }) c.keep_arcs.ensures.least c.keep_arcs.ensures.sorted
