-- All that have an id in a net are those that its objects hold.
use Rattle.std.proofs.Common.{◌≡◌, ℕ, suc, ◌+◌, ◌<◌, ◌≤◌, Bool, true, false, cond, List, [], ◌∷◌, ◌++◌, append_assoc, append-nil, length, map, refl, sym, ap, ◌∙◌, arith, nat_lt}
use Rattle.std.specs.List.{flat_map}
use Rattle.std.proofs.lemmas.Bool.Decides.{nat_tests}
use Rattle.pn_net.specs.Ids.{IdHolder, arc_holder, declaration_holders, holder, holders_of, other, page_holder, place_holder, place_reference_holder, transition_holder, transition_reference_holder}
use Rattle.pn_net.specs.Ids as roles
use Rattle.pn_net.specs.Objects.{in_page, net_arcs, net_declarations, net_place_references, net_places, net_transition_references, net_transitions}
use Rattle.pn_objects.specs.declared.net.Net.{Net}
use Rattle.pn_objects.specs.declared.object.Reference.{Reference}
use Rattle.pn_pages.specs.declared.numbered.Objects.{Objects}
use Rattle.pn_pages.specs.Gathering.{title_holder}
use Rattle.pn_pages.specs.Naming.{all_holders, holders_from, reference_holder}
use Rattle.pn_pages.specs.Sides.{HoldsAll}

to_place : (o : Objects) (k : ℕ) (r : Reference) → k < o.place_refs → reference_holder o k r ≡ place_reference_holder r
to_place o k r small = step (nat_lt k o.place_refs) refl
  where
    step : (b : Bool) → nat_lt k o.place_refs ≡ b → holder r.id r.at (cond b (roles.place_reference r.refers) (roles.transition_reference r.refers)) ≡ place_reference_holder r
    step true e = refl
    step false e = absurd (grind (arith, nat_tests, small, e))

to_transition : (o : Objects) (k : ℕ) (r : Reference) → o.place_refs ≤ k → reference_holder o k r ≡ transition_reference_holder r
to_transition o k r past = step (nat_lt k o.place_refs) refl
  where
    step : (b : Bool) → nat_lt k o.place_refs ≡ b → holder r.id r.at (cond b (roles.place_reference r.refers) (roles.transition_reference r.refers)) ≡ transition_reference_holder r
    step true e = absurd (grind (arith, nat_tests, past, e))
    step false e = refl

all_to_transitions : (o : Objects) (k : ℕ) (rs : List Reference) → o.place_refs ≤ k → holders_from o k rs ≡ map transition_reference_holder rs
all_to_transitions o k [] past = refl
all_to_transitions o k (r ∷ rs) past =
    ap (λ h. h ∷ holders_from o (suc k) rs) (to_transition o k r past) ∙ ap (λ hs. transition_reference_holder r ∷ hs) (all_to_transitions o (suc k) rs (omega (arith, past)))

references_held : (o : Objects) (k : ℕ) (rs ts : List Reference) → k + length rs ≡ o.place_refs → holders_from o k (rs ++ ts) ≡ map place_reference_holder rs ++ map transition_reference_holder ts
references_held o k [] ts is = all_to_transitions o k ts (omega (arith, is))
references_held o k (r ∷ rs) ts is =
    ap (λ h. h ∷ holders_from o (suc k) (rs ++ ts)) (to_place o k r (omega (arith, is)))
    ∙ ap (λ hs. place_reference_holder r ∷ hs) (references_held o (suc k) rs ts (omega (arith, is)))

-- ---- what was gathered

module _ (n : Net) (o : Objects) (holds : HoldsAll n.declarations n.pages o) where
  pub places_are : o.places ≡ net_places n
  places_are = ap (λ (x : Objects). x.places) holds.is ∙ sym (append-nil holds.gathered.places) ∙ holds.all.places

  pub transitions_are : o.transitions ≡ net_transitions n
  transitions_are = ap (λ (x : Objects). x.transitions) holds.is ∙ sym (append-nil holds.gathered.transitions) ∙ holds.all.transitions

  pub arcs_are : o.arcs ≡ net_arcs n
  arcs_are = ap (λ (x : Objects). x.arcs) holds.is ∙ sym (append-nil holds.gathered.arcs) ∙ holds.all.arcs

  pub declarations_are : o.declarations ≡ net_declarations n
  declarations_are = ap (λ (x : Objects). x.declarations) holds.is ∙ sym (append-nil holds.gathered.declarations) ∙ holds.all.declarations

  place_references_are : holds.gathered.place_refs ≡ net_place_references n
  place_references_are = sym (append-nil holds.gathered.place_refs) ∙ holds.all.place_refs

  transition_references_are : holds.gathered.transition_refs ≡ net_transition_references n
  transition_references_are = sym (append-nil holds.gathered.transition_refs) ∙ holds.all.transition_refs

  pub references_are : o.references ≡ net_place_references n ++ net_transition_references n
  references_are = ap (λ (x : Objects). x.references) holds.is ∙ ap (λ rs. rs ++ holds.gathered.transition_refs) place_references_are ∙ ap (λ rs. net_place_references n ++ rs) transition_references_are

  pub place_refs_are : o.place_refs ≡ length (net_place_references n)
  place_refs_are = ap (λ (x : Objects). x.place_refs) holds.is ∙ ap length place_references_are

  titles_are : map title_holder o.titles ≡ flat_map (in_page (λ p. page_holder p ∷ [])) n.pages
  titles_are = ap (λ (x : Objects). map title_holder x.titles) holds.is ∙ sym (append-nil (map title_holder holds.gathered.titles)) ∙ holds.all.held

  references_hold : holders_from o 0 o.references ≡ map place_reference_holder (net_place_references n) ++ map transition_reference_holder (net_transition_references n)
  references_hold = ap (holders_from o 0) references_are ∙ references_held o 0 (net_place_references n) (net_transition_references n) (omega (arith, place_refs_are))

  pub holders_are : all_holders n.id n.at o ≡ holders_of n
  holders_are =
      let own = holder n.id n.at other in
      let ts = flat_map (in_page (λ p. page_holder p ∷ [])) n.pages in
      let ps = map place_holder (net_places n) in
      let qs = map transition_holder (net_transitions n) in
      let xs = map place_reference_holder (net_place_references n) in
      let ys = map transition_reference_holder (net_transition_references n) in
      let links = map arc_holder (net_arcs n) in
      let ds = flat_map declaration_holders (net_declarations n) in
      ap (λ hs. own ∷ (hs ++ (flat_map declaration_holders o.declarations ++ ((map place_holder o.places ++ (map transition_holder o.transitions ++ holders_from o 0 o.references)) ++ map arc_holder o.arcs)))) titles_are
      ∙ ap (λ d. own ∷ (ts ++ (flat_map declaration_holders d ++ ((map place_holder o.places ++ (map transition_holder o.transitions ++ holders_from o 0 o.references)) ++ map arc_holder o.arcs)))) declarations_are
      ∙ ap (λ p. own ∷ (ts ++ (ds ++ ((map place_holder p ++ (map transition_holder o.transitions ++ holders_from o 0 o.references)) ++ map arc_holder o.arcs)))) places_are
      ∙ ap (λ t. own ∷ (ts ++ (ds ++ ((ps ++ (map transition_holder t ++ holders_from o 0 o.references)) ++ map arc_holder o.arcs)))) transitions_are
      ∙ ap (λ hs. own ∷ (ts ++ (ds ++ ((ps ++ (qs ++ hs)) ++ map arc_holder o.arcs)))) references_hold
      ∙ ap (λ a. own ∷ (ts ++ (ds ++ ((ps ++ (qs ++ (xs ++ ys))) ++ map arc_holder a)))) arcs_are
      ∙ ap (λ hs. own ∷ (ts ++ (ds ++ hs))) (append_assoc ps (qs ++ (xs ++ ys)) links ∙ ap (λ hs. ps ++ hs) (append_assoc qs (xs ++ ys) links ∙ ap (λ hs. qs ++ hs) (append_assoc xs ys links)))
