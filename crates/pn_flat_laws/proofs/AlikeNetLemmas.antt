-- What flat nets that are equal but for offsets have in common.
use Rattle.std.proofs.Common.{◌≡◌, ◌==◌, ◌&&◌, ◌<◌, ℕ, suc, Bool, true, false, not, cond, List, [], ◌∷◌, ◌++◌, map, length, Option, None, Some, refl, sym, ap, ◌∙◌, subst}
use Rattle.std.specs.List.{AllZip, cons_option, filter, filter_map, flat_map, slice_get}
use Rattle.std.specs.Option.{option_and_then, option_map, option_to_list}
use Rattle.std.proofs.lemmas.Option.{slice_get-map}
use Rattle.std.proofs.lemmas.Simd.{map-map}
use Rattle.pn_bag.specs.Counts.{Every}
use Rattle.pn_carriers.specs.Members.{IsMember}
use Rattle.pn_checks.specs.Initial.{IsFirstBy, IsInitial, IsMarked}
use Rattle.pn_checks.specs.NoValue.{SaysMultiset}
use Rattle.pn_checks.proofs.DeclarationAlikeLemmas.{widths_same}
use Rattle.pn_checks.proofs.LabelAlikeLemmas.{condition_bare, inscription_bare, marking_bare, place_sort_alike}
use Rattle.pn_checks.proofs.ValueAlikeLemmas.{value_alike}
use Rattle.pn_eval.specs.Assignments.{IsAssignment}
use Rattle.pn_marking.specs.Modes.{HoldsCondition, IsAssigned, IsMode, IsPost, IsPre}
use Rattle.pn_marking.specs.Steps.{IsEnabled, IsEnabledBy, IsStep}
use Rattle.pn_marking.specs.Totals.{IsArcBag, IsMoved, IsTokenOf, SaysBag, arcs_at, count_at, leads, sum_at}
use Rattle.pn_names.specs.Names.{Variable, variables_of}
use Rattle.pn_net.proofs.AlikeLemmas.{alike_get}
use Rattle.pn_net.specs.Labels.{said}
use Rattle.pn_net.specs.Typed.{AreVariablesAt, condition_at, condition_of, is_at, terms_at}
use Rattle.pn_net.specs.declared.flat.Flat.{Flat}
use Rattle.pn_net.specs.declared.flat.FlatArc.{FlatArc}
use Rattle.pn_net.specs.declared.mode.Mode.{Mode}
use Rattle.pn_net.specs.declared.token.Token.{Token}
use Rattle.pn_objects.specs.Offsets.{label_without_offsets, place_without_offsets, transition_without_offsets}
use Rattle.pn_objects.specs.declared.label.Label.{Label}
use Rattle.pn_objects.specs.declared.object.Place.{Place}
use Rattle.pn_objects.specs.declared.object.Transition.{Transition}
use Rattle.pn_resolve.proofs.OffsetLemmas as resolved
use Rattle.pn_sorts.proofs.SettleLemmas.{same_some}
use Rattle.pn_sorts.specs.Lookups.{IsVariableSort}
use Rattle.pn_syntax.specs.Offsets.{declaration_without_offsets, sort_without_offsets}
use Rattle.pn_syntax.specs.TermOffsets.{term_without_offsets}
use Rattle.pn_syntax.specs.declared.declaration.Declaration.{Declaration}
use Rattle.pn_syntax.specs.declared.declaration.Declaration.TheVariants as declarations
use Rattle.pn_syntax.specs.declared.term.Term.{Term}
use Rattle.pn_terms.proofs.OffsetLemmas.{variables_aside}
use Rattle.pn_terms.specs.Variables.{variables_in_term}
use Rattle.pn_values.specs.declared.sort.Sort.{Sort}
use Rattle.pn_values.specs.declared.value.Value.{Value}
use Rattle.pn_flat_laws.specs.AlikeNets.{AreAlikeButMarked, AreAlikeNets, IsAlikeArc, unmarked}

-- ---- alike the other way

arc_back : (a b : FlatArc) → IsAlikeArc a b → IsAlikeArc b a
arc_back a b is = record { place = sym is.place; transition = sym is.transition; direction = sym is.direction; arc = sym is.arc }

arcs_back : (arcs_one arcs_two : List FlatArc) → AllZip IsAlikeArc arcs_one arcs_two → AllZip IsAlikeArc arcs_two arcs_one
arcs_back [] [] all = tt
arcs_back [] (b ∷ arcs_two) all = absurd all
arcs_back (a ∷ arcs_one) [] all = absurd all
arcs_back (a ∷ arcs_one) (b ∷ arcs_two) all = (arc_back a b all.0, arcs_back arcs_one arcs_two all.1)

pub alike_back : (f g : Flat) → AreAlikeNets f g → AreAlikeNets g f
alike_back f g is = record { declarations = sym is.declarations; places = sym is.places; transitions = sym is.transitions; arcs = arcs_back f.arcs g.arcs is.arcs }

pub but_marked_back : (f g : Flat) → AreAlikeButMarked f g → AreAlikeButMarked g f
but_marked_back f g is = record { declarations = sym is.declarations; places = sym is.places; transitions = sym is.transitions; arcs = arcs_back f.arcs g.arcs is.arcs }

unmark : Place → Place
unmark p = record p { marking = None; hl_marking = None }

unmarked_twice : (ps : List Place) → map unmark (map place_without_offsets ps) ≡ map unmarked ps
unfolding unmark
unmarked_twice ps = map-map unmark place_without_offsets ps

pub places_unmarked : (ps qs : List Place) → map place_without_offsets ps ≡ map place_without_offsets qs → map unmarked ps ≡ map unmarked qs
places_unmarked ps qs same = sym (unmarked_twice ps) ∙ ap (map unmark) same ∙ unmarked_twice qs

pub but_marked : (f g : Flat) → AreAlikeNets f g → AreAlikeButMarked f g
but_marked f g is = record { declarations = is.declarations; places = places_unmarked f.places g.places is.places; transitions = is.transitions; arcs = is.arcs }

-- ---- labels

weight_bare : (w : Option (Label ℕ)) → said (option_map label_without_offsets w) ≡ said w
weight_bare None = refl
weight_bare (Some l) = refl

condition_same : (o p : Option Transition) → option_map transition_without_offsets o ≡ option_map transition_without_offsets p
    → option_map term_without_offsets (option_and_then condition_of o) ≡ option_map term_without_offsets (option_and_then condition_of p)
condition_same None None same = refl
condition_same None (Some y) same = absurd cc
condition_same (Some x) None same = absurd cc
condition_same (Some x) (Some y) same = sym (condition_bare x) ∙ ap (λ (z : Transition). said z.condition) (same_some (transition_without_offsets x) (transition_without_offsets y) same) ∙ condition_bare y

inscription_same : (a b : FlatArc) → IsAlikeArc a b → option_map term_without_offsets (said a.arc.inscription) ≡ option_map term_without_offsets (said b.arc.inscription)
inscription_same a b is = sym (inscription_bare a.arc) ∙ ap (λ x. said x.inscription) is.arc ∙ inscription_bare b.arc

weight_same : (a b : FlatArc) → IsAlikeArc a b → said a.arc.weight ≡ said b.arc.weight
weight_same a b is = sym (weight_bare a.arc.weight) ∙ ap (λ x. said x.weight) is.arc ∙ weight_bare b.arc.weight

cons_same : (o p : Option Term) (es xs : List Term) → option_map term_without_offsets o ≡ option_map term_without_offsets p → map term_without_offsets es ≡ map term_without_offsets xs
    → map term_without_offsets (cons_option o es) ≡ map term_without_offsets (cons_option p xs)
cons_same None None es xs same rest = rest
cons_same None (Some x) es xs same rest = absurd cc
cons_same (Some e) None es xs same rest = absurd cc
cons_same (Some e) (Some x) es xs same rest = let first = same_some (term_without_offsets e) (term_without_offsets x) same in λ i. first i ∷ rest i

append_same : (o p : Option Term) (es xs : List Term) → option_map term_without_offsets o ≡ option_map term_without_offsets p → map term_without_offsets es ≡ map term_without_offsets xs
    → map term_without_offsets (option_to_list o ++ es) ≡ map term_without_offsets (option_to_list p ++ xs)
append_same None None es xs same rest = rest
append_same None (Some x) es xs same rest = absurd cc
append_same (Some e) None es xs same rest = absurd cc
append_same (Some e) (Some x) es xs same rest = let first = same_some (term_without_offsets e) (term_without_offsets x) same in λ i. first i ∷ rest i

-- ---- arcs that pass a test

-- of arcs that are alike those are alike that pass a test, which asks the same of both
passing : (p : FlatArc → Bool) → ((a b : FlatArc) → IsAlikeArc a b → p a ≡ p b) → (arcs_one arcs_two : List FlatArc) → AllZip IsAlikeArc arcs_one arcs_two → AllZip IsAlikeArc (filter p arcs_one) (filter p arcs_two)
passing p same [] [] all = tt
passing p same [] (b ∷ arcs_two) all = absurd all
passing p same (a ∷ arcs_one) [] all = absurd all
passing p same (a ∷ arcs_one) (b ∷ arcs_two) all = step (p a) (p b) (same a b all.0) (passing p same arcs_one arcs_two all.1)
  where
    step : (x y : Bool) → x ≡ y → AllZip IsAlikeArc (filter p arcs_one) (filter p arcs_two) → AllZip IsAlikeArc (cond x (a ∷ filter p arcs_one) (filter p arcs_one)) (cond y (b ∷ filter p arcs_two) (filter p arcs_two))
    step true true same rest = (all.0, rest)
    step false false same rest = rest
    step true false same rest = absurd cc
    step false true same rest = absurd cc

leads_same : (into : Bool) (a b : FlatArc) → IsAlikeArc a b → leads into a ≡ leads into b
leads_same true a b is = is.direction
leads_same false a b is = ap not is.direction

says : FlatArc → Option Term
says a = said a.arc.inscription

inscriptions : (arcs_one arcs_two : List FlatArc) → AllZip IsAlikeArc arcs_one arcs_two → map term_without_offsets (filter_map (λ a. said a.arc.inscription) arcs_one) ≡ map term_without_offsets (filter_map (λ a. said a.arc.inscription) arcs_two)
inscriptions [] [] all = refl
inscriptions [] (b ∷ arcs_two) all = absurd all
inscriptions (a ∷ arcs_one) [] all = absurd all
inscriptions (a ∷ arcs_one) (b ∷ arcs_two) all =
    cons_same (said a.arc.inscription) (said b.arc.inscription) (filter_map (λ x. said x.arc.inscription) arcs_one) (filter_map (λ x. said x.arc.inscription) arcs_two) (inscription_same a b all.0) (inscriptions arcs_one arcs_two all.1)

-- ---- variables

-- the sorts of variables, without offsets
variable_sorts : (ds : List Declaration) → map (λ (x : Variable). x.sort) (variables_of (map declaration_without_offsets ds)) ≡ map (λ (x : Variable). sort_without_offsets x.sort) (variables_of ds)
variable_sorts [] = refl
variable_sorts (declarations.Named id name body at ∷ ds) = variable_sorts ds
variable_sorts (declarations.Variable id name sort at ∷ ds) = ap (λ ss. sort_without_offsets sort ∷ ss) (variable_sorts ds)
variable_sorts (declarations.Partition id name sort elements at ∷ ds) = variable_sorts ds

module _ (items others : List Declaration) (same : map declaration_without_offsets items ≡ map declaration_without_offsets others) where
  variable_sort_alike : (v : ℕ) (s : Sort) → IsVariableSort items v s → IsVariableSort others v s
  variable_sort_alike v s (x, is, has) =
      let sorts : map (λ (x : Variable). sort_without_offsets x.sort) (variables_of items) ≡ map (λ (x : Variable). sort_without_offsets x.sort) (variables_of others)
      = sym (variable_sorts items) ∙ ap (λ ds. map (λ (x : Variable). x.sort) (variables_of ds)) same ∙ variable_sorts others in
      let found = alike_get (λ (x : Variable). sort_without_offsets x.sort) (variables_of items) (variables_of others) v x sorts is in
      (found.0, found.1, resolved.offsets_aside items others x.sort found.0.sort s same found.2 has)

  variables_same : (es xs : List Term) → map term_without_offsets es ≡ map term_without_offsets xs → flat_map (variables_in_term items) es ≡ flat_map (variables_in_term others) xs
  variables_same [] [] alike = refl
  variables_same [] (x ∷ xs) alike = absurd cc
  variables_same (e ∷ es) [] alike = absurd cc
  variables_same (e ∷ es) (x ∷ xs) alike =
      let head : term_without_offsets e ≡ term_without_offsets x = cc in
      let tail : map term_without_offsets es ≡ map term_without_offsets xs = cc in
      let first = variables_aside items others e x same head in
      let rest = variables_same es xs tail in
      λ i. first i ++ rest i

  condition_holds : (vars : List ℕ) (given : List Value) (o p : Option Term) → option_map term_without_offsets o ≡ option_map term_without_offsets p → HoldsCondition items vars given o → HoldsCondition others vars given p
  condition_holds vars given None None alike h = tt
  condition_holds vars given None (Some x) alike h = absurd cc
  condition_holds vars given (Some e) None alike h = absurd cc
  condition_holds vars given (Some e) (Some x) alike h = value_alike items others same vars given e x _ (same_some (term_without_offsets e) (term_without_offsets x) alike) h

  says_alike : (vars : List ℕ) (given : List Value) (o p : Option Term) (w u : Option ℕ) (bag : List (Value × ℕ)) → option_map term_without_offsets o ≡ option_map term_without_offsets p → w ≡ u → SaysBag items vars given o w bag → SaysBag others vars given p u bag
  says_alike vars given None None w u bag alike weight h = subst (λ k. SaysBag others vars given None k bag) weight h
  says_alike vars given None (Some x) w u bag alike weight h = absurd cc
  says_alike vars given (Some e) None w u bag alike weight h = absurd cc
  says_alike vars given (Some e) (Some x) w u bag alike weight h = (h.0, value_alike items others same vars given e x h.0 (same_some (term_without_offsets e) (term_without_offsets x) alike) h.1, h.2)

  bags_alike : (vars : List ℕ) (given : List Value) (arcs_one arcs_two : List FlatArc) (bags : List (List (Value × ℕ))) → AllZip IsAlikeArc arcs_one arcs_two → AllZip (IsArcBag items vars given) arcs_one bags → AllZip (IsArcBag others vars given) arcs_two bags
  bags_alike vars given [] [] bags all h = h
  bags_alike vars given [] (b ∷ arcs_two) bags all h = absurd all
  bags_alike vars given (a ∷ arcs_one) [] bags all h = absurd all
  bags_alike vars given (a ∷ arcs_one) (b ∷ arcs_two) [] all h = absurd h
  bags_alike vars given (a ∷ arcs_one) (b ∷ arcs_two) (bag ∷ bags) all h =
      (says_alike vars given (said a.arc.inscription) (said b.arc.inscription) (said a.arc.weight) (said b.arc.weight) bag (inscription_same a b all.0) (weight_same a b all.0) h.0, bags_alike vars given arcs_one arcs_two bags all.1 h.1)

  assignment_alike : (vars : List ℕ) (values : List Value) → IsAssignment others vars values → IsAssignment items vars values
  assignment_alike vars values a = record {
    ascending = a.ascending;
    size = a.size;
    members = λ v value sort at of_sort. subst (λ widths. IsMember widths value sort) (sym (widths_same items others same)) (a.members v value sort at (variable_sort_alike v sort of_sort));
  }

sums_same : (arcs_one arcs_two : List FlatArc) (bags : List (List (Value × ℕ))) (k : Token) → AllZip IsAlikeArc arcs_one arcs_two → sum_at arcs_one bags k ≡ sum_at arcs_two bags k
sums_same [] [] bags k all = refl
sums_same [] (b ∷ arcs_two) bags k all = absurd all
sums_same (a ∷ arcs_one) [] bags k all = absurd all
sums_same (a ∷ arcs_one) (b ∷ arcs_two) [] k all = refl
sums_same (a ∷ arcs_one) (b ∷ arcs_two) (bag ∷ bags) k all =
    let place = all.0.place in
    let rest = sums_same arcs_one arcs_two bags k all.1 in
    λ i. Rattle.std.specs.Prelude.◌+◌ (count_at (place i) bag k) (rest i)

each_of : {X : Type 0} (P Q : X → Type 0) → ((x : X) → P x → Q x) → (xs : List X) → Every P xs → Every Q xs
each_of P Q to [] all = tt
each_of P Q to (x ∷ xs) all = (to x all.0, each_of P Q to xs all.1)

zip_of : {X Y : Type 0} (P Q : X → Y → Type 0) → ((x : X) (y : Y) → P x y → Q x y) → (xs : List X) (ys : List Y) → AllZip P xs ys → AllZip Q xs ys
zip_of P Q to [] [] all = tt
zip_of P Q to [] (y ∷ ys) all = absurd all
zip_of P Q to (x ∷ xs) [] all = absurd all
zip_of P Q to (x ∷ xs) (y ∷ ys) all = (to x y all.0, zip_of P Q to xs ys all.1)

pub same_length : {X : Type 0} (clear : X → X) (xs ys : List X) → map clear xs ≡ map clear ys → length xs ≡ length ys
same_length clear [] [] same = refl
same_length clear [] (y ∷ ys) same = absurd cc
same_length clear (x ∷ xs) [] same = absurd cc
same_length {X} clear (x ∷ xs) (y ∷ ys) same = let rest : map clear xs ≡ map clear ys = cc in ap suc (same_length clear xs ys rest)

-- ---- two nets

module _ (f g : Flat) (alike : AreAlikeButMarked f g) where
  conditions : (t : ℕ) → option_map term_without_offsets (condition_at f t) ≡ option_map term_without_offsets (condition_at g t)
  conditions t = condition_same (slice_get f.transitions t) (slice_get g.transitions t)
      (sym (slice_get-map transition_without_offsets f.transitions t) ∙ ap (λ ts. slice_get ts t) alike.transitions ∙ slice_get-map transition_without_offsets g.transitions t)

  terms : (t : ℕ) → map term_without_offsets (terms_at f t) ≡ map term_without_offsets (terms_at g t)
  terms t =
      append_same (condition_at f t) (condition_at g t) _ _ (conditions t)
      (inscriptions (filter (is_at t) f.arcs) (filter (is_at t) g.arcs) (passing (is_at t) (λ a b is. ap (λ n. n == t) is.transition) f.arcs g.arcs alike.arcs))

  pub variables_kept : (t : ℕ) (vars : List ℕ) → AreVariablesAt f t vars → AreVariablesAt g t vars
  variables_kept t vars are =
      let same = variables_same f.declarations g.declarations alike.declarations (terms_at f t) (terms_at g t) (terms t) in
      record { ascending = are.ascending; each = λ v. subst (λ all. Rattle.std.specs.Prelude.◌↔◌ (Rattle.std.specs.List.Contains vars v) (Rattle.std.specs.List.Contains all v)) same (are.each v) }

  token_kept : (k : Token) → IsTokenOf f k → IsTokenOf g k
  unfolding unmark
  token_kept k (sort, (p, at, of_place), member) =
      let found = alike_get unmarked f.places g.places k.place p alike.places at in
      (sort, (found.0, found.1, place_sort_alike f.declarations g.declarations alike.declarations (unmark p) (unmark found.0) found.2 sort of_place), subst (λ widths. IsMember widths k.value sort) (widths_same f.declarations g.declarations alike.declarations) member)

  moved_kept : (t : ℕ) (into : Bool) (vars : List ℕ) (given : List Value) (m : List (Token × ℕ)) → IsMoved f t into vars given m → IsMoved g t into vars given m
  moved_kept t into vars given m is =
      let arcs = passing (λ a. is_at t a && leads into a) (λ a b same. (λ i. (same.transition i == t) && leads_same into a b same i)) f.arcs g.arcs alike.arcs in
      record {
        bag = is.bag;
        bags = is.bags;
        say = bags_alike f.declarations g.declarations alike.declarations vars given (arcs_at f t into) (arcs_at g t into) is.bags arcs is.say;
        sums = λ k. is.sums k ∙ sums_same (arcs_at f t into) (arcs_at g t into) is.bags k arcs;
        tokens = each_of (λ entry. IsTokenOf f entry.0) (λ entry. IsTokenOf g entry.0) (λ entry h. token_kept entry.0 h) m is.tokens;
      }

  assigned_kept : (m : Mode) (vars : List ℕ) → IsAssigned f m vars → IsAssigned g m vars
  assigned_kept m vars is = record {
    within = subst (λ n. m.transition < n) (same_length transition_without_offsets f.transitions g.transitions alike.transitions) is.within;
    variables = variables_kept m.transition vars is.variables;
    assignment = assignment_alike g.declarations f.declarations (sym alike.declarations) vars m.values is.assignment;
  }

  pub mode_kept : (m : Mode) → IsMode f m → IsMode g m
  mode_kept m (vars, is) = (
    vars,
    record {
      assigned = assigned_kept m vars is.assigned;
      condition = condition_holds f.declarations g.declarations alike.declarations vars m.values (condition_at f m.transition) (condition_at g m.transition) (conditions m.transition) is.condition;
      takes = (is.takes.0, moved_kept m.transition false vars m.values is.takes.0 is.takes.1);
      puts = (is.puts.0, moved_kept m.transition true vars m.values is.puts.0 is.puts.1);
    },
  )

  pub pre_kept : (m : Mode) (taken : List (Token × ℕ)) → IsPre f m taken → IsPre g m taken
  pre_kept m taken (vars, are, is) = (vars, variables_kept m.transition vars are, moved_kept m.transition false vars m.values taken is)

  pub post_kept : (m : Mode) (put : List (Token × ℕ)) → IsPost f m put → IsPost g m put
  post_kept m put (vars, are, is) = (vars, variables_kept m.transition vars are, moved_kept m.transition true vars m.values put is)

  enabled_by_kept : (marking : List (Token × ℕ)) (x : List (Mode × ℕ)) (takes : List (List (Token × ℕ))) → IsEnabledBy f marking x takes → IsEnabledBy g marking x takes
  enabled_by_kept marking x takes is = record {
    modes = each_of (λ entry. IsMode f entry.0) (λ entry. IsMode g entry.0) (λ entry h. mode_kept entry.0 h) x is.modes;
    takes_are = zip_of (λ entry m. IsPre f entry.0 m) (λ entry m. IsPre g entry.0 m) (λ entry m h. pre_kept entry.0 m h) x takes is.takes_are;
    enough = is.enough;
  }

  pub enabled_kept : (marking : List (Token × ℕ)) (x : List (Mode × ℕ)) → IsEnabled f marking x → IsEnabled g marking x
  enabled_kept marking x (takes, is) = (takes, enabled_by_kept marking x takes is)

  pub step_kept : (old new : List (Token × ℕ)) (x : List (Mode × ℕ)) → IsStep f old x new → IsStep g old x new
  step_kept old new x (takes, puts, is) = (
    takes,
    puts,
    record {
      enabled = enabled_by_kept old x takes is.enabled;
      puts_are = zip_of (λ entry m. IsPost f entry.0 m) (λ entry m. IsPost g entry.0 m) (λ entry m h. post_kept entry.0 m h) x puts is.puts_are;
      leads = is.leads;
    },
  )

-- ---- the initial marking

module _ (f g : Flat) (alike : AreAlikeNets f g) where
  first_kept : (o p : Option Term) (n k : Option ℕ) (bag : List (Value × ℕ)) → option_map term_without_offsets o ≡ option_map term_without_offsets p → n ≡ k
      → IsFirstBy (SaysMultiset f.declarations) o n bag → IsFirstBy (SaysMultiset g.declarations) p k bag
  first_kept None None n k bag same number h = subst (λ w. IsFirstBy (SaysMultiset g.declarations) None w bag) number (plain n bag h)
    where
      plain : (n : Option ℕ) (bag : List (Value × ℕ)) → IsFirstBy (SaysMultiset f.declarations) None n bag → IsFirstBy (SaysMultiset g.declarations) None n bag
      plain None bag h = h
      plain (Some w) bag h = h
  first_kept None (Some x) n k bag same number h = absurd cc
  first_kept (Some e) None n k bag same number h = absurd cc
  first_kept (Some e) (Some x) n k bag same number h = (h.0, value_alike f.declarations g.declarations alike.declarations [] [] e x h.0 (same_some (term_without_offsets e) (term_without_offsets x) same) h.1, h.2)

  marked_kept : (m : List (Token × ℕ)) (i : ℕ) (o p : Option Place) → option_map place_without_offsets o ≡ option_map place_without_offsets p
      → IsMarked (SaysMultiset f.declarations) m i o → IsMarked (SaysMultiset g.declarations) m i p
  marked_kept m i None None same h = h
  marked_kept m i None (Some q) same h = absurd cc
  marked_kept m i (Some p) None same h = absurd cc
  marked_kept m i (Some p) (Some q) same (bag, first, stand) =
      let one = same_some (place_without_offsets p) (place_without_offsets q) same in (
        bag,
        first_kept (said p.hl_marking) (said q.hl_marking) (said p.marking) (said q.marking) bag
            (sym (marking_bare p) ∙ ap (λ (x : Place). said x.hl_marking) one ∙ marking_bare q)
            (sym (weight_bare p.marking) ∙ ap (λ (x : Place). said x.marking) one ∙ weight_bare q.marking) first,
        stand,
      )

  pub initial_kept : (m : List (Token × ℕ)) → IsInitial f m → IsInitial g m
  initial_kept m is = record {
    bag = is.bag;
    marked = λ i. marked_kept m i (slice_get f.places i) (slice_get g.places i)
        (sym (slice_get-map place_without_offsets f.places i) ∙ ap (λ ps. slice_get ps i) alike.places ∙ slice_get-map place_without_offsets g.places i) (is.marked i);
  }
