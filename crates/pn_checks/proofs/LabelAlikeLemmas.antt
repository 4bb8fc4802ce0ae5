-- Places, transitions and arcs that are equal but for offsets say the same in their labels but for offsets.
use Rattle.std.proofs.Common.{◌≡◌, List, [], ◌∷◌, map, Option, None, Some, refl, sym, ap, ◌∙◌}
use Rattle.std.specs.List.{cons_option, filter_map}
use Rattle.std.specs.Option.{option_map}
use Rattle.pn_net.proofs.AlikeLemmas.{alike_option}
use Rattle.pn_net.specs.Labels.{IsPlaceSort, IsSortBy, said}
use Rattle.pn_objects.specs.Offsets.{arc_without_offsets, label_with, place_without_offsets, transition_without_offsets}
use Rattle.pn_objects.specs.declared.label.Label.{Label}
use Rattle.pn_objects.specs.declared.object.Arc.{Arc}
use Rattle.pn_objects.specs.declared.object.Place.{Place}
use Rattle.pn_objects.specs.declared.object.Transition.{Transition}
use Rattle.pn_resolve.proofs.OffsetLemmas as resolved
use Rattle.pn_sorts.proofs.SettleLemmas.{same_some}
use Rattle.pn_syntax.specs.Offsets.{declaration_without_offsets, sort_without_offsets}
use Rattle.pn_syntax.specs.TermOffsets.{term_without_offsets}
use Rattle.pn_syntax.specs.declared.declaration.Declaration.{Declaration}
use Rattle.pn_syntax.specs.declared.sort_expr.SortExpr.{SortExpr}
use Rattle.pn_values.specs.declared.sort.Sort.{Sort}

said_bare : {T : Type 0} (clear : T → T) (l : Option (Label T)) → said (option_map (label_with clear) l) ≡ option_map clear (said l)
said_bare clear None = refl
said_bare clear (Some l) = refl

cons_bare : {T : Type 0} (clear : T → T) (o : Option T) (ts : List T) → cons_option (option_map clear o) (map clear ts) ≡ map clear (cons_option o ts)
cons_bare clear None ts = refl
cons_bare clear (Some t) ts = refl

-- things that are equal but for offsets say the same but for offsets
module _ {X T : Type 0} (clear : X → X) (bare : T → T) (says : X → Option T) (blind : (x : X) → says (clear x) ≡ option_map bare (says x)) where
  all_said_bare : (xs : List X) → filter_map says (map clear xs) ≡ map bare (filter_map says xs)
  all_said_bare [] = refl
  all_said_bare (x ∷ xs) = (λ i. cons_option (blind x i) (all_said_bare xs i)) ∙ cons_bare bare (says x) (filter_map says xs)

  pub all_said_alike : (xs ys : List X) → map clear xs ≡ map clear ys → map bare (filter_map says xs) ≡ map bare (filter_map says ys)
  all_said_alike xs ys same = sym (all_said_bare xs) ∙ ap (filter_map says) same ∙ all_said_bare ys

  pub one_said : (x y : X) (t : T) → clear x ≡ clear y → says x ≡ Some t → (u : T) × (says y ≡ Some u) × (bare t ≡ bare u)
  one_said x y t same is = alike_option bare (says x) (says y) t (sym (blind x) ∙ ap says same ∙ blind y) is

pub type_bare : (p : Place) → said (place_without_offsets p).sort ≡ option_map sort_without_offsets (said p.sort)
type_bare p = said_bare sort_without_offsets p.sort

pub marking_bare : (p : Place) → said (place_without_offsets p).hl_marking ≡ option_map term_without_offsets (said p.hl_marking)
marking_bare p = said_bare term_without_offsets p.hl_marking

pub condition_bare : (t : Transition) → said (transition_without_offsets t).condition ≡ option_map term_without_offsets (said t.condition)
condition_bare t = said_bare term_without_offsets t.condition

pub inscription_bare : (a : Arc) → said (arc_without_offsets a).inscription ≡ option_map term_without_offsets (said a.inscription)
inscription_bare a = said_bare term_without_offsets a.inscription

-- types that are equal but for offsets say the same sort
sort_by_alike : (items others : List Declaration) → map declaration_without_offsets items ≡ map declaration_without_offsets others → (o q : Option SortExpr) → option_map sort_without_offsets o ≡ option_map sort_without_offsets q → (s : Sort)
    → IsSortBy items o s → IsSortBy others q s
sort_by_alike items others same None None alike s is = is
sort_by_alike items others same None (Some x) alike s is = absurd cc
sort_by_alike items others same (Some e) None alike s is = absurd cc
sort_by_alike items others same (Some e) (Some x) alike s is = resolved.offsets_aside items others e x s same (same_some (sort_without_offsets e) (sort_without_offsets x) alike) is

pub place_sort_alike : (items others : List Declaration) → map declaration_without_offsets items ≡ map declaration_without_offsets others → (p q : Place) → place_without_offsets p ≡ place_without_offsets q → (s : Sort)
    → IsPlaceSort items p s → IsPlaceSort others q s
place_sort_alike items others same p q alike s is =
    sort_by_alike items others same (said p.sort) (said q.sort) (sym (type_bare p) ∙ ap (λ (x : Place). said x.sort) alike ∙ type_bare q) s is
