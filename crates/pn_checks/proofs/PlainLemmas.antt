-- In a place/transition net no fault of sorts or of typing can stand: it has no declarations, no types and no terms.
use Rattle.std.proofs.Common.{◌≡◌, ℕ, zero, suc, true, false, List, [], ◌∷◌, ◌++◌, Option, None, Some, IfSome, refl, sym, ap, ◌∙◌, subst}
use Rattle.std.specs.List.{AllByRecursion, Contains, cons_option, filter_map, flat_map}
use Rattle.pn_facts.proofs.Each.{one_of}
use Rattle.pn_facts.proofs.Contained.{contains_nil}
use Rattle.pn_faults.specs.declared.fault.Fault.{Fault}
use Rattle.pn_checks.proofs.FlatLemmas.{flat_all}
use Rattle.pn_shape.proofs.WrittenLemmas.{both_all}
use Rattle.pn_pages.proofs.GatherLemmas.{own_layer, page_law}
use Rattle.pn_checks.specs.NoValue.{IsNoValue}
use Rattle.pn_checks.specs.Verdicts.{IsAccepted, in_tree, no_value}
use Rattle.pn_net.specs.Documents.{HasSoundLinks, IsWellTyped, StandsInTree, links, shape, sorts, typing}
use Rattle.pn_net.specs.Labels.{condition_terms, inscription_terms, marking_terms, net_terms, said, type_exprs}
use Rattle.pn_net.specs.Objects.{declared_by, in_page, in_pages, net_arcs, net_declarations, net_places, net_transitions}
use Rattle.pn_net.specs.Typing.{StandsInSorts, StandsInTyping, declared, of_type, of_term, of_constant, of_condition, of_marking, of_inscription, not_ground}
use Rattle.pn_objects.specs.declared.label.Label.{Label}
use Rattle.pn_objects.specs.declared.net.Net.{Net}
use Rattle.pn_objects.specs.declared.net.Page.{Page}
use Rattle.pn_objects.specs.declared.net.Page.TheOpen as layer
use Rattle.pn_objects.specs.declared.net.Page.TheViews.{out-Page}
use Rattle.pn_operators.specs.declared.kind.Kind.{Kind}
use Rattle.pn_operators.specs.declared.kind.Kind.TheVariants as kind
use Rattle.pn_resolve.specs.Standing.{StandsBesides, in_sort, sort_cycle, constant_range}
use Rattle.pn_round_trip.proofs.NetLaws.{net_spellable}
use Rattle.pn_round_trip.specs.Spellable.{IsHadWith, IsSpellableArc, IsSpellableDeclaration, IsSpellableLabel, IsSpellableNet, IsSpellablePage, IsSpellablePlace, IsSpellableTransition, IsSpellableWith, IsSpelledSort, IsSpelledTerm}
use Rattle.pn_shape.specs.Rules.{is_had, rule_for}
use Rattle.pn_shape.specs.declared.tag.Tag.{Tag}
use Rattle.pn_shape.specs.declared.tag.Tag.TheVariants as tag
use Rattle.pn_sorts.specs.Standing.{Stands, besides, bad_partition}
use Rattle.pn_spelling.specs.ReadNets.{net_of}
use Rattle.pn_syntax.specs.declared.declaration.Declaration.{Declaration}
use Rattle.pn_tree.specs.declared.element.Element.{Element}

-- ---- what holds of all that stands in pages

module _ {A : Type 0} (k : Kind) (P : A → Type 0) (own : layer.Page-F (List A) → List A) (holds : (IsSubpage : Page → Type 0) (p : Page) → IsSpellableWith k IsSubpage (out-Page p) → AllByRecursion P (own (own_layer own p))) where
  page_all : (levels : ℕ) (p : Page) → IsSpellablePage k levels p → AllByRecursion P (in_page own p)
  page_all zero p is = absurd is
  page_all (suc levels) p is =
      subst (AllByRecursion P) (sym (page_law own p))
      (both_all P (own (own_layer own p)) (flat_map (in_page own) (out-Page p).pages) (holds (IsSpellablePage k levels) p is)
      (flat_all P (IsSpellablePage k levels) (in_page own) (page_all levels) (out-Page p).pages is.pages))

  pub pages_all : (levels : ℕ) (ps : List Page) → AllByRecursion (IsSpellablePage k levels) ps → AllByRecursion P (flat_map (in_page own) ps)
  pages_all levels ps all = flat_all P (IsSpellablePage k levels) (in_page own) (page_all levels) ps all

-- ---- what a place/transition net has not

no_declaration : is_had kind.PtNet tag.Declaration ≡ false
unfolding rule_for
no_declaration = refl

no_type : is_had kind.PtNet tag.Type ≡ false
unfolding rule_for
no_type = refl

no_marking : is_had kind.PtNet tag.HlInitialMarking ≡ false
unfolding rule_for
no_marking = refl

no_condition : is_had kind.PtNet tag.Condition ≡ false
unfolding rule_for
no_condition = refl

no_inscription : is_had kind.PtNet tag.HlInscription ≡ false
unfolding rule_for
no_inscription = refl

not_had : (t : Tag) → is_had kind.PtNet t ≡ false → is_had kind.PtNet t ≡ true → ⊥
not_had t lacks has = let no : false ≡ true = sym lacks ∙ has in cc

unsaid : {T : Type 0} (t : Tag) (P : Label T → Type 0) → is_had kind.PtNet t ≡ false → (l : Option (Label T)) → IfSome l (IsHadWith kind.PtNet t P) → said l ≡ None
unsaid t P lacks None is = refl
unsaid t P lacks (Some l) is = absurd (not_had t lacks is.0)

no_labels : (ls : List (Label (List Declaration))) → AllByRecursion (IsSpellableDeclaration kind.PtNet) ls → declared_by ls ≡ []
no_labels [] all = refl
no_labels (l ∷ ls) all = absurd (not_had tag.Declaration no_declaration all.0.0)

none_of : {X : Type 0} (xs : List X) → AllByRecursion (λ x. ⊥) xs → xs ≡ []
none_of [] all = refl
none_of (x ∷ xs) all = absurd all.0

all_none : {X : Type 0} (xs : List X) → xs ≡ [] → AllByRecursion (λ x. ⊥) xs
all_none xs is = subst (AllByRecursion (λ x. ⊥)) (sym is) tt

none_said : {X Y : Type 0} (f : X → Option Y) (P : X → Type 0) → ((x : X) → P x → f x ≡ None) → (xs : List X) → AllByRecursion P xs → filter_map f xs ≡ []
none_said f P none [] all = refl
none_said f P none (x ∷ xs) all = ap (λ o. cons_option o (filter_map f xs)) (none x all.0) ∙ none_said f P none xs all.1

module _ (n : Net) (is_plain : n.kind ≡ kind.PtNet) (such : IsSpellableNet n) where
  pages : AllByRecursion (IsSpellablePage kind.PtNet such.levels) n.pages
  pages = subst (λ k. AllByRecursion (IsSpellablePage k such.levels) n.pages) is_plain such.pages

  places : AllByRecursion (IsSpellablePlace kind.PtNet) (net_places n)
  places = pages_all kind.PtNet (IsSpellablePlace kind.PtNet) (λ p. p.places) (λ S p is. is.places) such.levels n.pages pages

  transitions : AllByRecursion (IsSpellableTransition kind.PtNet) (net_transitions n)
  transitions = pages_all kind.PtNet (IsSpellableTransition kind.PtNet) (λ p. p.transitions) (λ S p is. is.transitions) such.levels n.pages pages

  arcs : AllByRecursion (IsSpellableArc kind.PtNet) (net_arcs n)
  arcs = pages_all kind.PtNet (IsSpellableArc kind.PtNet) (λ p. p.arcs) (λ S p is. is.arcs) such.levels n.pages pages

  pub no_declarations : net_declarations n ≡ []
  no_declarations =
      let own = no_labels n.declarations (subst (λ k. AllByRecursion (IsSpellableDeclaration k) n.declarations) is_plain such.declarations) in
      let inner = none_of (in_pages (λ p. declared_by p.declarations) n)
      (pages_all kind.PtNet (λ d. ⊥) (λ p. declared_by p.declarations) (λ S p is. all_none (declared_by (out-Page p).declarations) (no_labels (out-Page p).declarations is.declarations)) such.levels n.pages pages) in
      ap (λ ds. ds ++ in_pages (λ p. declared_by p.declarations) n) own ∙ inner

  no_types : type_exprs n ≡ []
  no_types = none_said (λ p. said p.sort) (IsSpellablePlace kind.PtNet) (λ p is. unsaid tag.Type (IsSpellableLabel (IsSpelledSort kind.PtNet)) no_type p.sort is.sort) (net_places n) places

  no_markings : marking_terms n ≡ []
  no_markings = none_said (λ p. said p.hl_marking) (IsSpellablePlace kind.PtNet) (λ p is. unsaid tag.HlInitialMarking (IsSpellableLabel (IsSpelledTerm kind.PtNet)) no_marking p.hl_marking is.hl_marking) (net_places n) places

  no_conditions : condition_terms n ≡ []
  no_conditions = none_said (λ t. said t.condition) (IsSpellableTransition kind.PtNet) (λ t is. unsaid tag.Condition (IsSpellableLabel (IsSpelledTerm kind.PtNet)) no_condition t.condition is.condition) (net_transitions n) transitions

  no_inscriptions : inscription_terms n ≡ []
  no_inscriptions = none_said (λ a. said a.inscription) (IsSpellableArc kind.PtNet) (λ a is. unsaid tag.HlInscription (IsSpellableLabel (IsSpelledTerm kind.PtNet)) no_inscription a.inscription is.inscription) (net_arcs n) arcs

  no_terms : net_terms n ≡ []
  no_terms = ap (λ es. es ++ (condition_terms n ++ inscription_terms n)) no_markings ∙ ap (λ es. es ++ inscription_terms n) no_conditions ∙ no_inscriptions

  nowhere : {X : Type 0} (xs : List X) (x : X) → xs ≡ [] → Contains xs x → ⊥
  nowhere xs x none has = contains_nil x (subst (λ ys. Contains ys x) none has)

  sound_besides : (f : Fault) → StandsBesides [] f → ⊥
  sound_besides f (in_sort _ d e there sort fault) = contains_nil d there
  sound_besides f (sort_cycle _ place d there leads is) = absurd cc
  sound_besides f (constant_range _ d c there listed range is) = contains_nil d there

  sound_declarations : (f : Fault) → Stands [] f → ⊥
  sound_declarations f (besides _ stands) = sound_besides f stands
  sound_declarations f (bad_partition _ d there bad is) = contains_nil d there

  pub no_sort_fault : (f : Fault) → StandsInSorts n f → ⊥
  no_sort_fault f (declared _ stands) = sound_declarations f (subst (λ ds. Stands ds f) no_declarations stands)
  no_sort_fault f (of_type _ e there stands) = nowhere (type_exprs n) e no_types there
  no_sort_fault f (of_term _ e there stands) = nowhere (net_terms n) e no_terms there
  no_sort_fault f (of_constant _ e there empty) = nowhere (net_terms n) e no_terms there

  pub no_typing_fault : (f : Fault) → StandsInTyping n f → ⊥
  no_typing_fault f (of_term _ e there stands) = nowhere (net_terms n) e no_terms there
  no_typing_fault f (of_condition _ is) = nowhere (condition_terms n) is.term no_conditions is.stands
  no_typing_fault f (of_marking _ is) = let none = unsaid tag.HlInitialMarking (IsSpellableLabel (IsSpelledTerm kind.PtNet)) no_marking is.place.hl_marking (one_of (IsSpellablePlace kind.PtNet) (net_places n) is.place places is.stands).hl_marking in
      let no : None ≡ Some is.term = sym none ∙ is.is_marking in cc
  no_typing_fault f (of_inscription _ is) = let none = unsaid tag.HlInscription (IsSpellableLabel (IsSpelledTerm kind.PtNet)) no_inscription is.arc.inscription (one_of (IsSpellableArc kind.PtNet) (net_arcs n) is.arc arcs is.stands).inscription in
      let no : None ≡ Some is.term = sym none ∙ is.is_inscription in cc
  no_typing_fault f (not_ground _ is) = nowhere (marking_terms n) is.term no_markings is.stands

  pub all_have_values : (f : Fault) → IsNoValue n f → ⊥
  all_have_values f is = let none = unsaid tag.HlInitialMarking (IsSpellableLabel (IsSpelledTerm kind.PtNet)) no_marking is.place.hl_marking (one_of (IsSpellablePlace kind.PtNet) (net_places n) is.place places is.stands).hl_marking in
      let no : None ≡ Some is.term = sym none ∙ is.is_marking in cc

-- a place/transition net without a fault of shape or of ids and links has none
pub plain_well_typed : (tree : Element) → HasSoundLinks tree → (net_of tree).kind ≡ kind.PtNet → IsWellTyped tree
plain_well_typed tree sound is_plain f stands = by stands
  where
    such : IsSpellableNet (net_of tree)
    such = net_spellable tree (net_of tree) sound.spells refl

    by : StandsInTree tree f → ⊥
    by (shape _ there) = contains_nil f (subst (λ fs. Contains fs f) sound.spells there)
    by (links _ clean there) = sound.links f there
    by (sorts _ g linked there told) = no_sort_fault (net_of tree) is_plain such g there
    by (typing _ sound there) = no_typing_fault (net_of tree) is_plain such f there

pub plain_accepted : (tree : Element) → HasSoundLinks tree → (net_of tree).kind ≡ kind.PtNet → IsAccepted tree
plain_accepted tree sound is_plain f (in_tree _ there) = plain_well_typed tree sound is_plain f there
plain_accepted tree sound is_plain f (no_value _ fine there) = all_have_values (net_of tree) is_plain (net_spellable tree (net_of tree) sound.spells refl) f there
