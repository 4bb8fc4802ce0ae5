-- What stands in pages, gathered kind by kind.
use Rattle.std.specs.Prelude.{◌≡◌, List, [], ◌∷◌, ◌++◌, map}
use Rattle.std.specs.List.{flat_map}
use Rattle.pn_objects.specs.declared.label.Label.{Label}
use Rattle.pn_objects.specs.declared.net.Page.{Page}
use Rattle.pn_objects.specs.declared.net.Page.TheOpen as layer
use Rattle.pn_syntax.specs.declared.declaration.Declaration.{Declaration}
use Rattle.pn_net.specs.Ids.{IdHolder, holder, other, page_holder}
use Rattle.pn_net.specs.Objects.{declared_by, in_page}
use Rattle.pn_pages.specs.declared.gather.Gathered.{Gathered}
use Rattle.pn_pages.specs.declared.gather.Title.{Title}

abbrev pub title_holder : Title → IdHolder
title_holder t = holder t.id t.at other

abbrev pub title_of : {P : Type 0} → layer.Page-F P → Title
title_of p = record { id = p.id; head = p.head; at = p.at }

-- with what stands in a page itself
abbrev pub with_page : {P : Type 0} → layer.Page-F P → Gathered → Gathered
with_page p g = record {
  titles = g.titles ++ title_of p ∷ [];
  declarations = g.declarations ++ declared_by p.declarations;
  places = g.places ++ p.places;
  transitions = g.transitions ++ p.transitions;
  place_refs = g.place_refs ++ p.place_refs;
  transition_refs = g.transition_refs ++ p.transition_refs;
  arcs = g.arcs ++ p.arcs;
}

abbrev pub nothing_gathered : Gathered
nothing_gathered = record { titles = []; declarations = []; places = []; transitions = []; place_refs = []; transition_refs = []; arcs = [] }

-- what was there before and what stands in pages is what is there now and what stands in the pages that are left
abbrev pub GathersTheSame : {A : Type 0} → (layer.Page-F (List A) → List A) → List A → List Page → List A → List Page → Type 0
GathersTheSame own old pages now left = now ++ flat_map (in_page own) left ≡ old ++ flat_map (in_page own) pages

-- of each kind
pub record AreGathered (old : Gathered) (pages : List Page) (now : Gathered) (left : List Page) : Type 0 where
  pub titles : GathersTheSame (λ p. title_of p ∷ []) old.titles pages now.titles left
  pub held : GathersTheSame (λ p. page_holder p ∷ []) (map title_holder old.titles) pages (map title_holder now.titles) left
  pub declarations : GathersTheSame (λ p. declared_by p.declarations) old.declarations pages now.declarations left
  pub places : GathersTheSame (λ p. p.places) old.places pages now.places left
  pub transitions : GathersTheSame (λ p. p.transitions) old.transitions pages now.transitions left
  pub place_refs : GathersTheSame (λ p. p.place_refs) old.place_refs pages now.place_refs left
  pub transition_refs : GathersTheSame (λ p. p.transition_refs) old.transition_refs pages now.transition_refs left
  pub arcs : GathersTheSame (λ p. p.arcs) old.arcs pages now.arcs left

-- what elements `declaration` declare, and nothing else
abbrev pub with_labels : List (Label (List Declaration)) → Gathered
with_labels labels = record nothing_gathered { declarations = declared_by labels }
