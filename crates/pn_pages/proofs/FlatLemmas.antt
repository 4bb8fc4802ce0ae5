-- What a flat net has of its net.
use Rattle.std.proofs.Common.{◌≡◌, List, [], ◌∷◌, length, map, refl, sym, ap, ◌∙◌}
use Rattle.std.proofs.lemmas.List.{length-map}
use Rattle.pn_net.specs.Flattening.{IsFlattened, IsRewired, arc_of_flat, net_of_flat}
use Rattle.pn_net.specs.Objects.{net_arcs, net_places, net_transitions}
use Rattle.pn_net.specs.declared.flat.Flat.{Flat}
use Rattle.pn_objects.specs.declared.net.Net.{Net}
use Rattle.pn_objects.specs.declared.net.Page.{Page}
use Rattle.pn_objects.specs.declared.net.Page.TheOpen as layer
use Rattle.pn_objects.specs.declared.net.Page.TheViews.{out-Page, out-roll-Page, roll-Page}
use Rattle.pn_pages.proofs.GoalLemmas.{zip_length}

module _ {A : Type 0} (of : layer.Page-F Page → List A) where
  of_first : List Page → List A
  of_first [] = []
  of_first (p ∷ ps) = of (out-Page p)

  of_page : (l : layer.Page-F Page) → (ps : List Page) → ps ≡ roll-Page l ∷ [] → of_first ps ≡ of l
  unfolding of_first
  of_page l ps is = ap of_first is ∙ ap of (out-roll-Page l)

pub flat_places_are : (n : Net) (f : Flat) → IsFlattened n (net_of_flat f) → f.places ≡ net_places n
flat_places_are n f is = sym (of_page (λ l. l.places) _ (net_of_flat f).pages refl) ∙ of_page (λ l. l.places) _ (net_of_flat f).pages (ap (λ (m : Net). m.pages) is.is)

pub flat_transitions_are : (n : Net) (f : Flat) → IsFlattened n (net_of_flat f) → f.transitions ≡ net_transitions n
flat_transitions_are n f is = sym (of_page (λ l. l.transitions) _ (net_of_flat f).pages refl) ∙ of_page (λ l. l.transitions) _ (net_of_flat f).pages (ap (λ (m : Net). m.pages) is.is)

pub flat_arcs_are : (n : Net) (f : Flat) → IsFlattened n (net_of_flat f) → length f.arcs ≡ length (net_arcs n)
flat_arcs_are n f is =
    let arcs : map (arc_of_flat f) f.arcs ≡ is.arcs = sym (of_page (λ l. l.arcs) _ (net_of_flat f).pages refl) ∙ of_page (λ l. l.arcs) _ (net_of_flat f).pages (ap (λ (m : Net). m.pages) is.is) in
    sym (length-map f.arcs (arc_of_flat f)) ∙ ap length arcs ∙ zip_length (IsRewired n) (net_arcs n) is.arcs is.rewired
