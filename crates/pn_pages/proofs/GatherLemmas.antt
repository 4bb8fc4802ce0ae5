-- What stands in pages, page by page.
use Rattle.std.proofs.Common.{◌≡◌, ℕ, suc, ◌+◌, ◌<◌, List, [], ◌∷◌, ◌++◌, append_assoc, map, reverse, refl, sym, ap, ◌∙◌, arith}
use Rattle.std.specs.List.{flat_map}
use Rattle.std.proofs.lemmas.List.{map-append, reverse-append, reverse-reverse}
use Rattle.std.proofs.lemmas.List.Folds.{flat_map-map}
use Rattle.std.proofs.lemmas.Grind.{flat_map-append}
use Rattle.pn_objects.specs.declared.net.Page.{Page}
use Rattle.pn_objects.specs.declared.net.Page.TheOpen as layer
use Rattle.pn_objects.specs.declared.net.Page.TheViews.{out-Page}
use Rattle.pn_objects.specs.declared.net.Page.TheFolds.{fold-Page, fold_out-Page}
use Rattle.pn_net.specs.Objects.{in_page}
use Rattle.pn_pages.specs.Gathering.{GathersTheSame}

-- how many pages there are, with those in them
abbrev pub all_sizes : List ℕ → ℕ
all_sizes [] = 0
all_sizes (n ∷ ns) = n + all_sizes ns

abbrev pub page_size : Page → ℕ
page_size = fold-Page ℕ (λ p. suc (all_sizes p.pages))

abbrev pub pages_size : List Page → ℕ
pages_size ps = all_sizes (map page_size ps)

size_law : (p : Page) → page_size p ≡ suc (pages_size (out-Page p).pages)
size_law p = fold_out-Page ℕ (λ q. suc (all_sizes q.pages)) p ∙ refl

-- the page with what stands in those in it
abbrev pub own_layer : {A : Type 0} → (layer.Page-F (List A) → List A) → Page → layer.Page-F (List A)
own_layer own p = let l = out-Page p in record {
  id = l.id;
  head = l.head;
  declarations = l.declarations;
  places = l.places;
  transitions = l.transitions;
  place_refs = l.place_refs;
  transition_refs = l.transition_refs;
  arcs = l.arcs;
  pages = map (in_page own) l.pages;
  at = l.at;
}

pub page_law : {A : Type 0} (own : layer.Page-F (List A) → List A) (p : Page) → in_page own p ≡ own (own_layer own p) ++ flat_map (in_page own) (out-Page p).pages
page_law {A} own p =
    fold_out-Page (List A) (λ q. own q ++ flat_map (λ inner. inner) q.pages) p
    ∙ ap (λ xs. own (own_layer own p) ++ xs) (flat_map-map (λ inner. inner) (in_page own) (out-Page p).pages)

-- one page more is gathered
pub one_more : {A : Type 0} (own : layer.Page-F (List A) → List A) (old : List A) (pages : List Page) (now next : List A) (stack rest after : List Page) (p : Page)
    → stack ≡ rest ++ p ∷ [] → after ≡ rest ++ reverse (out-Page p).pages → next ≡ now ++ own (own_layer own p) → GathersTheSame own old pages now (reverse stack) → GathersTheSame own old pages next (reverse after)
one_more own old pages now next stack rest after p is then grown keeps =
    let f = in_page own in
    let inner = (out-Page p).pages in
    let xs = own (own_layer own p) in
    let front : reverse stack ≡ p ∷ reverse rest = ap reverse is ∙ reverse-append rest (p ∷ []) in
    let behind : reverse after ≡ inner ++ reverse rest = ap reverse then ∙ reverse-append rest (reverse inner) ∙ ap (λ ps. ps ++ reverse rest) (reverse-reverse inner) in
    ap (λ ps. next ++ flat_map f ps) behind ∙ ap (λ ys. next ++ ys) (flat_map-append f inner (reverse rest)) ∙ ap (λ ys. ys ++ (flat_map f inner ++ flat_map f (reverse rest))) grown
    ∙ append_assoc now xs (flat_map f inner ++ flat_map f (reverse rest)) ∙ ap (λ ys. now ++ ys) (sym (append_assoc xs (flat_map f inner) (flat_map f (reverse rest))) ∙ ap (λ ys. ys ++ flat_map f (reverse rest)) (sym (page_law own p)))
    ∙ sym (ap (λ ps. now ++ flat_map f ps) front) ∙ keeps

sizes_append : (ms ns : List ℕ) → all_sizes (ms ++ ns) ≡ all_sizes ms + all_sizes ns
sizes_append [] ns = omega arith
sizes_append (m ∷ ms) ns = omega (arith, sizes_append ms ns)

size_append : (ps qs : List Page) → pages_size (ps ++ qs) ≡ pages_size ps + pages_size qs
size_append ps qs = ap all_sizes (map-append page_size ps qs) ∙ sizes_append (map page_size ps) (map page_size qs)

size_reverse : (ps : List Page) → pages_size (reverse ps) ≡ pages_size ps
size_reverse [] = refl
size_reverse (p ∷ ps) = omega (arith, ap pages_size (reverse-append (p ∷ []) ps), size_append (reverse ps) (p ∷ []), size_reverse ps)

-- fewer pages are left
pub smaller_left : (stack rest after : List Page) (p : Page) → stack ≡ rest ++ p ∷ [] → after ≡ rest ++ reverse (out-Page p).pages → pages_size after < pages_size stack
smaller_left stack rest after p is then =
    omega (arith, ap pages_size is, ap pages_size then, size_append rest (p ∷ []), size_append rest (reverse (out-Page p).pages), size_reverse (out-Page p).pages, size_law p)
