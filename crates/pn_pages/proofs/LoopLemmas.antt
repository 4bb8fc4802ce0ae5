-- What loops over references, arcs and what arcs join keep.
use Rattle.std.proofs.Common.{◌≡◌, ℕ, zero, suc, ◌+◌, ◌<◌, List, [], ◌∷◌, ◌++◌, append_assoc, drop, length, get_or, reverse, Option, refl, sym, ap, ◌∙◌, subst, arith}
use Rattle.std.specs.List.{AllZip}
use Rattle.std.proofs.lemmas.List.{drop_more, length-append, reverse-append}
use Rattle.std.proofs.lemmas.Option.{slice_get-get_or}
use Rattle.pn_net.specs.Ids.{holders_of}
use Rattle.pn_net.specs.declared.flat.FlatArc.{FlatArc}
use Rattle.pn_objects.specs.declared.net.Net.{Net}
use Rattle.pn_objects.specs.declared.object.Arc.{Arc}
use Rattle.pn_objects.specs.declared.object.Place.{Place}
use Rattle.pn_objects.specs.declared.object.Reference.{Reference}
use Rattle.pn_objects.specs.declared.object.Transition.{Transition}
use Rattle.pn_pages.specs.declared.ends.Ends.{Ends}
use Rattle.pn_pages.specs.declared.follow.Goal.{Goal}
use Rattle.pn_pages.specs.declared.names.Node.{Node}
use Rattle.pn_pages.specs.declared.numbered.Objects.{Objects}
use Rattle.pn_pages.specs.declared.wiring.Wire.{Wire}
use Rattle.pn_pages.specs.Linking.{AreEnds, AreFollowed, TellsEndless}
use Rattle.pn_pages.specs.Naming.{FindsNode}
use Rattle.pn_pages.specs.Wiring.{flat_arc_of, flat_arcs}
use Rattle.pn_pages.proofs.NotingLemmas.{stands_at}

zip_get : {A B : Type 0} (R : A → B → Type 0) (xs : List A) (ys : List B) → AllZip R xs ys → (i : ℕ) → i < length xs → (d : A) (e : B) → R (get_or xs i d) (get_or ys i e)
zip_get R [] ys have i small d e = absurd (omega (arith, small))
zip_get R (x ∷ xs) [] have i small d e = absurd have
zip_get R (x ∷ xs) (y ∷ ys) have zero small d e = have.0
zip_get R (x ∷ xs) (y ∷ ys) have (suc i) small d e = zip_get R xs ys have.1 i (omega (arith, small)) d e

-- what the ends of the arc at this place name
pub ends_at : (n : Net) (o : Objects) (arcs : List Arc) (es : List Ends) → AllZip (AreEnds o (holders_of n)) arcs es → (i : ℕ) (a : Arc) → i < length arcs → a ≡ get_or arcs i a → (e : Ends) → AreEnds o (holders_of n) a (get_or es i e)
ends_at n o arcs es have i a small is e = subst (λ x. AreEnds o (holders_of n) x (get_or es i e)) (sym is) (zip_get (AreEnds o (holders_of n)) arcs es have i small a e)

-- what is known of the reference at this place
pub followed_at : (n : Net) (o : Objects) (rs : List Reference) (ts : List (Option Node)) (gs : List Goal) → AreFollowed n o rs ts gs → length ts ≡ length rs → length gs ≡ length rs
    → (i : ℕ) (r : Reference) → i < length rs → r ≡ get_or rs i r → (t : Option Node) (g : Goal) → FindsNode o (holders_of n) r.refers (get_or ts i t) × TellsEndless n r (get_or gs i g).endless
followed_at n o rs ts gs followed same also i r small is t g =
    followed i r (get_or ts i t) (get_or gs i g) (stands_at rs rs i r refl small is) (slice_get-get_or ts i t (omega (arith, small, same))) (slice_get-get_or gs i g (omega (arith, small, also)))
