use Rattle.std.proofs.Common.{◌≡◌, ◌≤◌, ◌<◌, ℕ, List, length, inl, inr, slice_index_or, Option, Some, None, sym, ap, ◌∙◌, arith}
use denote.Bor.{Bor}
use Rattle.std.specs.List.{slice_get}
use Rattle.std.specs.Option.{option_copied, IfSome, MatchOption}
use Rattle.std.proofs.lemmas.Option.{slice_get_cases, slice_get-get_or}
use Rattle.pn_values.specs.declared.sort.Sort.{Sort}
use Rattle.pn_resolve.specs.NamedSorts.{sort_found}
use Rattle.pn_resolve.specs.Tables.{sort_in}
use Rattle.pn_resolve.proofs.NamedSortsLemmas.{sort_at_is}
use Rattle.pn_resolve.proofs.named_sorts.NamedSorts.get.Goals as goal

copied : (xs : List Sort) (i : ℕ) (Q : Bor Sort → Type 0) (o : Option (Bor Sort)) → IfSome o (λ x. x.now ≡ slice_index_or xs i x.now) → MatchOption o (length xs ≤ i) (λ x. (i < length xs) × Q x) → option_copied o ≡ slice_get xs i
copied xs i Q None item out = elim (slice_get_cases xs i).1 [ inl there ↦ absurd (omega (arith, out, there.1)) | inr none ↦ sym none.1 ]
copied xs i Q (Some x) item there = ap Some item ∙ sym (slice_get-get_or xs i x.now there.0)

pub returns-in-Some : goal.returns-in-Some
returns-in-Some c =
    let kept = c.self.inside.kept.items in
    let places = c.self.inside.places.items in
    let place_is = sym c.in-Some.is ∙ c.place_at.ensures ∙ ap (λ ps. slice_index_or ps c.args.place None) c.deref.ensures.value in
    copied c.deref-in-Some.result.now c.in-Some.found _ c.get.result c.get.ensures.lookup.1 c.get.ensures.lookup.3
    ∙ ap (λ l. slice_get l c.in-Some.found) c.deref-in-Some.ensures.value
    ∙ ap (sort_found kept) place_is ∙ sym (sort_at_is kept places c.args.place)
    ∙ ap (λ ss. sort_in ss c.args.place) c.self.view_is
