-- The prefixes that attributes bind, with one attribute more.
use Rattle.std.proofs.Common.{◌≡◌, ℕ, ◌+◌, Bool, true, false, List, [], ◌∷◌, ◌++◌, map, take, Some, refl, ap, ◌∙◌, cond}
use Rattle.std.specs.List.{filter, slice_get}
use Rattle.std.proofs.lemmas.List.{map-append}
use Rattle.pn_tree.proofs.CopyLemmas.{take_next}
use Rattle.pn_tree.specs.declared.element.Attr.{Attr}
use Rattle.pn_spelling.specs.ReadNets.{is_prefix, prefix_read}
use Rattle.pn_core_grammar.specs.Prefixes.{prefix_next}
use Rattle.pn_core_grammar.proofs.InsideLemmas.{filter_next}

pub prefixes_next : (xs : List Attr) (i : ℕ) (a : Attr) → slice_get xs i ≡ Some a
    → map prefix_read (filter is_prefix (take (i + 1) xs)) ≡ prefix_next a (map prefix_read (filter is_prefix (take i xs)))
prefixes_next xs i a is = ap (λ l. map prefix_read (filter is_prefix l)) (take_next xs i a is) ∙ ap (map prefix_read) (filter_next is_prefix (take i xs) a) ∙ by (is_prefix a)
  where
    by : (b : Bool) → map prefix_read (cond b (filter is_prefix (take i xs) ++ a ∷ []) (filter is_prefix (take i xs)))
        ≡ cond b (map prefix_read (filter is_prefix (take i xs)) ++ prefix_read a ∷ []) (map prefix_read (filter is_prefix (take i xs)))
    by true = map-append prefix_read (filter is_prefix (take i xs)) (a ∷ [])
    by false = refl
