-- Declarations that are equal but for offsets tell the same of names, of base sorts and of the elements of partitions.
use Rattle.std.proofs.Common.{◌≡◌, ℕ, List, [], ◌∷◌, map, Some, refl, sym, ap, ◌∙◌, subst}
use Rattle.std.specs.List.{Contains, slice_get}
use Rattle.std.specs.Option.{option_and_then, option_map}
use Rattle.pn_ids.specs.Names.{named_in}
use Rattle.pn_names.specs.Names.{constant_ref, names_of, widths_of}
use Rattle.pn_net.proofs.AlikeLemmas.{alike_get, alike_option, base_bare, elements_bare}
use Rattle.pn_partitions.specs.Partitions.{listed_value, value_in, value_layer}
use Rattle.pn_resolve.proofs.OffsetLemmas.{names_bare, offsets_aside, widths_bare}
use Rattle.pn_resolve.proofs.Options.{then_some}
use Rattle.pn_resolve.specs.Standing.{base_of, elements_of}
use Rattle.pn_sorts.specs.Lookups.{IsBaseSort, IsPartOf}
use Rattle.pn_syntax.specs.Offsets.{declaration_without_offsets, element_without_offsets, sort_without_offsets, value_without_offset}
use Rattle.pn_syntax.specs.declared.declaration.ConstExpr.{ConstExpr}
use Rattle.pn_syntax.specs.declared.declaration.ConstExpr.TheVariants as exprs
use Rattle.pn_syntax.specs.declared.declaration.Declaration.{Declaration}
use Rattle.pn_syntax.specs.declared.declaration.Declaration.TheVariants as declarations
use Rattle.pn_syntax.specs.declared.declaration.PartElement.{PartElement}
use Rattle.pn_values.specs.declared.sort.Sort.{Sort}
use Rattle.pn_values.specs.declared.sort.Sort.TheOpen as layer
use Rattle.pn_values.specs.declared.sort.Sort.TheViews.{out-Sort}
use Rattle.pn_values.specs.declared.value.Value.{Value}

module _ (items others : List Declaration) (same : map declaration_without_offsets items ≡ map declaration_without_offsets others) where
  pub names_same : names_of items ≡ names_of others
  names_same = sym (names_bare 0 0 items) ∙ ap names_of same ∙ names_bare 0 0 others

  pub widths_same : widths_of items ≡ widths_of others
  widths_same = sym (widths_bare items) ∙ ap widths_of same ∙ widths_bare others

  -- the base sort of a partition
  pub base_alike : (place : ℕ) (s : Sort) → IsBaseSort items place s → IsBaseSort others place s
  base_alike place s (e, is, has) =
      let own = then_some base_of (slice_get items place) e is in
      let there = alike_get declaration_without_offsets items others place own.0 same own.1 in
      let found = alike_option sort_without_offsets (base_of own.0) (base_of there.0) e (sym (base_bare own.0) ∙ ap base_of there.2 ∙ base_bare there.0) own.2 in
      (found.0, ap (option_and_then base_of) there.1 ∙ found.1, offsets_aside items others e found.0 s same found.2 has)

  -- the value that a constant names
  value_blind : (l : layer.Sort-F Sort) (c : ConstExpr) → value_layer items l (value_without_offset c) ≡ value_layer others l c
  value_blind (layer.Enumeration place) (exprs.Named id at) = ap (λ names. option_and_then (value_in place) (option_and_then constant_ref (named_in names id))) names_same
  value_blind (layer.Enumeration place) (exprs.Range value start end at) = refl
  value_blind (layer.Range first last) (exprs.Named id at) = refl
  value_blind (layer.Range first last) (exprs.Range value start end at) = refl
  value_blind layer.Dot c = refl
  value_blind layer.Bool c = refl
  value_blind (layer.Partition place) c = refl
  value_blind (layer.Product parts) c = refl
  value_blind layer.Integer c = refl
  value_blind layer.Natural c = refl
  value_blind layer.Positive c = refl
  value_blind layer.Text c = refl
  value_blind (layer.List part) c = refl

  values_blind : (base : Sort) (cs : List ConstExpr) → map (listed_value items base) (map value_without_offset cs) ≡ map (listed_value others base) cs
  values_blind base [] = refl
  values_blind base (c ∷ cs) = λ i. value_blind (out-Sort base) c i ∷ values_blind base cs i

-- the element of a partition that lists a value
pub part_of_alike : (items others : List Declaration) → map declaration_without_offsets items ≡ map declaration_without_offsets others → (place : ℕ) (v : Value) (number : ℕ) → IsPartOf items place v number → IsPartOf others place v number
part_of_alike items others same place v number (base, element, of_base, is, lists) =
    let own = then_some (λ d. slice_get (elements_of d) number) (slice_get items place) element is in
    let there = alike_get declaration_without_offsets items others place own.0 same own.1 in
    let found = alike_get element_without_offsets (elements_of own.0) (elements_of there.0) number element (sym (elements_bare own.0) ∙ ap elements_of there.2 ∙ elements_bare there.0) own.2 in
    let values : map (listed_value items base) element.values ≡ map (listed_value others base) found.0.values =
    sym (values_blind items items refl base element.values) ∙ ap (λ (x : PartElement). map (listed_value items base) x.values) found.2 ∙ values_blind items others same base found.0.values in
    (base, found.0, base_alike items others same place base of_base, ap (option_and_then (λ d. slice_get (elements_of d) number)) there.1 ∙ found.1, subst (λ vs. Contains vs (Some v)) values lists)
