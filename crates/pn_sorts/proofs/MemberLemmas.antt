-- The values of enumerations and partitions are declared constants.
use Rattle.std.proofs.Common.{◌≡◌, ◌<◌, ℕ, zero, suc, List, [], ◌∷◌, Bool, true, refl, sym, ap, ◌∙◌, subst, Option, Some, None, slice_get, slice_index, IsSome, arith}
use Rattle.std.specs.Option.{option_and_then}
use Rattle.std.proofs.lemmas.Bool.{false≢true}
use Rattle.std.proofs.lemmas.Option.{slice_get-get_or}
use Rattle.pn_syntax.specs.declared.declaration.Declaration.{Declaration}
use Rattle.pn_syntax.specs.declared.declaration.Declaration.TheVariants as declarations
use Rattle.pn_syntax.specs.declared.declaration.SortBody.TheVariants as bodies
use Rattle.pn_values.specs.declared.sort.Sort.TheOpen as layer
use Rattle.pn_values.specs.declared.sort.Sort.TheVariants as sorts
use Rattle.pn_values.specs.declared.sort.Sort.TheVariants.{rolls-Enumeration, rolls-Partition, rolls-Text}
use Rattle.pn_values.specs.declared.sort.Sort.TheFolds.{fold-roll-Sort}
use Rattle.pn_text.specs.Characters.{is_text}
use Rattle.pn_values.specs.declared.value.Value.{Value}
use Rattle.pn_values.specs.declared.value.Value.TheOpen as value_layer
use Rattle.pn_values.specs.declared.value.Value.TheVariants as values
use Rattle.pn_values.specs.declared.value.Value.TheVariants.{rolls-Text as rolls-text-value}
use Rattle.pn_values.specs.declared.value.Value.TheViews.{out-Value, out-roll-Value}
use Rattle.pn_carriers.specs.Members.{IsMember, is_document_text, is_member, is_member_layer}
use Rattle.pn_carriers.proofs.LayerLemmas.{member-enumeration, member-partition}
use Rattle.pn_carriers.proofs.ValueLemmas.{constant_is}
use Rattle.pn_names.specs.Names.{constant_ids, widths_of}
use Rattle.pn_resolve.specs.Naming.{is_enumeration, is_partition, is_such, names_declared, names_declared_layer, NamesDeclared}
use Rattle.pn_sorts.specs.Lookups.{IsDeclaredConstant, sort_at}

id_there : (items : List Declaration) (place k : ℕ) → k < slice_index (widths_of items) place → IsSome (option_and_then (λ d. slice_get (constant_ids d) k) (slice_get items place))
id_there [] place k small = absurd (omega (arith, small))
id_there (d ∷ ds) zero k small = subst IsSome (sym (slice_get-get_or (constant_ids d) k [] small)) refl
id_there (d ∷ ds) (suc place) k small = id_there ds place k small

enumeration_at : (place : ℕ) (o : Option Declaration) → is_such is_enumeration o ≡ true → option_and_then (sort_at place) o ≡ Some (sorts.Enumeration place)
enumeration_at place None h = absurd (false≢true h)
enumeration_at place (Some (declarations.Named id name (bodies.Plain e) at)) h = absurd (false≢true h)
enumeration_at place (Some (declarations.Named id name (bodies.Finite constants) at)) h = refl
enumeration_at place (Some (declarations.Named id name (bodies.Cyclic constants) at)) h = refl
enumeration_at place (Some (declarations.Variable id name sort at)) h = absurd (false≢true h)
enumeration_at place (Some (declarations.Partition id name sort elements at)) h = absurd (false≢true h)

partition_at : (place : ℕ) (o : Option Declaration) → is_such is_partition o ≡ true → option_and_then (sort_at place) o ≡ Some (sorts.Partition place)
partition_at place None h = absurd (false≢true h)
partition_at place (Some (declarations.Named id name body at)) h = absurd (false≢true h)
partition_at place (Some (declarations.Variable id name sort at)) h = absurd (false≢true h)
partition_at place (Some (declarations.Partition id name sort elements at)) h = refl

pub enumeration_member : (items : List Declaration) (place : ℕ) (v : Value) → NamesDeclared items (sorts.Enumeration place) → IsMember (widths_of items) v (sorts.Enumeration place) → IsDeclaredConstant items place (sorts.Enumeration place) v
enumeration_member items place v names member =
    let c = constant_is (slice_index (widths_of items) place) v (sym (member-enumeration (widths_of items) place v) ∙ member) in
    let there : is_such is_enumeration (slice_get items place) ≡ true =
    sym (fold-roll-Sort Bool (names_declared_layer items) (layer.Enumeration place)) ∙ ap (names_declared items) (rolls-Enumeration place) ∙ names in
    record { index = c.0; is = c.2; declared = id_there items place c.0 c.1; of_sort = enumeration_at place (slice_get items place) there }

pub partition_member : (items : List Declaration) (place : ℕ) (v : Value) → NamesDeclared items (sorts.Partition place) → IsMember (widths_of items) v (sorts.Partition place) → IsDeclaredConstant items place (sorts.Partition place) v
partition_member items place v names member =
    let c = constant_is (slice_index (widths_of items) place) v (sym (member-partition (widths_of items) place v) ∙ member) in
    let there : is_such is_partition (slice_get items place) ≡ true =
    sym (fold-roll-Sort Bool (names_declared_layer items) (layer.Partition place)) ∙ ap (names_declared items) (rolls-Partition place) ∙ names in
    record { index = c.0; is = c.2; declared = id_there items place c.0 c.1; of_sort = partition_at place (slice_get items place) there }

-- a text is of the sort of texts where its characters are those that a document may have
pub member_text : (widths : List ℕ) (t : List ℕ) → is_member widths sorts.Text (values.Text t) ≡ is_text t
member_text widths t =
    ap (λ s. is_member widths s (values.Text t)) (sym rolls-Text)
    ∙ ap (λ (test : Value → Bool). test (values.Text t)) (fold-roll-Sort (Value → Bool) (λ sort v. is_member_layer widths sort (out-Value v)) layer.Text)
    ∙ ap is_document_text (ap out-Value (sym (rolls-text-value t)) ∙ out-roll-Value (value_layer.Text t))
