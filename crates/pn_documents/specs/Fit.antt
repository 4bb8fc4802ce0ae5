-- Sorts whose values have terms that a document of a kind of nets may hold (ISO/IEC 15909-2, sorts and terms).
use Rattle.std.specs.Prelude.{◌≡◌, ℕ, ℤ, Bool, true, false, ◌&&◌, int_le, List}
use Rattle.std.specs.List.{list_all, slice_get}
use Rattle.std.specs.Prelude.{Some}
use Rattle.pn_carriers.specs.Members.{greatest_number, least_number}
use Rattle.pn_ids.specs.Names.{AreDistinct}
use Rattle.pn_marked.specs.Ground.{constant_id, declared_id, is_sound}
use Rattle.pn_names.specs.Names.{names_of}
use Rattle.pn_net.specs.Labels.{IsPlaceSort}
use Rattle.pn_net.specs.Typed.{IsSortOfPlace}
use Rattle.pn_net.specs.declared.flat.Flat.{Flat}
use Rattle.pn_objects.specs.declared.object.Place.{Place}
use Rattle.pn_operators.specs.declared.kind.Kind.{Kind}
use Rattle.pn_operators.specs.declared.kind.Kind.TheVariants as kinds
use Rattle.pn_resolve.specs.Standing.{IsBig}
use Rattle.pn_syntax.specs.declared.declaration.Declaration.{Declaration}
use Rattle.pn_text.specs.Characters.{is_text}
use Rattle.pn_values.specs.declared.sort.Sort.{Sort}
use Rattle.pn_values.specs.declared.sort.Sort.TheFolds.{fold-Sort}
use Rattle.pn_values.specs.declared.sort.Sort.TheOpen as layer
use Rattle.pn_values.specs.declared.sort.Sort.TheVariants as sorts

-- a number of 64 bits with a sign
abbrev pub is_number : ℤ → Bool
is_number z = int_le least_number z && int_le z greatest_number

-- nets of the kind have texts and lists
abbrev pub is_high : Kind → Bool
is_high kinds.PtNet = false
is_high kinds.Symmetric = false
is_high kinds.HighLevel = true

-- whether nets of the kind have a sort, where it is known of its parts
abbrev pub may_stand_layer : Kind → layer.Sort-F Bool → Bool
may_stand_layer k (layer.Range start end) = is_number start && is_number end
may_stand_layer k (layer.Product parts) = list_all (λ part. part) parts
may_stand_layer k layer.Text = is_high k
may_stand_layer k (layer.List item) = is_high k && item
may_stand_layer k _ = true

-- whether nets of the kind have the sort
abbrev pub may_stand : Kind → Sort → Bool
may_stand k = fold-Sort Bool (may_stand_layer k)

-- the ids of declarations and of what they declare are texts
pub record HasTextIds (items : List Declaration) : Type 0 where
  pub declared : (place : ℕ) → is_text (declared_id items place) ≡ true
  pub constants : (place index : ℕ) → is_text (constant_id items place index) ≡ true

-- nets of the kind have the sort, it is within the limits, its ranges are not empty, and its products have parts
pub record IsFitSort (k : Kind) (s : Sort) : Type 0 where
  pub stands : may_stand k s ≡ true
  pub sound : is_sound s ≡ true
  pub small : IsBig s → ⊥

-- so it is with the sorts of all places of a flat net; in a place/transition net they are the sort of the one value
pub record HasFitSorts (f : Flat) : Type 0 where
  pub distinct : AreDistinct (names_of f.declarations)
  pub ids : HasTextIds f.declarations
  pub fits : (i : ℕ) (s : Sort) → IsSortOfPlace f i s → IsFitSort f.kind s
  pub plain : f.kind ≡ kinds.PtNet → (i : ℕ) (p : Place) → slice_get f.places i ≡ Some p → IsPlaceSort f.declarations p sorts.Dot
