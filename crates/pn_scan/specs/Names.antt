-- How names are kept one behind the other, and those of the attributes of an element.
use Rattle.std.specs.Prelude.{◌≡◌, ℕ, ◌+◌, ◌||◌, Bool, false, List, [], ◌∷◌, length, is_some}
use Rattle.std.specs.List.{concat, list_any}
use Rattle.std.specs.Option.{option_map, unwrap_or}
use Rattle.std.specs.Str.{bytes_eq}
use Rattle.indexmap.specs.IndexSet.{contains_text}
use Rattle.pn_tree.specs.Elements.{attr_value}
use Rattle.pn_tree.specs.declared.element.Attr.{Attr}
use Rattle.pn_scan.specs.declared.names.Span.{Span}
use Rattle.pn_scan.specs.declared.names.Names.{Names}
use Rattle.pn_scan.specs.declared.names.AttributeNames.{AttributeNames}

-- the places of names that follow each other from this place on
abbrev pub spans_from : ℕ → List (List ℕ) → List Span
spans_from start [] = []
spans_from start (n ∷ ns) = record { start = start; end = start + length n } ∷ spans_from (start + length n) ns

-- these bytes are the names, and the spans are their places
pub record AreNames (names : List (List ℕ)) (bytes : List ℕ) (spans : List Span) : Type 0 where
  pub joined : bytes ≡ concat names
  pub places : spans ≡ spans_from 0 names

abbrev pub Holds : List (List ℕ) → Names → Type 0
Holds names t = AreNames names t.bytes.items t.spans.items

-- whether a name is one of those in the set, where there is one
abbrev pub has_other : AttributeNames → List ℕ → Bool
has_other t q = unwrap_or (option_map (λ s. contains_text s q) t.others) false

-- the names of these attributes are noted: some in the list, the others in the set
pub record AreNoted (t : AttributeNames) (given : List Attr) : Type 0 where
  pub names : List (List ℕ)
  pub held : Holds names t.first
  pub all : (q : List ℕ) → (list_any (λ n. bytes_eq n q) names || has_other t q) ≡ is_some (attr_value q given)
