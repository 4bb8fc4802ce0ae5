-- The rows of labels: what may stand in each.
use Rattle.std.proofs.Common.{◌≡◌, true, refl}
use Rattle.std.specs.Prelude.{decimal}
use Rattle.pn_operators.specs.Operators.{is_taken}
use Rattle.pn_operators.specs.declared.kind.Kind.{Kind}
use Rattle.pn_operators.specs.declared.kind.Kind.TheVariants as kind
use Rattle.pn_shape.specs.Rules.{rule_for, is_had}
use Rattle.pn_shape.specs.Spots.{has_slot, spot_at, spot_in, tag_of}
use Rattle.pn_shape.specs.declared.rule.Fill.TheVariants as fill
use Rattle.pn_shape.specs.declared.tag.Tag.TheVariants as tag
use Rattle.pn_spelling.specs.ReadNets.{count_read}
use Rattle.pn_spelling.specs.Writing.{text_element}
use Rattle.pn_round_trip.proofs.PartNetLaws.{PartLaw}
use Rattle.pn_round_trip.specs.Spellable.{IsCountFrom}
use Rattle.pn_round_trip.proofs.LabelLaws.{Anything, CountRow, LabelRow, count_law, some_same}

pub marking_text : (k : Kind) → PartLaw k tag.MarkingText Anything (IsCountFrom 0) count_read (λ n. text_element (decimal n)) (λ n. n)
unfolding rule_for
marking_text k = count_law k tag.MarkingText 0 refl refl refl

pub weight_text : (k : Kind) → PartLaw k tag.WeightText Anything (IsCountFrom 1) count_read (λ n. text_element (decimal n)) (λ n. n)
unfolding rule_for
weight_text k = count_law k tag.WeightText 1 refl refl refl

pub marking_row : (k : Kind) → CountRow k tag.InitialMarking tag.MarkingText
unfolding rule_for spot_in tag_of has_slot
marking_row k = record {
  content = refl;
  slots = refl;
  attrs = refl;
  text = record { at = refl; here = refl; fills = refl; row = refl; spot = λ s h. some_same (spot_at 0 tag.MarkingText) s h; there = λ had. refl };
  kept = record { most = refl; least = refl; graphics = refl; toolspecific = refl };
  has_text = refl;
  had = refl;
}

pub weight_row : (k : Kind) → CountRow k tag.Inscription tag.WeightText
unfolding rule_for spot_in tag_of has_slot
weight_row k = record {
  content = refl;
  slots = refl;
  attrs = refl;
  text = record { at = refl; here = refl; fills = refl; row = refl; spot = λ s h. some_same (spot_at 0 tag.WeightText) s h; there = λ had. refl };
  kept = record { most = refl; least = refl; graphics = refl; toolspecific = refl };
  has_text = refl;
  had = refl;
}

has_sort : (k : Kind) → is_had k tag.Type ≡ true → has_slot k fill.Sort ≡ true
unfolding rule_for has_slot
has_sort kind.PtNet had = absurd cc
has_sort kind.Symmetric had = refl
has_sort kind.HighLevel had = refl

has_term : (k : Kind) → is_taken kind.Symmetric k ≡ true → has_slot k fill.Term ≡ true
unfolding rule_for has_slot
has_term kind.PtNet had = absurd cc
has_term kind.Symmetric had = refl
has_term kind.HighLevel had = refl

pub type_row : (k : Kind) → is_had k tag.Type ≡ true → LabelRow k tag.Type tag.SortStructure fill.Sort
unfolding rule_for spot_in tag_of has_slot
type_row k had = record {
  content = refl;
  slots = refl;
  attrs = refl;
  text = record { at = refl; here = refl; fills = refl; row = refl; spot = λ s h. some_same (spot_at 0 tag.Text) s h; there = λ had. refl };
  structure = record { at = refl; here = refl; fills = refl; row = refl; spot = λ s h. some_same (spot_at 1 tag.SortStructure) s h; there = λ had. refl };
  kept = record { most = refl; least = refl; graphics = refl; toolspecific = refl };
  inner_content = refl;
  inner_slots = refl;
  inner_attrs = refl;
  has_structure = refl;
  has_inner = has_sort k had;
  had = refl;
}

-- the labels that say terms have one row
pub hl_marking_row : (k : Kind) → is_had k tag.HlInitialMarking ≡ true → LabelRow k tag.HlInitialMarking tag.TermStructure fill.Term
unfolding rule_for spot_in tag_of has_slot
hl_marking_row k had = record {
  content = refl;
  slots = refl;
  attrs = refl;
  text = record { at = refl; here = refl; fills = refl; row = refl; spot = λ s h. some_same (spot_at 0 tag.Text) s h; there = λ had. refl };
  structure = record { at = refl; here = refl; fills = refl; row = refl; spot = λ s h. some_same (spot_at 1 tag.TermStructure) s h; there = λ had. refl };
  kept = record { most = refl; least = refl; graphics = refl; toolspecific = refl };
  inner_content = refl;
  inner_slots = refl;
  inner_attrs = refl;
  has_structure = refl;
  has_inner = has_term k had;
  had = refl;
}

pub condition_row : (k : Kind) → is_had k tag.Condition ≡ true → LabelRow k tag.Condition tag.TermStructure fill.Term
unfolding rule_for spot_in tag_of has_slot
condition_row k had = record {
  content = refl;
  slots = refl;
  attrs = refl;
  text = record { at = refl; here = refl; fills = refl; row = refl; spot = λ s h. some_same (spot_at 0 tag.Text) s h; there = λ had. refl };
  structure = record { at = refl; here = refl; fills = refl; row = refl; spot = λ s h. some_same (spot_at 1 tag.TermStructure) s h; there = λ had. refl };
  kept = record { most = refl; least = refl; graphics = refl; toolspecific = refl };
  inner_content = refl;
  inner_slots = refl;
  inner_attrs = refl;
  has_structure = refl;
  has_inner = has_term k had;
  had = refl;
}

pub hl_inscription_row : (k : Kind) → is_had k tag.HlInscription ≡ true → LabelRow k tag.HlInscription tag.TermStructure fill.Term
unfolding rule_for spot_in tag_of has_slot
hl_inscription_row k had = record {
  content = refl;
  slots = refl;
  attrs = refl;
  text = record { at = refl; here = refl; fills = refl; row = refl; spot = λ s h. some_same (spot_at 0 tag.Text) s h; there = λ had. refl };
  structure = record { at = refl; here = refl; fills = refl; row = refl; spot = λ s h. some_same (spot_at 1 tag.TermStructure) s h; there = λ had. refl };
  kept = record { most = refl; least = refl; graphics = refl; toolspecific = refl };
  inner_content = refl;
  inner_slots = refl;
  inner_attrs = refl;
  has_structure = refl;
  has_inner = has_term k had;
  had = refl;
}
