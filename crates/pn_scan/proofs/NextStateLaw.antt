-- The law of each state.
use Rattle.std.proofs.Common.{◌≡◌, ◌⊎◌, inl, inr, ℕ, ◌≤◌, Bool, List, [], ◌∷◌, refl, sym, arith}
use Rattle.pn_scan.specs.State.{Nesting, Holder, State, at_start, outside, at_end, in_run, at_markup, at_bang, in_comment, in_target, in_instruction, in_section, in_name, in_tag, in_attribute, before_equals, behind_equals, in_value, at_reference, in_entity, at_number, in_number, due, in_end, in_declaration, before_part_equals, behind_part_equals, in_part}
use Rattle.pn_scan.specs.Rest.{Rest}
use Rattle.pn_scan.specs.NextState.{next_state}
use Rattle.pn_scan.specs.Viable.{IsViable, MaybeName, OfNumber}
use Rattle.pn_scan.proofs.Tools.{Law, no_head}
use Rattle.pn_scan.proofs.UntilLemmas.{law_comment}
use Rattle.pn_scan.proofs.InstructionLaws.{law_instruction}
use Rattle.pn_scan.proofs.SectionLaws.{law_section}
use Rattle.pn_scan.proofs.DueLaws.{law_due, law_end}
use Rattle.pn_scan.proofs.TagLaws.{law_tag, law_name}
use Rattle.pn_scan.proofs.AttributeLaws.{law_attribute, law_before, law_behind}
use Rattle.pn_scan.proofs.ValueLaws.{law_value}
use Rattle.pn_scan.proofs.ReferenceLaws.{law_reference, law_entity, law_at_number, law_number}
use Rattle.pn_scan.proofs.DeclarationLaws.{law_declaration, law_before_part, law_behind_part, law_part}
use Rattle.pn_scan.proofs.OutsideLaws.{law_start, law_outside, law_at_end}
use Rattle.pn_scan.proofs.RunLaws.{law_run}
use Rattle.pn_scan.proofs.MarkupLaws.{law_markup, law_bang, law_in_target}

target_law : (first : Bool) (nesting : Nesting) (name p : List ℕ) → MaybeName name p → (at x : ℕ) → Law (Rest (in_target first nesting name)) at x (next_state (in_target first nesting name) at x)
target_law first nesting [] p m at x = law_in_target first nesting [] (inr refl) (λ k. absurd (k refl)) at x
target_law first nesting (n ∷ ns) p m at x = law_in_target first nesting (n ∷ ns) (inl (λ e. no_head n ns (sym e))) (λ k. m) at x

due_law : (left : List ℕ) (s : State) → (left ≡ [] → ⊥) → (at x : ℕ) → Law (Rest (due left s)) at x (next_state (due left s) at x)
due_law [] s some at x = absurd (some refl)
due_law (b ∷ bs) s some at x = law_due b bs s at x

number_law : (holder : Holder) (base n : ℕ) (any : Bool) → OfNumber base n any → (at x : ℕ) → Law (Rest (in_number holder base n any)) at x (next_state (in_number holder base n any) at x)
number_law holder base n any o at x = law_number holder base (bound o.is_base).0 (bound o.is_base).1 n any at x
  where
    bound : (base ≡ 10) ⊎ (base ≡ 16) → (1 ≤ base) × (base ≤ 36)
    bound (inl h) = (omega arith, omega arith)
    bound (inr h) = (omega arith, omega arith)

-- what may still come, byte by byte
pub law : (s : State) (at : ℕ) (p : List ℕ) → IsViable s at p → (x : ℕ) → Law (Rest s) at x (next_state s at x)
law at_start at p v x = law_start at x
law (outside first) at p v x = law_outside first at x
law (at_end root) at p v x = law_at_end root at x
law (in_run levels e outer text b cr) at p v x = law_run levels e outer text b cr at x
law (at_markup first nesting begin) at p v x = law_markup first nesting begin at x v.2
law (at_bang nesting) at p v x = law_bang nesting at x
law (in_comment nesting dash) at p v x = law_comment nesting dash at x
law (in_target first nesting name) at p v x = target_law first nesting name p v.1 at x
law (in_instruction nesting question) at p v x = law_instruction nesting question at x
law (in_section levels e outer text b cr) at p v x = law_section levels e outer text b cr at x
law (in_name levels outer begin name) at p v x = law_name levels outer begin name v.1 at x
law (in_tag levels outer e spaced) at p v x = law_tag levels outer e spaced at x
law (in_attribute levels outer e name) at p v x = law_attribute levels outer e name v.1 at x
law (before_equals levels outer e name) at p v x = law_before levels outer e name at x
law (behind_equals levels outer e name) at p v x = law_behind levels outer e name at x
law (in_value levels outer e name quote value cr) at p v x = law_value levels outer e name quote v.0.quoted value cr at x
law (at_reference holder) at p v x = law_reference holder at x
law (in_entity holder part) at p v x = law_entity holder part v.2 at x
law (at_number holder) at p v x = law_at_number holder at x
law (in_number holder base n any) at p v x = number_law holder base n any v.2 at x
law (due left s) at p v x = due_law left s v.0 at x
law (in_end levels e outer) at p v x = law_end levels e outer at x
law (in_declaration stage spaced) at p v x = law_declaration stage spaced at x
law (before_part_equals part) at p v x = law_before_part part at x
law (behind_part_equals part) at p v x = law_behind_part part at x
law (in_part part quote value) at p v x = law_part part quote value v.1 at x
