-- Where a search through the choices of values stands, and which choices are still to come.
use Rattle.std.specs.Prelude.{◌≡◌, ℕ, suc, ◌+◌, ◌-◌, ◌*◌, ◌<◌, true, List, [], ◌∷◌, ◌++◌, map, drop, length, Some, if◌then◌else◌}
use Rattle.std.specs.List.{flat_map, remove, slice_get, slice_set}
use Rattle.pn_carriers.specs.Carriers.{choices}
use Rattle.pn_values.specs.declared.value.Value.{Value}
use Rattle.pn_modes.specs.declared.cursor.Cursor.{Cursor}
use Rattle.pn_modes.specs.declared.step.Step.{Step}
use Rattle.pn_modes.specs.declared.step.Step.TheVariants as steps
use Rattle.pn_modes.specs.Prunes.{Skips}

-- the choices with one of these values first, in order
abbrev pub with_first : List Value → List (List Value) → List (List Value)
with_first vs more = flat_map (λ v. map (λ rest. v ∷ rest) more) vs

-- what is still to come behind a front, the values at these places of the first carriers, where `more` is to come within it
abbrev pub around : List ℕ → List Value → List (List Value) → List (List Value) → List (List Value)
around [] vs cs more = more
around (k ∷ ks) [] cs more = more
around (k ∷ ks) (v ∷ vs) [] more = more
around (k ∷ ks) (v ∷ vs) (c ∷ cs) more = map (λ rest. v ∷ rest) (around ks vs cs more) ++ with_first (drop (suc k) c) (choices cs)

-- the choices still to come: those that begin with the front, where it is fresh, and all behind them
abbrev pub to_come : List (List Value) → Cursor → List (List Value)
to_come cs s = around s.places s.front.values cs (if s.fresh then choices (drop (length s.places) cs) else [])

-- each value is the one at its place of its carrier
abbrev pub AreAt : List ℕ → List Value → List (List Value) → Type 0
AreAt [] [] cs = Unit {0}
AreAt [] (v ∷ vs) cs = ⊥
AreAt (k ∷ ks) [] cs = ⊥
AreAt (k ∷ ks) (v ∷ vs) [] = ⊥
AreAt (k ∷ ks) (v ∷ vs) (c ∷ cs) = (slice_get c k ≡ Some v) × AreAt ks vs cs

abbrev pub IsAt : List (List Value) → Cursor → Type 0
IsAt cs s = AreAt s.places s.front.values cs

-- how many steps a search through these carriers takes at most
abbrev pub cost : List (List Value) → ℕ
cost [] = 1
cost (c ∷ cs) = length c * suc (cost cs) + 1

-- how many steps are left at most behind the values at these places
abbrev pub cost_behind : List ℕ → List (List Value) → ℕ
cost_behind [] cs = 0
cost_behind (k ∷ ks) [] = 0
cost_behind (k ∷ ks) (c ∷ cs) = cost_behind ks cs + ((length c - suc k) * suc (cost cs) + 1)

abbrev pub steps_left : List (List Value) → Cursor → ℕ
steps_left cs s = cost_behind s.places cs + (if s.fresh then cost (drop (length s.places) cs) else 0)

-- what one step does: it finds the first choice that is to come, and that is wanted; it goes on, past what is not wanted; or nothing is to come
abbrev pub IsSearchStep : (List Value → Type 0) → List (List Value) → Cursor → Step → Cursor → Type 0
IsSearchStep wanted cs old (steps.Found m) new = (to_come cs old ≡ m.values ∷ to_come cs new) × wanted m.values × (m.transition ≡ old.front.transition)
IsSearchStep wanted cs old steps.Moved new = Skips wanted (to_come cs old) (to_come cs new) × (steps_left cs new < steps_left cs old)
IsSearchStep wanted cs old steps.Done new = (to_come cs old ≡ []) × (to_come cs new ≡ [])

-- the front gets one more value, the first of its carrier, and is fresh
abbrev pub with_more : Cursor → Value → Cursor
with_more s v = record {
  places = s.places ++ 0 ∷ [];
  front = record { transition = s.front.transition; values = s.front.values ++ v ∷ [] };
  fresh = s.fresh;
}

-- the front without the value at a place
abbrev pub without : Cursor → ℕ → Cursor
without s n = record {
  places = remove s.places n;
  front = record { transition = s.front.transition; values = remove s.front.values n };
  fresh = s.fresh;
}

-- another value at a place, which is fresh
abbrev pub with_next : Cursor → ℕ → ℕ → Value → Cursor
with_next s n k v = record {
  places = slice_set s.places n k;
  front = record { transition = s.front.transition; values = slice_set s.front.values n v };
  fresh = true;
}
