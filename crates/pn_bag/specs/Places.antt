-- Where a key stands among entries whose keys rise, and where it would go.
use Rattle.std.specs.Prelude.{◌≡◌, ℕ, ◌<◌, ◌≤◌, List, length, slice_index_or, take, drop}
use Rattle.std.specs.declared.cmp.Ordering.{Ordering}
use Rattle.std.specs.declared.cmp.Ordering.TheVariants.{Less, Equal}
use Rattle.pn_bag.specs.Counts.{Every}

module _ {K : Type 0} (cmp : K → K → Ordering) (entries : List (K × ℕ)) (key : K) where
  -- the keys before the place are smaller
  abbrev pub IsBefore : ℕ → Type 0
  IsBefore at = Every (λ entry. cmp entry.0 key ≡ Less) (take at entries)

  -- the entry at the place has the key
  pub record IsAt (at : ℕ) : Type 0 where
    pub within : at < length entries
    pub before : IsBefore at
    pub equal : (default : K × ℕ) → cmp key (slice_index_or entries at default).0 ≡ Equal

  -- the key would go at the place: smaller keys before it, and greater ones from it on
  pub record IsGapFor (at : ℕ) : Type 0 where
    pub within : at ≤ length entries
    pub before : IsBefore at
    pub after : Every (λ entry. cmp key entry.0 ≡ Less) (drop at entries)
