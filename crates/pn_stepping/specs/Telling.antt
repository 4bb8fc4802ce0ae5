-- The modes of words, while they are read and joined.
use Rattle.std.specs.Prelude.{◌≡◌, ℕ, ◌+◌, ◌<◌, ◌≤◌, List, [], ◌∷◌, ◌++◌, map}
use Rattle.pn_bag.specs.Bag.{IsBag}
use Rattle.pn_bag.specs.Counts.{IsSame, count_of}
use Rattle.pn_bag.specs.declared.TheConstants.{MAX_COUNT}
use Rattle.pn_checks.specs.Initial.{IsInitial}
use Rattle.pn_marking.specs.Firing.{IsLeastLarge, IsLeastShort}
use Rattle.pn_marking.specs.Steps.{AreModes, IsStep}
use Rattle.pn_marking.specs.Totals.{AreTokensOf}
use Rattle.pn_mode_text.specs.ModeReadings.{IsWord}
use Rattle.pn_mode_text.specs.declared.words.Counted.{Counted}
use Rattle.pn_net.specs.Orders.{mode_cmp, token_cmp}
use Rattle.pn_net.specs.declared.flat.Flat.{Flat}
use Rattle.pn_net.specs.declared.mode.Mode.{Mode}
use Rattle.pn_net.specs.declared.token.Token.{Token}
use Rattle.pn_words.specs.Languages.{IsBadPlace}
use Rattle.pn_stepping.specs.Stepping.{IsBadWord, IsFirstOver, IsFirstUnfit, IsMadeOf, TellsEntry}
use Rattle.pn_stepping.specs.declared.stepping.StepFault.{StepFault}
use Rattle.pn_stepping.specs.declared.stepping.StepFault.TheVariants as faults

-- a mode and its count, as an entry of a multiset
abbrev pub entry_of : Counted → Mode × ℕ
entry_of c = (c.mode, c.count)

abbrev pub entries_of : List Counted → List (Mode × ℕ)
entries_of = map entry_of

-- the word tells this and nothing else
pub record AreTheEntry (f : Flat) (word : List ℕ) (c : Counted) : Type 0 where
  pub told : TellsEntry f word (entry_of c)
  pub only : (other : Mode × ℕ) → TellsEntry f word other → other ≡ entry_of c

-- what the word tells stands behind the others
abbrev pub PassesTo : Flat → List ℕ → List Counted → List Counted → Type 0
PassesTo f word old new = (c : Counted) × AreTheEntry f word c × (new ≡ old ++ c ∷ [])

-- why the word at this place tells nothing
abbrev pub IsUntoldAt : Flat → List ℕ → ℕ → StepFault → Type 0
IsUntoldAt f word place (faults.Memory e) = Unit {0}
IsUntoldAt f word place (faults.BadMode at length) = (at ≡ place) × IsBadPlace (IsWord f) word length × (IsMadeOf f word → ⊥)
IsUntoldAt f word place (faults.NotAMode at) = ⊥
IsUntoldAt f word place (faults.ModeTooLarge mode) = ⊥
IsUntoldAt f word place (faults.NotEnabled token need has) = ⊥
IsUntoldAt f word place (faults.TokenTooLarge token) = ⊥

-- why one of the words tells nothing
abbrev pub IsUntold : Flat → List (List ℕ) → StepFault → Type 0
IsUntold f words (faults.Memory e) = Unit {0}
IsUntold f words (faults.BadMode at length) = IsBadWord f words at length
IsUntold f words (faults.NotAMode at) = ⊥
IsUntold f words (faults.ModeTooLarge mode) = ⊥
IsUntold f words (faults.NotEnabled token need has) = ⊥
IsUntold f words (faults.TokenTooLarge token) = ⊥

-- the sum of the entries, which are modes
pub record AreToldHere (f : Flat) (entries x : List (Mode × ℕ)) : Type 0 where
  pub bag : IsBag mode_cmp x
  pub same : IsSame mode_cmp x entries
  pub modes : AreModes f x

-- why not all entries are modes
abbrev pub IsNotAllModes : Flat → List (Mode × ℕ) → StepFault → Type 0
IsNotAllModes f entries (faults.Memory e) = Unit {0}
IsNotAllModes f entries (faults.BadMode at length) = ⊥
IsNotAllModes f entries (faults.NotAMode at) = IsFirstUnfit f entries at
IsNotAllModes f entries (faults.ModeTooLarge mode) = ⊥
IsNotAllModes f entries (faults.NotEnabled token need has) = ⊥
IsNotAllModes f entries (faults.TokenTooLarge token) = ⊥

-- the fault of this mode, or want of memory
abbrev pub IsOfMode : Mode → StepFault → Type 0
IsOfMode m (faults.Memory e) = Unit {0}
IsOfMode m (faults.BadMode at length) = ⊥
IsOfMode m (faults.NotAMode at) = ⊥
IsOfMode m (faults.ModeTooLarge mode) = mode ≡ m
IsOfMode m (faults.NotEnabled token need has) = ⊥
IsOfMode m (faults.TokenTooLarge token) = ⊥

-- why one more entry could not be added to these
abbrev pub HasNoSumAt : List (Mode × ℕ) → Mode × ℕ → StepFault → Type 0
HasNoSumAt sum entry (faults.Memory e) = Unit {0}
HasNoSumAt sum entry (faults.BadMode at length) = ⊥
HasNoSumAt sum entry (faults.NotAMode at) = ⊥
HasNoSumAt sum entry (faults.ModeTooLarge mode) = (mode ≡ entry.0) × (MAX_COUNT < count_of mode_cmp sum mode + entry.1) × ((k : Mode) → count_of mode_cmp sum k ≤ MAX_COUNT)
HasNoSumAt sum entry (faults.NotEnabled token need has) = ⊥
HasNoSumAt sum entry (faults.TokenTooLarge token) = ⊥

-- why the entries have no sum
abbrev pub HasNoSum : List (Mode × ℕ) → StepFault → Type 0
HasNoSum entries (faults.Memory e) = Unit {0}
HasNoSum entries (faults.BadMode at length) = ⊥
HasNoSum entries (faults.NotAMode at) = ⊥
HasNoSum entries (faults.ModeTooLarge mode) = IsFirstOver entries mode
HasNoSum entries (faults.NotEnabled token need has) = ⊥
HasNoSum entries (faults.TokenTooLarge token) = ⊥

-- why the entries have no sum of modes
abbrev pub IsUnfit : Flat → List (Mode × ℕ) → StepFault → Type 0
IsUnfit f entries (faults.Memory e) = Unit {0}
IsUnfit f entries (faults.BadMode at length) = ⊥
IsUnfit f entries (faults.NotAMode at) = IsFirstUnfit f entries at
IsUnfit f entries (faults.ModeTooLarge mode) = AreModes f entries × IsFirstOver entries mode
IsUnfit f entries (faults.NotEnabled token need has) = ⊥
IsUnfit f entries (faults.TokenTooLarge token) = ⊥

-- the modes lead from the initial marking to this
pub record FiresTo (f : Flat) (x : List (Mode × ℕ)) (new : List (Token × ℕ)) : Type 0 where
  pub initial : List (Token × ℕ)
  pub is_initial : IsInitial f initial
  pub steps : IsStep f initial x new
  pub bag : IsBag token_cmp new
  pub tokens : AreTokensOf f initial → AreTokensOf f new

-- why the modes do not fire
abbrev pub IsUnfiredAt : Flat → List (Mode × ℕ) → StepFault → Type 0
IsUnfiredAt f x (faults.Memory e) = Unit {0}
IsUnfiredAt f x (faults.BadMode at length) = ⊥
IsUnfiredAt f x (faults.NotAMode at) = ⊥
IsUnfiredAt f x (faults.ModeTooLarge mode) = ⊥
IsUnfiredAt f x (faults.NotEnabled token need has) = (initial : List (Token × ℕ)) × IsInitial f initial × IsLeastShort f initial x token need has
IsUnfiredAt f x (faults.TokenTooLarge token) = (initial : List (Token × ℕ)) × IsInitial f initial × IsLeastLarge f initial x token
