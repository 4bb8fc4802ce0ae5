-- Firing the modes that words tell, all at once, at the initial marking (ISO/IEC 15909-1, transition rule), and why they do not fire.
use Rattle.std.specs.Prelude.{◌≡◌, ℕ, ◌<◌, ◌≤◌, ◌+◌, List, take, Some}
use Rattle.std.specs.List.{AllByRecursion, AllZip, slice_get}
use Rattle.pn_bag.specs.Bag.{IsBag}
use Rattle.pn_bag.specs.Counts.{IsSame, count_of}
use Rattle.pn_bag.specs.declared.TheConstants.{MAX_COUNT}
use Rattle.pn_checks.specs.Initial.{IsInitial}
use Rattle.pn_marking.specs.Firing.{IsLeastLarge, IsLeastShort}
use Rattle.pn_marking.specs.Modes.{IsMode}
use Rattle.pn_marking.specs.Steps.{AreModes, IsStep}
use Rattle.pn_marking.specs.Totals.{AreTokensOf}
use Rattle.pn_mode_text.specs.ModeReadings.{IsWord}
use Rattle.pn_mode_text.specs.Words.{IsModeWord}
use Rattle.pn_net.specs.Orders.{mode_cmp, token_cmp}
use Rattle.pn_net.specs.declared.flat.Flat.{Flat}
use Rattle.pn_net.specs.declared.mode.Mode.{Mode}
use Rattle.pn_net.specs.declared.token.Token.{Token}
use Rattle.pn_words.specs.Languages.{IsBadPlace}
use Rattle.pn_stepping.specs.declared.stepping.StepFault.{StepFault}
use Rattle.pn_stepping.specs.declared.stepping.StepFault.TheVariants as faults

-- the word tells this mode so often
abbrev pub TellsEntry : Flat → List ℕ → Mode × ℕ → Type 0
TellsEntry f word entry = IsModeWord f word entry.1 entry.0

-- the words tell these modes, each so often, one by one, and nothing else
pub record AreTold (f : Flat) (words : List (List ℕ)) (entries : List (Mode × ℕ)) : Type 0 where
  pub told : AllZip (TellsEntry f) words entries
  pub only : (other : List (Mode × ℕ)) → AllZip (TellsEntry f) words other → other ≡ entries

-- the word tells some mode
abbrev pub IsMadeOf : Flat → List ℕ → Type 0
IsMadeOf f word = (entry : Mode × ℕ) × TellsEntry f word entry

-- the word at this place is the first that is no mode word, and so long is its longest front with which a mode word begins
pub record IsBadWord (f : Flat) (words : List (List ℕ)) (place length : ℕ) : Type 0 where
  pub word : List ℕ
  pub at : slice_get words place ≡ Some word
  pub bad : IsBadPlace (IsWord f) word length
  pub none : IsMadeOf f word → ⊥
  pub before : AllByRecursion (IsMadeOf f) (take place words)

-- the entry at this place is the first whose mode is none
pub record IsFirstUnfit (f : Flat) (entries : List (Mode × ℕ)) (place : ℕ) : Type 0 where
  pub entry : Mode × ℕ
  pub at : slice_get entries place ≡ Some entry
  pub none : IsMode f entry.0 → ⊥
  pub before : AreModes f (take place entries)

-- at some entry the sum of the counts of its mode so far passes the greatest count, and before it no sum does
pub record IsFirstOver (entries : List (Mode × ℕ)) (mode : Mode) : Type 0 where
  pub place : ℕ
  pub count : ℕ
  pub at : slice_get entries place ≡ Some (mode, count)
  pub over : MAX_COUNT < count_of mode_cmp (take place entries) mode + count
  pub before : (k : Mode) → count_of mode_cmp (take place entries) k ≤ MAX_COUNT

-- the multiset of modes of the words, each with the sum of its counts
pub record AreJoined (f : Flat) (words : List (List ℕ)) (x : List (Mode × ℕ)) : Type 0 where
  pub entries : List (Mode × ℕ)
  pub told : AreTold f words entries
  pub bag : IsBag mode_cmp x
  pub same : IsSame mode_cmp x entries
  pub modes : AreModes f x

-- the multiset of modes of the words, at the initial marking
pub record AreStarted (f : Flat) (words : List (List ℕ)) (x : List (Mode × ℕ)) (initial : List (Token × ℕ)) : Type 0 where
  pub joined : AreJoined f words x
  pub is_initial : IsInitial f initial

-- the marking to which the multiset of the words' modes leads from the initial marking
pub record LeadTo (f : Flat) (words : List (List ℕ)) (new : List (Token × ℕ)) : Type 0 where
  pub modes : List (Mode × ℕ)
  pub initial : List (Token × ℕ)
  pub started : AreStarted f words modes initial
  pub steps : IsStep f initial modes new
  pub bag : IsBag token_cmp new
  pub tokens : AreTokensOf f initial → AreTokensOf f new

-- why the words' modes do not fire; want of memory tells nothing
abbrev pub IsUnfired : Flat → List (List ℕ) → StepFault → Type 0
IsUnfired f words (faults.Memory e) = Unit {0}
IsUnfired f words (faults.BadMode place length) = IsBadWord f words place length
IsUnfired f words (faults.NotAMode place) = (entries : List (Mode × ℕ)) × AreTold f words entries × IsFirstUnfit f entries place
IsUnfired f words (faults.ModeTooLarge mode) = (entries : List (Mode × ℕ)) × AreTold f words entries × AreModes f entries × IsFirstOver entries mode
IsUnfired f words (faults.NotEnabled token need has) = (x : List (Mode × ℕ)) × (initial : List (Token × ℕ)) × AreStarted f words x initial × IsLeastShort f initial x token need has
IsUnfired f words (faults.TokenTooLarge token) = (x : List (Mode × ℕ)) × (initial : List (Token × ℕ)) × AreStarted f words x initial × IsLeastLarge f initial x token
