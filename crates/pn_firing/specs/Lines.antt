-- Modes as lines.
use Rattle.std.specs.Prelude.{◌≡◌, ℕ, List, ◌++◌, codes}
use Rattle.std.specs.List.{AllZip, flat_map}
use Rattle.pn_mode_text.specs.Texts.{IsModeText}
use Rattle.pn_net.specs.declared.flat.Flat.{Flat}
use Rattle.pn_net.specs.declared.mode.Mode.{Mode}

-- a text and a line end
abbrev pub mode_line : List ℕ → List ℕ
mode_line text = text ++ codes "\n"

-- the texts of the modes, a line each
pub record HasModeLines (f : Flat) (modes : List Mode) (text : List ℕ) : Type 0 where
  pub texts : List (List ℕ)
  pub are_texts : AllZip (IsModeText f) modes texts
  pub is : text ≡ flat_map mode_line texts
