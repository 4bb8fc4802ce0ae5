-- What it means that a state was reached by bytes.
use Rattle.std.specs.Prelude.{◌≡◌, ℕ, true, List, ◌++◌, length}
use Rattle.pn_text.specs.Characters.{is_text}
use Rattle.pn_tree.specs.declared.element.Element.{Element}
use Rattle.pn_markup.specs.Document.{Markup}
use Rattle.pn_scan.specs.State.{State}
use Rattle.pn_scan.specs.Rest.{Rest}
use Rattle.pn_utf8.specs.Characters.{AreOpen}
use Rattle.pn_scan.specs.Viable.{IsViable}

-- the state s, with the open bytes p of a character, was reached by the bytes b: behind b a document goes on exactly as it goes on from the state
pub record Fed (s : State) (p b : List ℕ) : Type 0 where
  pub viable : IsViable s (length b) p
  pub is_open : AreOpen p
  pub text_goes : (c : List ℕ) → is_text (b ++ c) ≡ true → is_text (p ++ c) ≡ true
  pub text_comes : (c : List ℕ) → is_text (p ++ c) ≡ true → is_text (b ++ c) ≡ true
  pub goes : (t : Element) (c : List ℕ) → Markup t (b ++ c) → Rest s (length (b ++ c)) t c
  pub comes : (t : Element) (c : List ℕ) → Rest s (length (b ++ c)) t c → Markup t (b ++ c)
