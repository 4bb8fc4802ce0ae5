-- What `step` and `modes` promise together with what they read.
use Rattle.std.specs.Prelude.{◌≡◌, ◌↔◌, ◌<◌, ℕ, List, [], ◌∷◌, codes}
use Rattle.std.specs.List.{Contains, flat_map}
use Rattle.pn_checks.specs.Initial.{IsInitial}
use Rattle.pn_checks.specs.Linked.{IsLinked}
use Rattle.pn_documents.specs.Written.{SpellsNet}
use Rattle.pn_firing.specs.Lines.{mode_line}
use Rattle.pn_marked.specs.Marked.{IsMarkedNet}
use Rattle.pn_marking.specs.Steps.{IsStep}
use Rattle.pn_markup.specs.Document.{IsDocument}
use Rattle.pn_net.specs.declared.flat.Flat.{Flat}
use Rattle.pn_net.specs.declared.mode.Mode.{Mode}
use Rattle.pn_net.specs.declared.token.Token.{Token}
use Rattle.pn_objects.specs.declared.net.Net.{Net}
use Rattle.pn_stepping.specs.Stepping.{LeadTo}
use Rattle.pn_tree.specs.declared.element.Element.{Element}
use Rattle.pn_command.specs.Answer.{Answer, IsDueForNet}
use Rattle.pn_command.specs.declared.status.Status.TheVariants as status
use Rattle.pn_command.specs.declared.words.Asked.TheVariants.{Step}

-- the modes of the words lead from the initial marking of the flat net to a marking, and the bytes are a document, of the same net with this marking in place of its own. It is
-- accepted, its initial marking is this one and no other, and it has the same steps from each marking (ISO/IEC 15909-1, enabling and transition rule)
pub record IsStepped (f : Flat) (words : List (List ℕ)) (bytes : List ℕ) : Type 0 where
  pub new : List (Token × ℕ)
  pub led : LeadTo f words new
  pub net : Net
  pub is_marked : IsMarkedNet f new net
  pub spells : SpellsNet net bytes
  pub initial : (other : Element) (g : Flat) → IsDocument other bytes → IsLinked other g → (m : List (Token × ℕ)) → IsInitial g m ↔ (m ≡ new)
  pub keeps : (other : Element) (g : Flat) → IsDocument other bytes → IsLinked other g → (old next : List (Token × ℕ)) (modes : List (Mode × ℕ)) → IsStep f old modes next ↔ IsStep g old modes next

-- the bytes are lines, each a word without white space and control characters, and none of which, as the only word behind `step`, is refused for the same net; a limit may still
-- be passed
pub record AreSteppable (f : Flat) (bytes : List ℕ) : Type 0 where
  pub lines : List (List ℕ)
  pub are_lines : bytes ≡ flat_map mode_line lines
  pub whole : (line : List ℕ) → Contains lines line → (b : ℕ) → Contains line b → 32 < b
  pub step : (line : List ℕ) → Contains lines line → (a : Answer) → IsDueForNet Step (codes "step" ∷ line ∷ []) f a → a.status ≡ status.Refused → ⊥
