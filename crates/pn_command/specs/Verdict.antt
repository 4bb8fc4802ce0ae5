-- What comes of a document, by its tree.
use Rattle.pn_checks.specs.Linked.{IsLeastInTree, IsLinked}
use Rattle.pn_checks.specs.Verdicts.{IsAccepted}
use Rattle.pn_markup.specs.Offsets.{HasRisingOffsets}
use Rattle.pn_net.specs.declared.flat.Flat.{Flat}
use Rattle.pn_tree.specs.declared.element.Element.{Element}
use Rattle.pn_command.specs.declared.lines.Refusal.{Refusal}
use Rattle.pn_command.specs.declared.lines.Refusal.TheVariants as refusals
use Rattle.pn_command.specs.declared.verdict.Verdict.{Verdict}
use Rattle.pn_command.specs.declared.verdict.Verdict.TheVariants as verdict

-- no fault stands in the tree, and this is its flat net
pub record IsAcceptedAs (tree : Element) (f : Flat) : Type 0 where
  pub accepted : IsAccepted tree
  pub linked : IsLinked tree f

-- why a document of this tree is refused: the fault that is told of it is the least that stands
abbrev pub IsRefusal : Element → Refusal → Type 0
IsRefusal tree (refusals.Broken k) = ⊥
IsRefusal tree (refusals.Fault f) = HasRisingOffsets tree → IsLeastInTree tree f
IsRefusal tree (refusals.UnknownTransition id) = ⊥
IsRefusal tree (refusals.InfiniteSort id) = ⊥
IsRefusal tree (refusals.BadMode word at) = ⊥
IsRefusal tree (refusals.NotAMode word) = ⊥
IsRefusal tree (refusals.NotEnabled token need has) = ⊥

-- what comes of a document of this tree: its flat net, or why it is refused
abbrev pub IsVerdict : Element → Verdict → Type 0
IsVerdict tree (verdict.Accepted f) = IsAcceptedAs tree f
IsVerdict tree (verdict.Refused r) = IsRefusal tree r
