-- Which faults stand in the tree of a document, of all phases; and which trees are accepted.
use Rattle.std.specs.Prelude.{◌⊎◌}
use Rattle.pn_faults.specs.declared.fault.Fault.{Fault}
use Rattle.pn_net.specs.Documents.{HasSoundNetSorts, StandsInTree}
use Rattle.pn_net.specs.Typing.{StandsInTyping}
use Rattle.pn_objects.specs.declared.net.Net.{Net}
use Rattle.pn_spelling.specs.ReadNets.{net_of}
use Rattle.pn_tree.specs.declared.element.Element.{Element}
use Rattle.pn_checks.specs.NoValue.{IsNoValue}

-- the net has this fault of the phase typing: one that can be told without the values of terms, or an initial marking has no value
abbrev pub StandsInValues : Net → Fault → Type 0
StandsInValues n f = StandsInTyping n f ⊎ IsNoValue n f

-- the tree has this fault; whether an initial marking has no value is asked only where no fault of shape, of ids and links or of sorts stands
pub data IsFaultOf (tree : Element) : Fault → Type 0 where
  in_tree : (f : Fault) → StandsInTree tree f → IsFaultOf tree f
  no_value : (f : Fault) → HasSoundNetSorts tree → IsNoValue (net_of tree) f → IsFaultOf tree f

-- no fault stands in the tree
abbrev pub IsAccepted : Element → Type 0
IsAccepted tree = (f : Fault) → IsFaultOf tree f → ⊥
