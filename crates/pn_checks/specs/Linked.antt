-- What is known of a document behind the phases shape and ids and links.
use Rattle.std.specs.Prelude.{◌≡◌, Some, IfSome}
use Rattle.std.specs.List.{Contains}
use Rattle.pn_faults.specs.Least.{least_fault}
use Rattle.pn_faults.specs.Standing.{IsLeastOf}
use Rattle.pn_faults.specs.declared.fault.Fault.{Fault}
use Rattle.pn_net.specs.Documents.{HasSoundLinks}
use Rattle.pn_net.specs.Flattening.{IsFlattened, net_of_flat}
use Rattle.pn_net.specs.Typed.{HasNumbers, IsWired}
use Rattle.pn_net.specs.declared.flat.Flat.{Flat}
use Rattle.pn_net.specs.declared.flat.FlatArc.{FlatArc}
use Rattle.pn_shape.specs.Faults.{shape_faults}
use Rattle.pn_spelling.specs.ReadNets.{net_of}
use Rattle.pn_spelling.specs.Writable.{IsWritable}
use Rattle.pn_tree.specs.Elements.{IsTree}
use Rattle.pn_tree.specs.declared.element.Element.{Element}
use Rattle.pn_checks.specs.Verdicts.{IsFaultOf}

-- the flat net is that of the net that the tree spells, and no fault of shape or of ids and links stands in the tree
pub record IsLinked (tree : Element) (f : Flat) : Type 0 where
  pub is_tree : IsTree tree
  pub sound : HasSoundLinks tree
  pub is_flat : IsFlattened (net_of tree) (net_of_flat f)
  pub wired : (a : FlatArc) → Contains f.arcs a → IsWired f a
  pub numbers : HasNumbers f
  pub writable : IsWritable (net_of_flat f)

-- the fault of a tree that is told: none that stands in the tree comes before it, and of several faults of shape at one place it is the first in their list
pub record IsLeastInTree (tree : Element) (f : Fault) : Type 0 where
  pub least : IsLeastOf (IsFaultOf tree) (Some f)
  pub of_shape : IfSome (least_fault (shape_faults tree)) (λ g. f ≡ g)
