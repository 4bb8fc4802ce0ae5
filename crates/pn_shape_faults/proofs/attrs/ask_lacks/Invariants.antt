use Rattle.std.proofs.Common.{drop}
use Rattle.std.specs.List.{flat_map}
use Rattle.pn_tree.specs.Views.{element_of}
use Rattle.pn_shape.specs.Rules.{said_by, attr_name}
use Rattle.pn_shape_faults.specs.Keeping.{Goes}
use Rattle.pn_shape.specs.Attributes.{lack_fault}
use Rattle.pn_shape.specs.Faults.{told, lacks_faults}
use Rattle.pn_shape_faults.proofs.attrs.ask_lacks.Given as goal

abbrev pub invariant-loop-attr : goal.invariant-loop-attr
invariant-loop-attr l =
    let e = element_of l.view in
    Goes l.initial.least l.least (lacks_faults (said_by l.rule) e) (flat_map (λ r. told e.at (attr_name r.name) (lack_fault e.attrs r)) (drop l.attr-index (said_by l.rule).attrs))
