use Rattle.std.proofs.Common.{drop}
use Rattle.std.specs.List.{flat_map}
use Rattle.pn_tree.specs.Views.{element_of}
use Rattle.pn_shape.specs.Rules.{said_by}
use Rattle.pn_shape_faults.specs.Keeping.{Goes}
use Rattle.pn_shape.specs.Attributes.{attr_fault}
use Rattle.pn_shape.specs.Faults.{told, attrs_faults}
use Rattle.pn_shape_faults.proofs.attrs.ask_attrs.Given as goal

abbrev pub invariant-loop-i : goal.invariant-loop-i
invariant-loop-i l =
    let e = element_of l.view in
    Goes l.initial.least l.least (attrs_faults (said_by l.rule) e) (flat_map (λ a. told e.at a.name (attr_fault (said_by l.rule).attrs a)) (drop l.i e.attrs))
