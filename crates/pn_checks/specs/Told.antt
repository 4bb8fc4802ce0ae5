-- Where the constants of ranges are looked for in a document.
use Rattle.std.specs.Prelude.{List, [], if◌then◌else◌}
use Rattle.pn_net.specs.Documents.{elements_within}
use Rattle.pn_spelling.specs.ReadNets.{is_opaque_part}
use Rattle.pn_tree.specs.Depth.{depth_of}
use Rattle.pn_tree.specs.declared.element.Element.{Element}

-- an element and all in it, but for what stands in parts that are kept as they are
abbrev pub elements_of : Element → List Element
elements_of e = elements_within (depth_of e) e

-- the same of a kid: none of one that is kept as it is
abbrev pub elements_at : Element → List Element
elements_at e = if is_opaque_part e then [] else elements_of e
