-- The prefixes that attributes bind, one after the other.
use Rattle.std.specs.Prelude.{List, [], ◌∷◌, ◌++◌, if◌then◌else◌}
use Rattle.pn_tree.specs.declared.element.Attr.{Attr}
use Rattle.pn_objects.specs.declared.net.Prefix.{Prefix}
use Rattle.pn_spelling.specs.ReadNets.{is_prefix, prefix_read}

-- those before, with what one more attribute binds
abbrev pub prefix_next : Attr → List Prefix → List Prefix
prefix_next a before = if is_prefix a then before ++ prefix_read a ∷ [] else before
