-- Which nets can be written.
use Rattle.std.specs.Prelude.{◌≡◌, true}
use Rattle.std.specs.List.{list_all}
use Rattle.pn_tree.specs.Elements.{IsTree}
use Rattle.pn_objects.specs.declared.net.Net.{Net}
use Rattle.pn_spelling.specs.ReadNets.{is_prefix}
use Rattle.pn_spelling.specs.WriteNets.{prefix_attr, tree_of_net}

-- the net's element tree is one that a document may have: its ids, names, texts and values hold characters of this profile alone, the prefixes have distinct names, and it has at most 256 levels. And each prefix binds one
pub record IsWritable (n : Net) : Type 0 where
  pub tree : IsTree (tree_of_net n)
  pub prefixes : list_all (λ p. is_prefix (prefix_attr p)) n.prefixes ≡ true
