-- The attributes of a root.
use Rattle.std.proofs.Common.{◌≡◌, ℕ, suc, ◌<◌, true, List, [], ◌++◌, length, get_or, take, None, subst}
use Rattle.std.proofs.lemmas.List.{take-map}
use Rattle.pn_tree.specs.Elements.{attr_value, are_attrs}
use Rattle.pn_tree.proofs.CopyLemmas.{Valid, attr_valid}
use Rattle.pn_objects.specs.declared.net.Prefix.{Prefix}
use Rattle.pn_spelling.specs.WriteNets.{prefix_attr, root_attrs}
use Rattle.pn_writer.proofs.GivingLemmas.{at_in_map, item_at}

-- the next prefix of a root whose attributes are such as an element may have
pub prefix_valid : (prefixes : List Prefix) (i : ℕ) (p : Prefix) → are_attrs (root_attrs prefixes) ≡ true → i < length prefixes → p ≡ get_or prefixes i p → Valid (root_attrs prefixes) (suc i) (prefix_attr p)
prefix_valid prefixes i p valid within at = attr_valid (root_attrs prefixes) (suc i) (prefix_attr p) (at_in_map prefix_attr prefixes i p (item_at prefixes i p within at)) valid

pub prefix_new : (prefixes : List Prefix) (i : ℕ) (p : Prefix) → Valid (root_attrs prefixes) (suc i) (prefix_attr p) → attr_value p.name (root_attrs (take i prefixes)) ≡ None
prefix_new prefixes i p valid = subst (λ l. attr_value p.name (root_attrs [] ++ l) ≡ None) (take-map prefix_attr i prefixes) valid.new
