-- How far a sort reaches within the limits on depth and nodes.
use Rattle.std.specs.Prelude.{ℕ, suc, ◌+◌, max, nat_le, ◌&&◌, List, [], ◌∷◌, Option, Some, None, if◌then◌else◌}
use Rattle.pn_values.specs.declared.sort.Sort.{Sort}
use Rattle.pn_values.specs.Sizes.{depth_of, nodes_of}
use Rattle.pn_resolve.specs.declared.TheConstants.{MAX_DEPTH, MAX_NODES}
use Rattle.pn_resolve.specs.declared.extent.Extent.{Extent}
use Rattle.pn_resolve.specs.declared.extent.Extent.TheVariants.{NoSort, TooBig, Fits}

-- of a sort of this depth and so many nodes
abbrev pub measured : ℕ → ℕ → Extent
measured depth nodes = if nat_le depth MAX_DEPTH && nat_le nodes MAX_NODES then Fits depth nodes else TooBig

-- of a sort, where there is one
abbrev pub extent_of : Option Sort → Extent
extent_of None = NoSort
extent_of (Some s) = measured (depth_of s) (nodes_of s)

-- of two sorts side by side, which have the depth of the deeper one
abbrev pub beside : Extent → Extent → Extent
beside NoSort other = NoSort
beside TooBig NoSort = NoSort
beside TooBig TooBig = TooBig
beside TooBig (Fits depth nodes) = TooBig
beside (Fits depth nodes) NoSort = NoSort
beside (Fits depth nodes) TooBig = TooBig
beside (Fits depth nodes) (Fits depth' nodes') = measured (max depth depth') (nodes + nodes')

-- of a sort and more sorts side by side
abbrev pub all_beside : Extent → List Extent → Extent
all_beside total [] = total
all_beside total (e ∷ es) = all_beside (beside total e) es

-- of a product or list of what has this extent
abbrev pub around : Extent → Extent
around NoSort = NoSort
around TooBig = TooBig
around (Fits depth nodes) = measured (suc depth) (suc nodes)
