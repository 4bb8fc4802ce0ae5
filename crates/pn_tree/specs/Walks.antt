-- How far a walk over a kid may go.
use Rattle.std.specs.Prelude.{ℕ, ◌+◌, ◌*◌}
use Rattle.pn_tree.specs.Depth.{depth_of}
use Rattle.pn_tree.specs.Views.{element_of}
use Rattle.pn_tree.specs.declared.view.Kid.{Kid}
use Rattle.pn_tree.specs.declared.view.Kid.TheVariants as kids

abbrev pub kid_size : Kid → ℕ
kid_size (kids.Element v) = 3 * depth_of (element_of v) + 3
kid_size (kids.Text t) = 3
