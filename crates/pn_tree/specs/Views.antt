-- The element of a view, by which clauses name views.
use Rattle.std.specs.Prelude.{ℕ, ◌<◌}
use Rattle.pn_tree.specs.Depth.{depth_of}
use Rattle.pn_tree.specs.Tables.{element_in}
use Rattle.pn_tree.specs.declared.element.Element.{Element}
use Rattle.pn_tree.specs.declared.element.Child.{Child}
use Rattle.pn_tree.specs.declared.element.Child.TheVariants as children
use Rattle.pn_tree.specs.declared.view.View.{View}
use Rattle.pn_tree.specs.declared.view.Kid.{Kid}
use Rattle.pn_tree.specs.declared.view.Kid.TheVariants as kids

-- the element that a view shows. It isn't unfolded but where that is asked for, so that clauses compare views by this word
unfoldable pub element_of : View → Element
element_of v = element_in 256 v.store.now v.node

-- the kid that is shown
abbrev pub child_of : Kid → Child
child_of (kids.Element v) = children.Element (element_of v)
child_of (kids.Text t) = children.Text t.now

-- the kid has fewer levels than so many, where a text has none
abbrev pub IsShallower : Kid → ℕ → Type 0
IsShallower (kids.Element v) levels = depth_of (element_of v) < levels
IsShallower (kids.Text t) levels = 0 < levels
