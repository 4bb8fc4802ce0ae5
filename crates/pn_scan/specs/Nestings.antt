-- How the tree is kept as far as it was read, and the nesting in it where a piece of content stands.
use Rattle.std.specs.Prelude.{◌≡◌, ℕ, ◌-◌, ◌≤◌, Bool, true, false, List, [], ◌∷◌, ◌++◌, length, Option, Some, None, is_some, IfSome}
use Rattle.pn_tree.specs.Building.{innermost, with_kid}
use Rattle.pn_tree.specs.declared.element.Element.{Element}
use Rattle.pn_tree.specs.declared.element.Child.TheVariants as children
use Rattle.pn_markup.specs.Tags.{named}
use Rattle.pn_scan.specs.State.{Nesting, before, within, behind, room_at}
use Rattle.pn_scan.specs.Names.{Holds, AreNoted}
use Rattle.pn_scan.specs.declared.open_tree.OpenTree.{OpenTree}
use Rattle.pn_scan.specs.declared.open_tree.Where.{Where}
use Rattle.pn_scan.specs.declared.open_tree.Where.TheVariants.{Before, Within, Behind}

-- of 256 levels those that the open elements leave
abbrev pub nesting_in : List Element → Option Element → Nesting
nesting_in [] None = before
nesting_in [] (Some root) = behind root
nesting_in (e ∷ outer) root = within (256 - length (e ∷ outer)) e outer

-- where a piece of content stands
abbrev pub nesting_of : OpenTree → Nesting
nesting_of t = nesting_in t.builder.open_elements t.builder.root

abbrev pub is_inside : Nesting → Bool
is_inside (within levels e outer) = true
is_inside _ = false

-- the levels that are left within the innermost open element
abbrev pub levels_of : Nesting → ℕ
levels_of (within levels e outer) = levels
levels_of _ = 0

-- the innermost open element, or the root behind it
abbrev pub inner_of : Nesting → Element
inner_of before = named [] 0
inner_of (within levels e outer) = e
inner_of (behind root) = root

-- the open elements around the innermost
abbrev pub outer_of : Nesting → List Element
outer_of (within levels e outer) = outer
outer_of _ = []

-- the levels that are left within an element that begins here
abbrev pub levels_for : Nesting → ℕ
levels_for (within levels e outer) = levels - 1
levels_for _ = 255

-- the open elements around an element that begins here
abbrev pub outer_for : Nesting → List Element
outer_for (within levels e outer) = e ∷ outer
outer_for _ = []

-- an element may begin here
abbrev pub HasRoom : Nesting → Type 0
HasRoom p = room_at p ≡ Some (levels_for p, outer_for p)

abbrev pub IsRoom : Bool → Nesting → Type 0
IsRoom true p = HasRoom p
IsRoom false p = room_at p ≡ None

abbrev pub IsWhere : Where → Nesting → Type 0
IsWhere Before p = p ≡ before
IsWhere Within p = p ≡ within (levels_of p) (inner_of p) (outer_of p)
IsWhere Behind p = p ≡ behind (inner_of p)

-- where the next piece stands behind an element that ends: such levels were left around it, these elements are open around it
abbrev pub behind_nesting : ℕ → List Element → Element → Nesting
behind_nesting levels [] e = behind e
behind_nesting levels (p ∷ ps) e = within levels (with_kid (children.Element e) p) ps

-- the names of open elements, the innermost last
abbrev pub names_of : List Element → List (List ℕ)
names_of [] = []
names_of (e ∷ outer) = names_of outer ++ (e.name ∷ [])

-- what is kept beside the builder goes with what it holds: the names of the open elements, the names of the attributes of the innermost one while
-- it has no kids, and whether the root is ended
pub record Belongs (t : OpenTree) : Type 0 where
  pub names : Holds (names_of t.builder.open_elements) t.names
  pub attributes : IfSome (innermost t.builder) (λ e. e.kids ≡ [] → AreNoted t.attributes e.attrs)
  pub depth : length t.builder.open_elements ≤ 256
  pub root : t.ended ≡ is_some t.builder.root
  pub rooted : t.ended ≡ true → t.builder.open_elements ≡ []
