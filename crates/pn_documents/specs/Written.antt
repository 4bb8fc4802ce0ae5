-- What the text of a net spells.
use Rattle.std.specs.Prelude.{ℕ, List}
use Rattle.pn_bag.specs.Bag.{IsBag}
use Rattle.pn_checks.specs.Linked.{IsLinked}
use Rattle.pn_marked.specs.Marked.{IsMarkedNet}
use Rattle.pn_marking.specs.Totals.{AreTokensOf}
use Rattle.pn_net.specs.Orders.{token_cmp}
use Rattle.pn_net.specs.declared.flat.Flat.{Flat}
use Rattle.pn_net.specs.declared.token.Token.{Token}
use Rattle.pn_markup.specs.Document.{IsDocument}
use Rattle.pn_objects.specs.Offsets.{IsSameNet}
use Rattle.pn_objects.specs.declared.net.Net.{Net}
use Rattle.pn_spelling.specs.ReadNets.{net_of}
use Rattle.pn_tree.specs.declared.element.Element.{Element}
use Rattle.pn_checks.specs.NoValue.{IsNoValue}
use Rattle.pn_checks.specs.Verdicts.{IsAccepted}
use Rattle.pn_faults.specs.declared.fault.Fault.{Fault}
use Rattle.pn_net.specs.Flattening.{IsFlattened}
use Rattle.pn_net.specs.Links.{StandsInLinks}
use Rattle.pn_net.specs.Typing.{StandsInSorts, StandsInTyping}
use Rattle.pn_round_trip.specs.Spellable.{IsSpellableNet}
use Rattle.pn_spelling.specs.Writable.{IsWritable}

-- the bytes are a document of a tree that is accepted, whose net is the same net as this one
pub record SpellsNet (n : Net) (bytes : List ℕ) : Type 0 where
  pub tree : Element
  pub is_document : IsDocument tree bytes
  pub accepted : IsAccepted tree
  pub same : IsSameNet (net_of tree) n

-- no fault of ids and links, of sorts and of typing stands in the net, and each initial marking has a value
pub record IsFaultlessNet (n : Net) : Type 0 where
  pub links : (f : Fault) → StandsInLinks n f → ⊥
  pub sorts : (f : Fault) → StandsInSorts n f → ⊥
  pub typing : (f : Fault) → StandsInTyping n f → ⊥
  pub values : (f : Fault) → IsNoValue n f → ⊥

-- the second is the flat net of the first, which has no fault, and can be spelled and written
pub record IsFitToWrite (n flat : Net) : Type 0 where
  pub flattened : IsFlattened n flat
  pub faultless : IsFaultlessNet n
  pub spellable : IsSpellableNet flat
  pub writable : IsWritable flat

-- the net is made of the flat net of a document that is accepted, with this multiset of its tokens as the initial marking
pub record IsOtherMarking (f : Flat) (m : List (Token × ℕ)) (n : Net) : Type 0 where
  pub tree : Element
  pub accepted : IsAccepted tree
  pub linked : IsLinked tree f
  pub tokens : AreTokensOf f m
  pub bag : IsBag token_cmp m
  pub marked : IsMarkedNet f m n
