-- Documents: XML 1.0, section 2.1, in this project's profile: no document type, 256 levels at most.
use Rattle.std.specs.Prelude.{◌≡◌, ℕ, suc, ◌<◌, ◌≤◌, true, List, [], ◌∷◌, ◌++◌, length, take}
use Rattle.pn_text.specs.Characters.{is_text}
use Rattle.pn_tree.specs.declared.element.Element.{Element}
use Rattle.pn_markup.specs.Misc.{Misc}
use Rattle.pn_markup.specs.Content.{Spells}
use Rattle.pn_markup.specs.Declaration.{Maybe, XMLDecl}

-- the byte order mark: U+FEFF in UTF-8
abbrev pub ByteOrderMark : List ℕ → Type 0
ByteOrderMark b = b ≡ 0xEF ∷ 0xBB ∷ 0xBF ∷ []

-- what may stand before the root (2.8, prolog, without a document type), a byte order mark before all
pub record Prolog (b : List ℕ) : Type 0 where
  pub mark : List ℕ
  pub declaration : List ℕ
  pub misc : List ℕ
  pub is_mark : Maybe ByteOrderMark mark
  pub is_declaration : Maybe XMLDecl declaration
  pub is_misc : Misc misc
  pub whole : b ≡ mark ++ (declaration ++ misc)

-- the markup of a document (2.1, document): prolog, root, and comments, processing instructions and white space
pub record Markup (tree : Element) (b : List ℕ) : Type 0 where
  pub prolog : List ℕ
  pub root : List ℕ
  pub misc : List ℕ
  pub is_prolog : Prolog prolog
  pub is_root : Spells 256 (length prolog) tree root
  pub is_misc : Misc misc
  pub whole : b ≡ prolog ++ (root ++ misc)

-- bytes that spell an element tree: they are the UTF-8 of characters that a document may have (2.2), and its markup
pub record IsDocument (tree : Element) (b : List ℕ) : Type 0 where
  pub characters : is_text b ≡ true
  pub markup : Markup tree b

-- bytes with which a document begins
abbrev pub IsFront : List ℕ → Type 0
IsFront b = (tree : Element) × (more : List ℕ) × IsDocument tree (b ++ more)

-- the first k bytes are a front of a document, and no more are
pub record IsBreak (b : List ℕ) (k : ℕ) : Type 0 where
  pub within : k ≤ length b
  pub front : IsFront (take k b)
  pub no_more : k < length b → IsFront (take (suc k) b) → ⊥
