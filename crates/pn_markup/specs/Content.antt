-- Elements and their content: XML 1.0, sections 2.4, 2.7 and 3.1.
use Rattle.std.specs.Prelude.{◌≡◌, ℕ, zero, suc, ◌+◌, Bool, true, ◌==◌, ◌&&◌, not, List, [], ◌∷◌, ◌++◌, codes, length}
use Rattle.std.specs.List.{list_all}
use Rattle.pn_tree.specs.Building.{with_text, with_kid}
use Rattle.pn_tree.specs.declared.element.Element.{Element}
use Rattle.pn_tree.specs.declared.element.Child.TheVariants as children
use Rattle.pn_markup.specs.Bytes.{lacks, line_ends}
use Rattle.pn_markup.specs.Misc.{Comment, PI}
use Rattle.pn_markup.specs.References.{Reference}
use Rattle.pn_markup.specs.Tags.{Tag, ETag}

-- a byte of a run: neither `<` nor `&`
abbrev pub is_run_byte : ℕ → Bool
is_run_byte b = not (b == 60) && not (b == 38)

-- a run of characters (2.4, CharData): any bytes but these, and no `]]>`; it may be empty
pub record CharData (b : List ℕ) : Type 0 where
  pub are_run : list_all is_run_byte b ≡ true
  pub unmarked : lacks (codes "]]>") b ≡ true

-- a CDATA section (2.7, CDSect), by its text: `<![CDATA[`, a text that has no `]]>`, `]]>`
abbrev pub CDSect : List ℕ → List ℕ → Type 0
CDSect text b = (lacks (codes "]]>") text ≡ true) × (b ≡ codes "<![CDATA[" ++ (text ++ codes "]]>"))

-- what may stand between runs, but for elements, by the text that it stands for
pub data Piece : List ℕ → List ℕ → Type 0 where
  reference : (text b : List ℕ) → Reference text b → Piece text b
  section : (text b raw : List ℕ) → CDSect raw b → text ≡ line_ends raw → Piece text b
  comment : (text b : List ℕ) → Comment b → text ≡ [] → Piece text b
  instruction : (text b : List ℕ) → PI b → text ≡ [] → Piece text b

-- the pieces and elements in an element, each with the run behind it (3.1, content, after its first CharData). They lead from the element
-- with the kids so far to the whole: a text is joined to a text before it. S at e b: b spells the element e at the offset `at`
pub data ContentPieces (S : ℕ → Element → List ℕ → Type 0) : ℕ → Element → Element → List ℕ → Type 0 where
  nothing : (at : ℕ) (so_far whole : Element) (b : List ℕ) → whole ≡ so_far → b ≡ [] → ContentPieces S at so_far whole b
  piece : (at : ℕ) (so_far whole : Element) (b text bytes run rest : List ℕ) (next : ℕ) → Piece text bytes → CharData run
      → ContentPieces S next (with_text (line_ends run) (with_text text so_far)) whole rest
      → next ≡ at + length bytes + length run → b ≡ bytes ++ (run ++ rest) → ContentPieces S at so_far whole b
  element : (at : ℕ) (so_far whole e : Element) (b bytes run rest : List ℕ) (next : ℕ) → S at e bytes → CharData run
      → ContentPieces S next (with_text (line_ends run) (with_kid (children.Element e) so_far)) whole rest
      → next ≡ at + length bytes + length run → b ≡ bytes ++ (run ++ rest) → ContentPieces S at so_far whole b

-- content (3.1, content): a run, then pieces and elements, each with a run behind it; so each run is as long as it can be
pub record Content (S : ℕ → Element → List ℕ → Type 0) (at : ℕ) (so_far complete : Element) (b : List ℕ) : Type 0 where
  pub run : List ℕ
  pub rest : List ℕ
  pub next : ℕ
  pub is_run : CharData run
  pub are_pieces : ContentPieces S next (with_text (line_ends run) so_far) complete rest
  pub offset : next ≡ at + length run
  pub whole : b ≡ run ++ rest

-- an element (3.1, element) whose content has elements that S spells: a tag that ends in `/>`, or a start tag, content and the end tag
pub data ElementOver (S : ℕ → Element → List ℕ → Type 0) : ℕ → Element → List ℕ → Type 0 where
  empty : (at : ℕ) (e : Element) (b tag : List ℕ) → Tag at e tag → b ≡ tag ++ codes "/>" → ElementOver S at e b
  whole : (at : ℕ) (e started : Element) (b tag inner close : List ℕ) (next : ℕ) → Tag at started tag → Content S next started e inner → ETag started.name close
      → next ≡ at + length tag + 1 → b ≡ tag ++ (62 ∷ (inner ++ close)) → ElementOver S at e b

-- an element of at most so many levels, whose `<` has the offset `at`
abbrev pub Spells : ℕ → ℕ → Element → List ℕ → Type 0
Spells zero at e b = ⊥
Spells (suc levels) at e b = ElementOver (Spells levels) at e b
