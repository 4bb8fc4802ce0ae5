-- The meaning of a state: which bytes may still come, in the words of the grammar. N is the length of the whole document.
use Rattle.std.specs.Prelude.{◌≡◌, ◌⊎◌, ℕ, suc, ◌+◌, Bool, true, false, List, [], ◌∷◌, ◌++◌, codes, length, Some, None}
use Rattle.std.specs.List.{list_all}
use Rattle.pn_text.specs.Characters.{is_character, utf8_of}
use Rattle.pn_tree.specs.Building.{with_attr, with_text, with_kid}
use Rattle.pn_tree.specs.Elements.{attr_value}
use Rattle.pn_tree.specs.declared.element.Element.{Element}
use Rattle.pn_tree.specs.declared.element.Child.TheVariants as children
use Rattle.pn_markup.specs.Bytes.{is_quote, MaybeSpace, Space, Name, lacks, line_ends, line_ends_behind, spaced_behind}
use Rattle.pn_markup.specs.Misc.{Comment, PI, Misc, is_xml, is_instruction}
use Rattle.pn_markup.specs.References.{Entity, entity_name, entity_text, is_digit, number_behind, Reference}
use Rattle.pn_markup.specs.Tags.{is_value_byte, ValueText, AttValue, Eq, Attribute, named, Tag, ETag}
use Rattle.pn_markup.specs.Content.{is_run_byte, CDSect, ContentPieces, Spells}
use Rattle.pn_markup.specs.Declaration.{Maybe, XMLDecl, is_version, is_encoding, is_standalone}
use Rattle.pn_markup.specs.Document.{ByteOrderMark}
use Rattle.pn_scan.specs.State.{Nesting, Holder, Part, Stage, Brackets, State, before, within, behind, of_content, of_value, version, encoding, standalone, all_due, from_encoding, from_standalone, none_due, no_bracket, one_bracket, two_brackets, at_start, outside, at_end, in_run, at_markup, at_bang, in_comment, in_target, in_instruction, in_section, in_name, in_tag, in_attribute, before_equals, behind_equals, in_value, at_reference, in_entity, at_number, in_number, due, in_end, in_declaration, before_part_equals, behind_part_equals, in_part, room_at}

-- before the root, without a declaration
pub record Body (N : ℕ) (t : Element) (c : List ℕ) : Type 0 where
  pub misc : List ℕ
  pub root : List ℕ
  pub last : List ℕ
  pub at : ℕ
  pub is_misc : Misc misc
  pub is_root : Spells 256 at t root
  pub is_last : Misc last
  pub offset : at + length (root ++ last) ≡ N
  pub whole : c ≡ misc ++ (root ++ last)

-- where a declaration may come
abbrev pub Begin : ℕ → Element → List ℕ → Type 0
Begin N t c = (declaration : List ℕ) × (rest : List ℕ) × Maybe XMLDecl declaration × Body N t rest × (c ≡ declaration ++ rest)

-- the whole document
abbrev pub Whole : ℕ → Element → List ℕ → Type 0
Whole N t c = (mark : List ℕ) × (rest : List ℕ) × Maybe ByteOrderMark mark × Begin N t rest × (c ≡ mark ++ rest)

-- in the content of an element p, no run being under way, K after it
pub record Marked (K : Element → List ℕ → Type 0) (N levels : ℕ) (p : Element) (c : List ℕ) : Type 0 where
  pub complete : Element
  pub pieces : List ℕ
  pub close : List ℕ
  pub rest : List ℕ
  pub at : ℕ
  pub are_pieces : ContentPieces (Spells levels) at p complete pieces
  pub is_close : ETag p.name close
  pub goes_on : K complete rest
  pub offset : at + length c ≡ N
  pub whole : c ≡ pieces ++ (close ++ rest)

abbrev pub brackets : Brackets → List ℕ
brackets no_bracket = []
brackets one_bracket = codes "]"
brackets two_brackets = codes "]]"

-- in a run of the content of p
pub record Running (K : Element → List ℕ → Type 0) (N levels : ℕ) (p : Element) (text : List ℕ) (b : Brackets) (cr : Bool) (c : List ℕ) : Type 0 where
  pub run : List ℕ
  pub rest : List ℕ
  pub are_run : list_all is_run_byte run ≡ true
  pub unmarked : lacks (codes "]]>") (brackets b ++ run) ≡ true
  pub goes_on : Marked K N levels (with_text (text ++ line_ends_behind cr run) p) rest
  pub whole : c ≡ run ++ rest

-- behind an element inside others
abbrev pub BehindElement : ℕ → Element → ℕ → List Element → Element → List ℕ → Type 0
BehindElement N t levels [] e c = (t ≡ e) × Misc c
BehindElement N t levels (p ∷ ps) e c = Running (BehindElement N t (suc levels) ps) N levels (with_kid (children.Element e) p) [] no_bracket false c

-- behind a piece of content
abbrev pub Resumed : ℕ → Element → Nesting → List ℕ → Type 0
Resumed N t before c = Body N t c
Resumed N t (within levels e outer) c = Running (BehindElement N t (suc levels) outer) N levels e [] no_bracket false c
Resumed N t (behind root) c = (t ≡ root) × Misc c

-- the end of a tag
pub data TagEnd (N : ℕ) (t : Element) (levels : ℕ) (outer : List Element) (e : Element) (c : List ℕ) : Type 0 where
  opens : (rest : List ℕ) → Resumed N t (within levels e outer) rest → c ≡ 62 ∷ rest → TagEnd N t levels outer e c
  closes_empty : (rest : List ℕ) → BehindElement N t (suc levels) outer e rest → c ≡ 47 ∷ 62 ∷ rest → TagEnd N t levels outer e c

-- white space is there, unless some was read
abbrev pub SpaceOr : Bool → List ℕ → Type 0
SpaceOr true space = MaybeSpace space
SpaceOr false space = Space space

-- in a tag behind its name or an attribute
pub data TagMore (N : ℕ) (t : Element) (levels : ℕ) (outer : List Element) : Bool → Element → List ℕ → Type 0 where
  tag_ends : (spaced : Bool) (e : Element) (c space rest : List ℕ) → MaybeSpace space → TagEnd N t levels outer e rest → c ≡ space ++ rest → TagMore N t levels outer spaced e c
  one_attribute : (spaced : Bool) (e : Element) (c space name value bytes rest : List ℕ) → SpaceOr spaced space → Attribute name value bytes
      → attr_value name e.attrs ≡ None → TagMore N t levels outer false (with_attr name value e) rest → c ≡ space ++ (bytes ++ rest)
      → TagMore N t levels outer spaced e c

-- what begins with `<` or `&` in a nesting
pub data Begun (N : ℕ) (t : Element) (at : ℕ) : Nesting → List ℕ → Type 0 where
  a_comment : (nesting : Nesting) (c bytes rest : List ℕ) → Comment bytes → Resumed N t nesting rest → c ≡ bytes ++ rest → Begun N t at nesting c
  an_instruction : (nesting : Nesting) (c bytes rest : List ℕ) → PI bytes → Resumed N t nesting rest → c ≡ bytes ++ rest → Begun N t at nesting c
  a_section : (nesting : Nesting) (c : List ℕ) (levels : ℕ) (e : Element) (outer : List Element) (raw bytes rest : List ℕ) → nesting ≡ within levels e outer
      → CDSect raw bytes → Resumed N t (within levels (with_text (line_ends raw) e) outer) rest → c ≡ bytes ++ rest → Begun N t at nesting c
  a_reference : (nesting : Nesting) (c : List ℕ) (levels : ℕ) (e : Element) (outer : List Element) (text bytes rest : List ℕ) → nesting ≡ within levels e outer
      → Reference text bytes → Resumed N t (within levels (with_text text e) outer) rest → c ≡ bytes ++ rest → Begun N t at nesting c
  an_end : (nesting : Nesting) (c : List ℕ) (levels : ℕ) (e : Element) (outer : List Element) (bytes rest : List ℕ) → nesting ≡ within levels e outer
      → ETag e.name bytes → BehindElement N t (suc levels) outer e rest → c ≡ bytes ++ rest → Begun N t at nesting c
  a_tag : (nesting : Nesting) (c : List ℕ) (levels : ℕ) (outer : List Element) (e : Element) (bytes rest : List ℕ) → room_at nesting ≡ Some (levels, outer)
      → Tag at e bytes → TagEnd N t levels outer e rest → c ≡ bytes ++ rest → Begun N t at nesting c

-- the text of a comment
abbrev pub is_comment : List ℕ → Bool
is_comment text = lacks (codes "--") (text ++ codes "-")

-- a good text, the mark behind it, and what follows
pub record Until (mark : List ℕ) (is_good : List ℕ → Bool) (K : List ℕ → List ℕ → Type 0) (c : List ℕ) : Type 0 where
  pub text : List ℕ
  pub rest : List ℕ
  pub good : is_good text ≡ true
  pub goes_on : K text rest
  pub whole : c ≡ text ++ (mark ++ rest)

-- in a value: what is left of it, from what was read so far to the whole
pub data ValueBehind (quote : ℕ) (cr : Bool) (so_far whole b : List ℕ) : Type 0 where
  last_run : list_all (is_value_byte quote) b ≡ true → whole ≡ so_far ++ spaced_behind cr b → ValueBehind quote cr so_far whole b
  next_reference : (run text bytes rest : List ℕ) → list_all (is_value_byte quote) run ≡ true → Reference text bytes
      → ValueText quote ((so_far ++ spaced_behind cr run) ++ text) whole rest → b ≡ run ++ (bytes ++ rest) → ValueBehind quote cr so_far whole b

pub record ValueMore (N : ℕ) (t : Element) (levels : ℕ) (outer : List Element) (e : Element) (name : List ℕ) (quote : ℕ) (value : List ℕ) (cr : Bool)
    (c : List ℕ) : Type 0 where
  pub complete : List ℕ
  pub b : List ℕ
  pub rest : List ℕ
  pub spells : ValueBehind quote cr value complete b
  pub goes_on : TagMore N t levels outer false (with_attr name complete e) rest
  pub whole : c ≡ b ++ (quote ∷ rest)

-- behind a reference that stands for this text
abbrev pub Held : ℕ → Element → Holder → List ℕ → List ℕ → Type 0
Held N t (of_content levels e outer) text c = Resumed N t (within levels (with_text text e) outer) c
Held N t (of_value levels outer e name quote value) text c = ValueMore N t levels outer e name quote (value ++ text) false c

-- in a number
pub record NumberMore (base n : ℕ) (any : Bool) (K : List ℕ → List ℕ → Type 0) (c : List ℕ) : Type 0 where
  pub digits : List ℕ
  pub rest : List ℕ
  pub first : any ≡ false → digits ≡ [] → ⊥
  pub are_digits : list_all (is_digit base) digits ≡ true
  pub character : is_character (number_behind base n digits) ≡ true
  pub goes_on : K (utf8_of (number_behind base n digits)) rest
  pub whole : c ≡ digits ++ (59 ∷ rest)

pub record EntityMore (part : List ℕ) (K : List ℕ → List ℕ → Type 0) (c : List ℕ) : Type 0 where
  pub entity : Entity
  pub left : List ℕ
  pub rest : List ℕ
  pub name_is : part ++ left ≡ entity_name entity ++ codes ";"
  pub goes_on : K (entity_text entity) rest
  pub whole : c ≡ left ++ rest

-- the declaration

abbrev pub word_of : Part → List ℕ
word_of version = codes "version"
word_of encoding = codes "encoding"
word_of standalone = codes "standalone"

abbrev pub is_part_value : Part → List ℕ → Bool
is_part_value version = is_version
is_part_value encoding = is_encoding
is_part_value standalone = is_standalone

-- whether a part may come
abbrev pub may_come : Stage → Part → Bool
may_come all_due version = true
may_come from_encoding encoding = true
may_come from_encoding standalone = true
may_come from_standalone standalone = true
may_come _ _ = false

abbrev pub may_end : Stage → Bool
may_end all_due = false
may_end _ = true

abbrev pub stage_behind : Part → Stage
stage_behind version = from_encoding
stage_behind encoding = from_standalone
stage_behind standalone = none_due

-- in the declaration, behind a part of it or its beginning
pub data DeclarationMore (K : List ℕ → Type 0) : Stage → Bool → List ℕ → Type 0 where
  closes : (stage : Stage) (spaced : Bool) (c space rest : List ℕ) → may_end stage ≡ true → MaybeSpace space → K rest → c ≡ space ++ (codes "?>" ++ rest)
      → DeclarationMore K stage spaced c
  one_part : (stage : Stage) (spaced : Bool) (c : List ℕ) (p : Part) (space equals value : List ℕ) (quote : ℕ) (rest : List ℕ) → may_come stage p ≡ true
      → SpaceOr spaced space → Eq equals → is_quote quote ≡ true → is_part_value p value ≡ true → DeclarationMore K (stage_behind p) false rest
      → c ≡ space ++ (word_of p ++ (equals ++ (quote ∷ (value ++ (quote ∷ rest))))) → DeclarationMore K stage spaced c

pub record PartEquals (p : Part) (K : List ℕ → Type 0) (c : List ℕ) : Type 0 where
  pub equals : List ℕ
  pub value : List ℕ
  pub quote : ℕ
  pub rest : List ℕ
  pub is_equals : Eq equals
  pub quoted : is_quote quote ≡ true
  pub good : is_part_value p value ≡ true
  pub goes_on : DeclarationMore K (stage_behind p) false rest
  pub whole : c ≡ equals ++ (quote ∷ (value ++ (quote ∷ rest)))

pub record PartQuote (p : Part) (K : List ℕ → Type 0) (c : List ℕ) : Type 0 where
  pub space : List ℕ
  pub value : List ℕ
  pub quote : ℕ
  pub rest : List ℕ
  pub is_space : MaybeSpace space
  pub quoted : is_quote quote ≡ true
  pub good : is_part_value p value ≡ true
  pub goes_on : DeclarationMore K (stage_behind p) false rest
  pub whole : c ≡ space ++ (quote ∷ (value ++ (quote ∷ rest)))

pub record PartValue (p : Part) (quote : ℕ) (value : List ℕ) (K : List ℕ → Type 0) (c : List ℕ) : Type 0 where
  pub more : List ℕ
  pub rest : List ℕ
  pub good : is_part_value p (value ++ more) ≡ true
  pub goes_on : DeclarationMore K (stage_behind p) false rest
  pub whole : c ≡ more ++ (quote ∷ rest)

-- in the name of a processing instruction, or in what may be a declaration
pub data TargetMore (N : ℕ) (t : Element) (first : Bool) (nesting : Nesting) (name : List ℕ) (c : List ℕ) : Type 0 where
  names_instruction : (more text rest : List ℕ) → Name (name ++ more) → is_xml (name ++ more) ≡ false → is_instruction text ≡ true → Resumed N t nesting rest
      → c ≡ more ++ (text ++ (codes "?>" ++ rest)) → TargetMore N t first nesting name c
  names_declaration : (more rest : List ℕ) → first ≡ true → nesting ≡ before → name ++ more ≡ codes "xml" → DeclarationMore (Body N t) all_due false rest
      → c ≡ more ++ rest → TargetMore N t first nesting name c

-- behind `<!`
pub data BangMore (N : ℕ) (t : Element) (nesting : Nesting) (c : List ℕ) : Type 0 where
  bang_comment : (rest : List ℕ) → Until (codes "--") is_comment (λ text after. (more : List ℕ) × Resumed N t nesting more × (after ≡ 62 ∷ more)) rest
      → c ≡ codes "--" ++ rest → BangMore N t nesting c
  bang_section : (levels : ℕ) (e : Element) (outer : List Element) (rest : List ℕ) → nesting ≡ within levels e outer
      → Until (codes "]]>") (lacks (codes "]]>")) (λ raw after. Resumed N t (within levels (with_text (line_ends raw) e) outer) after) rest
      → c ≡ codes "[CDATA[" ++ rest → BangMore N t nesting c

-- behind `<` at an offset
pub data MarkupMore (N : ℕ) (t : Element) (first : Bool) (at : ℕ) (nesting : Nesting) (c : List ℕ) : Type 0 where
  begun : Begun N t at nesting (60 ∷ c) → MarkupMore N t first at nesting c
  may_declare : (rest : List ℕ) → first ≡ true → nesting ≡ before → DeclarationMore (Body N t) all_due false rest → c ≡ codes "?xml" ++ rest
      → MarkupMore N t first at nesting c

-- in the name of a tag
pub record NameMore (N : ℕ) (t : Element) (levels : ℕ) (outer : List Element) (at : ℕ) (name : List ℕ) (c : List ℕ) : Type 0 where
  pub more : List ℕ
  pub rest : List ℕ
  pub is_name : Name (name ++ more)
  pub goes_on : TagMore N t levels outer false (named (name ++ more) at) rest
  pub whole : c ≡ more ++ rest

-- in the name of an attribute
pub record AttributeMore (N : ℕ) (t : Element) (levels : ℕ) (outer : List Element) (e : Element) (name : List ℕ) (c : List ℕ) : Type 0 where
  pub more : List ℕ
  pub equals : List ℕ
  pub value : List ℕ
  pub quoted : List ℕ
  pub rest : List ℕ
  pub is_name : Name (name ++ more)
  pub is_new : attr_value (name ++ more) e.attrs ≡ None
  pub is_equals : Eq equals
  pub is_value : AttValue value quoted
  pub goes_on : TagMore N t levels outer false (with_attr (name ++ more) value e) rest
  pub whole : c ≡ more ++ (equals ++ (quoted ++ rest))

-- behind the name of an attribute
pub record EqualsMore (N : ℕ) (t : Element) (levels : ℕ) (outer : List Element) (e : Element) (name : List ℕ) (c : List ℕ) : Type 0 where
  pub equals : List ℕ
  pub value : List ℕ
  pub quoted : List ℕ
  pub rest : List ℕ
  pub is_equals : Eq equals
  pub is_value : AttValue value quoted
  pub goes_on : TagMore N t levels outer false (with_attr name value e) rest
  pub whole : c ≡ equals ++ (quoted ++ rest)

-- behind the `=` of an attribute
pub record QuoteMore (N : ℕ) (t : Element) (levels : ℕ) (outer : List Element) (e : Element) (name : List ℕ) (c : List ℕ) : Type 0 where
  pub space : List ℕ
  pub value : List ℕ
  pub quoted : List ℕ
  pub rest : List ℕ
  pub is_space : MaybeSpace space
  pub is_value : AttValue value quoted
  pub goes_on : TagMore N t levels outer false (with_attr name value e) rest
  pub whole : c ≡ space ++ (quoted ++ rest)

abbrev pub dashes : Bool → List ℕ
dashes true = codes "-"
dashes false = []

abbrev pub questions : Bool → List ℕ
questions true = codes "?"
questions false = []

-- what may still come, by the tree t of the whole document
abbrev pub Rest : State → ℕ → Element → List ℕ → Type 0
Rest at_start N t c = Whole N t c
Rest (outside true) N t c = Begin N t c
Rest (outside false) N t c = Body N t c
Rest (at_end root) N t c = (t ≡ root) × Misc c
Rest (in_run levels e outer text b cr) N t c = Running (BehindElement N t (suc levels) outer) N levels e text b cr c
Rest (at_markup first nesting at) N t c = (at + suc (length c) ≡ N) × MarkupMore N t first at nesting c
Rest (at_bang nesting) N t c = BangMore N t nesting c
Rest (in_comment nesting dash) N t c =
    Until (codes "--") is_comment (λ text after. (more : List ℕ) × Resumed N t nesting more × (after ≡ 62 ∷ more)) (dashes dash ++ c)
Rest (in_target first nesting name) N t c = TargetMore N t first nesting name c
Rest (in_instruction nesting question) N t c = Until (codes "?>") (lacks (codes "?>")) (λ text after. Resumed N t nesting after) (questions question ++ c)
Rest (in_section levels e outer text b cr) N t c =
    Until (codes "]]>") (lacks (codes "]]>")) (λ raw after. Resumed N t (within levels (with_text (text ++ line_ends_behind cr raw) e) outer) after) (brackets b ++ c)
Rest (in_name levels outer at name) N t c = NameMore N t levels outer at name c
Rest (in_tag levels outer e spaced) N t c = TagMore N t levels outer spaced e c
Rest (in_attribute levels outer e name) N t c = AttributeMore N t levels outer e name c
Rest (before_equals levels outer e name) N t c = EqualsMore N t levels outer e name c
Rest (behind_equals levels outer e name) N t c = QuoteMore N t levels outer e name c
Rest (in_value levels outer e name quote value cr) N t c = ValueMore N t levels outer e name quote value cr c
Rest (at_reference holder) N t c = (text : List ℕ) × (bytes : List ℕ) × (rest : List ℕ) × Reference text bytes × Held N t holder text rest × (38 ∷ c ≡ bytes ++ rest)
Rest (in_entity holder part) N t c = EntityMore part (Held N t holder) c
Rest (at_number holder) N t c = NumberMore 10 0 false (Held N t holder) c ⊎ ((rest : List ℕ) × NumberMore 16 0 false (Held N t holder) rest × (c ≡ 120 ∷ rest))
Rest (in_number holder base n any) N t c = NumberMore base n any (Held N t holder) c
Rest (due left s) N t c = (rest : List ℕ) × Rest s N t rest × (c ≡ left ++ rest)
Rest (in_end levels e outer) N t c =
    (space : List ℕ) × (rest : List ℕ) × MaybeSpace space × BehindElement N t (suc levels) outer e rest × (c ≡ space ++ (62 ∷ rest))
Rest (in_declaration stage spaced) N t c = DeclarationMore (Body N t) stage spaced c
Rest (before_part_equals p) N t c = PartEquals p (Body N t) c
Rest (behind_part_equals p) N t c = PartQuote p (Body N t) c
Rest (in_part p quote value) N t c = PartValue p quote value (Body N t) c
