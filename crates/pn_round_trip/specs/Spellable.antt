-- Nets and parts of nets that, offsets aside, an element without a fault of shape may spell: what each part has to be like (ISO/IEC 15909-2, in this project's profile).
use Rattle.std.specs.Prelude.{◌≡◌, ℕ, zero, suc, ◌^◌, ◌<◌, ◌≤◌, true, List, map, length, None, IfSome, IsSome}
use Rattle.std.specs.List.{AllByRecursion}
use Rattle.pn_operators.specs.declared.kind.Kind.{Kind}
use Rattle.pn_syntax.specs.Offsets.{declaration_without_offsets, sort_without_offsets}
use Rattle.pn_syntax.specs.TermOffsets.{term_without_offsets}
use Rattle.pn_syntax.specs.declared.declaration.Declaration.{Declaration}
use Rattle.pn_syntax.specs.declared.sort_expr.SortExpr.{SortExpr}
use Rattle.pn_syntax.specs.declared.term.Term.{Term}
use Rattle.pn_objects.specs.declared.label.Head.{Head}
use Rattle.pn_objects.specs.declared.label.Label.{Label}
use Rattle.pn_objects.specs.declared.net.Net.{Net}
use Rattle.pn_objects.specs.declared.net.Page.{Page}
use Rattle.pn_objects.specs.declared.net.Page.TheOpen as layer
use Rattle.pn_objects.specs.declared.net.Page.TheViews.{out-Page}
use Rattle.pn_objects.specs.declared.net.Prefix.{Prefix}
use Rattle.pn_objects.specs.declared.object.Arc.{Arc}
use Rattle.pn_objects.specs.declared.object.Place.{Place}
use Rattle.pn_objects.specs.declared.object.Reference.{Reference}
use Rattle.pn_objects.specs.declared.object.Transition.{Transition}
use Rattle.pn_tree.specs.declared.element.Element.{Element}
use Rattle.pn_shape.specs.Faults.{IsShaped, IsShapedSort, IsShapedTerm}
use Rattle.pn_shape.specs.Numbers.{may_be_id}
use Rattle.pn_shape.specs.Rules.{is_had}
use Rattle.pn_shape.specs.declared.tag.Tag.{Tag}
use Rattle.pn_shape.specs.declared.tag.Tag.TheVariants as tag
use Rattle.pn_spelling.specs.ReadDeclarations.{declarations_read}
use Rattle.pn_spelling.specs.ReadNets.{is_opaque_part, is_prefix}
use Rattle.pn_spelling.specs.ReadSorts.{sort_read}
use Rattle.pn_spelling.specs.ReadTerms.{term_read}
use Rattle.pn_spelling.specs.WriteNets.{prefix_attr}

-- some element without a fault of shape spells it in nets of this kind, offsets aside

abbrev pub IsSpelledSort : Kind → SortExpr → Type 0
IsSpelledSort k sort = (e : Element) × IsShapedSort k e × (sort_without_offsets sort ≡ sort_without_offsets (sort_read e))

abbrev pub IsSpelledTerm : Kind → Term → Type 0
IsSpelledTerm k term = (e : Element) × IsShapedTerm k e × (term_without_offsets term ≡ term_without_offsets (term_read e))

abbrev pub AreSpelledDeclarations : Kind → List Declaration → Type 0
AreSpelledDeclarations k ds = (e : Element) × IsShaped k tag.Declarations e × (map declaration_without_offsets ds ≡ map declaration_without_offsets (declarations_read e))

-- nets of this kind have the element, and what it says is so
abbrev pub IsHadWith : {A : Type 0} → Kind → Tag → (A → Type 0) → A → Type 0
IsHadWith k t P a = (is_had k t ≡ true) × P a

-- parts that are kept as they are
abbrev pub AreKept : List Element → Type 0
AreKept = AllByRecursion (λ e. is_opaque_part e ≡ true)

-- a number of at least so many that is within 64 bits with a sign
abbrev pub IsCountFrom : ℕ → ℕ → Type 0
IsCountFrom least n = (least ≤ n) × (n < 2 ^ 63)

-- a label that says a number, which stands for its text
pub record IsCountLabel (least : ℕ) (l : Label ℕ) : Type 0 where
  pub value : IsCountFrom least l.value
  pub text : l.text ≡ None
  pub opaque : AreKept l.opaque

-- a label that says something in a `structure`
pub record IsSpellableLabel {T : Type 0} (IsValue : T → Type 0) (l : Label T) : Type 0 where
  pub value : IsValue l.value
  pub opaque : AreKept l.opaque

abbrev pub IsSpellableName : Label (Unit {0}) → Type 0
IsSpellableName l = AreKept l.opaque

pub record IsSpellableHead (h : Head) : Type 0 where
  pub name : IfSome h.name IsSpellableName
  pub opaque : AreKept h.opaque

pub record IsSpellablePlace (k : Kind) (p : Place) : Type 0 where
  pub id : may_be_id p.id ≡ true
  pub head : IsSpellableHead p.head
  pub marking : IfSome p.marking (IsHadWith k tag.InitialMarking (IsCountLabel 0))
  pub sort : IfSome p.sort (IsHadWith k tag.Type (IsSpellableLabel (IsSpelledSort k)))
  pub has_sort : is_had k tag.Type ≡ true → IsSome p.sort
  pub hl_marking : IfSome p.hl_marking (IsHadWith k tag.HlInitialMarking (IsSpellableLabel (IsSpelledTerm k)))

pub record IsSpellableTransition (k : Kind) (t : Transition) : Type 0 where
  pub id : may_be_id t.id ≡ true
  pub head : IsSpellableHead t.head
  pub condition : IfSome t.condition (IsHadWith k tag.Condition (IsSpellableLabel (IsSpelledTerm k)))

pub record IsSpellableArc (k : Kind) (a : Arc) : Type 0 where
  pub id : may_be_id a.id ≡ true
  pub head : IsSpellableHead a.head
  pub weight : IfSome a.weight (IsHadWith k tag.Inscription (IsCountLabel 1))
  pub inscription : IfSome a.inscription (IsHadWith k tag.HlInscription (IsSpellableLabel (IsSpelledTerm k)))
  pub has_inscription : is_had k tag.HlInscription ≡ true → IsSome a.inscription

pub record IsSpellableReference (r : Reference) : Type 0 where
  pub id : may_be_id r.id ≡ true
  pub head : IsSpellableHead r.head

abbrev pub IsSpellableDeclaration : Kind → Label (List Declaration) → Type 0
IsSpellableDeclaration k = IsHadWith k tag.Declaration (IsSpellableLabel (AreSpelledDeclarations k))

-- a page, where its subpages are such
pub record IsSpellableWith (k : Kind) (IsSubpage : Page → Type 0) (p : layer.Page-F Page) : Type 0 where
  pub id : may_be_id p.id ≡ true
  pub head : IsSpellableHead p.head
  pub declarations : AllByRecursion (IsSpellableDeclaration k) p.declarations
  pub places : AllByRecursion (IsSpellablePlace k) p.places
  pub transitions : AllByRecursion (IsSpellableTransition k) p.transitions
  pub place_refs : AllByRecursion IsSpellableReference p.place_refs
  pub transition_refs : AllByRecursion IsSpellableReference p.transition_refs
  pub arcs : AllByRecursion (IsSpellableArc k) p.arcs
  pub pages : AllByRecursion IsSubpage p.pages

-- a page of so many levels
abbrev pub IsSpellablePage : Kind → ℕ → Page → Type 0
IsSpellablePage k zero p = ⊥
IsSpellablePage k (suc levels) p = IsSpellableWith k (IsSpellablePage k levels) (out-Page p)

-- the attribute that is written for it binds a prefix
abbrev pub IsBound : Prefix → Type 0
IsBound p = is_prefix (prefix_attr p) ≡ true

pub record IsSpellableNet (n : Net) : Type 0 where
  pub id : may_be_id n.id ≡ true
  pub prefixes : AllByRecursion IsBound n.prefixes
  pub head : IsSpellableHead n.head
  pub declarations : AllByRecursion (IsSpellableDeclaration n.kind) n.declarations
  pub levels : ℕ
  pub pages : AllByRecursion (IsSpellablePage n.kind levels) n.pages
  pub has_page : 1 ≤ length n.pages
