-- In a tree whose offsets rise, a fault of sorts or of typing that stands is known by its offset and its number.
use Rattle.std.proofs.Common.{◌≡◌, inl, inr, ℕ, ◌<◌, ◌≤◌, false, List, codes, IfSome, refl, sym, ap, ◌∙◌, subst, arith}
use Rattle.std.specs.List.{Contains}
use Rattle.pn_facts.proofs.Contained.{contains_at}
use Rattle.pn_facts.proofs.Each.{one_of}
use Rattle.pn_faults.specs.declared.fault.Fault.{Fault}
use Rattle.pn_faults.specs.declared.reason.Reason.TheVariants as reasons
use Rattle.pn_faults.specs.Order.{fault_at}
use Rattle.pn_faults.specs.Reasons.{number_of}
use Rattle.pn_markup.specs.Offsets.{HasRisingOffsets}
use Rattle.pn_names.specs.Names.{at_of, id_of}
use Rattle.pn_net.specs.Documents.{told_in}
use Rattle.pn_net.specs.Objects.{net_declarations}
use Rattle.pn_net.specs.Typing.{StandsInSorts, StandsInTyping, declared, of_type, of_term, of_constant, of_condition, of_marking, of_inscription, not_ground}
use Rattle.pn_objects.specs.declared.net.Net.{Net}
use Rattle.pn_operators.specs.Operators.{name_of}
use Rattle.pn_resolve.specs.Standing.{at_of_constant, element_name, in_sort, sort_cycle, constant_range}
use Rattle.pn_sorts.specs.Standing.{Stands, besides, bad_partition}
use Rattle.pn_sorts.proofs.OrderLemmas.{Blames, in_written, one_fault, unknown, too_big, empty, cycle, bad}
use Rattle.pn_spelling.specs.Parts.{has_name}
use Rattle.pn_spelling.specs.ReadDeclarations.{declaration_read, named_read, partition_read, variable_read}
use Rattle.pn_spelling.specs.ReadNets.{net_of}
use Rattle.pn_spelling.specs.ReadSorts.{sort_read}
use Rattle.pn_spelling.specs.ReadTerms.{term_read}
use Rattle.pn_spelling.proofs.ReadLemmas.{sort_read_is, term_read_is}
use Rattle.pn_syntax.specs.declared.declaration.Declaration.{Declaration}
use Rattle.pn_syntax.specs.declared.sort_expr.SortExpr.{SortExpr}
use Rattle.pn_syntax.specs.declared.term.Term.{Term}
use Rattle.pn_syntax.specs.declared.term.TermNode.TheOpen as layer
use Rattle.pn_syntax.specs.declared.term.TermNode.TheVariants as nodes
use Rattle.pn_terms.specs.Standing.{StandsAlways, StandsAt, StandsWith}
use Rattle.pn_terms.specs.Terms.{Layer, layer_of, parts_of}
use Rattle.pn_terms.proofs.OrderLemmas.{one_at}
use Rattle.pn_terms.specs.declared.term_sort.TermSort.{TermSort}
use Rattle.pn_tree.specs.declared.element.Element.{Element}
use Rattle.pn_checks.proofs.HeldLemmas.{one_element}
use Rattle.pn_checks.proofs.SourceLemmas.{IsSpelled, declarations_from}
use Rattle.pn_checks.proofs.SpelledLemmas.{HasSortFault, IsSortIn, IsTermIn, declared_sort, pick, sort_blamed, term_blamed, term_parts_within, written_blamed}
use Rattle.pn_checks.proofs.SaidLemmas.{IsSaid, arc_says, condition_said, label_spelled, marking_said, one_label, place_says, term_from, type_from}

-- ---- a fault of a term by itself

-- a fault at this offset, of a number below those of labels
abbrev IsOfTerm : ℕ → Fault → Type 0
IsOfTerm offset f = (f.at ≡ offset) × (number_of f.reason < 28)

told : (f g : Fault) (offset : ℕ) → f ≡ g → g.at ≡ offset → number_of g.reason < 28 → IsOfTerm offset f
told f g offset is at less = (ap (λ (h : Fault). h.at) is ∙ at, subst (λ (h : Fault). number_of h.reason < 28) (sym is) less)

module _ (items : List Declaration) where
  always_told : (l : Layer) (offset : ℕ) (f : Fault) → StandsAlways items l offset f → IsOfTerm offset f
  always_told (layer.Variable name) offset f h = told f (fault_at reasons.UnknownVariable offset name) offset h.1 refl (omega arith)
  always_told (layer.UserOp name) offset f h = told f (fault_at reasons.UnknownOperator offset name) offset h.1 refl (omega arith)
  always_told (layer.Bool truth) offset f h = absurd h
  always_told (layer.Number value sort) offset f h = told f (fault_at reasons.BadConstant offset (codes "numberconstant")) offset h.1 refl (omega arith)
  always_told (layer.RangeConst value start end) offset f h = told f (fault_at reasons.BadConstant offset (codes "finiteintrangeconstant")) offset h.1 refl (omega arith)
  always_told (layer.Text text) offset f h = told f (fault_at reasons.BadConstant offset (codes "stringconstant")) offset h.1 refl (omega arith)
  always_told (layer.All e) offset f (sort, has, large, is) = told f (fault_at reasons.AllTooLarge offset (codes "all")) offset is refl (omega arith)
  always_told (layer.Empty e) offset f h = absurd h
  always_told (layer.EmptyList e) offset f h = absurd h
  always_told (layer.PartitionOf name arg) offset f h = told f (fault_at reasons.UnknownPartition offset name) offset h.1 refl (omega arith)
  always_told (layer.Apply op args) offset f h = absurd h

  with_told : (l : Layer) (ts : List TermSort) (offset : ℕ) (f : Fault) → StandsWith items l ts offset f → IsOfTerm offset f
  with_told (layer.PartitionOf name arg) ts offset f (p, base, is, has, unfit, so) = told f (fault_at reasons.WrongSort offset (codes "partitionelementof")) offset so refl (omega arith)
  with_told (layer.Apply op args) ts offset f h = told f (fault_at reasons.WrongSort offset (name_of op)) offset h.1 refl (omega arith)
  with_told (layer.Variable name) ts offset f h = absurd h
  with_told (layer.UserOp name) ts offset f h = absurd h
  with_told (layer.Bool truth) ts offset f h = absurd h
  with_told (layer.Number value sort) ts offset f h = absurd h
  with_told (layer.RangeConst value start end) ts offset f h = absurd h
  with_told (layer.Text text) ts offset f h = absurd h
  with_told (layer.All e) ts offset f h = absurd h
  with_told (layer.Empty e) ts offset f h = absurd h
  with_told (layer.EmptyList e) ts offset f h = absurd h

  term_told : (x : Term) (f : Fault) → StandsAt items x f → IsOfTerm x.at f
  term_told x f (inl h) = always_told (layer_of x) x.at f h
  term_told x f (inr (ts, have, h)) = with_told (layer_of x) ts x.at f h

-- ---- what faults blame

module _ (tree : Element) where
  abbrev The : Net
  The = net_of tree

  abbrev Items : List Declaration
  Items = net_declarations (net_of tree)

  abbrev Blamed : Fault → Type 0
  Blamed = Blames (IsSpelled sort_read tree) (IsSpelled declaration_read tree)

  sort_fault : (f : Fault) → HasSortFault tree Items f → Blamed f
  sort_fault f (x, from, stands) = in_written Items (IsSpelled sort_read tree) (IsSpelled declaration_read tree) x f from stands

  declaration_from : (d : Declaration) → Contains Items d → IsSpelled declaration_read tree d
  declaration_from d there = one_of (IsSpelled declaration_read tree) Items d (declarations_from tree) there

  declared_blamed : (f : Fault) → Stands Items f → Blamed f
  declared_blamed f (besides _ (in_sort _ d s there is stands)) =
      sort_fault f (sort_blamed Items f tree s (subst (λ o. IfSome o (IsSortIn tree)) is (declared_sort tree d (declaration_from d there))) stands)
  declared_blamed f (besides _ (sort_cycle _ place d at leads is)) = cycle d (declaration_from d (contains_at Items place d at)) is
  declared_blamed f (besides _ (constant_range _ d c there listed range is)) = empty (at_of_constant c) is
  declared_blamed f (bad_partition _ d there lacks is) = bad d (declaration_from d there) is

  sorts_blamed : (f : Fault) → StandsInSorts The f → Blamed f
  sorts_blamed f (declared _ stands) = declared_blamed f stands
  sorts_blamed f (of_type _ s there stands) = sort_fault f (sort_blamed Items f tree s (type_from tree s there) stands)
  sorts_blamed f (of_term _ t there stands) = sort_fault f (written_blamed Items f tree t (inr (term_from tree t there)) stands)
  sorts_blamed f (of_constant _ t there range) = empty range.constant.at range.is

  -- a fault of typing is one of a term by itself, of the term in a label, or of a variable; or an initial marking has no value
  pub data TypingWay (f : Fault) : Type 0 where
    by_term : (x : Term) → IsSpelled term_read tree x → StandsAt Items x f → TypingWay f
    by_label : (name : List ℕ) (t : Term) → IsSaid tree name t → f ≡ fault_at reasons.LabelSort t.at name → TypingWay f
    by_variable : (x : Term) (name : List ℕ) → IsSpelled term_read tree x → x.node ≡ nodes.Variable name → f ≡ fault_at reasons.NotGround x.at name → TypingWay f
    by_value : (offset : ℕ) → f ≡ fault_at reasons.NoValue offset (codes "hlinitialMarking") → TypingWay f

  pub typing_way : (f : Fault) → StandsInTyping The f → TypingWay f
  typing_way f (of_term _ t there stands) = let blamed = term_blamed Items f tree t (inr (term_from tree t there)) stands in by_term blamed.0 blamed.1 blamed.2
  typing_way f (of_condition _ lacks) = by_label (codes "condition") lacks.term (condition_said tree lacks.term lacks.stands) lacks.is
  typing_way f (of_marking _ lacks) =
      by_label (codes "hlinitialMarking") lacks.term (subst (λ o. IfSome o (IsSaid tree (codes "hlinitialMarking"))) lacks.is_marking (place_says tree lacks.place lacks.stands)) lacks.is
  typing_way f (of_inscription _ lacks) =
      by_label (codes "hlinscription") lacks.term (subst (λ o. IfSome o (IsSaid tree (codes "hlinscription"))) lacks.is_inscription (arc_says tree lacks.arc lacks.stands)) lacks.is
  typing_way f (not_ground _ lacks) = by (term_parts_within tree lacks.term lacks.variable lacks.is_part (inr (label_spelled tree (codes "hlinitialMarking") lacks.term (marking_said tree lacks.term lacks.stands))))
    where
      by : IsTermIn tree lacks.variable → TypingWay f
      by (inl none) = absurd (let wrong : nodes.Bool false ≡ nodes.Variable lacks.name = sym (ap (λ (x : Term). x.node) none) ∙ lacks.is_variable in cc)
      by (inr from) = by_variable lacks.variable lacks.name from lacks.is_variable lacks.is

-- ---- what is blamed is one

at_of_read : (x : Element) → at_of (declaration_read x) ≡ x.at
at_of_read x =
    pick (λ d. at_of d ≡ x.at) (has_name (codes "variabledecl") x) (variable_read x) _ refl
    (pick (λ d. at_of d ≡ x.at) (has_name (codes "partition") x) (partition_read x) (named_read x) refl refl)

module _ (tree : Element) (rises : HasRisingOffsets tree) where
  one_spelled : {A : Type 0} (read : Element → A) (at : A → ℕ) → ((x : Element) → at (read x) ≡ x.at) → (a b : A) → IsSpelled read tree a → IsSpelled read tree b → at a ≡ at b → a ≡ b
  one_spelled read at at_is a b from also same =
      let here : from.source.at ≡ also.source.at = sym (at_is from.source) ∙ sym (ap at from.is) ∙ same ∙ ap at also.is ∙ at_is also.source in
      from.is ∙ ap read (one_element tree rises from.source also.source from.within also.within here) ∙ sym also.is

  one_sort : (s t : SortExpr) → IsSpelled sort_read tree s → IsSpelled sort_read tree t → s.at ≡ t.at → s ≡ t
  one_sort = one_spelled sort_read (λ s. s.at) (λ x. ap (λ s. s.at) (sort_read_is x))

  one_term : (t u : Term) → IsSpelled term_read tree t → IsSpelled term_read tree u → t.at ≡ u.at → t ≡ u
  one_term = one_spelled term_read (λ t. t.at) (λ x. ap (λ t. t.at) (term_read_is x))

  one_declaration : (d c : Declaration) → IsSpelled declaration_read tree d → IsSpelled declaration_read tree c → at_of d ≡ at_of c → d ≡ c
  one_declaration = one_spelled declaration_read at_of at_of_read

  -- a fault of sorts is known by its offset and its number
  sorts_once : (f g : Fault) → StandsInSorts (net_of tree) f → StandsInSorts (net_of tree) g → f.at ≡ g.at → number_of f.reason ≡ number_of g.reason → f ≡ g
  sorts_once f g stands also = one_fault (IsSpelled sort_read tree) (IsSpelled declaration_read tree) one_sort one_declaration f g (sorts_blamed tree f stands) (sorts_blamed tree g also)

  -- the same of faults as they are told of the tree: but for an empty range they are as they stand
  data ToldWay (f : Fault) : Type 0 where
    as_range : told_in tree f ≡ fault_at reasons.EmptyRange (told_in tree f).at (codes "finiteintrange") → ToldWay f
    as_is : told_in tree f ≡ f → (number_of f.reason ≡ 20 → ⊥) → ToldWay f

  kept : (f g : Fault) (n : ℕ) → f ≡ g → told_in tree g ≡ g → number_of g.reason ≡ n → (n ≡ 20 → ⊥) → ToldWay f
  kept f g n is same number differs = as_is (ap (told_in tree) is ∙ same ∙ sym is) (λ twenty. differs (sym number ∙ sym (ap (λ (h : Fault). number_of h.reason) is) ∙ twenty))

  told_way : (f : Fault) → Blamed tree f → ToldWay f
  told_way f (unknown x name from node is) = kept f (fault_at reasons.UnknownSort x.at name) 17 is refl refl (λ (h : 17 ≡ 20). omega (arith, h))
  told_way f (too_big x from is) = kept f (fault_at reasons.SortTooBig x.at (element_name x)) 19 is refl refl (λ (h : 19 ≡ 20). omega (arith, h))
  told_way f (empty offset is) = as_range (subst (λ h. told_in tree h ≡ fault_at reasons.EmptyRange (told_in tree h).at (codes "finiteintrange")) (sym is) refl)
  told_way f (cycle d from is) = kept f (fault_at reasons.SortCycle (at_of d) (id_of d)) 18 is refl refl (λ (h : 18 ≡ 20). omega (arith, h))
  told_way f (bad d from is) = kept f (fault_at reasons.BadPartition (at_of d) (id_of d)) 21 is refl refl (λ (h : 21 ≡ 20). omega (arith, h))

  at_is : (f g : Fault) → f ≡ g → f.at ≡ g.at
  at_is f g is = ap (λ (h : Fault). h.at) is

  number_is : (f g : Fault) → f ≡ g → number_of f.reason ≡ number_of g.reason
  number_is f g is = ap (λ (h : Fault). number_of h.reason) is

  ways_told : (f g : Fault) → StandsInSorts (net_of tree) f → StandsInSorts (net_of tree) g → ToldWay f → ToldWay g → (told_in tree f).at ≡ (told_in tree g).at → number_of (told_in tree f).reason ≡ number_of (told_in tree g).reason → told_in tree f ≡ told_in tree g
  ways_told f g stands there (as_range is) (as_range also) same number = is ∙ ap (λ n. fault_at reasons.EmptyRange n (codes "finiteintrange")) same ∙ sym also
  ways_told f g stands there (as_is is differs) (as_is also differ) same number = is ∙ sorts_once f g stands there (sym (at_is _ f is) ∙ same ∙ at_is _ g also) (sym (number_is _ f is) ∙ number ∙ number_is _ g also) ∙ sym also
  ways_told f g stands there (as_range is) (as_is also differ) same number = absurd (differ (sym (number_is _ g also) ∙ sym number ∙ number_is _ _ is))
  ways_told f g stands there (as_is is differs) (as_range also) same number = absurd (differs (sym (number_is _ f is) ∙ number ∙ number_is _ _ also))

  pub told_once : (f g : Fault) → StandsInSorts (net_of tree) f → StandsInSorts (net_of tree) g → (told_in tree f).at ≡ (told_in tree g).at → number_of (told_in tree f).reason ≡ number_of (told_in tree g).reason
      → told_in tree f ≡ told_in tree g
  told_once f g stands also = ways_told f g stands also (told_way f (sorts_blamed tree f stands)) (told_way g (sorts_blamed tree g also))

  -- ---- faults of typing

  not_by_term : (x : Term) (f g : Fault) (n : ℕ) → StandsAt (Items tree) x f → number_of f.reason ≡ number_of g.reason → number_of g.reason ≡ n → 28 ≤ n → ⊥
  not_by_term x f g n stands same is most = let less : number_of f.reason < 28 = (term_told (Items tree) x f stands).1 in omega (arith, less, same, is, most)

  numbers : (f g h k : Fault) → f ≡ h → g ≡ k → number_of f.reason ≡ number_of g.reason → number_of h.reason ≡ number_of k.reason
  numbers f g h k is also number = sym (number_is f h is) ∙ number ∙ number_is g k also

  -- a fault of typing is known by its offset and its number
  pub typing_ways_once : (f g : Fault) → TypingWay tree f → TypingWay tree g → f.at ≡ g.at → number_of f.reason ≡ number_of g.reason → f ≡ g
  typing_ways_once f g (by_term x from h) (by_term y also k) same number =
      let one : x ≡ y = one_term x y from also (sym (term_told (Items tree) x f h).0 ∙ same ∙ (term_told (Items tree) y g k).0) in
      one_at (Items tree) x g f (subst (λ z. StandsAt (Items tree) z g) (sym one) k) h
  typing_ways_once f g (by_term x from h) (by_label name t a is) same number = absurd (not_by_term x f g 28 h number (number_is g _ is) (omega arith))
  typing_ways_once f g (by_term x from h) (by_variable y name also node is) same number = absurd (not_by_term x f g 29 h number (number_is g _ is) (omega arith))
  typing_ways_once f g (by_term x from h) (by_value offset is) same number = absurd (not_by_term x f g 30 h number (number_is g _ is) (omega arith))
  typing_ways_once f g (by_label name t a is) (by_term x from h) same number = absurd (not_by_term x g f 28 h (sym number) (number_is f _ is) (omega arith))
  typing_ways_once f g (by_label name t a is) (by_label other u b also) same number =
      let here : t.at ≡ u.at = sym (at_is f _ is) ∙ same ∙ at_is g _ also in
      is ∙ ap (λ n. fault_at reasons.LabelSort n name) here ∙ ap (fault_at reasons.LabelSort u.at) (one_label tree rises name other t u a b here) ∙ sym also
  typing_ways_once f g (by_label name t a is) (by_variable y other also node so) same number = absurd (let wrong : 28 ≡ 29 = numbers f g _ _ is so number in omega (arith, wrong))
  typing_ways_once f g (by_label name t a is) (by_value offset so) same number = absurd (let wrong : 28 ≡ 30 = numbers f g _ _ is so number in omega (arith, wrong))
  typing_ways_once f g (by_variable x name from node is) (by_term y also h) same number = absurd (not_by_term y g f 29 h (sym number) (number_is f _ is) (omega arith))
  typing_ways_once f g (by_variable x name from node is) (by_label other t a so) same number = absurd (let wrong : 29 ≡ 28 = numbers f g _ _ is so number in omega (arith, wrong))
  typing_ways_once f g (by_variable x name from node is) (by_variable y other also node' so) same number =
      let one : x ≡ y = one_term x y from also (sym (at_is f _ is) ∙ same ∙ at_is g _ so) in
      let named : nodes.Variable name ≡ nodes.Variable other = sym node ∙ ap (λ (z : Term). z.node) one ∙ node' in
      let name_is : name ≡ other = cc in
      is ∙ ap (λ (z : Term). fault_at reasons.NotGround z.at name) one ∙ ap (fault_at reasons.NotGround y.at) name_is ∙ sym so
  typing_ways_once f g (by_variable x name from node is) (by_value offset so) same number = absurd (let wrong : 29 ≡ 30 = numbers f g _ _ is so number in omega (arith, wrong))
  typing_ways_once f g (by_value offset is) (by_term y also h) same number = absurd (not_by_term y g f 30 h (sym number) (number_is f _ is) (omega arith))
  typing_ways_once f g (by_value offset is) (by_label other t a so) same number = absurd (let wrong : 30 ≡ 28 = numbers f g _ _ is so number in omega (arith, wrong))
  typing_ways_once f g (by_value offset is) (by_variable y other also node so) same number = absurd (let wrong : 30 ≡ 29 = numbers f g _ _ is so number in omega (arith, wrong))
  typing_ways_once f g (by_value offset is) (by_value place so) same number = is ∙ ap (λ n. fault_at reasons.NoValue n (codes "hlinitialMarking")) (sym (at_is f _ is) ∙ same ∙ at_is g _ so) ∙ sym so
