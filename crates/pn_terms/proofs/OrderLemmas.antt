-- In an ordered term the least fault is one.
use Rattle.std.proofs.Common.{◌≡◌, inl, inr, ℕ, List, [], ◌∷◌, ◌++◌, Some, refl, sym, ap, ◌∙◌, subst}
use Rattle.std.specs.List.{Contains, flat_map}
use Rattle.std.proofs.lemmas.List.{append-nil}
use Rattle.std.proofs.lemmas.List.Elements.{Contains-append_left}
use Rattle.pn_faults.specs.declared.fault.Fault.{Fault}
use Rattle.pn_faults.specs.Rising.{Rise}
use Rattle.pn_faults.specs.Standing.{IsLeastOf}
use Rattle.pn_faults.proofs.RisingLemmas.{IsWithin, all_joined, neither_before, one_owner, one_place, own_rise, place_offset, rise_front}
use Rattle.pn_faults.proofs.RisingLemmas as rising
use Rattle.pn_syntax.specs.declared.declaration.Declaration.{Declaration}
use Rattle.pn_syntax.specs.declared.term.Term.{Term}
use Rattle.pn_syntax.specs.declared.term.TermNode.{TermNode, map-TermNode}
use Rattle.pn_syntax.specs.declared.term.TermNode.TheOpen as layer
use Rattle.pn_syntax.specs.declared.term.TermNode.TheFolds.{fold-TermNode, fold_out-Term, fold_out-TermNode}
use Rattle.pn_resolve.specs.Standing.{IsSortPart, StandsInSort}
use Rattle.pn_sorts.specs.Order.{offsets_of_sort}
use Rattle.pn_sorts.proofs.OrderLemmas.{Blames, in_written, one_fault, sort_offsets, sorts_in, within_sort}
use Rattle.pn_syntax.specs.declared.sort_expr.SortExpr.{SortExpr}
use Rattle.pn_terms.specs.Order.{offsets_in_layer, offsets_of, sort_offsets_in_layer, sort_offsets_of, HasOrderedSorts, IsOrdered}
use Rattle.pn_terms.specs.Standing.{StandsAlways, StandsWith, StandsAt, StandsIn, SortStandsAt, SortStandsIn}
use Rattle.pn_terms.specs.Terms.{IsPart, itself, inside, Layer, layer_of, parts_in, parts_of}
use Rattle.pn_terms.proofs.SortLemmas.{sorts_agree, always_once, with_once, always_not_with}

-- the offsets of a layer are those of its parts
joined_in : (l : Layer) → offsets_in_layer (map-TermNode TermNode Term (List ℕ) (List ℕ) (fold-TermNode (List ℕ) (List ℕ) offsets_in_layer (λ e. e.at ∷ e.node)) offsets_of l) ≡ flat_map offsets_of (parts_in l)
joined_in (layer.Variable name) = refl
joined_in (layer.UserOp name) = refl
joined_in (layer.Bool truth) = refl
joined_in (layer.Number value sort) = refl
joined_in (layer.RangeConst value start end) = refl
joined_in (layer.Text text) = refl
joined_in (layer.All sort) = refl
joined_in (layer.Empty sort) = refl
joined_in (layer.EmptyList sort) = refl
joined_in (layer.PartitionOf name arg) = sym (append-nil (offsets_of arg))
joined_in (layer.Apply op args) = all_joined offsets_of args

offsets_at : (e : Term) → offsets_of e ≡ e.at ∷ flat_map offsets_of (parts_of e)
offsets_at e =
    fold_out-Term (List ℕ) (List ℕ) offsets_in_layer (λ e. e.at ∷ e.node) e
    ∙ ap (λ ns. e.at ∷ ns) (fold_out-TermNode (List ℕ) (List ℕ) offsets_in_layer (λ e. e.at ∷ e.node) e.node ∙ joined_in (layer_of e))

-- a term in another, as a part within a whole
within : (e x : Term) → IsPart e x → IsWithin parts_of e x
within e x (itself _ _ same) = rising.itself e x same
within e x (inside _ _ p c rest) = rising.inside e x p c (within p x rest)

-- in an ordered term two terms of one offset are one
one_term : (e x y : Term) → IsOrdered e → IsPart e x → IsPart e y → x.at ≡ y.at → x ≡ y
one_term e x y ordered part also = one_place (λ z. z.at) parts_of offsets_of offsets_at e x y ordered (within e x part) (within e y also)

-- a node has one fault
pub one_at : (items : List Declaration) (x : Term) (f g : Fault) → StandsAt items x f → StandsAt items x g → g ≡ f
one_at items x f g (inl h) (inl k) = always_once items (layer_of x) x.at f g h k
one_at items x f g (inl h) (inr (ts, have, k)) = absurd (always_not_with items (layer_of x) ts x.at f g h k)
one_at items x f g (inr (ts, have, h)) (inl k) = absurd (always_not_with items (layer_of x) ts x.at g f k h)
one_at items x f g (inr (ts, have, h)) (inr (us, have', k)) =
    with_once items (layer_of x) us x.at f g (subst (λ vs. StandsWith items (layer_of x) vs x.at f) (sorts_agree items (parts_of x) ts us have have') h) k

-- and it is at its offset
always_at : (items : List Declaration) (l : Layer) (at : ℕ) (f : Fault) → StandsAlways items l at f → f.at ≡ at
always_at items (layer.Variable name) at f h = ap (λ g. g.at) h.1
always_at items (layer.UserOp name) at f h = ap (λ g. g.at) h.1
always_at items (layer.Bool truth) at f h = absurd h
always_at items (layer.Number value sort) at f h = ap (λ g. g.at) h.1
always_at items (layer.RangeConst value start end) at f h = ap (λ g. g.at) h.1
always_at items (layer.Text text) at f h = ap (λ g. g.at) h.1
always_at items (layer.All e) at f (sort, has, large, is) = ap (λ g. g.at) is
always_at items (layer.Empty e) at f h = absurd h
always_at items (layer.EmptyList e) at f h = absurd h
always_at items (layer.PartitionOf name arg) at f h = ap (λ g. g.at) h.1
always_at items (layer.Apply op args) at f h = absurd h

with_at : (items : List Declaration) (l : Layer) (ts : _) (at : ℕ) (f : Fault) → StandsWith items l ts at f → f.at ≡ at
with_at items (layer.PartitionOf name arg) ts at f (p, base, is, has, unfit, told) = ap (λ g. g.at) told
with_at items (layer.Apply op args) ts at f h = ap (λ g. g.at) h.1
with_at items (layer.Variable name) ts at f h = absurd h
with_at items (layer.UserOp name) ts at f h = absurd h
with_at items (layer.Bool truth) ts at f h = absurd h
with_at items (layer.Number value sort) ts at f h = absurd h
with_at items (layer.RangeConst value start end) ts at f h = absurd h
with_at items (layer.Text text) ts at f h = absurd h
with_at items (layer.All e) ts at f h = absurd h
with_at items (layer.Empty e) ts at f h = absurd h
with_at items (layer.EmptyList e) ts at f h = absurd h

stands_at : (items : List Declaration) (x : Term) (f : Fault) → StandsAt items x f → f.at ≡ x.at
stands_at items x f (inl h) = always_at items (layer_of x) x.at f h
stands_at items x f (inr (ts, have, h)) = with_at items (layer_of x) ts x.at f h

pub least_once : (items : List Declaration) (e : Term) (f g : Fault) → IsOrdered e → IsLeastOf (StandsIn items e) (Some f) → IsLeastOf (StandsIn items e) (Some g) → f ≡ g
least_once items e f g ordered ((x, part, h), none_before) ((y, also, k), none_before_too) =
    let same : f.at ≡ g.at = (neither_before f g (none_before_too f (x, part, h)) (none_before g (y, also, k))).0 in
    let place : y ≡ x = one_term e y x ordered also part (sym (stands_at items y g k) ∙ sym same ∙ stands_at items x f h) in
    one_at items x g f (subst (λ z. StandsAt items z g) place k) h

-- the sorts that a layer writes
abbrev sorts_written : Layer → List SortExpr
sorts_written (layer.Variable name) = []
sorts_written (layer.UserOp name) = []
sorts_written (layer.Bool truth) = []
sorts_written (layer.Number value sort) = []
sorts_written (layer.RangeConst value start end) = []
sorts_written (layer.Text text) = []
sorts_written (layer.All sort) = sort ∷ []
sorts_written (layer.Empty sort) = sort ∷ []
sorts_written (layer.EmptyList sort) = sort ∷ []
sorts_written (layer.PartitionOf name arg) = []
sorts_written (layer.Apply op args) = []

abbrev offsets_written : Term → List ℕ
offsets_written e = flat_map offsets_of_sort (sorts_written (layer_of e))

twice_nothing : (ns : List ℕ) → ns ≡ (ns ++ []) ++ []
twice_nothing ns = sym (append-nil ns) ∙ sym (append-nil (ns ++ []))

joined_with : (l : Layer) → sort_offsets_in_layer (map-TermNode TermNode Term (List ℕ) (List ℕ) (fold-TermNode (List ℕ) (List ℕ) sort_offsets_in_layer (λ e. e.node)) sort_offsets_of l) ≡ flat_map offsets_of_sort (sorts_written l) ++ flat_map sort_offsets_of (parts_in l)
joined_with (layer.Variable name) = refl
joined_with (layer.UserOp name) = refl
joined_with (layer.Bool truth) = refl
joined_with (layer.Number value sort) = refl
joined_with (layer.RangeConst value start end) = refl
joined_with (layer.Text text) = refl
joined_with (layer.All sort) = twice_nothing (offsets_of_sort sort)
joined_with (layer.Empty sort) = twice_nothing (offsets_of_sort sort)
joined_with (layer.EmptyList sort) = twice_nothing (offsets_of_sort sort)
joined_with (layer.PartitionOf name arg) = sym (append-nil (sort_offsets_of arg))
joined_with (layer.Apply op args) = all_joined sort_offsets_of args

sort_offsets_are : (e : Term) → sort_offsets_of e ≡ offsets_written e ++ flat_map sort_offsets_of (parts_of e)
sort_offsets_are e =
    fold_out-Term (List ℕ) (List ℕ) sort_offsets_in_layer (λ e. e.node) e
    ∙ fold_out-TermNode (List ℕ) (List ℕ) sort_offsets_in_layer (λ e. e.node) e.node ∙ joined_with (layer_of e)

-- an expression stands in a sort that the term or a term in it writes
record IsWrittenIn (e : Term) (x : SortExpr) : Type 0 where
  owner : Term
  there : IsPart e owner
  sort : SortExpr
  writes : sorts_written (layer_of owner) ≡ sort ∷ []
  part : IsSortPart sort x

sort_written : (items : List Declaration) (l : Layer) (f : Fault) → SortStandsAt items l f → (s : SortExpr) × (sorts_written l ≡ s ∷ []) × StandsInSort items s f
sort_written items (layer.Variable name) f h = absurd h
sort_written items (layer.UserOp name) f h = absurd h
sort_written items (layer.Bool truth) f h = absurd h
sort_written items (layer.Number value sort) f h = absurd h
sort_written items (layer.RangeConst value start end) f h = absurd h
sort_written items (layer.Text text) f h = absurd h
sort_written items (layer.All sort) f h = (sort, refl, h)
sort_written items (layer.Empty sort) f h = (sort, refl, h)
sort_written items (layer.EmptyList sort) f h = (sort, refl, h)
sort_written items (layer.PartitionOf name arg) f h = absurd h
sort_written items (layer.Apply op args) f h = absurd h

module _ (e : Term) (ordered : HasOrderedSorts e) where
  written_offset : (x : SortExpr) (w : IsWrittenIn e x) → Contains (offsets_written w.owner) x.at
  written_offset x w =
      subst (λ ss. Contains (flat_map offsets_of_sort ss) x.at) (sym w.writes)
      (Contains-append_left (offsets_of_sort w.sort) [] x.at (place_offset (λ z. z.at) sorts_in offsets_of_sort sort_offsets w.sort x (within_sort w.sort x w.part)))

  written_rise : (x : SortExpr) (w : IsWrittenIn e x) → Rise (offsets_of_sort w.sort)
  written_rise x w =
      rise_front (offsets_of_sort w.sort) []
      (subst (λ ss. Rise (flat_map offsets_of_sort ss)) w.writes (own_rise offsets_written parts_of sort_offsets_of sort_offsets_are e w.owner ordered (within e w.owner w.there)))

  one_written : (x y : SortExpr) → IsWrittenIn e x → IsWrittenIn e y → x.at ≡ y.at → x ≡ y
  one_written x y w v same =
      let one : w.owner ≡ v.owner = one_owner offsets_written parts_of sort_offsets_of sort_offsets_are e w.owner v.owner x.at ordered (within e w.owner w.there) (within e v.owner v.there)
      (written_offset x w) (subst (Contains (offsets_written v.owner)) (sym same) (written_offset y v)) in
      let both : w.sort ∷ [] ≡ v.sort ∷ [] = sym w.writes ∙ ap (λ z. sorts_written (layer_of z)) one ∙ v.writes in
      let sort : w.sort ≡ v.sort = cc in
      one_place (λ z. z.at) sorts_in offsets_of_sort sort_offsets w.sort x y (written_rise x w) (within_sort w.sort x w.part) (subst (λ z. IsWithin sorts_in z y) (sym sort) (within_sort v.sort y v.part)) same

in_term : (items : List Declaration) (e : Term) (f : Fault) → SortStandsIn items e f → Blames (IsWrittenIn e) (λ d. ⊥) f
in_term items e f (t, there, h) =
    let found = sort_written items (layer_of t) f h in
    in_written items (IsWrittenIn e) (λ d. ⊥) found.2.0 f (record { owner = t; there = there; sort = found.0; writes = found.1; part = found.2.1 }) found.2.2

-- of the faults in the sorts that a term writes
pub least_sort_once : (items : List Declaration) (e : Term) (f g : Fault) → HasOrderedSorts e → IsLeastOf (SortStandsIn items e) (Some f) → IsLeastOf (SortStandsIn items e) (Some g) → f ≡ g
least_sort_once items e f g ordered (stands, none_before) (also, none_before_too) =
    let same = neither_before f g (none_before_too f stands) (none_before g also) in
    one_fault (IsWrittenIn e) (λ d. ⊥) (one_written e ordered) (λ d d' c c' at_is. absurd c) f g (in_term items e f stands) (in_term items e g also) same.0 same.1
