-- Terms that are equal but for offsets have parts alike, and faults alike in the sorts that they write.
use Rattle.std.proofs.Common.{◌≡◌, ℕ, List, map, codes, refl, sym, ap, ◌∙◌, subst}
use Rattle.pn_faults.specs.declared.fault.Fault.{Fault}
use Rattle.pn_faults.specs.Order.{fault_at}
use Rattle.pn_faults.specs.declared.reason.Reason.TheVariants as reasons
use Rattle.pn_net.proofs.AlikeLemmas.{alike_contains, sort_alike}
use Rattle.pn_net.specs.Typing.{HasEmptyConstantRange}
use Rattle.pn_round_trip.proofs.OffsetLemmas.{bare_term_layer}
use Rattle.pn_round_trip.proofs.TermLemmas.{bare_term_at}
use Rattle.pn_syntax.specs.Offsets.{declaration_without_offsets, sort_without_offsets}
use Rattle.pn_syntax.specs.TermOffsets.{term_without_offsets}
use Rattle.pn_syntax.specs.declared.declaration.Declaration.{Declaration}
use Rattle.pn_syntax.specs.declared.sort_expr.SortExpr.{SortExpr}
use Rattle.pn_syntax.specs.declared.term.Term.{Term}
use Rattle.pn_syntax.specs.declared.term.TermNode.TheOpen as layer
use Rattle.pn_syntax.specs.declared.term.TermNode.TheVariants as nodes
use Rattle.pn_syntax.specs.declared.term.TermNode.TheVariants.{rolls-RangeConst, rolls-Variable}
use Rattle.pn_syntax.specs.declared.term.TermNode.TheViews.{out-roll-TermNode, roll-TermNode, roll-out-TermNode}
use Rattle.pn_terms.proofs.OffsetLemmas.{parts_alike}
use Rattle.pn_terms.proofs.TermLemmas.{out_range, out_variable}
use Rattle.pn_terms.specs.Standing.{SortStandsAt, SortStandsIn}
use Rattle.pn_terms.specs.Terms.{IsPart, Layer, inside, itself, layer_of, parts_in, parts_of}

-- what the layer is, by what it is without offsets
abbrev pub TellsTermLayer : Layer → Layer → Type 0
TellsTermLayer (layer.Variable name) l = l ≡ layer.Variable name
TellsTermLayer (layer.UserOp name) l = l ≡ layer.UserOp name
TellsTermLayer (layer.Bool truth) l = l ≡ layer.Bool truth
TellsTermLayer (layer.Number value sort) l = l ≡ layer.Number value sort
TellsTermLayer (layer.RangeConst value start end) l = l ≡ layer.RangeConst value start end
TellsTermLayer (layer.Text text) l = l ≡ layer.Text text
TellsTermLayer (layer.All bare) l = (e : SortExpr) × (l ≡ layer.All e) × (bare ≡ sort_without_offsets e)
TellsTermLayer (layer.Empty bare) l = (e : SortExpr) × (l ≡ layer.Empty e) × (bare ≡ sort_without_offsets e)
TellsTermLayer (layer.EmptyList bare) l = (e : SortExpr) × (l ≡ layer.EmptyList e) × (bare ≡ sort_without_offsets e)
TellsTermLayer (layer.PartitionOf name bare) l = (arg : Term) × (l ≡ layer.PartitionOf name arg) × (bare ≡ term_without_offsets arg)
TellsTermLayer (layer.Apply op bare) l = (args : List Term) × (l ≡ layer.Apply op args) × (bare ≡ map term_without_offsets args)

tells : (l : Layer) → TellsTermLayer (bare_term_layer l) l
tells (layer.Variable name) = refl
tells (layer.UserOp name) = refl
tells (layer.Bool truth) = refl
tells (layer.Number value sort) = refl
tells (layer.RangeConst value start end) = refl
tells (layer.Text text) = refl
tells (layer.All e) = (e, refl, refl)
tells (layer.Empty e) = (e, refl, refl)
tells (layer.EmptyList e) = (e, refl, refl)
tells (layer.PartitionOf name arg) = (arg, refl, refl)
tells (layer.Apply op args) = (args, refl, refl)

layer_bare : (e : Term) → layer_of (term_without_offsets e) ≡ bare_term_layer (layer_of e)
layer_bare e = ap layer_of (bare_term_at e (layer_of e) (roll-out-TermNode e.node)) ∙ out-roll-TermNode (bare_term_layer (layer_of e))

-- what a term is, by another that is equal but for offsets
pub told : (e other : Term) (l : Layer) → term_without_offsets e ≡ term_without_offsets other → layer_of e ≡ l → TellsTermLayer (bare_term_layer l) (layer_of other)
told e other l same is = subst (λ b. TellsTermLayer b (layer_of other)) (sym (layer_bare other) ∙ ap layer_of (sym same) ∙ layer_bare e ∙ ap bare_term_layer is) (tells (layer_of other))

pub part_alike : (e x : Term) → IsPart e x → (other : Term) → term_without_offsets e ≡ term_without_offsets other → (y : Term) × IsPart other y × (term_without_offsets x ≡ term_without_offsets y)
part_alike e x (itself _ _ is) other same = (other, itself other other refl, ap term_without_offsets is ∙ same)
part_alike e x (inside _ _ p has more) other same =
    let one = alike_contains term_without_offsets (parts_of e) (parts_of other) p (parts_alike e other same) has in
    let rest = part_alike p x more one.0 one.2 in
    (rest.0, inside other rest.0 one.0 one.1 rest.1, rest.2)

node_is : (e : Term) (l : Layer) → layer_of e ≡ l → e.node ≡ roll-TermNode l
node_is e l is = sym (roll-out-TermNode e.node) ∙ ap roll-TermNode is

-- a variable stands where one stands in the other
pub variable_alike : (e other : Term) (name : List ℕ) → term_without_offsets e ≡ term_without_offsets other → e.node ≡ nodes.Variable name → other.node ≡ nodes.Variable name
variable_alike e other name same is = node_is other (layer.Variable name) (told e other (layer.Variable name) same (out_variable e.node name is)) ∙ rolls-Variable name

module _ (items others : List Declaration) (same : map declaration_without_offsets items ≡ map declaration_without_offsets others) where
  sort_stands : (l m : Layer) → TellsTermLayer (bare_term_layer l) m → (f : Fault) → SortStandsAt items l f → (g : Fault) × SortStandsAt others m g
  sort_stands (layer.Variable name) m is f stands = absurd stands
  sort_stands (layer.UserOp name) m is f stands = absurd stands
  sort_stands (layer.Bool truth) m is f stands = absurd stands
  sort_stands (layer.Number value sort) m is f stands = absurd stands
  sort_stands (layer.RangeConst value start end) m is f stands = absurd stands
  sort_stands (layer.Text text) m is f stands = absurd stands
  sort_stands (layer.All e) m (x, is, alike) f stands = let g = sort_alike items others same e x f alike stands in (g.0, subst (λ k. SortStandsAt others k g.0) (sym is) g.1)
  sort_stands (layer.Empty e) m (x, is, alike) f stands = let g = sort_alike items others same e x f alike stands in (g.0, subst (λ k. SortStandsAt others k g.0) (sym is) g.1)
  sort_stands (layer.EmptyList e) m (x, is, alike) f stands = let g = sort_alike items others same e x f alike stands in (g.0, subst (λ k. SortStandsAt others k g.0) (sym is) g.1)
  sort_stands (layer.PartitionOf name arg) m is f stands = absurd stands
  sort_stands (layer.Apply op args) m is f stands = absurd stands

  -- where a sort that a term writes has a fault, so has one of the other
  pub sorts_alike : (e other : Term) → term_without_offsets e ≡ term_without_offsets other → (f : Fault) → SortStandsIn items e f → (g : Fault) × SortStandsIn others other g
  sorts_alike e other alike f (x, part, stands) =
      let there = part_alike e x part other alike in
      let fault = sort_stands (layer_of x) (layer_of there.0) (told x there.0 (layer_of x) there.2 refl) f stands in
      (fault.0, (there.0, there.1, fault.1))

-- an empty range of a constant stands where one stands in the other
pub empty_range_alike : (e other : Term) → term_without_offsets e ≡ term_without_offsets other → (f : Fault) → HasEmptyConstantRange e f → (g : Fault) × HasEmptyConstantRange other g
empty_range_alike e other same f h =
    let there = part_alike e h.constant h.is_part other same in (
      fault_at reasons.EmptyRange there.0.at (codes "finiteintrange"),
      record {
        constant = there.0;
        is_part = there.1;
        value = h.value;
        start = h.start;
        end = h.end;
        is_range = node_is there.0 (layer.RangeConst h.value h.start h.end) (told h.constant there.0 (layer.RangeConst h.value h.start h.end) there.2 (out_range h.constant.node h.value h.start h.end h.is_range)) ∙ rolls-RangeConst h.value h.start h.end;
        is_empty = h.is_empty;
        is = refl;
      },
    )
