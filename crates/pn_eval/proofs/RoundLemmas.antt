-- The number at which operators go round.
use Rattle.std.proofs.Common.{◌≡◌, ◌≢◌, ◌<◌, ◌^◌, min, ℕ, suc, List, [], ◌∷◌, Bool, true, false, ◌&&◌, length, get_or, nat_le, cond, Option, Some, None, refl, sym, ap, ◌∙◌, subst, arith}
use Rattle.std.proofs.lemmas.Bool.{false≢true}
use Rattle.std.proofs.lemmas.Bool.Decides.{nat_tests}
use Rattle.pn_carriers.specs.Carriers.{carrier, is_finite}
use Rattle.pn_carriers.specs.Sizes.{capped_size, size_of}
use Rattle.pn_carriers.proofs.LayerLemmas.{finite-enumeration}
use Rattle.pn_facts.proofs.Truths.{and_left}
use Rattle.pn_names.specs.Names.{widths_of}
use Rattle.pn_operators.specs.declared.op.Op.{Op}
use Rattle.pn_operators.specs.declared.op.Op.TheVariants as op
use Rattle.pn_operators.specs.Operators.{most_of}
use Rattle.pn_partitions.proofs.BaseLemmas.{enumeration_is}
use Rattle.pn_syntax.specs.declared.declaration.Declaration.{Declaration}
use Rattle.pn_syntax.specs.declared.term.Term.{Term}
use Rattle.pn_terms.specs.Rows.{Fits, Suit, at_most, first_of, is_round, is_round_layer}
use Rattle.pn_terms.specs.Sorts.{HasSort, HaveSorts, is_few, is_small, none, more}
use Rattle.pn_terms.specs.Terms.{layer_of, parts_of}
use Rattle.pn_terms.specs.declared.term_sort.TermSort.{TermSort}
use Rattle.pn_terms.specs.declared.term_sort.TermSort.TheVariants as terms
use Rattle.pn_terms.proofs.SortLemmas.{bag_is_no_basis, same_basis, sort_once}
use Rattle.pn_values.specs.declared.sort.Size.TheVariants as sizes
use Rattle.pn_values.specs.declared.sort.Sort.{Sort}
use Rattle.pn_values.specs.declared.sort.Sort.TheOpen as layer
use Rattle.pn_values.specs.declared.sort.Sort.TheViews.{out-Sort}
use Rattle.pn_eval.specs.Values.{GoesRound, IsRound, IsRoundFor}

few_finite : (b : Bool) (n : ℕ) → is_few (cond b (Some n) None) ≡ true → b ≡ true
few_finite true n h = refl
few_finite false n h = absurd (false≢true h)

-- a small sort is finite
pub small_finite : (items : List Declaration) (sort : Sort) → is_small items sort ≡ true → is_finite sort ≡ true
small_finite items sort small = few_finite (is_finite sort) (length (carrier (widths_of items) sort)) small

round_at : (items : List Declaration) (s : Sort) (l : layer.Sort-F Sort) → out-Sort s ≡ l → is_round_layer items l ≡ true → is_finite s ≡ true
round_at items s (layer.Enumeration n) is h = ap is_finite (enumeration_is s n is) ∙ finite-enumeration n
round_at items s layer.Dot is h = absurd (false≢true h)
round_at items s layer.Bool is h = absurd (false≢true h)
round_at items s (layer.Partition n) is h = absurd (false≢true h)
round_at items s (layer.Range start end) is h = absurd (false≢true h)
round_at items s (layer.Product parts) is h = absurd (false≢true h)
round_at items s layer.Integer is h = absurd (false≢true h)
round_at items s layer.Natural is h = absurd (false≢true h)
round_at items s layer.Positive is h = absurd (false≢true h)
round_at items s layer.Text is h = absurd (false≢true h)
round_at items s (layer.List item) is h = absurd (false≢true h)

-- a cyclic enumeration is finite
pub round_finite : (items : List Declaration) (s : Sort) → is_round items s ≡ true → is_finite s ≡ true
round_finite items s h = round_at items s (out-Sort s) refl h

pub round_basis : (items : List Declaration) (e : Term) (sort : Sort) → (s : Sort) × HasSort items e (terms.Basis s) × (is_round items s ≡ true) → HasSort items e (terms.Basis sort) → is_finite sort ≡ true
round_basis items e sort (s, has, goes) h = round_finite items sort (subst (λ t. is_round items t ≡ true) (same_basis s sort (sort_once items e (terms.Basis s) (terms.Basis sort) has h)) goes)

-- the first of the sorts that fit an operator that goes round is that of a cyclic enumeration
round_first : (items : List Declaration) (t : TermSort) (ts : List TermSort) → Suit items op.Successor (t ∷ ts) → (s : Sort) × (t ≡ terms.Basis s) × (is_round items s ≡ true)
round_first items (terms.Basis s) ts suit = (s, refl, and_left (is_round items s) _ suit)
round_first items (terms.Bag s) ts suit = absurd (false≢true suit)

-- the first argument of such an operator, and its sort
pub record FirstRound (items : List Declaration) (args : List Term) (ts : List TermSort) : Type 0 where
  pub some : 0 < length args
  pub arg : Term
  pub is_first : (x : Term) → x ≡ get_or args 0 x → arg ≡ x
  pub sort : Sort
  pub same : first_of ts ≡ terms.Basis sort
  pub has : HasSort items arg (terms.Basis sort)
  pub goes : is_round items sort ≡ true

first_args : (items : List Declaration) (args : List Term) (ts : List TermSort) → HaveSorts items args ts → nat_le 1 (length ts) ≡ true → Suit items op.Successor ts → FirstRound items args ts
first_args items args ts (none _ _ is_es is_ss) one suit = absurd (false≢true (subst (λ xs. nat_le 1 (length xs) ≡ true) is_ss one))
first_args items args ts (more _ _ e rest s others us is_es is_ss parts gives have) one suit =
    let first = round_first items s others (subst (Suit items op.Successor) is_ss suit) in
    record {
      some = subst (λ xs. 0 < length xs) (sym is_es) (omega arith);
      arg = e;
      is_first = λ x is. sym (is ∙ ap (λ xs. get_or xs 0 x) is_es);
      sort = first.0;
      same = ap first_of is_ss ∙ first.1;
      has = subst (HasSort items e) first.1 (us, parts, gives);
      goes = first.2;
    }

pub successor_first : (items : List Declaration) (o : Op) (args : List Term) → o ≡ op.Successor → (h : (ts : List TermSort) × HaveSorts items args ts × Fits items o ts) → FirstRound items args h.0
successor_first items o args is (ts, have, fits) =
    let fit = subst (λ x. Fits items x ts) is fits in
    first_args items args ts have (and_left (nat_le 1 (length ts)) (at_most (length ts) (most_of op.Successor)) fit.number) fit.suit

pub predecessor_first : (items : List Declaration) (o : Op) (args : List Term) → o ≡ op.Predecessor → (h : (ts : List TermSort) × HaveSorts items args ts × Fits items o ts) → FirstRound items args h.0
predecessor_first items o args is (ts, have, fits) =
    let fit = subst (λ x. Fits items x ts) is fits in
    first_args items args ts have (and_left (nat_le 1 (length ts)) (at_most (length ts) (most_of op.Predecessor)) fit.number) fit.suit

same_round : (items : List Declaration) (args : List Term) (ts : List TermSort) (x : Term) (round : ℕ) → FirstRound items args ts → x ≡ get_or args 0 x → (s : TermSort) × HasSort items x s × IsRound items s round → IsRound items (first_of ts) round
same_round items args ts x round first is (s, has, goes) =
    subst (λ t. IsRound items t round) (sort_once items first.arg s (terms.Basis first.sort) (subst (λ y. HasSort items y s) (sym (first.is_first x is)) has) first.has ∙ sym first.same) goes

pub successor_round : (items : List Declaration) (o : Op) (args : List Term) (x : Term) (round : ℕ) → o ≡ op.Successor → (h : (ts : List TermSort) × HaveSorts items args ts × Fits items o ts) → x ≡ get_or args 0 x → (s : TermSort) × HasSort items x s × IsRound items s round → GoesRound items o args round
successor_round items o args x round is (ts, have, fits) first goes =
    (ts, have, subst (λ p. IsRoundFor items p (first_of ts) round) (sym is) (same_round items args ts x round (successor_first items o args is (ts, have, fits)) first goes))

pub predecessor_round : (items : List Declaration) (o : Op) (args : List Term) (x : Term) (round : ℕ) → o ≡ op.Predecessor → (h : (ts : List TermSort) × HaveSorts items args ts × Fits items o ts) → x ≡ get_or args 0 x → (s : TermSort) × HasSort items x s × IsRound items s round → GoesRound items o args round
predecessor_round items o args x round is (ts, have, fits) first goes =
    (ts, have, subst (λ p. IsRoundFor items p (first_of ts) round) (sym is) (same_round items args ts x round (predecessor_first items o args is (ts, have, fits)) first goes))
