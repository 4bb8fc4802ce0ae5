-- Flows in the order of their tokens, and a merge of two lists of them from the greatest token down.
use Rattle.std.proofs.Common.{◌≡◌, inl, inr, ℕ, zero, suc, ◌+◌, ◌<◌, List, [], ◌∷◌, ◌++◌, length, get_or, reverse, append_assoc, refl, sym, ap, ◌∙◌, subst, arith}
use Rattle.std.specs.declared.cmp.Ordering.{Ordering}
use Rattle.std.specs.declared.cmp.Ordering.TheVariants.{Less, Equal, Greater}
use Rattle.std.proofs.lemmas.List.{reverse-append, length-append, get_or_at}
use Rattle.pn_bag.specs.Counts.{Every, count_in}
use Rattle.pn_bag.proofs.Counting.{count_in_as, less_from_more}
use Rattle.pn_bag.proofs.Everywhere.{every_left, every_at, every_right, every-append}
use Rattle.pn_net.specs.Orders.{token_cmp, tokens_total}
use Rattle.pn_net.proofs.OrderLemmas.{same_tokens}
use Rattle.pn_net.specs.declared.token.Token.{Token}
use Rattle.pn_marking.specs.declared.flows.Flow.{Flow}
use Rattle.pn_marking.specs.declared.flows.Side.{Side}
use Rattle.pn_marking.specs.declared.flows.Side.TheVariants.{Has, Taken, Put}
use Rattle.pn_marking.specs.Flows.{AreInOrder, AreLastsOfOne, IsGreatestOf, IsLastAbove, LosesLast, amount, capped, count_on, join_of, saturated}

pub amount-append : (side : Side) (xs ys : List Flow) (k : Token) → amount side (xs ++ ys) k ≡ amount side xs k + amount side ys k
amount-append side [] ys k = omega arith
amount-append side (x ∷ xs) ys k = omega (arith, amount-append side xs ys k)

pub order_left : (xs ys : List Flow) → AreInOrder (xs ++ ys) → AreInOrder xs
order_left [] ys order = tt
order_left (x ∷ xs) ys order = (every_left (λ f. token_cmp x.token f.token ≡ Less) xs ys order.0, order_left xs ys order.1)

pub order_right : (xs ys : List Flow) → AreInOrder (xs ++ ys) → AreInOrder ys
order_right [] ys order = order
order_right (x ∷ xs) ys order = order_right xs ys order.1

-- the flows before a last one are below it
order_last : (xs : List Flow) (f : Flow) → AreInOrder (xs ++ f ∷ []) → Every (λ x. token_cmp x.token f.token ≡ Less) xs
order_last [] f order = tt
order_last (x ∷ xs) f order =
    let last = every_right (λ g. token_cmp x.token g.token ≡ Less) xs (f ∷ []) order.0 in
    (last.0, order_last xs f order.1)

-- a flow that goes between those below and those above
order_between : (xs ys : List Flow) (f : Flow) → AreInOrder (xs ++ ys) → Every (λ x. token_cmp x.token f.token ≡ Less) xs → Every (λ y. token_cmp f.token y.token ≡ Less) ys → AreInOrder (xs ++ f ∷ ys)
order_between [] ys f order below above = (above, order)
order_between (x ∷ xs) ys f order below above =
    let P : Flow → Type 0 = λ g. token_cmp x.token g.token ≡ Less in
    (every-append P xs (f ∷ ys) (every_left P xs ys order.0) (below.0, every_right P xs ys order.0), order_between xs ys f order.1 below.1 above)

-- a flow of the same token in the place of another
order_renamed : (xs ys : List Flow) (l f : Flow) → l.token ≡ f.token → AreInOrder (xs ++ l ∷ ys) → AreInOrder (xs ++ f ∷ ys)
order_renamed [] ys l f same order = (subst (λ t. Every (λ y. token_cmp t y.token ≡ Less) ys) same order.0, order.1)
order_renamed (x ∷ xs) ys l f same order =
    let P : Flow → Type 0 = λ g. token_cmp x.token g.token ≡ Less in
    let right = every_right P xs (l ∷ ys) order.0 in
    (every-append P xs (f ∷ ys) (every_left P xs (l ∷ ys) order.0) (subst (λ t. token_cmp x.token t ≡ Less) same right.0, right.1), order_renamed xs ys l f same order.1)

abbrev pub Above : Flow → List Flow → Type 0
Above f ys = Every (λ y. token_cmp f.token y.token ≡ Less) ys

-- what is behind a list that loses its last flow is above it
above_of : (old new m : List Flow) (f : Flow) → (last : Flow) → last.token ≡ f.token → old ≡ new ++ last ∷ [] → AreInOrder (old ++ m) → Above f m
above_of old new m f last same is order =
    let whole : AreInOrder (new ++ last ∷ m) = subst AreInOrder (ap (λ l. l ++ m) is ∙ append_assoc new (last ∷ []) m) order in
    let from = order_right new (last ∷ m) whole in
    subst (λ t. Every (λ y. token_cmp t y.token ≡ Less) m) same from.0

loses_order : (old new m : List Flow) (f : Flow) → LosesLast old new f → AreInOrder (old ++ m) → Above f m → AreInOrder (new ++ f ∷ m)
loses_order old new m f (inl same) order above =
    order_between new m f (subst (λ l. AreInOrder (l ++ m)) (sym same.0) order) (subst (Every (λ x. token_cmp x.token f.token ≡ Less)) (sym same.0) same.1) above
loses_order old new m f (inr lost) order above =
    order_renamed new m lost.0 f lost.1 (subst AreInOrder (ap (λ l. l ++ m) lost.2 ∙ append_assoc new (lost.0 ∷ []) m) order)

-- one list gets shorter, so what is behind both is above what is taken
above_both : (left right left' right' m : List Flow) (f : Flow) → LosesLast left left' f → LosesLast right right' f → length left' + length right' < length left + length right → AreInOrder (left ++ m) → AreInOrder (right ++ m) → Above f m
above_both left right left' right' m f (inl same) (inl too) shorter order_of_left order_of_right = absurd (omega (arith, ap length same.0, ap length too.0))
above_both left right left' right' m f (inl same) (inr lost) shorter order_of_left order_of_right = above_of right right' m f lost.0 lost.1 lost.2 order_of_right
above_both left right left' right' m f (inr lost) other shorter order_of_left order_of_right = above_of left left' m f lost.0 lost.1 lost.2 order_of_left

-- what is merged so far
abbrev pub AreMergedSoFar : (first second left right m : List Flow) → Type 0
AreMergedSoFar first second left right m = AreInOrder (left ++ m) × AreInOrder (right ++ m)
    × ((side : Side) (k : Token) → capped (amount side first k + amount side second k) ≡ capped (amount side left k + amount side right k + amount side m k))

pub merged_next : (first second left right left' right' all all' : List Flow) (f : Flow)
    → AreMergedSoFar first second left right (reverse all)
    → IsGreatestOf left right left' right' f → length left' + length right' < length left + length right → all' ≡ all ++ f ∷ []
    → AreMergedSoFar first second left' right' (reverse all')
merged_next first second left right left' right' all all' f so_far greatest shorter is =
    let above = above_both left right left' right' (reverse all) f greatest.of_left greatest.of_right shorter so_far.0 so_far.1 in
    let behind : f ∷ reverse all ≡ reverse all' = sym (ap reverse is ∙ reverse-append all (f ∷ [])) in
    subst (AreMergedSoFar first second left' right') behind (
      loses_order left left' (reverse all) f greatest.of_left so_far.0 above,
      loses_order right right' (reverse all) f greatest.of_right so_far.1 above,
      λ side k. omega (arith, so_far.2 side k, greatest.counts side k),
    )

amount_of_last : (side : Side) (old new : List Flow) (last : Flow) (k : Token) → old ≡ new ++ last ∷ [] → amount side old k ≡ amount side new k + count_in token_cmp (last.token, count_on side last) k
amount_of_last side old new last k is = omega (arith, ap (λ l. amount side l k) is, amount-append side new (last ∷ []) k)

-- the last flow of one list, which is above the other
pub takes_right : (left right left' right' : List Flow) (last : Flow) → left' ≡ left → right ≡ right' ++ last ∷ [] → IsLastAbove right left → IsGreatestOf left right left' right' last
takes_right left right left' right' last same is above = record {
  of_left = inl (same, above.1 right' last is);
  of_right = inr (last, refl, is);
  counts = λ side k. ap capped {x = amount side left k + amount side right k} (omega (arith, ap (λ l. amount side l k) same, amount_of_last side right right' last k is));
}

pub takes_left : (left right left' right' : List Flow) (last : Flow) → left ≡ left' ++ last ∷ [] → right' ≡ right → IsLastAbove left right → IsGreatestOf left right left' right' last
takes_left left right left' right' last is same above = record {
  of_left = inr (last, refl, is);
  of_right = inl (same, above.1 left' last is);
  counts = λ side k. ap capped {x = amount side left k + amount side right k} (omega (arith, ap (λ l. amount side l k) same, amount_of_last side left left' last k is));
}

joined_counts : (side : Side) (one two : Flow) → count_on side (join_of one two) ≡ saturated (count_on side one + count_on side two)
joined_counts Has one two = refl
joined_counts Taken one two = refl
joined_counts Put one two = refl

count_in_join : (side : Side) (one two : Flow) (k : Token) → one.token ≡ two.token
    → capped (count_in token_cmp (one.token, count_on side one) k + count_in token_cmp (two.token, count_on side two) k) ≡ capped (count_in token_cmp (one.token, count_on side (join_of one two)) k)
count_in_join side one two k same = step (token_cmp k one.token) refl
  where
    step : (o : Ordering) → token_cmp k one.token ≡ o
        → capped (count_in token_cmp (one.token, count_on side one) k + count_in token_cmp (two.token, count_on side two) k) ≡ capped (count_in token_cmp (one.token, count_on side (join_of one two)) k)
    step Less as_o = omega (arith, count_in_as token_cmp (one.token, count_on side one) k Less as_o, count_in_as token_cmp (two.token, count_on side two) k Less (subst (λ t. token_cmp k t ≡ Less) same as_o), count_in_as token_cmp (one.token, count_on side (join_of one two)) k Less as_o)
    step Equal as_o = omega (arith, joined_counts side one two, count_in_as token_cmp (one.token, count_on side one) k Equal as_o, count_in_as token_cmp (two.token, count_on side two) k Equal (subst (λ t. token_cmp k t ≡ Equal) same as_o), count_in_as token_cmp (one.token, count_on side (join_of one two)) k Equal as_o)
    step Greater as_o = omega (arith, count_in_as token_cmp (one.token, count_on side one) k Greater as_o, count_in_as token_cmp (two.token, count_on side two) k Greater (subst (λ t. token_cmp k t ≡ Greater) same as_o), count_in_as token_cmp (one.token, count_on side (join_of one two)) k Greater as_o)

pub takes_both : (left right left' right' : List Flow) (one two : Flow) → left ≡ left' ++ one ∷ [] → right ≡ right' ++ two ∷ [] → AreLastsOfOne left right → IsGreatestOf left right left' right' (join_of one two)
takes_both left right left' right' one two is_left is_right lasts =
    let same : one.token ≡ two.token = lasts.2 left' right' one two is_left is_right in
    record {
      of_left = inr (one, refl, is_left);
      of_right = inr (two, sym same, is_right);
      counts = λ side k. omega (arith, amount_of_last side left left' one k is_left, amount_of_last side right right' two k is_right, count_in_join side one two k same);
    }

-- a last flow, as it is read by its index
last_read : (xs front : List Flow) (x last : Flow) (n : ℕ) → xs ≡ front ++ last ∷ [] → n + 1 ≡ length xs → x ≡ get_or xs n x → x ≡ last
last_read xs front x last n is count read =
    let here : length front ≡ n = omega (arith, count, ap length is, length-append front (last ∷ [])) in
    read ∙ ap (λ l. get_or l n x) is ∙ get_or_at front last [] x n here

-- where the last flow is below a token, all are
all_below : (xs : List Flow) (n : ℕ) (d : Flow) (top : Token) → AreInOrder xs → n + 1 ≡ length xs → token_cmp (get_or xs n d).token top ≡ Less → Every (λ x. token_cmp x.token top ≡ Less) xs
all_below [] n d top order count less = tt
all_below (x ∷ []) zero d top order count less = (less, tt)
all_below (x ∷ []) (suc n) d top order count less = absurd (omega arith)
all_below (x ∷ y ∷ ys) zero d top order count less = absurd (omega arith)
all_below (x ∷ y ∷ ys) (suc n) d top order count less =
    let last = every_at (λ f. token_cmp x.token f.token ≡ Less) (y ∷ ys) n d (omega arith) order.0 in
    (tokens_total.trans x.token (get_or (y ∷ ys) n d).token top last less, all_below (y ∷ ys) n d top order.1 (omega arith) less)

-- how two last flows compare, as they are read by their indices
module _ (left right : List Flow) (n m : ℕ) (x y : Flow) (count_left : n + 1 ≡ length left) (count_right : m + 1 ≡ length right) (read_left : x ≡ get_or left n x) (read_right : y ≡ get_or right m y) where
  pub lasts_less : AreInOrder left → token_cmp x.token y.token ≡ Less → IsLastAbove right left
  lasts_less order less = (
    omega arith,
    λ front last is.
        all_below left n x last.token order count_left (subst (λ z. token_cmp z.token last.token ≡ Less) read_left (subst (λ z. token_cmp x.token z.token ≡ Less) (last_read right front y last m is count_right read_right) less)),
  )

  pub lasts_more : AreInOrder right → token_cmp x.token y.token ≡ Greater → IsLastAbove left right
  lasts_more order more = (
    omega arith,
    λ front last is.
        let less : token_cmp y.token x.token ≡ Less = less_from_more tokens_total x.token y.token more in
        all_below right m y last.token order count_right (subst (λ z. token_cmp z.token last.token ≡ Less) read_right (subst (λ z. token_cmp y.token z.token ≡ Less) (last_read left front x last n is count_left read_left) less)),
  )

  pub lasts_one : token_cmp x.token y.token ≡ Equal → AreLastsOfOne left right
  lasts_one equal = (
    omega arith,
    omega arith,
    λ front before one two is_left is_right.
        ap (λ z. z.token) (sym (last_read left front x one n is_left count_left read_left)) ∙ (same_tokens x.token y.token).0 equal ∙ ap (λ z. z.token) (last_read right before y two m is_right count_right read_right),
  )
