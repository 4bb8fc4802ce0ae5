-- What modes take and put, as flows: of one mode, and of two parts of a multiset of modes.
use Rattle.std.proofs.Common.{◌≡◌, ℕ, ◌+◌, ◌*◌, List, [], ◌∷◌, ◌++◌, map, refl, sym, ap, ◌∙◌, subst, arith}
use Rattle.std.specs.List.{AllZip}
use Rattle.std.proofs.lemmas.List.{map-append}
use Rattle.std.specs.declared.cmp.Ordering.{Ordering}
use Rattle.std.specs.declared.cmp.Ordering.TheVariants.{Less, Equal, Greater}
use Rattle.pn_bag.specs.Bag.{IsBag}
use Rattle.pn_bag.specs.Counts.{Every, IsRising, count_in, count_of}
use Rattle.pn_bag.specs.declared.TheConstants.{MAX_COUNT}
use Rattle.pn_bag.proofs.Counting.{count_in_as}
use Rattle.pn_bag.proofs.Everywhere.{every_left, every_right}
use Rattle.pn_bag.proofs.Walking.{count_bound}
use Rattle.pn_net.specs.Orders.{token_cmp, tokens_total}
use Rattle.pn_net.specs.declared.flat.Flat.{Flat}
use Rattle.pn_net.specs.declared.mode.Mode.{Mode}
use Rattle.pn_net.specs.declared.token.Token.{Token}
use Rattle.pn_marking.specs.declared.flows.Flow.{Flow}
use Rattle.pn_marking.specs.declared.flows.Side.{Side}
use Rattle.pn_marking.specs.declared.flows.Side.TheVariants.{Has, Taken, Put}
use Rattle.pn_marking.specs.Flows.{AreInOrder, AreMerged, AreTokens, amount, capped, count_on, flow_of, saturated}
use Rattle.pn_marking.specs.Modes.{IsPost, IsPre}
use Rattle.pn_marking.specs.Moves.{AreMoves, ArePutBy, AreStepFlows, AreTakenBy, moved}
use Rattle.pn_marking.specs.Steps.{sum_of}

flow_token : (side : Side) (t : Token) (n : ℕ) → (flow_of side t n).token ≡ t
flow_token Has t n = refl
flow_token Taken t n = refl
flow_token Put t n = refl

abbrev pub tokens_on : Side → ℕ → List (Token × ℕ) → List Flow
tokens_on side times tokens = map (λ entry. flow_of side entry.0 (saturated (times * entry.1))) tokens

above_tokens : (side : Side) (times : ℕ) (t : Token) (tokens : List (Token × ℕ)) → Every (λ e. token_cmp t e.0 ≡ Less) tokens → Every (λ f. token_cmp t f.token ≡ Less) (tokens_on side times tokens)
above_tokens side times t [] above = tt
above_tokens side times t (e ∷ rest) above = (subst (λ u. token_cmp t u ≡ Less) (sym (flow_token side e.0 (saturated (times * e.1)))) above.0, above_tokens side times t rest above.1)

-- the flows of a multiset are in order
pub order_of_tokens : (side : Side) (times : ℕ) (tokens : List (Token × ℕ)) → IsRising token_cmp tokens → AreInOrder (tokens_on side times tokens)
order_of_tokens side times [] rising = tt
order_of_tokens side times (e ∷ rest) rising = (
  subst (λ u. Every (λ f. token_cmp u f.token ≡ Less) (tokens_on side times rest)) (sym (flow_token side e.0 (saturated (times * e.1)))) (above_tokens side times e.0 rest rising.0),
  order_of_tokens side times rest rising.1,
)

times_sum : (n a b : ℕ) → n * (a + b) ≡ n * a + n * b
times_sum n a b = grind arith

times_count : (times : ℕ) (e : Token × ℕ) (k : Token) → capped (count_in token_cmp (e.0, saturated (times * e.1)) k) ≡ capped (times * count_in token_cmp e k)
times_count times e k = step (token_cmp k e.0) refl
  where
    step : (o : Ordering) → token_cmp k e.0 ≡ o → capped (count_in token_cmp (e.0, saturated (times * e.1)) k) ≡ capped (times * count_in token_cmp e k)
    step Less as_o = omega (arith, count_in_as token_cmp (e.0, saturated (times * e.1)) k Less as_o, ap (λ n. times * n) (count_in_as token_cmp e k Less as_o))
    step Equal as_o = omega (arith, count_in_as token_cmp (e.0, saturated (times * e.1)) k Equal as_o, ap (λ n. times * n) (count_in_as token_cmp e k Equal as_o))
    step Greater as_o = omega (arith, count_in_as token_cmp (e.0, saturated (times * e.1)) k Greater as_o, ap (λ n. times * n) (count_in_as token_cmp e k Greater as_o))

-- on their own side the flows of a multiset have its counts, so many times
amount_same : (side : Side) (times : ℕ) → ((t : Token) (n : ℕ) → count_on side (flow_of side t n) ≡ n) → (tokens : List (Token × ℕ)) (k : Token)
    → capped (amount side (tokens_on side times tokens) k) ≡ capped (times * count_of token_cmp tokens k)
amount_same side times same [] k = omega arith
amount_same side times same (e ∷ rest) k =
    let flow = flow_of side e.0 (saturated (times * e.1)) in
    let first : count_in token_cmp (flow.token, count_on side flow) k ≡ count_in token_cmp (e.0, saturated (times * e.1)) k =
    ap (λ t. count_in token_cmp (t, count_on side flow) k) (flow_token side e.0 (saturated (times * e.1))) ∙ ap (λ n. count_in token_cmp (e.0, n) k) (same e.0 (saturated (times * e.1))) in
    omega (arith, first, times_count times e k, amount_same side times same rest k, times_sum times (count_in token_cmp e k) (count_of token_cmp rest k))

count_in_nothing : (t k : Token) → count_in token_cmp (t, 0) k ≡ 0
count_in_nothing t k = step (token_cmp k t) refl
  where
    step : (o : Ordering) → token_cmp k t ≡ o → count_in token_cmp (t, 0) k ≡ 0
    step Less as_o = count_in_as token_cmp (t, 0) k Less as_o
    step Equal as_o = count_in_as token_cmp (t, 0) k Equal as_o
    step Greater as_o = count_in_as token_cmp (t, 0) k Greater as_o

-- on another side they have nothing
amount_none : (side other : Side) (times : ℕ) → ((t : Token) (n : ℕ) → count_on other (flow_of side t n) ≡ 0) → (tokens : List (Token × ℕ)) (k : Token) → amount other (tokens_on side times tokens) k ≡ 0
amount_none side other times none [] k = refl
amount_none side other times none (e ∷ rest) k =
    let flow = flow_of side e.0 (saturated (times * e.1)) in
    let first : count_in token_cmp (flow.token, count_on other flow) k ≡ count_in token_cmp (flow.token, 0) k = ap (λ n. count_in token_cmp (flow.token, n) k) (none e.0 (saturated (times * e.1))) in
    omega (arith, first, count_in_nothing flow.token k, amount_none side other times none rest k)

pub taken_amount : (times : ℕ) (tokens : List (Token × ℕ)) (flows : List Flow) (k : Token) → AreTokens Taken times tokens flows
    → (amount Has flows k ≡ 0) × (capped (amount Taken flows k) ≡ capped (times * count_of token_cmp tokens k)) × (amount Put flows k ≡ 0)
taken_amount times tokens flows k is =
    subst (λ fs. (amount Has fs k ≡ 0) × (capped (amount Taken fs k) ≡ capped (times * count_of token_cmp tokens k)) × (amount Put fs k ≡ 0)) (sym is)
    (amount_none Taken Has times (λ t n. refl) tokens k, amount_same Taken times (λ t n. refl) tokens k, amount_none Taken Put times (λ t n. refl) tokens k)

pub put_amount : (times : ℕ) (tokens : List (Token × ℕ)) (flows : List Flow) (k : Token) → AreTokens Put times tokens flows
    → (amount Has flows k ≡ 0) × (amount Taken flows k ≡ 0) × (capped (amount Put flows k) ≡ capped (times * count_of token_cmp tokens k))
put_amount times tokens flows k is =
    subst (λ fs. (amount Has fs k ≡ 0) × (amount Taken fs k ≡ 0) × (capped (amount Put fs k) ≡ capped (times * count_of token_cmp tokens k))) (sym is)
    (amount_none Put Has times (λ t n. refl) tokens k, amount_none Put Taken times (λ t n. refl) tokens k, amount_same Put times (λ t n. refl) tokens k)

pub has_amount : (times : ℕ) (tokens : List (Token × ℕ)) (flows : List Flow) (k : Token) → AreTokens Has times tokens flows
    → (capped (amount Has flows k) ≡ capped (times * count_of token_cmp tokens k)) × (amount Taken flows k ≡ 0) × (amount Put flows k ≡ 0)
has_amount times tokens flows k is =
    subst (λ fs. (capped (amount Has fs k) ≡ capped (times * count_of token_cmp tokens k)) × (amount Taken fs k ≡ 0) × (amount Put fs k ≡ 0)) (sym is)
    (amount_same Has times (λ t n. refl) tokens k, amount_none Has Taken times (λ t n. refl) tokens k, amount_none Has Put times (λ t n. refl) tokens k)

-- of no mode
pub moves_none : (f : Flat) → AreMoves f [] []
moves_none f = ([], [], record { takes_are = tt; puts_are = tt; order = tt; counts = none })
  where
    none : (side : Side) (k : Token) → capped (amount side [] k) ≡ capped (moved side [] [] [] k)
    none Has k = refl
    none Taken k = refl
    none Put k = refl

-- of one mode
pub moves_one : (f : Flat) (mode : Mode) (count : ℕ) (taken put all : List Flow) → AreTakenBy f mode count taken → ArePutBy f mode count put → AreMerged taken put all → AreMoves f ((mode, count) ∷ []) all
moves_one f mode count taken put all takes puts merged =
    (takes.1.0 ∷ [], puts.1.0 ∷ [], record { takes_are = (takes.1.1, tt); puts_are = (puts.1.1, tt); order = merged.order; counts = counts })
  where
    counts : (side : Side) (k : Token) → capped (amount side all k) ≡ capped (moved side ((mode, count) ∷ []) (takes.1.0 ∷ []) (puts.1.0 ∷ []) k)
    counts Has k = let t = taken_amount count takes.1.0 taken k takes.1.2 in let p = put_amount count puts.1.0 put k puts.1.2 in omega (arith, merged.counts Has k, t.0, p.0)
    counts Taken k = let t = taken_amount count takes.1.0 taken k takes.1.2 in let p = put_amount count puts.1.0 put k puts.1.2 in omega (arith, merged.counts Taken k, t.1, p.1)
    counts Put k = let t = taken_amount count takes.1.0 taken k takes.1.2 in let p = put_amount count puts.1.0 put k puts.1.2 in omega (arith, merged.counts Put k, t.2, p.2)

zip_append : {A B : Type 0} (R : A → B → Type 0) (xs ys : List A) (us vs : List B) → AllZip R xs us → AllZip R ys vs → AllZip R (xs ++ ys) (us ++ vs)
zip_append R [] ys [] vs left right = right
zip_append R [] ys (u ∷ us) vs left right = absurd left
zip_append R (x ∷ xs) ys [] vs left right = absurd left
zip_append R (x ∷ xs) ys (u ∷ us) vs left right = (left.0, zip_append R xs ys us vs left.1 right)

sum_of-append : (R : Mode × ℕ → List (Token × ℕ) → Type 0) (xs ys : List (Mode × ℕ)) (us vs : List (List (Token × ℕ))) (k : Token) → AllZip R xs us → sum_of (xs ++ ys) (us ++ vs) k ≡ sum_of xs us k + sum_of ys vs k
sum_of-append R [] ys [] vs k zip = omega arith
sum_of-append R [] ys (u ∷ us) vs k zip = absurd zip
sum_of-append R (x ∷ xs) ys [] vs k zip = absurd zip
sum_of-append R (x ∷ xs) ys (u ∷ us) vs k zip = omega (arith, sum_of-append R xs ys us vs k zip.1)

-- of two parts
pub moves_both : (f : Flat) (xs ys : List (Mode × ℕ)) (left right all : List Flow) → AreMoves f xs left → AreMoves f ys right → AreMerged left right all → AreMoves f (xs ++ ys) all
moves_both f xs ys left right all one two merged = (
  one.0 ++ two.0,
  one.1 ++ two.1,
  record {
    takes_are = zip_append (λ entry m. IsPre f entry.0 m) xs ys one.0 two.0 one.2.takes_are two.2.takes_are;
    puts_are = zip_append (λ entry m. IsPost f entry.0 m) xs ys one.1 two.1 one.2.puts_are two.2.puts_are;
    order = merged.order;
    counts = counts;
  },
)
  where
    counts : (side : Side) (k : Token) → capped (amount side all k) ≡ capped (moved side (xs ++ ys) (one.0 ++ two.0) (one.1 ++ two.1) k)
    counts Has k = omega (arith, merged.counts Has k, one.2.counts Has k, two.2.counts Has k)
    counts Taken k = omega (arith, merged.counts Taken k, one.2.counts Taken k, two.2.counts Taken k, sum_of-append (λ entry m. IsPre f entry.0 m) xs ys one.0 two.0 k one.2.takes_are)
    counts Put k = omega (arith, merged.counts Put k, one.2.counts Put k, two.2.counts Put k, sum_of-append (λ entry m. IsPost f entry.0 m) xs ys one.1 two.1 k one.2.puts_are)

-- with what the marking has
pub step_flows_are : (f : Flat) (m : List (Token × ℕ)) (x : List (Mode × ℕ)) (has moves all : List Flow) → IsBag token_cmp m → AreTokens Has 1 m has → AreMoves f x moves → AreMerged has moves all → AreStepFlows f m x all
step_flows_are f m x has moves all bag tokens are merged = (
  are.0,
  are.1,
  record {
    takes_are = are.2.takes_are;
    puts_are = are.2.puts_are;
    order = merged.order;
    most = count_bound tokens_total MAX_COUNT m bag.rising bag.counted;
    has = λ k. omega (arith, merged.counts Has k, are.2.counts Has k, (has_amount 1 m has k tokens).0, count_bound tokens_total MAX_COUNT m bag.rising bag.counted k);
    taken = λ k. omega (arith, merged.counts Taken k, are.2.counts Taken k, (has_amount 1 m has k tokens).1);
    put = λ k. omega (arith, merged.counts Put k, are.2.counts Put k, (has_amount 1 m has k tokens).2);
  },
)

-- what holds of each entry of a whole holds of those of its two parts
pub every_part : {X Y : Type 0} (P : Y → Type 0) (g : X → Y) (xs front back : List X) → xs ≡ front ++ back → Every P (map g xs) → Every P (map g front) × Every P (map g back)
every_part P g xs front back is all =
    let both : Every P (map g front ++ map g back) = subst (Every P) (ap (map g) is ∙ map-append g front back) all in
    (every_left P (map g front) (map g back) both, every_right P (map g front) (map g back) both)

pub moves_parts : {X : Type 0} (f : Flat) (g : X → Mode × ℕ) (xs front back : List X) (left right all : List Flow) → xs ≡ front ++ back → AreMoves f (map g front) left → AreMoves f (map g back) right → AreMerged left right all → AreMoves f (map g xs) all
moves_parts f g xs front back left right all is one two merged =
    subst (λ es. AreMoves f es all) (sym (ap (map g) is ∙ map-append g front back)) (moves_both f (map g front) (map g back) left right all one two merged)

pub moves_empty : {X : Type 0} (f : Flat) (g : X → Mode × ℕ) (xs : List X) (all : List Flow) → xs ≡ [] → all ≡ [] → AreMoves f (map g xs) all
moves_empty f g xs all none is = subst (λ es. AreMoves f (map g es) all) (sym none) (subst (AreMoves f []) (sym is) (moves_none f))
