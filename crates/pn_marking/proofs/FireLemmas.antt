-- What the flows of a step say of the step: whether it is enabled, what it leads to, and the least token for which it does not fire.
use Rattle.std.proofs.Common.{◌≡◌, ℕ, zero, suc, ◌+◌, ◌-◌, ◌*◌, ◌<◌, ◌≤◌, List, [], ◌∷◌, ◌++◌, length, get_or, take, drop, IfOk, refl, sym, ap, ◌∙◌, subst, arith}
use Rattle.std.proofs.Math.Seq.{split_at}
use Rattle.std.proofs.lemmas.Cmp.{tied_itself}
use Rattle.std.proofs.lemmas.List.{take_more}
use Rattle.std.specs.declared.result.Result.{Result}
use Rattle.std.specs.declared.result.Result.TheVariants.{Ok, Err}
use Rattle.std.specs.declared.cmp.Ordering.{Ordering}
use Rattle.std.specs.declared.cmp.Ordering.TheVariants.{Less, Equal, Greater}
use Rattle.pn_bag.specs.Bag.{IsBag}
use Rattle.pn_bag.specs.Counts.{Every, count_in, count_of}
use Rattle.pn_bag.specs.declared.TheConstants.{MAX_COUNT}
use Rattle.pn_bag.proofs.Canonical.{entries_count}
use Rattle.pn_bag.proofs.Counting.{count_in_as, more_from_less}
use Rattle.pn_bag.proofs.Everywhere.{every_both, every_right, every_weaker}
use Rattle.pn_bag.proofs.Walking.{count_bound, holds_read}
use Rattle.pn_net.proofs.OrderLemmas.{same_tokens}
use Rattle.pn_net.specs.Orders.{token_cmp, tokens_total}
use Rattle.pn_net.specs.declared.flat.Flat.{Flat}
use Rattle.pn_net.specs.declared.mode.Mode.{Mode}
use Rattle.pn_net.specs.declared.token.Token.{Token}
use Rattle.pn_marking.specs.declared.flows.Flow.{Flow}
use Rattle.pn_marking.specs.declared.flows.Side.{Side}
use Rattle.pn_marking.specs.declared.flows.Side.TheVariants.{Has, Taken, Put}
use Rattle.pn_marking.specs.Firing.{IsLeastLarge, IsLeastShort}
use Rattle.pn_marking.specs.Flows.{AreInOrder, AreLeft, IsSmallEnough, IsEnough, IsFirstBut, IsLargeIn, IsShortIn, amount, count_on, saturated}
use Rattle.pn_marking.specs.Moves.{AreStepFlows}
use Rattle.pn_marking.specs.Steps.{AreModes, ArePut, IsStep, sum_of}
use Rattle.pn_marking.specs.Totals.{AreTokensOf, IsTokenOf}
use Rattle.pn_marking.proofs.FlowLemmas.{amount-append, order_left, order_right}

amount_above : (side : Side) (flows : List Flow) (k : Token) → Every (λ f. token_cmp k f.token ≡ Less) flows → amount side flows k ≡ 0
amount_above side [] k above = refl
amount_above side (f ∷ rest) k above = omega (arith, count_in_as token_cmp (f.token, count_on side f) k Less above.0, amount_above side rest k above.1)

amount_below : (side : Side) (flows : List Flow) (k : Token) → Every (λ f. token_cmp f.token k ≡ Less) flows → amount side flows k ≡ 0
amount_below side [] k below = refl
amount_below side (f ∷ rest) k below = omega (arith, count_in_as token_cmp (f.token, count_on side f) k Greater (more_from_less tokens_total f.token k below.0), amount_below side rest k below.1)

above_first : (f : Flow) (rest : List Flow) (k : Token) → token_cmp k f.token ≡ Less → Every (λ g. token_cmp f.token g.token ≡ Less) rest → Every (λ g. token_cmp k g.token ≡ Less) rest
above_first f rest k less above = every_weaker (λ g. token_cmp f.token g.token ≡ Less) (λ g. token_cmp k g.token ≡ Less) (λ g later. tokens_total.trans k f.token g.token less later) rest above

-- what one flow gives to a token, where its counts are so
count_in_both : (t k : Token) (left taken has put : ℕ) → left + taken ≡ has + put → count_in token_cmp (t, left) k + count_in token_cmp (t, taken) k ≡ count_in token_cmp (t, has) k + count_in token_cmp (t, put) k
count_in_both t k left taken has put is = step (token_cmp k t) refl
  where
    step : (o : Ordering) → token_cmp k t ≡ o → count_in token_cmp (t, left) k + count_in token_cmp (t, taken) k ≡ count_in token_cmp (t, has) k + count_in token_cmp (t, put) k
    step Less as_o = omega (arith, count_in_as token_cmp (t, left) k Less as_o, count_in_as token_cmp (t, taken) k Less as_o, count_in_as token_cmp (t, has) k Less as_o, count_in_as token_cmp (t, put) k Less as_o)
    step Equal as_o = omega (arith, count_in_as token_cmp (t, left) k Equal as_o, count_in_as token_cmp (t, taken) k Equal as_o, count_in_as token_cmp (t, has) k Equal as_o, count_in_as token_cmp (t, put) k Equal as_o)
    step Greater as_o = omega (arith, count_in_as token_cmp (t, left) k Greater as_o, count_in_as token_cmp (t, taken) k Greater as_o, count_in_as token_cmp (t, has) k Greater as_o, count_in_as token_cmp (t, put) k Greater as_o)

-- where each flow has enough, so has each token
pub enough_all : (flows : List Flow) → Every IsEnough flows → (k : Token) → amount Taken flows k ≤ amount Has flows k
enough_all [] enough k = omega arith
enough_all (f ∷ rest) enough k =
    let first = count_in_both f.token k (f.has - f.taken) f.taken f.has 0 (omega (arith, enough.0)) in
    let none = count_in_zero f.token k in
    omega (arith, first, none, enough_all rest enough.1 k)
  where
    count_in_zero : (t k : Token) → count_in token_cmp (t, 0) k ≡ 0
    count_in_zero t k = step (token_cmp k t) refl
      where
        step : (o : Ordering) → token_cmp k t ≡ o → count_in token_cmp (t, 0) k ≡ 0
        step Less as_o = count_in_as token_cmp (t, 0) k Less as_o
        step Equal as_o = count_in_as token_cmp (t, 0) k Equal as_o
        step Greater as_o = count_in_as token_cmp (t, 0) k Greater as_o

-- and where each flow has room
pub room_all : (flows : List Flow) → AreInOrder flows → Every IsSmallEnough flows → (k : Token) → amount Has flows k + amount Put flows k ≤ MAX_COUNT + amount Taken flows k
room_all [] order room k = omega arith
room_all (f ∷ rest) order room k = step (token_cmp k f.token) refl (room_all rest order.1 room.1 k)
  where
    step : (o : Ordering) → token_cmp k f.token ≡ o → amount Has rest k + amount Put rest k ≤ MAX_COUNT + amount Taken rest k
        → amount Has (f ∷ rest) k + amount Put (f ∷ rest) k ≤ MAX_COUNT + amount Taken (f ∷ rest) k
    step Less as_o later = omega (arith, later, count_in_as token_cmp (f.token, f.has) k Less as_o, count_in_as token_cmp (f.token, f.put) k Less as_o, count_in_as token_cmp (f.token, f.taken) k Less as_o)
    step Equal as_o later =
        let above = subst (λ t. Every (λ g. token_cmp t g.token ≡ Less) rest) (sym ((same_tokens k f.token).0 as_o)) order.0 in
        omega (arith, room.0, amount_above Has rest k above, amount_above Put rest k above, amount_above Taken rest k above, count_in_as token_cmp (f.token, f.has) k Equal as_o, count_in_as token_cmp (f.token, f.put) k Equal as_o, count_in_as token_cmp (f.token, f.taken) k Equal as_o)
    step Greater as_o later = omega (arith, later, count_in_as token_cmp (f.token, f.has) k Greater as_o, count_in_as token_cmp (f.token, f.put) k Greater as_o, count_in_as token_cmp (f.token, f.taken) k Greater as_o)

-- the flows before one of a list in order are below it
before_flow : (front rest : List Flow) (flow : Flow) → AreInOrder (front ++ flow ∷ rest) → Every (λ f. token_cmp f.token flow.token ≡ Less) front
before_flow [] rest flow order = tt
before_flow (x ∷ front) rest flow order = ((every_right (λ g. token_cmp x.token g.token ≡ Less) front (flow ∷ rest) order.0).0, before_flow front rest flow order.1)

module _ (side : Side) (flows front rest : List Flow) (flow : Flow) (is : flows ≡ front ++ flow ∷ rest) (order : AreInOrder flows) where
  -- a flow's token is on each side as often as the flow says
  amount_at : amount side flows flow.token ≡ count_on side flow
  amount_at =
      let whole = subst AreInOrder is order in
      let behind = order_right front (flow ∷ rest) whole in
      omega (arith, ap (λ fs. amount side fs flow.token) is, amount-append side front (flow ∷ rest) flow.token, amount_below side front flow.token (before_flow front rest flow whole), amount_above side rest flow.token behind.0, count_in_as token_cmp (flow.token, count_on side flow) flow.token Equal (tied_itself tokens_total flow.token))

  -- a smaller token is before it alone
  amount_before : (k : Token) → token_cmp k flow.token ≡ Less → amount side flows k ≡ amount side front k
  amount_before k less =
      let behind = order_right front (flow ∷ rest) (subst AreInOrder is order) in
      omega (arith, ap (λ fs. amount side fs k) is, amount-append side front (flow ∷ rest) k, amount_above side rest k (above_first flow rest k less behind.0), count_in_as token_cmp (flow.token, count_on side flow) k Less less)

-- a flow that was read, where those before it have P
pub first_but : (P : Flow → Type 0) (flows : List Flow) (i : ℕ) (flow : Flow) → i < length flows → flow ≡ get_or flows i flow → Every P (take i flows) → IsFirstBut P flows flow
first_but P flows i flow within read before = (take i flows, drop (suc i) flows, split_at flows i flow within ∙ ap (λ f. take i flows ++ f ∷ drop (suc i) flows) (sym read), before)

module _ (flows : List Flow) (i : ℕ) (flow : Flow) (left : ℕ) (m : List (Token × ℕ)) (order : AreInOrder flows) (enough : Every IsEnough flows) (room : Every IsSmallEnough flows) (within : i < length flows) (read : flow ≡ get_or flows i flow) (left_is : left ≡ saturated (flow.has - flow.taken + flow.put)) (so_far : AreLeft (take i flows) m) where
  -- the next token's count fits
  pub fits_next : count_of token_cmp m flow.token + left ≤ MAX_COUNT
  fits_next =
      let split = split_at flows i flow within ∙ ap (λ f. take i flows ++ f ∷ drop (suc i) flows) (sym read) in
      let below = before_flow (take i flows) (drop (suc i) flows) flow (subst AreInOrder split order) in
      let here_enough = holds_read IsEnough i flows flow within read enough in
      let here_room = holds_read IsSmallEnough i flows flow within read room in
      omega (arith, so_far flow.token, amount_below Has (take i flows) flow.token below, amount_below Taken (take i flows) flow.token below, amount_below Put (take i flows) flow.token below, here_enough, here_room, left_is)

  -- what is left of one more token
  pub left_next : (new : List (Token × ℕ)) → ((k : Token) → count_of token_cmp new k ≡ count_of token_cmp m k + count_in token_cmp (flow.token, left) k) → AreLeft (take (i + 1) flows) new
  left_next new added k =
      let more : take (i + 1) flows ≡ take i flows ++ flow ∷ [] = take_more flows i flow within ∙ ap (λ f. take i flows ++ f ∷ []) (sym read) in
      let here_enough = holds_read IsEnough i flows flow within read enough in
      let here_room = holds_read IsSmallEnough i flows flow within read room in
      omega (
        arith,
        added k,
        so_far k,
        count_in_both flow.token k left flow.taken flow.has flow.put (omega (arith, left_is, here_enough, here_room)),
        ap (λ fs. amount Taken fs k) more,
        ap (λ fs. amount Has fs k) more,
        ap (λ fs. amount Put fs k) more,
        amount-append Taken (take i flows) (flow ∷ []) k,
        amount-append Has (take i flows) (flow ∷ []) k,
        amount-append Put (take i flows) (flow ∷ []) k,
      )

-- what is left is a step
pub step_is : (f : Flat) (m new : List (Token × ℕ)) (x : List (Mode × ℕ)) (flows : List Flow) → AreModes f x → AreStepFlows f m x flows → Every IsEnough flows → AreLeft flows new → IsBag token_cmp new → IsStep f m x new
step_is f m new x flows modes are enough left bag = (
  are.0,
  are.1,
  record {
    enabled = record { modes = modes; takes_are = are.2.takes_are; enough = λ k. omega (arith, enough_all flows enough k, are.2.has k, are.2.taken k, are.2.most k) };
    puts_are = are.2.puts_are;
    leads = λ k. omega (arith, left k, enough_all flows enough k, are.2.has k, are.2.taken k, are.2.put k, are.2.most k, count_bound tokens_total MAX_COUNT new bag.rising bag.counted k);
  },
)

pub short_is : (f : Flat) (m : List (Token × ℕ)) (x : List (Mode × ℕ)) (flows : List Flow) (token : Token) (need has : ℕ) → AreStepFlows f m x flows → IsShortIn flows token need has → IsLeastShort f m x token need has
short_is f m x flows token need has are short =
    let flow = short.0 in
    let front = short.1.0 in
    let is = short.1.2 in
    let at : (side : Side) → amount side flows token ≡ count_on side flow = λ side. ap (amount side flows) short.3 ∙ amount_at side flows front short.1.1 flow is are.2.order in
    let before : (side : Side) (k : Token) → token_cmp k token ≡ Less → amount side flows k ≡ amount side front k = λ side k less. amount_before side flows front short.1.1 flow is are.2.order k (subst (λ t. token_cmp k t ≡ Less) short.3 less) in (
      are.0,
      record {
        takes_are = are.2.takes_are;
        need_is = omega (arith, short.4, at Taken, are.2.taken token);
        has_is = omega (arith, short.5, at Has, are.2.has token);
        fewer = omega (arith, short.2, at Has, at Taken, are.2.has token, are.2.taken token, are.2.most token);
        least = λ k less. omega (arith, before Has k less, before Taken k less, enough_all front short.1.3 k, are.2.has k, are.2.taken k, are.2.most k);
      },
    )

pub large_is : (f : Flat) (m : List (Token × ℕ)) (x : List (Mode × ℕ)) (flows : List Flow) (token : Token) → AreModes f x → AreStepFlows f m x flows → Every IsEnough flows → IsLargeIn flows token → IsLeastLarge f m x token
large_is f m x flows token modes are enough large =
    let flow = large.0 in
    let front = large.1.0 in
    let is = large.1.2 in
    let at : (side : Side) → amount side flows token ≡ count_on side flow = λ side. ap (amount side flows) large.3 ∙ amount_at side flows front large.1.1 flow is are.2.order in
    let before : (side : Side) (k : Token) → token_cmp k token ≡ Less → amount side flows k ≡ amount side front k = λ side k less. amount_before side flows front large.1.1 flow is are.2.order k (subst (λ t. token_cmp k t ≡ Less) large.3 less) in
    let order_of_front = order_left front (flow ∷ large.1.1) (subst AreInOrder is are.2.order) in (
      are.0,
      are.1,
      record {
        enabled = record { modes = modes; takes_are = are.2.takes_are; enough = λ k. omega (arith, enough_all flows enough k, are.2.has k, are.2.taken k, are.2.most k) };
        puts_are = are.2.puts_are;
        passes = omega (arith, large.2, at Has, at Taken, at Put, enough_all flows enough token, are.2.has token, are.2.taken token, are.2.put token, are.2.most token);
        least = λ k less. omega (arith, before Has k less, before Taken k less, before Put k less, room_all front order_of_front large.1.3 k, enough_all flows enough k, are.2.has k, are.2.taken k, are.2.put k, are.2.most k);
      },
    )

-- a token with a count has an entry
counted_holds : (P : Token → Type 0) (m : List (Token × ℕ)) (k : Token) → Every (λ e. P e.0) m → 0 < count_of token_cmp m k → P k
counted_holds P [] k all some = absurd (omega arith)
counted_holds P (e ∷ rest) k all some = step (token_cmp k e.0) refl (counted_holds P rest k all.1)
  where
    step : (o : Ordering) → token_cmp k e.0 ≡ o → (0 < count_of token_cmp rest k → P k) → P k
    step Less as_o later = later (omega (arith, some, count_in_as token_cmp e k Less as_o))
    step Equal as_o later = subst P (sym ((same_tokens k e.0).0 as_o)) all.0
    step Greater as_o later = later (omega (arith, some, count_in_as token_cmp e k Greater as_o))

-- a token that is put is a token of its place
put_is_token : (f : Flat) (x : List (Mode × ℕ)) (puts : List (List (Token × ℕ))) (k : Token) → ArePut f x puts → 0 < sum_of x puts k → IsTokenOf f k
put_is_token f [] puts k are some = absurd (omega arith)
put_is_token f (entry ∷ x) [] k are some = absurd (omega arith)
put_is_token f (entry ∷ x) (m ∷ puts) k are some = step (count_of token_cmp m k) refl (put_is_token f x puts k are.1)
  where
    step : (n : ℕ) → count_of token_cmp m k ≡ n → (0 < sum_of x puts k → IsTokenOf f k) → IsTokenOf f k
    step zero none later = later (omega (arith, some, ap (λ n. entry.1 * n) none))
    step (suc n) is later = counted_holds (IsTokenOf f) m k are.0.2.tokens (omega (arith, is))

pub tokens_stay : (f : Flat) (m new : List (Token × ℕ)) (x : List (Mode × ℕ)) → IsStep f m x new → IsBag token_cmp new → AreTokensOf f m → AreTokensOf f new
tokens_stay f m new x is bag tokens =
    every_both (λ e. count_of token_cmp new e.0 ≡ e.1) (λ e. (0 < e.1) × (e.1 ≤ MAX_COUNT)) (λ e. IsTokenOf f e.0)
    (λ e counts counted. had (count_of token_cmp m e.0) e.0 refl (omega (arith, counts, counted.0)))
    new (entries_count tokens_total new bag.rising) bag.counted
  where
    had : (n : ℕ) (k : Token) → count_of token_cmp m k ≡ n → 0 < count_of token_cmp new k → IsTokenOf f k
    had zero k none some = put_is_token f x is.1 k is.2.puts_are (omega (arith, none, some, is.2.leads k))
    had (suc n) k has some = counted_holds (IsTokenOf f) m k tokens (omega (arith, has))

-- the answer of what is left
pub settled : {E : Type 0} (f : Flat) (m : List (Token × ℕ)) (x : List (Mode × ℕ)) (flows : List Flow) (r : Result (List (Token × ℕ)) E) → AreModes f x → AreStepFlows f m x flows
    → IfOk r (λ _. Every IsEnough flows) → IfOk r (AreLeft flows) → IfOk r (IsBag token_cmp) → IfOk r (IsStep f m x)
settled f m x flows (Ok new) modes are enough left bag = step_is f m new x flows modes are enough left bag
settled f m x flows (Err e) modes are enough left bag = enough

pub settled_tokens : {E : Type 0} (f : Flat) (m : List (Token × ℕ)) (x : List (Mode × ℕ)) (flows : List Flow) (r : Result (List (Token × ℕ)) E) → AreModes f x → AreStepFlows f m x flows
    → IfOk r (λ _. Every IsEnough flows) → IfOk r (AreLeft flows) → IfOk r (IsBag token_cmp) → AreTokensOf f m → IfOk r (AreTokensOf f)
settled_tokens f m x flows (Ok new) modes are enough left bag tokens = tokens_stay f m new x (step_is f m new x flows modes are enough left bag) bag tokens
settled_tokens f m x flows (Err e) modes are enough left bag tokens = enough
