-- Escaped ids of transitions.
use Rattle.std.proofs.Common.{◌≡◌, ℕ, suc, ◌+◌, ◌<◌, ◌≤◌, Bool, true, false, cond, List, [], ◌∷◌, ◌++◌, length, map, get_or, min, Some, option_map, refl, sym, ap, ◌∙◌, subst, arith}
use Rattle.std.specs.List.{slice_get}
use Rattle.std.proofs.lemmas.Option.{slice_get-map, slice_get_read, slice_get_within}
use Rattle.std.proofs.lemmas.Slice.Eq.{bytes_eq-Decides}
use Rattle.std.specs.Str.{bytes_eq}
use Rattle.pn_facts.proofs.Contained.{contains_first, contains_one}
use Rattle.pn_ids.specs.Names.{named_in}
use Rattle.pn_lines.specs.Escapes.{escaped}
use Rattle.pn_net.specs.Typed.{transition_named, transitions_from}
use Rattle.pn_net.specs.declared.flat.Flat.{Flat}
use Rattle.pn_objects.specs.declared.object.Transition.{Transition}
use Rattle.pn_words.proofs.MarkLemmas.{listed_at, listed_found, listed_next}
use Rattle.pn_words.specs.Languages.{Broken, Closed, IsRead, Listed, Only}
use Rattle.pn_mode_text.proofs.IdLemmas.{apart_ids}
use Rattle.pn_mode_text.specs.ModeReadings.{IsTransitionText, transition_ids}
use Rattle.pn_mode_text.specs.Readings.{StandOnce}
use Rattle.pn_mode_text.specs.Unescaped.{Unescapes}

-- the text of the id of a transition, as it is told
transition_there : (f : Flat) (all : List Transition) (place : ℕ) (t : Transition) (id bytes : List ℕ) → all ≡ f.transitions → place < length all → t ≡ get_or all place t → id ≡ t.id → bytes ≡ id
    → slice_get (map escaped (transition_ids f)) place ≡ Some (escaped bytes)
transition_there f all place t id bytes same within at named is =
    let here : slice_get f.transitions place ≡ Some t = subst (λ (ts : List Transition). slice_get ts place ≡ Some t) same (slice_get_read all _ place t refl within at) in
    slice_get-map escaped (transition_ids f) place ∙ ap (option_map escaped) (slice_get-map (λ (x : Transition). x.id) f.transitions place ∙ ap (option_map (λ (x : Transition). x.id)) here)
    ∙ ap (λ b. Some (escaped b)) (sym (is ∙ named))

many : (ts : List Transition) → length (map (λ (x : Transition). x.id) ts) ≡ length ts
many [] = refl
many (t ∷ ts) = ap suc (many ts)

pub transition_found : (f : Flat) (all : List Transition) (place : ℕ) (t : Transition) (id bytes b : List ℕ) (mark : ℕ) (rest : List ℕ) → StandOnce (transition_ids f)
    → all ≡ f.transitions → place < length all → t ≡ get_or all place t → id ≡ t.id → bytes ≡ id
    → IsRead (Closed (Only (escaped bytes)) (91 ∷ [])) b (tt, mark) rest → IsRead (Closed (IsTransitionText f) (91 ∷ [])) b (place, 91) rest
transition_found f all place t id bytes b mark rest once same within at named is read =
    let texts = map escaped (transition_ids f) in
    let number : length (transition_ids f) ≡ length all = many f.transitions ∙ ap length (sym same) in
    subst (λ m. IsRead (Closed (IsTransitionText f) (91 ∷ [])) b (place, m) rest) (contains_one 91 mark read.is_word.2)
    (listed_found texts (length (transition_ids f)) place (escaped bytes) (91 ∷ []) b mark rest (apart_ids (transition_ids f) (91 ∷ []) refl once) (omega (arith, within, number))
    (transition_there f all place t id bytes same within at named is) read)

pub transition_next : (f : Flat) (all : List Transition) (place : ℕ) (t : Transition) (id bytes b : List ℕ) (left less least : ℕ)
    → all ≡ f.transitions → place < length all → t ≡ get_or all place t → id ≡ t.id → bytes ≡ id → least ≡ min left less
    → Broken (Closed (Listed (map escaped (transition_ids f)) place) (91 ∷ [])) b left → Broken (Closed (Only (escaped bytes)) (91 ∷ [])) b less
    → Broken (Closed (Listed (map escaped (transition_ids f)) (place + 1)) (91 ∷ [])) b least
transition_next f all place t id bytes b left less least same within at named is least_is so_far broken =
    let texts = map escaped (transition_ids f) in
    let next : suc place ≡ place + 1 = omega arith in
    subst (λ n. Broken (Closed (Listed texts n) (91 ∷ [])) b least) next
    (subst (Broken (Closed (Listed texts (suc place)) (91 ∷ [])) b) (sym least_is)
    (listed_next texts place (escaped bytes) (91 ∷ []) b left less (transition_there f all place t id bytes same within at named is) so_far broken))

pub transitions_broken : (f : Flat) (n number : ℕ) (b : List ℕ) (left : ℕ) → number ≡ length f.transitions → n ≤ number → number ≤ n
    → Broken (Closed (Listed (map escaped (transition_ids f)) n) (91 ∷ [])) b left → Broken (Closed (IsTransitionText f) (91 ∷ [])) b left
transitions_broken f n number b left is low high so_far =
    let all : n ≡ length (transition_ids f) = omega (arith, is, low, high, many f.transitions) in
    subst (λ m. Broken (Closed (Listed (map escaped (transition_ids f)) m) (91 ∷ [])) b left) all so_far

-- a transition that is found by its id has it
named_at : (i : ℕ) (ts : List Transition) (id : List ℕ) (n : ℕ) → named_in (transitions_from i ts) id ≡ Some n → (k : ℕ) × (n ≡ i + k) × (slice_get (map (λ (t : Transition). t.id) ts) k ≡ Some id)
named_at i [] id n is = absurd cc
named_at i (t ∷ ts) id n is = step (bytes_eq id t.id) refl is (named_at (suc i) ts id n)
  where
    step : (b : Bool) → bytes_eq id t.id ≡ b → cond b (Some i) (named_in (transitions_from (suc i) ts) id) ≡ Some n
        → (named_in (transitions_from (suc i) ts) id ≡ Some n → (k : ℕ) × (n ≡ suc i + k) × (slice_get (map (λ (t : Transition). t.id) ts) k ≡ Some id))
        → (k : ℕ) × (n ≡ i + k) × (slice_get (map (λ (t : Transition). t.id) (t ∷ ts)) k ≡ Some id)
    step true same here later = let at : i ≡ n = cc in (0, omega (arith, at), ap Some (sym ((bytes_eq-Decides id t.id).0 same)))
    step false same there later = let found = later there in (suc found.0, omega (arith, found.1), found.2)

pub looked_up : (f : Flat) (b id : List ℕ) (mark n : ℕ) (rest : List ℕ) → StandOnce (transition_ids f) → Unescapes (91 ∷ []) id mark rest b → transition_named f id ≡ Some n
    → IsRead (Closed (IsTransitionText f) (91 ∷ [])) b (n, 91) rest
looked_up f b id mark n rest once u named =
    let found = named_at 0 f.transitions id n named in
    let place : found.0 ≡ n = omega (arith, found.1) in
    let here : slice_get (transition_ids f) n ≡ Some id = subst (λ k. slice_get (transition_ids f) k ≡ Some id) place found.2 in
    let ids = transition_ids f in
    listed_at (map escaped ids) (length ids) n (escaped id) (91 ∷ []) b 91 rest (apart_ids ids (91 ∷ []) refl once) (slice_get_within ids n id here)
    (slice_get-map escaped ids n ∙ ap (option_map escaped) here) (contains_first 91 []) (u.cut ∙ ap (λ m. escaped id ++ m ∷ rest) (contains_one 91 mark u.is_mark))
