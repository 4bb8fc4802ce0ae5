-- What `step` writes has the marking to which the modes lead, and the lines that `modes` writes are modes that step.
use Rattle.std.proofs.Common.{◌≡◌, inl, ◌<◌, ◌≤◌, ◌+◌, ◌/◌, ◌%◌, ◌==◌, nat_lt, ℕ, zero, suc, ℤ, pos, negsuc, Bool, true, false, cond, List, [], ◌∷◌, ◌++◌, map, codes, decimal, Option, None, Some, refl, sym, ap, ◌∙◌, subst, arith}
use Rattle.std.specs.Fmt.{digit_glyph, digits, digits_onto, signed_decimal}
use Rattle.std.specs.List.{AllByRecursion, Contains, flat_map, list_all, slice_get}
use Rattle.std.proofs.lemmas.Bool.Decides.{nat_tests}
use Rattle.pn_bag.proofs.Canonical.{same_entries}
use Rattle.pn_bag.proofs.Everywhere.{every_weaker}
use Rattle.pn_bag.specs.Counts.{count_of}
use Rattle.pn_bag.specs.declared.TheConstants.{MAX_COUNT}
use Rattle.pn_checks.proofs.EndLemmas.{across}
use Rattle.pn_checks.proofs.MarkLemmas.{initial_once, says_once}
use Rattle.pn_checks.specs.Initial.{IsInitial}
use Rattle.pn_documents.proofs.InitialTokenLemmas.{initial_tokens}
use Rattle.pn_documents.proofs.StepLemmas.{initial_is_marked, marked_is_initial, marked_spells, marked_steps}
use Rattle.pn_documents.specs.Written.{IsOtherMarking}
use Rattle.pn_eval.proofs.OnceLemmas.{value_once}
use Rattle.pn_facts.proofs.Contained.{contains_at, contains_one}
use Rattle.pn_facts.proofs.Each.{one_of}
use Rattle.pn_facts.proofs.Lists.{all_append, list_all_each, list_all_get}
use Rattle.pn_facts.proofs.Truths.{and_both}
use Rattle.pn_lines.proofs.TextLemmas.{escaped_is_clean}
use Rattle.pn_lines.specs.Escapes.{escaped, is_line_byte}
use Rattle.pn_marked.specs.Marked.{IsMarkedNet}
use Rattle.pn_marking.proofs.OnceLemmas.{one_marking}
use Rattle.pn_marking.proofs.StepLemmas.{short_excludes}
use Rattle.pn_marking.specs.Firing.{IsLeastShort}
use Rattle.pn_marking.specs.Modes.{IsMode}
use Rattle.pn_marking.specs.Steps.{IsEnabled}
use Rattle.pn_mode_text.specs.Texts.{IsModeText, TypedVariable, constant_text, each_text, given_text, id_text, list_text, mode_text, number_text, quoted_text, truth_word, tuple_text, value_text, value_text_layer, with_commas}
use Rattle.pn_modes.specs.Enabled.{IsEnabledMode}
use Rattle.pn_names.specs.Names.{id_of_constant}
use Rattle.pn_net.proofs.OrderLemmas.{same_modes, same_tokens}
use Rattle.pn_net.specs.Orders.{mode_cmp, modes_total, tokens_total}
use Rattle.pn_net.specs.declared.flat.Flat.{Flat}
use Rattle.pn_net.specs.declared.mode.Mode.{Mode}
use Rattle.pn_net.specs.declared.token.Token.{Token}
use Rattle.pn_objects.specs.declared.net.Net.{Net}
use Rattle.pn_sorts.proofs.SettleLemmas.{same_some}
use Rattle.pn_sorts.specs.Standing.{IsFaultless}
use Rattle.pn_spelling.specs.WriteNets.{tree_of_net}
use Rattle.pn_stepping.specs.Refusing.{IsRefusedStep}
use Rattle.pn_stepping.specs.Stepping.{AreJoined, AreStarted, AreTold, IsBadWord, IsFirstUnfit, IsMadeOf, LeadTo, TellsEntry}
use Rattle.pn_stepping.specs.declared.told.StepRefusal.{StepRefusal}
use Rattle.pn_stepping.specs.declared.told.StepRefusal.TheVariants as unfired
use Rattle.pn_syntax.specs.declared.declaration.Declaration.{Declaration}
use Rattle.pn_tree.specs.Canonical.{canonical_text}
use Rattle.pn_tree.specs.declared.element.Element.{Element}
use Rattle.pn_values.specs.declared.sort.Sort.{Sort}
use Rattle.pn_values.specs.declared.sort.Sort.TheFolds.{fold-roll-Sort, ind-Sort, map-Sort}
use Rattle.pn_values.specs.declared.sort.Sort.TheOpen as sort_layer
use Rattle.pn_values.specs.declared.sort.Sort.TheViews.{roll-Sort}
use Rattle.pn_values.specs.declared.value.Value.{Value}
use Rattle.pn_values.specs.declared.value.Value.TheOpen as value_layer
use Rattle.pn_values.specs.declared.value.Value.TheViews.{out-Value}
use Rattle.pn_command.proofs.OutputLemmas.{declared_sound}
use Rattle.pn_command.specs.Answer.{Answer, IsDueForNet, given, output_too_long, stopped}
use Rattle.pn_command.specs.Lines.{status_of}
use Rattle.pn_command.proofs.AnswerLemmas.{no_line}
use Rattle.pn_command.specs.Outputs.{IsModesText, IsStepText, line_of_unfired}
use Rattle.pn_command.specs.Stepped.{AreSteppable, IsStepped}
use Rattle.pn_command.specs.Verdict.{IsAcceptedAs}
use Rattle.pn_command.specs.Words.{arguments_of}
use Rattle.pn_command.specs.declared.lines.Line.{Line}
use Rattle.pn_command.specs.declared.lines.Line.TheVariants as lines
use Rattle.pn_command.specs.declared.status.Status.TheVariants as status
use Rattle.pn_command.specs.declared.words.Asked.TheVariants.{Step}

-- ---- what `step` writes

module _ (tree : Element) (f : Flat) (accepted : IsAcceptedAs tree f) where
  -- what is written is the net with another marking, that to which the words lead
  other_marking : (words : List (List ℕ)) (new : List (Token × ℕ)) (n : Net) → LeadTo f words new → IsMarkedNet f new n → IsOtherMarking f new n
  other_marking words new n led marked = record {
    tree = tree;
    accepted = accepted.accepted;
    linked = accepted.linked;
    tokens = led.tokens (initial_tokens tree f led.initial accepted.accepted accepted.linked led.started.is_initial);
    bag = led.bag;
    marked = marked;
  }

  text_stepped : (words : List (List ℕ)) (text : List ℕ) → IsStepText f words text → IsStepped f words text
  text_stepped words text (root, is, text_is) =
      let m = is.new in
      let n = is.net in
      let other = other_marking words m n is.led is.is_marked in
      let spelled : text ≡ canonical_text (tree_of_net n) = text_is ∙ ap canonical_text is.is in
      subst (IsStepped f words) (sym spelled) (record {
        new = m;
        led = is.led;
        net = n;
        is_marked = is.is_marked;
        spells = marked_spells f m n other;
        initial = λ t g doc to k. (initial_is_marked f m n other t doc g to k, λ same. subst (IsInitial g) (sym same) (marked_is_initial f m n other t doc g to));
        keeps = λ t g doc to. marked_steps f m n other t doc g to;
      })

  -- what `step` writes where it is done is a document of the net with the new marking
  pub step_written : (words : List (List ℕ)) (a : Answer) → IsDueForNet Step words f a → a.status ≡ status.Done → IsStepped f (arguments_of words) a.out
  step_written words a (stopped l is g) ended = absurd (no_line l (sym (ap (λ x. x.status) g) ∙ ended))
  step_written words a (output_too_long text is over g) ended = absurd (let clash : status.Limit ≡ status.Done = sym (ap (λ x. x.status) g) ∙ ended in cc)
  step_written words a (given text is short g) ended = subst (IsStepped f (arguments_of words)) (sym (ap (λ x. x.out) g)) (text_stepped (arguments_of words) text is)

-- ---- what `modes` writes

-- one mode that is enabled at the initial marking, and its text as the only word
module _ (f : Flat) (sound : IsFaultless f.declarations) (initial : List (Token × ℕ)) (is_initial : IsInitial f initial) (m : Mode) (is_enabled : IsEnabledMode f initial m) (line : List ℕ) (is_text : IsModeText f m line) where
  abbrev word : List (List ℕ)
  word = line ∷ []

  abbrev once : List (Mode × ℕ)
  once = (m, 1) ∷ []

  tells : TellsEntry f line (m, 1)
  tells = record { assigned = (is_enabled.0.0, is_enabled.0.1.assigned); text = line; is_text = is_text; is_word = inl (refl, refl) }

  not_bad : (place length : ℕ) → IsBadWord f word place length → ⊥
  not_bad place length bad = bad.none (one_of (IsMadeOf f) word bad.word (((m, 1), tells), tt) (contains_at word place bad.word bad.at))

  told_as_once : (entries : List (Mode × ℕ)) → AreTold f word entries → entries ≡ once
  told_as_once entries told = sym (told.only once (tells, tt))

  not_unfit : (entries : List (Mode × ℕ)) (place : ℕ) → AreTold f word entries → IsFirstUnfit f entries place → ⊥
  not_unfit entries place told unfit =
      let here : slice_get once place ≡ Some unfit.entry = subst (λ es. slice_get es place ≡ Some unfit.entry) (told_as_once entries told) unfit.at in
      let same : unfit.entry ≡ (m, 1) = contains_one (m, 1) unfit.entry (contains_at once place unfit.entry here) in
      unfit.none (subst (λ (e : Mode × ℕ). IsMode f e.0) (sym same) is_enabled.0)

  joined_is_once : (x : List (Mode × ℕ)) → AreJoined f word x → x ≡ once
  joined_is_once x joined =
      same_entries modes_total (λ a b. (same_modes a b).0) x once
      (record { rising = joined.bag.rising; positive = every_weaker (λ e. (0 < e.1) × (e.1 ≤ MAX_COUNT)) (λ e. 0 < e.1) (λ e both. both.0) x joined.bag.counted }) (record { rising = (tt, tt); positive = (omega arith, tt) })
      (λ k. joined.same k ∙ ap (λ es. count_of mode_cmp es k) (told_as_once joined.entries joined.told))

  once_enabled : IsEnabled f initial once
  once_enabled = (is_enabled.1.0 ∷ [], record { modes = (is_enabled.0, tt); takes_are = (is_enabled.1.1, tt); enough = λ k. omega (arith, is_enabled.1.2 k) })

  not_short : (x : List (Mode × ℕ)) (start : List (Token × ℕ)) (k : Token) (need has : ℕ) → AreStarted f word x start → IsLeastShort f start x k need has → ⊥
  not_short x start k need has started short =
      let begun : start ≡ initial
      = initial_once (same_entries tokens_total (λ a b. (same_tokens a b).0)) f f start initial (says_once f.declarations (λ e o p. value_once f.declarations [] [] sound e o p)) refl refl started.is_initial is_initial in
      let here : IsLeastShort f initial x k need has = subst (λ s. IsLeastShort f s x k need has) begun short in
      short_excludes f initial once k need has
      (λ mode p q (vars, are, moved) (others, also, more).
      one_marking (same_entries tokens_total (λ a b. (same_tokens a b).0)) f mode.transition false mode.values vars others (λ e o r. value_once f.declarations vars mode.values sound e o r) are also p q moved more)
      (subst (λ y. IsLeastShort f initial y k need has) (joined_is_once x started.joined) here) once_enabled

  -- the word is not refused
  not_refused : (x : StepRefusal) (l : Line) → IsRefusedStep f word x → line_of_unfired x ≡ Some l → status_of l ≡ status.Refused → ⊥
  not_refused (unfired.Memory e) l is told refused = absurd cc
  not_refused (unfired.BadMode place length) l is told refused = not_bad place length is
  not_refused (unfired.NotAMode place) l (entries, are, unfit) told refused = not_unfit entries place are unfit
  not_refused (unfired.ModeTooLarge text) l is told refused = let clash : status.Limit ≡ status.Refused = ap status_of (same_some _ l told) ∙ refused in cc
  not_refused (unfired.NotEnabled text need has) l (k, (x, start, started, short), named) told refused = not_short x start k need has started short
  not_refused (unfired.TokenTooLarge text) l is told refused = let clash : status.Limit ≡ status.Refused = ap status_of (same_some _ l told) ∙ refused in cc

  mode_steps : (a : Answer) → IsDueForNet Step (codes "step" ∷ word) f a → a.status ≡ status.Refused → ⊥
  mode_steps a (stopped l (x, is, told) g) refused = not_refused x l is told (sym (ap (λ b. b.status) g) ∙ refused)
  mode_steps a (output_too_long text is over g) refused = let clash : status.Limit ≡ status.Refused = sym (ap (λ b. b.status) g) ∙ refused in cc
  mode_steps a (given text is short g) refused = let clash : status.Done ≡ status.Refused = sym (ap (λ b. b.status) g) ∙ refused in cc

-- ---- the texts of modes have no white space and no control character

abbrev is_visible : ℕ → Bool
is_visible b = nat_lt 32 b

abbrev IsVisible : List ℕ → Type 0
IsVisible text = list_all is_visible text ≡ true

line_byte : (b : ℕ) → is_line_byte b ≡ true → is_visible b ≡ true
line_byte b is = by (is_visible b) refl
  where
    by : (t : Bool) → nat_lt 32 b ≡ t → t ≡ true
    by true low = refl
    by false low = absurd (grind (arith, nat_tests))

escaped_visible : (text : List ℕ) → IsVisible (escaped text)
escaped_visible text = list_all_each is_line_byte is_visible line_byte (escaped text) (escaped_is_clean text)

glyph_visible : (n : ℕ) → is_visible (digit_glyph false (n % 10)) ≡ true
glyph_visible n = by (nat_lt (n % 10) 10) refl
  where
    by : (t : Bool) → nat_lt (n % 10) 10 ≡ t → is_visible (cond t (48 + n % 10) (87 + n % 10)) ≡ true
    by true e = grind (arith, nat_tests)
    by false e = absurd (grind (arith, nat_tests))

onto_visible : (k n : ℕ) (acc : List ℕ) → IsVisible acc → IsVisible (digits_onto k 10 false n acc)
onto_visible zero n acc all = all
onto_visible (suc k) n acc all = by ((n / 10) == 0) more (onto_visible k (n / 10) (digit_glyph false (n % 10) ∷ acc) more)
  where
    more : IsVisible (digit_glyph false (n % 10) ∷ acc)
    more = and_both (is_visible (digit_glyph false (n % 10))) (list_all is_visible acc) (glyph_visible n) all

    by : (t : Bool) → IsVisible (digit_glyph false (n % 10) ∷ acc) → IsVisible (digits_onto k 10 false (n / 10) (digit_glyph false (n % 10) ∷ acc))
        → IsVisible (cond t (digit_glyph false (n % 10) ∷ acc) (digits_onto k 10 false (n / 10) (digit_glyph false (n % 10) ∷ acc)))
    by true here there = here
    by false here there = there

decimal_visible : (n : ℕ) → IsVisible (decimal n)
unfolding digits
decimal_visible n = onto_visible 64 n [] refl

signed_visible : (z : ℤ) → IsVisible (signed_decimal z)
signed_visible (pos n) = decimal_visible n
signed_visible (negsuc n) = decimal_visible (suc n)

joined_visible : (text rest : List ℕ) → IsVisible text → IsVisible rest → IsVisible (text ++ rest)
joined_visible text rest = all_append is_visible text rest

-- a comma before each
listed_visible : (parts : List (List ℕ)) → AllByRecursion IsVisible parts → IsVisible (flat_map (λ next. codes "," ++ next) parts)
listed_visible [] all = refl
listed_visible (part ∷ parts) all = joined_visible part (flat_map (λ next. codes "," ++ next) parts) all.0 (listed_visible parts all.1)

commas_visible : (parts : List (List ℕ)) → AllByRecursion IsVisible parts → IsVisible (with_commas parts)
commas_visible [] all = refl
commas_visible (part ∷ parts) all = joined_visible part (flat_map (λ next. codes "," ++ next) parts) all.0 (listed_visible parts all.1)

-- a text for each value
abbrev AreVisible : (Value → List ℕ) → Type 0
AreVisible text = (v : Value) → IsVisible (text v)

each_visible : (texts : List (Value → List ℕ)) → AllByRecursion AreVisible texts → (vs : List Value) → AllByRecursion IsVisible (each_text texts vs)
each_visible [] all vs = tt
each_visible (text ∷ texts) all [] = tt
each_visible (text ∷ texts) all (v ∷ vs) = (all.0 v, each_visible texts all.1 vs)

items_visible : (text : Value → List ℕ) → AreVisible text → (vs : List Value) → AllByRecursion IsVisible (map text vs)
items_visible text all [] = tt
items_visible text all (v ∷ vs) = (all v, items_visible text all vs)

truth_visible : (v : value_layer.Value-F Value) → IsVisible (truth_word v)
truth_visible (value_layer.Bool false) = refl
truth_visible (value_layer.Bool true) = refl
truth_visible _ = refl

id_visible : (id : Option (List ℕ)) → IsVisible (id_text id)
id_visible None = refl
id_visible (Some id) = escaped_visible id

constant_visible : (items : List Declaration) (place : ℕ) (v : value_layer.Value-F Value) → IsVisible (constant_text items place v)
constant_visible items place (value_layer.Const c) = id_visible (id_of_constant items (record { declaration = place; index = c }))
constant_visible items place _ = refl

number_visible : (v : value_layer.Value-F Value) → IsVisible (number_text v)
number_visible (value_layer.Int z) = signed_visible z
number_visible _ = refl

quoted_visible : (v : value_layer.Value-F Value) → IsVisible (quoted_text v)
quoted_visible (value_layer.Text t) = joined_visible (escaped t) (codes "\"") (escaped_visible t) refl
quoted_visible _ = refl

tuple_visible : (texts : List (Value → List ℕ)) → AllByRecursion AreVisible texts → (v : value_layer.Value-F Value) → IsVisible (tuple_text texts v)
tuple_visible texts all (value_layer.Tuple vs) = joined_visible (with_commas (each_text texts vs)) (codes ")") (commas_visible (each_text texts vs) (each_visible texts all vs)) refl
tuple_visible texts all _ = refl

list_visible : (text : Value → List ℕ) → AreVisible text → (v : value_layer.Value-F Value) → IsVisible (list_text text v)
list_visible text all (value_layer.List vs) = joined_visible (with_commas (map text vs)) (codes "]") (commas_visible (map text vs) (items_visible text all vs)) refl
list_visible text all _ = refl

module _ (items : List Declaration) where
  abbrev IsVisibleSort : Sort → Type 0
  IsVisibleSort s = AreVisible (value_text items s)

  abbrev VisibleSort : Type 0
  VisibleSort = (s : Sort) × IsVisibleSort s

  abbrev sorts_of : List VisibleSort → List Sort
  sorts_of es = map (λ e. e.0) es

  by_layer : (x : sort_layer.Sort-F Sort) → ((v : Value) → IsVisible (value_text_layer items (map-Sort Sort (Value → List ℕ) (value_text items) x) (out-Value v))) → IsVisibleSort (roll-Sort x)
  by_layer x all v = subst (λ (text : Value → List ℕ). IsVisible (text v)) (sym (fold-roll-Sort (Value → List ℕ) (λ sort v. value_text_layer items sort (out-Value v)) x)) (all v)

  parts_visible : (es : List VisibleSort) → AllByRecursion AreVisible (map (value_text items) (sorts_of es))
  parts_visible [] = tt
  parts_visible (e ∷ es) = (e.1, parts_visible es)

  sort_visible : (y : sort_layer.Sort-F VisibleSort) → IsVisibleSort (roll-Sort (map-Sort VisibleSort Sort (λ e. e.0) y))
  sort_visible sort_layer.Dot = by_layer sort_layer.Dot (λ v. refl)
  sort_visible sort_layer.Bool = by_layer sort_layer.Bool (λ v. truth_visible (out-Value v))
  sort_visible (sort_layer.Enumeration n) = by_layer (sort_layer.Enumeration n) (λ v. constant_visible items n (out-Value v))
  sort_visible (sort_layer.Partition n) = by_layer (sort_layer.Partition n) (λ v. constant_visible items n (out-Value v))
  sort_visible (sort_layer.Range start end) = by_layer (sort_layer.Range start end) (λ v. number_visible (out-Value v))
  sort_visible (sort_layer.Product es) = by_layer (sort_layer.Product (sorts_of es)) (λ v. tuple_visible (map (value_text items) (sorts_of es)) (parts_visible es) (out-Value v))
  sort_visible sort_layer.Integer = by_layer sort_layer.Integer (λ v. number_visible (out-Value v))
  sort_visible sort_layer.Natural = by_layer sort_layer.Natural (λ v. number_visible (out-Value v))
  sort_visible sort_layer.Positive = by_layer sort_layer.Positive (λ v. number_visible (out-Value v))
  sort_visible sort_layer.Text = by_layer sort_layer.Text (λ v. quoted_visible (out-Value v))
  sort_visible (sort_layer.List e) = by_layer (sort_layer.List e.0) (λ v. list_visible (value_text items e.0) e.1 (out-Value v))

  value_visible : (s : Sort) → IsVisibleSort s
  value_visible = ind-Sort IsVisibleSort (λ x y is. subst (λ z. IsVisibleSort (roll-Sort z)) is (sort_visible y))

  givens_visible : (xs : List TypedVariable) → AllByRecursion AreVisible (map (given_text items) xs)
  givens_visible [] = tt
  givens_visible (x ∷ xs) = (λ v. joined_visible (escaped x.id) (codes "=" ++ value_text items x.sort v) (escaped_visible x.id) (value_visible x.sort v), givens_visible xs)

  mode_visible : (id : List ℕ) (xs : List TypedVariable) (vs : List Value) → IsVisible (mode_text items id xs vs)
  mode_visible id xs vs =
      let parts = each_text (map (given_text items) xs) vs in
      joined_visible (escaped id) (codes "[" ++ (with_commas parts ++ codes "]")) (escaped_visible id)
      (joined_visible (with_commas parts) (codes "]") (commas_visible parts (each_visible (map (given_text items) xs) (givens_visible xs) vs)) refl)

-- each byte of a mode's text is past the blank
text_whole : (f : Flat) (m : Mode) (text : List ℕ) → IsModeText f m text → (b : ℕ) → Contains text b → 32 < b
text_whole f m text is b has =
    let all : IsVisible text = subst IsVisible (sym is.text_is) (mode_visible f.declarations is.transition.id is.typed m.values) in
    let seen : is_visible b ≡ true = subst (λ x. is_visible x ≡ true) has.2 (list_all_get is_visible text has.0 b has.1 all) in
    grind (arith, nat_tests)

-- the lines that `modes` writes step
pub listed_step : (tree : Element) (f : Flat) (id text : List ℕ) → IsAcceptedAs tree f → IsModesText f id text → AreSteppable f text
listed_step tree f id text accepted is =
    let at = is.are_listed.2 in
    record {
      lines = is.has_lines.texts;
      are_lines = is.has_lines.is;
      whole = λ line has.
          let mode = across (IsModeText f) is.modes is.has_lines.texts is.has_lines.are_texts line has in
          text_whole f mode.0 line mode.2;
      step = λ line has.
          let mode = across (IsModeText f) is.modes is.has_lines.texts is.has_lines.are_texts line has in
          mode_steps f (declared_sound tree f accepted.accepted accepted.linked.is_flat) at.initial at.is_initial mode.0 (at.are_modes.only mode.0 mode.1).1 line mode.2;
    }
