-- What `step` gives for a flat net is one tree or one line.
use Rattle.std.proofs.Common.{Global, ◌≡◌, ◌+◌, ◌<◌, ℕ, List, [], ◌∷◌, length, map, string_bytes, None, Some, suc, refl, sym, ap, ◌∙◌, subst, arith}
use Rattle.std.specs.List.{slice_get}
use Rattle.std.specs.Prelude.{String}
use Rattle.std.specs.Option.{option_map}
use Rattle.std.proofs.lemmas.Option.{slice_get_within}
use Rattle.std.proofs.lemmas.List.{length-map}
use Rattle.pn_bag.specs.Bag.{IsBag}
use Rattle.pn_checks.proofs.ValueLemmas.{place_sort_once}
use Rattle.pn_documents.proofs.StepLemmas.{marked_fits_here}
use Rattle.pn_facts.proofs.Lists.{got}
use Rattle.pn_marked.specs.Marked.{IsMarkedNet, IsMarkedPlace, bag_term, label_of, net_with_places, values_on}
use Rattle.pn_marking.specs.Totals.{AreTokensOf}
use Rattle.pn_mode_text.proofs.VariableLemmas.{zip_as_many}
use Rattle.pn_net.specs.Orders.{token_cmp}
use Rattle.pn_net.specs.declared.flat.Flat.{Flat}
use Rattle.pn_net.specs.declared.token.Token.{Token}
use Rattle.pn_objects.specs.declared.net.Net.{Net}
use Rattle.pn_objects.specs.declared.object.Place.{Place}
use Rattle.pn_operators.specs.declared.kind.Kind.{Kind}
use Rattle.pn_operators.specs.declared.kind.Kind.TheVariants as kinds
use Rattle.pn_sorts.proofs.SettleLemmas.{same_some}
use Rattle.pn_sorts.specs.Standing.{IsFaultless}
use Rattle.pn_spelling.specs.Writable.{IsWritable}
use Rattle.pn_spelling.specs.WriteNets.{tree_of_net}
use Rattle.pn_stepping.specs.Stepping.{TellsEntry}
use Rattle.pn_stepping.proofs.OneStepLemmas.{marking_once, refusal_once, marking_or_refusal}
use Rattle.pn_stepping.specs.Refusing.{IsRefusedStep, IsToldReason}
use Rattle.pn_stepping.specs.declared.told.StepRefusal.{StepRefusal}
use Rattle.pn_stepping.specs.declared.told.StepRefusal.TheVariants as unfired
use Rattle.pn_syntax.specs.declared.declaration.Declaration.{Declaration}
use Rattle.pn_tree.specs.declared.element.Element.{Element}
use Rattle.pn_tree.specs.Canonical.{canonical_text}
use Rattle.pn_command.specs.Lines.{status_of}
use Rattle.pn_command.specs.Outputs.{IsStepText, IsStepTree, IsUnfiredLine, line_of_unfired}
use Rattle.pn_command.specs.Verdict.{IsAcceptedAs}
use Rattle.pn_command.specs.Words.{arguments_of}
use Rattle.pn_command.specs.declared.lines.Line.{Line}
use Rattle.pn_command.specs.declared.status.Status.TheVariants as status

-- lists of one length with the same at each place
same_each : {X : Type 0} (xs ys : List X) → length xs ≡ length ys → ((i : ℕ) (x y : X) → slice_get xs i ≡ Some x → slice_get ys i ≡ Some y → x ≡ y) → xs ≡ ys
same_each [] [] size each = refl
same_each [] (y ∷ ys) size each = absurd cc
same_each (x ∷ xs) [] size each = absurd cc
same_each (x ∷ xs) (y ∷ ys) size each = let first = each 0 x y refl refl in let rest = same_each xs ys (omega (arith, size)) (λ i. each (suc i)) in λ i. first i ∷ rest i

-- a place is marked in one way
same_marked : (k : Kind) (items : List Declaration) (m : List (Token × ℕ)) (i : ℕ) (p q r : Place) → IsMarkedPlace k items m i p q → IsMarkedPlace k items m i p r → q ≡ r
same_marked kinds.PtNet items m i p q r is also = is ∙ sym also
same_marked kinds.Symmetric items m i p q r (s, of, is) (t, at, also) =
    is ∙ ap (λ x. record p { marking = None; hl_marking = option_map label_of (bag_term items x (values_on m i)) }) (place_sort_once items p s t of at) ∙ sym also
same_marked kinds.HighLevel items m i p q r (s, of, is) (t, at, also) =
    is ∙ ap (λ x. record p { marking = None; hl_marking = option_map label_of (bag_term items x (values_on m i)) }) (place_sort_once items p s t of at) ∙ sym also

-- a flat net with a marking is one net
marked_once : (f : Flat) (m : List (Token × ℕ)) (n k : Net) → IsMarkedNet f m n → IsMarkedNet f m k → n ≡ k
marked_once f m n k p q = p.is ∙ ap (net_with_places f) (same_each p.places q.places (p.marked.size ∙ sym q.marked.size) each) ∙ sym q.is
  where
    each : (i : ℕ) (x y : Place) → slice_get p.places i ≡ Some x → slice_get q.places i ≡ Some y → x ≡ y
    each i x y is also =
        let place = got f.places i (subst (λ n. i < n) p.marked.size (slice_get_within p.places i x is)) in
        same_marked f.kind f.declarations m i place.0 x y (p.marked.each i place.0 x place.1 is) (q.marked.each i place.0 y place.1 also)

module _ (f : Flat) (words : List (List ℕ)) (sound : IsFaultless f.declarations) where
  step_tree_once : (x y : Element) → IsStepTree f words x → IsStepTree f words y → x ≡ y
  step_tree_once x y p q =
      let same : p.new ≡ q.new = marking_once f words sound p.new q.new p.led q.led in
      p.is ∙ ap tree_of_net (marked_once f q.new p.net q.net (subst (λ m. IsMarkedNet f m p.net) same p.is_marked) q.is_marked) ∙ sym q.is

  pub step_text_once : (x y : List ℕ) → IsStepText f words x → IsStepText f words y → x ≡ y
  step_text_once x y (a, p, is) (b, q, also) = is ∙ ap canonical_text (step_tree_once a b p q) ∙ sym also

  -- a refusal that has a line tells something
  line_tells : (x : StepRefusal) (l : Line) → line_of_unfired x ≡ Some l → IsToldReason x
  line_tells (unfired.Memory e) l is = absurd cc
  line_tells (unfired.BadMode place length) l is = tt
  line_tells (unfired.NotAMode place) l is = tt
  line_tells (unfired.ModeTooLarge text) l is = tt
  line_tells (unfired.NotEnabled token need has) l is = tt
  line_tells (unfired.TokenTooLarge text) l is = tt

  pub unfired_line_once : (l k : Line) → IsUnfiredLine f words l → IsUnfiredLine f words k → l ≡ k
  unfired_line_once l k (x, p, is) (y, q, also) =
      same_some l k (sym is ∙ ap line_of_unfired (refusal_once f words sound x y (line_tells x l is) (line_tells y k also) p q) ∙ also)

  pub unfired_or_text : (l : Line) (text : List ℕ) → IsUnfiredLine f words l → IsStepText f words text → ⊥
  unfired_or_text l text (x, p, is) (tree, q, also) = marking_or_refusal f words sound q.new x (line_tells x l is) q.led p

-- a line that tells why modes do not fire is no usage
pub unfired_status : (x : StepRefusal) (l : Line) → line_of_unfired x ≡ Some l → status_of l ≡ status.Usage → ⊥
unfired_status (unfired.Memory e) l is usage = absurd cc
unfired_status (unfired.BadMode place length) l is usage = let clash : status.Refused ≡ status.Usage = ap status_of (same_some _ l is) ∙ usage in absurd cc
unfired_status (unfired.NotAMode place) l is usage = let clash : status.Refused ≡ status.Usage = ap status_of (same_some _ l is) ∙ usage in absurd cc
unfired_status (unfired.ModeTooLarge text) l is usage = let clash : status.Limit ≡ status.Usage = ap status_of (same_some _ l is) ∙ usage in absurd cc
unfired_status (unfired.NotEnabled token need has) l is usage = let clash : status.Refused ≡ status.Usage = ap status_of (same_some _ l is) ∙ usage in absurd cc
unfired_status (unfired.TokenTooLarge text) l is usage = let clash : status.Limit ≡ status.Usage = ap status_of (same_some _ l is) ∙ usage in absurd cc

-- ---- the numbers of words

-- the word at a place behind the command is a word
pub word_behind : (words : List (List ℕ)) (place : ℕ) → place < length (arguments_of words) → place + 1 < length words
word_behind [] place within = absurd (omega (arith, within))
word_behind (word ∷ words) place within = omega (arith, within)

-- ---- what may be written

-- the net with the marking can be written
pub stepped_writable : (f : Flat) (m : List (Token × ℕ)) (n : Net) → (tree : Element) × IsAcceptedAs tree f → AreTokensOf f m → IsBag token_cmp m → IsMarkedNet f m n → IsWritable n
stepped_writable f m n (tree, is) tokens bag marked =
    (marked_fits_here f m n (record { tree = tree; accepted = is.accepted; linked = is.linked; tokens = tokens; bag = bag; marked = marked })).writable

-- the places of words that are told are those of words
bad_mode_within : (f : Flat) (words : List (List ℕ)) (place length' : ℕ) → IsRefusedStep f words (unfired.BadMode place length') → place < length words
bad_mode_within f words place length' is = slice_get_within words place is.word is.at

not_a_mode_within : (f : Flat) (words : List (List ℕ)) (place : ℕ) → IsRefusedStep f words (unfired.NotAMode place) → place < length words
not_a_mode_within f words place (entries, told, unfit) =
    let within = slice_get_within entries place unfit.entry unfit.at in
    omega (arith, within, zip_as_many (TellsEntry f) words entries told.told)

pub bad_mode_behind : (f : Flat) (words : List (String Global)) (place length' : ℕ) → IsRefusedStep f (arguments_of (map string_bytes words)) (unfired.BadMode place length') → place + 1 < length words
bad_mode_behind f words place length' is = omega (arith, word_behind (map string_bytes words) place (bad_mode_within f (arguments_of (map string_bytes words)) place length' is), length-map words string_bytes)

pub not_a_mode_behind : (f : Flat) (words : List (String Global)) (place : ℕ) → IsRefusedStep f (arguments_of (map string_bytes words)) (unfired.NotAMode place) → place + 1 < length words
not_a_mode_behind f words place is = omega (arith, word_behind (map string_bytes words) place (not_a_mode_within f (arguments_of (map string_bytes words)) place is), length-map words string_bytes)
