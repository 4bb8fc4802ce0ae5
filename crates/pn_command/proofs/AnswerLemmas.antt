-- One answer is due, and no other.
use Rattle.std.proofs.Common.{◌≡◌, ◌↔◌, ◌<◌, length, ℕ, List, Option, None, Some, MatchOption, IfSome, refl, sym, ap, ◌∙◌, subst, arith, ◌++◌, append-nil}
use Rattle.std.specs.Io.KnownBytes.{Consumes, IsAtEnd}
use Rattle.pn_command.specs.declared.words.Asked.{Asked}
use Rattle.pn_command.specs.declared.due.Due.{Due}
use Rattle.pn_command.specs.declared.lines.Refusal.TheVariants as refusals
use Rattle.pn_command.specs.declared.due.Due.TheVariants as due
use Rattle.pn_tree.specs.declared.element.Element.{Element}
use Rattle.pn_faults.specs.declared.fault.Fault.{Fault}
use Rattle.pn_markup.specs.Offsets.{HasRisingOffsets}
use Rattle.pn_markup.proofs.OrderLemmas.{document_rises}
use Rattle.pn_scan.proofs.ReachLemmas.{one_tree}
use Rattle.pn_firing.specs.declared.listing.ListFault.{ListFault}
use Rattle.pn_firing.specs.declared.listing.ListFault.TheVariants as unlisted_for
use Rattle.pn_flat_laws.proofs.OneFlatLemmas.{one_flat}
use Rattle.pn_net.specs.Flattening.{net_of_flat}
use Rattle.pn_net.specs.declared.flat.Flat.{Flat}
use Rattle.pn_spelling.specs.WriteNets.{tree_of_net}
use Rattle.pn_tree.specs.Canonical.{canonical_text}
use Rattle.pn_command.specs.declared.outputs.Output.TheVariants as outputs
use Rattle.pn_sorts.specs.Standing.{IsFaultless}
use Rattle.pn_sorts.proofs.SettleLemmas.{same_some}
use Rattle.pn_command.specs.Answer.{Answer, EachAnswer, ForAnswer, IsDueFor, input_too_long, broken, for_tree, IsDueForNet, stopped, output_too_long, given, IsDueForTree, faulty, for_net, IsModesDue, IsTextDue, IsTheDue, Says, SaysSuch, line_answer, output_answer, refusal_answer, status_of_due, usage_answer, usage_due}
use Rattle.pn_command.specs.Lines.{status_of}
use Rattle.pn_command.specs.Outputs.{HasText, IsModesText, IsOutput, IsOver, IsOwnLine, IsStepTree, IsSummed, IsUnlistedLine, line_of_unfired, line_of_unlisted}
use Rattle.pn_command.proofs.StepLemmas.{unfired_status}
use Rattle.pn_stepping.specs.Refusing.{IsRefusedStep}
use Rattle.pn_stepping.specs.declared.told.StepRefusal.{StepRefusal}
use Rattle.pn_outside.specs.declared.limits.TheConstants.{BYTES}
use Rattle.pn_checks.specs.Linked.{IsLeastInTree}
use Rattle.pn_checks.specs.Verdicts.{IsAccepted}
use Rattle.pn_command.specs.Verdict.{IsRefusal}
use Rattle.pn_command.specs.declared.lines.Refusal.{Refusal}
use Rattle.pn_command.proofs.BreakLemmas.{one_break}
use Rattle.pn_command.proofs.OutputLemmas.{declared_sound, line_or_output, one_line, one_output}
use Rattle.pn_checks.proofs.OnceLemmas.{least_fault_is_one}
use Rattle.pn_command.specs.Words.{argument_of, arguments_of, asked_of}
use Rattle.pn_command.specs.declared.lines.Line.{Line}
use Rattle.pn_command.specs.declared.lines.Line.TheVariants as lines
use Rattle.pn_command.specs.declared.status.Status.TheVariants as status
use Rattle.pn_command.specs.declared.words.Asked.TheVariants.{Check, Flatten, Step, Modes}

-- a document is accepted, or refused for one fault
accepted_and_told : (tree : Element) (f : Fault) → IsAccepted tree → IsLeastInTree tree f → ⊥
accepted_and_told tree f p q = p f q.least.0

-- a command answers a flat net in one way
net_once : (asked : Asked) (words : List (List ℕ)) (f : Flat) (a b : Answer) → IsFaultless f.declarations → IsDueForNet asked words f a → IsDueForNet asked words f b → b ≡ a
net_once asked words f a b sound (stopped l is g) (stopped k also h) = h ∙ ap line_answer (one_line asked words f k l sound also is) ∙ sym g
net_once asked words f a b sound (stopped l is g) (output_too_long y also q h) = absurd (line_or_output asked words f l y sound is also)
net_once asked words f a b sound (stopped l is g) (given y also q h) = absurd (line_or_output asked words f l y sound is also)
net_once asked words f a b sound (output_too_long x is p g) (stopped k also h) = absurd (line_or_output asked words f k x sound also is)
net_once asked words f a b sound (output_too_long x is p g) (output_too_long y also q h) = h ∙ sym g
net_once asked words f a b sound (output_too_long x is p g) (given y also q h) = absurd (q (subst (IsOver asked) (one_output asked words f x y sound is also) p))
net_once asked words f a b sound (given x is p g) (stopped k also h) = absurd (line_or_output asked words f k x sound also is)
net_once asked words f a b sound (given x is p g) (output_too_long y also q h) = absurd (p (subst (IsOver asked) (one_output asked words f y x sound also is) q))
net_once asked words f a b sound (given x is p g) (given y also q h) = h ∙ ap output_answer (one_output asked words f y x sound also is) ∙ sym g

-- and a tree whose offsets rise
tree_once : (asked : Asked) (words : List (List ℕ)) (tree : Element) (a b : Answer) → HasRisingOffsets tree → IsDueForTree asked words tree a → IsDueForTree asked words tree b → b ≡ a
tree_once asked words tree a b rises (faulty f p g) (faulty e q h) = h ∙ ap (λ x. refusal_answer (refusals.Fault x)) (least_fault_is_one tree rises e f q p) ∙ sym g
tree_once asked words tree a b rises (faulty f p g) (for_net k q h) = absurd (accepted_and_told tree f q.accepted p)
tree_once asked words tree a b rises (for_net f p g) (faulty e q h) = absurd (accepted_and_told tree e p.accepted q)
tree_once asked words tree a b rises (for_net f p g) (for_net k q h) =
    net_once asked words f a b (declared_sound tree f p.accepted p.linked.is_flat) g (subst (λ x. IsDueForNet asked words x b) (one_flat tree k f q.linked p.linked) h)

-- for an input and a command one answer is due at most
pub due_once : (asked : Asked) (words : List (List ℕ)) (bytes : List ℕ) (a b : Answer) → IsDueFor asked words bytes a → IsDueFor asked words bytes b → b ≡ a
due_once asked words bytes a b (input_too_long p g) (input_too_long q h) = h ∙ sym g
due_once asked words bytes a b (input_too_long p g) (broken j q h) = absurd (q.fits p)
due_once asked words bytes a b (input_too_long p g) (for_tree t q h) = let large = p.longer in let small = q.within in absurd (omega arith)
due_once asked words bytes a b (broken k p g) (input_too_long q h) = absurd (p.fits q)
due_once asked words bytes a b (broken k p g) (broken j q h) = h ∙ ap (λ m. refusal_answer (refusals.Broken m)) (one_break bytes j k q.breaks p.breaks) ∙ sym g
due_once asked words bytes a b (broken k p g) (for_tree t q h) = absurd (p.no_document t q.is_document)
due_once asked words bytes a b (for_tree s p g) (input_too_long q h) = let large = q.longer in let small = p.within in absurd (omega arith)
due_once asked words bytes a b (for_tree s p g) (broken j q h) = absurd (q.no_document s p.is_document)
due_once asked words bytes a b (for_tree s p g) (for_tree t q h) =
    tree_once asked words s a b (document_rises s bytes p.is_document) g (subst (λ x. IsDueForTree asked words x b) (one_tree t s bytes q.is_document p.is_document) h)

-- what is due for the words
due_for_words : (words : List (List ℕ)) (asked : Asked) (bytes : List ℕ) (a : Answer) → asked_of words ≡ Some asked → IsDueFor asked words bytes a → IsTheDue words bytes a
due_for_words words asked bytes a asks h = record {
  is = subst (λ o. MatchOption o (a ≡ usage_answer) (λ x. IsDueFor x words bytes a)) (sym asks) h;
  only = λ other it. due_once asked words bytes a other h (subst (λ o. MatchOption o (other ≡ usage_answer) (λ x. IsDueFor x words bytes other)) asks it);
}

pub said_for_words : (words : List (List ℕ)) (asked : Asked) (bytes : List ℕ) (d : Due) → asked_of words ≡ Some asked → SaysSuch (IsDueFor asked words bytes) d → SaysSuch (IsTheDue words bytes) d
said_for_words words asked bytes d asks said = (said.0, said.1, due_for_words words asked bytes said.0 asks said.2)

-- what holds of all that is said holds of each answer that is due, and of the one
pub each_said : (words : List (List ℕ)) (bytes : List ℕ) (d : Due) (P : Answer → Type 0) → ((a : Answer) → Says d a → P a) → SaysSuch (IsTheDue words bytes) d → EachAnswer words bytes P
each_said words bytes d P holds said a it = subst P (sym (said.2.only a it)) (holds said.0 said.1)

pub the_said : (words : List (List ℕ)) (bytes : List ℕ) (d : Due) (P : Answer → Type 0) → ((a : Answer) → Says d a → P a) → SaysSuch (IsTheDue words bytes) d → ForAnswer words bytes P
the_said words bytes d P holds said = record { answer = said.0; is = said.2; holds = holds said.0 said.1 }

-- what is said has the status of what was decided
pub said_status : (d : Due) (a : Answer) → Says d a → a.status ≡ status_of_due d
said_status (due.Line l) a says = ap (λ x. x.status) says
said_status (due.Output o) a says = ap (λ x. x.status) says.2

-- a source that is at its end gave all that it had
pub all_given : (old new : Option (List ℕ)) (bytes : List ℕ) (P : List ℕ → Type 0) → Consumes old new bytes → IsAtEnd new → P bytes → IfSome old P
all_given None new bytes P taken end p = tt
all_given (Some xs) None bytes P taken end p = absurd taken
all_given (Some xs) (Some ys) bytes P taken end p = subst P (sym (taken ∙ ap (λ l. bytes ++ l) end ∙ append-nil bytes)) p

-- ---- what is said of a net and of a tree

pub summary_said : (words : List (List ℕ)) (f : Flat) → (text : List ℕ) × IsSummed f text → SaysSuch (IsDueForNet Check words f) (due.Output (outputs.Summary f))
summary_said words f (text, is) = (output_answer text, (text, is, refl), given text is (λ none. none) refl)

-- where what is given is the text of a tree, with its limit
text_said : (asked : Asked) (words : List (List ℕ)) (f : Flat) (tree : Element) (d : Due) → IsOutput asked words f (canonical_text tree)
    → (BYTES < length (canonical_text tree)) ↔ IsOver asked (canonical_text tree) → IsTextDue tree d → SaysSuch (IsDueForNet asked words f) d
text_said asked words f tree (due.Line l) output over (is, longer) = (line_answer l, refl, output_too_long (canonical_text tree) output (over.0 longer) (ap line_answer is))
text_said asked words f tree (due.Output o) output over (is, short) =
    let text = canonical_text tree in
    (output_answer text, (text, subst (λ x. HasText x text) (sym is) refl, refl), given text output (λ long. short (over.1 long)) refl)

pub flat_said : (words : List (List ℕ)) (f : Flat) (d : Due) → IsTextDue (tree_of_net (net_of_flat f)) d → SaysSuch (IsDueForNet Flatten words f) d
flat_said words f d = text_said Flatten words f (tree_of_net (net_of_flat f)) d refl (λ long. long, λ long. long)

pub stepped_said : (words : List (List ℕ)) (f : Flat) (tree : Element) (d : Due) → IsStepTree f (arguments_of words) tree → IsTextDue tree d → SaysSuch (IsDueForNet Step words f) d
stepped_said words f tree d is = text_said Step words f tree d (tree, is, refl) (λ long. long, λ long. long)

pub unfired_said : (words : List (List ℕ)) (f : Flat) (x : StepRefusal) (l : Line) → IsRefusedStep f (arguments_of words) x → line_of_unfired x ≡ Some l → SaysSuch (IsDueForNet Step words f) (due.Line l)
unfired_said words f x l is told = (line_answer l, refl, stopped l (x, is, told) refl)

pub modes_said : (words : List (List ℕ)) (f : Flat) (d : Due) → IsModesDue f (argument_of words) d → SaysSuch (IsDueForNet Modes words f) d
modes_said words f (due.Line l) is = (line_answer l, refl, stopped l is refl)
modes_said words f (due.Output o) (text, has, is) = (output_answer text, (text, has, refl), given text is (λ none. none) refl)

-- no line comes with an answer that is given
pub no_line : (k : Line) → status_of k ≡ status.Done → ⊥
no_line lines.Usage is = absurd cc
no_line (lines.Limit limit) is = absurd cc
no_line (lines.Refusal refusal) is = absurd cc

-- what `modes` writes where it is done is its list
pub modes_listed : (words : List (List ℕ)) (f : Flat) (a : Answer) → IsDueForNet Modes words f a → a.status ≡ status.Done → IsModesText f (argument_of words) a.out
modes_listed words f a (stopped l is g) ended = absurd (no_line l (sym (ap (λ x. x.status) g) ∙ ended))
modes_listed words f a (output_too_long text is over g) ended = absurd over
modes_listed words f a (given text is short g) ended = subst (IsModesText f (argument_of words)) (sym (ap (λ x. x.out) g)) is

pub refused_due : (asked : Asked) (words : List (List ℕ)) (tree : Element) (r : Refusal) → IsRefusal tree r → HasRisingOffsets tree → IsDueForTree asked words tree (refusal_answer r)
refused_due asked words tree (refusals.Broken k) is rises = absurd is
refused_due asked words tree (refusals.Fault f) is rises = faulty f (is rises) refl
refused_due asked words tree (refusals.UnknownTransition id) is rises = absurd is
refused_due asked words tree (refusals.InfiniteSort id) is rises = absurd is
refused_due asked words tree (refusals.BadMode word at) is rises = absurd is
refused_due asked words tree (refusals.NotAMode word) is rises = absurd is
refused_due asked words tree (refusals.NotEnabled token need has) is rises = absurd is

-- what is due for a net is no usage

unlisted_status : (f : Flat) (id : List ℕ) (l : Line) → IsUnlistedLine f id l → status_of l ≡ status.Usage → ⊥
unlisted_status f id l (fault, unlisted, told) usage = by fault told
  where
    by : (x : ListFault) → line_of_unlisted id x ≡ Some l → ⊥
    by (unlisted_for.Memory e) line = absurd cc
    by unlisted_for.UnknownTransition line = let clash : status.Refused ≡ status.Usage = ap status_of (same_some _ l line) ∙ usage in absurd cc
    by (unlisted_for.InfiniteSort x) line = let clash : status.Refused ≡ status.Usage = ap status_of (same_some _ l line) ∙ usage in absurd cc
    by (unlisted_for.TooManyAssignments n) line = let clash : status.Limit ≡ status.Usage = ap status_of (same_some _ l line) ∙ usage in absurd cc

own_status : (asked : Asked) (words : List (List ℕ)) (f : Flat) (l : Line) → IsOwnLine asked words f l → status_of l ≡ status.Usage → ⊥
own_status Check words f l is usage = is
own_status Flatten words f l is usage = is
own_status Step words f l (x, is, told) usage = unfired_status x l told usage
own_status Modes words f l is usage = unlisted_status f (argument_of words) l is usage

net_status : (asked : Asked) (words : List (List ℕ)) (f : Flat) (a : Answer) → IsDueForNet asked words f a → a.status ≡ status.Usage → ⊥
net_status asked words f a (stopped l is g) usage = own_status asked words f l is (sym (ap (λ x. x.status) g) ∙ usage)
net_status asked words f a (output_too_long text is over g) usage = let clash : status.Limit ≡ status.Usage = sym (ap (λ x. x.status) g) ∙ usage in cc
net_status asked words f a (given text is short g) usage = let clash : status.Done ≡ status.Usage = sym (ap (λ x. x.status) g) ∙ usage in cc

pub said_status_of_net : (asked : Asked) (words : List (List ℕ)) (f : Flat) (d : Due) → SaysSuch (IsDueForNet asked words f) d → status_of_due d ≡ status.Usage → ⊥
said_status_of_net asked words f d said usage = net_status asked words f said.0 said.2 (said_status d said.0 said.1 ∙ usage)
