-- A command gives one output for a flat net, or one line.
use Rattle.std.proofs.Common.{◌≡◌, ℕ, List, [], Some, refl, sym, ap, ◌∙◌, subst}
use Rattle.pn_bag.proofs.Canonical.{same_entries}
use Rattle.pn_checks.proofs.FlatLemmas.{flat_declarations}
use Rattle.pn_checks.proofs.KeptLemmas.{accepted_sorts}
use Rattle.pn_checks.proofs.MarkLemmas.{initial_once, says_once}
use Rattle.pn_checks.specs.Verdicts.{IsAccepted}
use Rattle.pn_eval.proofs.OnceLemmas.{value_once}
use Rattle.pn_firing.proofs.OneListLemmas.{lines_once, listed_once, listed_or_not, unlisted_once}
use Rattle.pn_firing.specs.Lines.{HasModeLines}
use Rattle.pn_firing.specs.Listing.{IsReason}
use Rattle.pn_firing.specs.declared.listing.ListFault.{ListFault}
use Rattle.pn_firing.specs.declared.listing.ListFault.TheVariants as unlisted
use Rattle.pn_net.proofs.OrderLemmas.{same_tokens}
use Rattle.pn_net.specs.Flattening.{IsFlattened, net_of_flat}
use Rattle.pn_net.specs.Orders.{tokens_total}
use Rattle.pn_net.specs.Typing.{declared}
use Rattle.pn_net.specs.declared.flat.Flat.{Flat}
use Rattle.pn_report.specs.Summaries.{summary_line}
use Rattle.pn_sorts.specs.Standing.{IsFaultless, Stands}
use Rattle.pn_spelling.specs.ReadNets.{net_of}
use Rattle.pn_sorts.proofs.SettleLemmas.{same_some}
use Rattle.pn_tree.specs.declared.element.Element.{Element}
use Rattle.pn_command.specs.Outputs.{IsOutput, IsOwnLine, IsSummed, line_of_unlisted}
use Rattle.pn_command.specs.Words.{argument_of, arguments_of}
use Rattle.pn_command.specs.declared.lines.Line.{Line}
use Rattle.pn_command.specs.declared.words.Asked.{Asked}
use Rattle.pn_command.proofs.StepLemmas.{step_text_once, unfired_line_once, unfired_or_text}
use Rattle.pn_command.specs.declared.words.Asked.TheVariants.{Check, Flatten, Step, Modes}

-- what is summed up has one line
pub one_sum : (f : Flat) (x y : List ℕ) → IsFaultless f.declarations → IsSummed f x → IsSummed f y → x ≡ y
one_sum f x y sound p q =
    let marking : p.initial ≡ q.initial
    = initial_once (same_entries tokens_total (λ a b. (same_tokens a b).0)) f f p.initial q.initial (says_once f.declarations (λ e o s. value_once f.declarations [] [] sound e o s)) refl refl p.is_initial q.is_initial in
    p.is ∙ ap (summary_line f) marking ∙ sym q.is

-- the declarations of a tree in which no fault stands have none
pub declared_sound : (tree : Element) (f : Flat) → IsAccepted tree → IsFlattened (net_of tree) (net_of_flat f) → IsFaultless f.declarations
declared_sound tree f accepted flat g stands =
    accepted_sorts tree accepted g (declared g (subst (λ ds. Stands ds g) (flat_declarations (net_of tree) f flat) stands))

-- ---- one output, one line, and not both

pub one_output : (asked : Asked) (words : List (List ℕ)) (f : Flat) (x y : List ℕ) → IsFaultless f.declarations → IsOutput asked words f x → IsOutput asked words f y → x ≡ y
one_output Check words f x y sound p q = one_sum f x y sound p q
one_output Flatten words f x y sound p q = p ∙ sym q
one_output Step words f x y sound p q = step_text_once f (arguments_of words) sound x y p q
one_output Modes words f x y sound p q =
    let same : p.modes ≡ q.modes = listed_once f (argument_of words) p.modes q.modes sound p.are_listed q.are_listed in
    lines_once f q.modes x y (subst (λ ms. HasModeLines f ms x) same p.has_lines) q.has_lines

-- a fault that has a line tells something
line_told : (id : List ℕ) (x : ListFault) (l : Line) → line_of_unlisted id x ≡ Some l → IsReason x
line_told id (unlisted.Memory e) l is = absurd cc
line_told id unlisted.UnknownTransition l is = tt
line_told id (unlisted.InfiniteSort v) l is = tt
line_told id (unlisted.TooManyAssignments n) l is = tt

pub one_line : (asked : Asked) (words : List (List ℕ)) (f : Flat) (l k : Line) → IsFaultless f.declarations → IsOwnLine asked words f l → IsOwnLine asked words f k → l ≡ k
one_line Check words f l k sound p q = absurd p
one_line Flatten words f l k sound p q = absurd p
one_line Step words f l k sound p q = unfired_line_once f (arguments_of words) sound l k p q
one_line Modes words f l k sound (x, p, is) (y, q, also) =
    let id = argument_of words in
    let same : x ≡ y = unlisted_once f id x y (line_told id x l is) (line_told id y k also) p q in
    same_some l k (sym is ∙ ap (line_of_unlisted id) same ∙ also)

pub line_or_output : (asked : Asked) (words : List (List ℕ)) (f : Flat) (l : Line) (text : List ℕ) → IsFaultless f.declarations → IsOwnLine asked words f l → IsOutput asked words f text → ⊥
line_or_output Check words f l text sound p q = p
line_or_output Flatten words f l text sound p q = p
line_or_output Step words f l text sound p q = unfired_or_text f (arguments_of words) sound l text p q
line_or_output Modes words f l text sound (x, p, is) q = listed_or_not f (argument_of words) q.modes x (line_told (argument_of words) x l is) q.are_listed p
